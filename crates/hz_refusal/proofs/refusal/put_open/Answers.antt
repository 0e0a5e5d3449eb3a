use Rattle.hz_refusal.specs.Refusal.{open_line}
use Rattle.std.proofs.Common.{[]}
use Rattle.std.proofs.lemmas.Option.{get_or_from_slice_get}
use Rattle.hz_refusal.proofs.refusal.put_open.Goals as goal

pub returns : goal.returns
unfolding open_line
returns g c = rw (get_or_from_slice_get c.args.circuit.now.names c.args.node c.name.result.now [] c.name.ensures.name) c.put_line.ensures
