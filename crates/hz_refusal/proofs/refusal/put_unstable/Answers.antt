use Rattle.hz_refusal.specs.Refusal.{unstable_line}
use Rattle.std.proofs.Common.{[]}
use Rattle.std.proofs.lemmas.Option.{get_or_from_slice_get}
use Rattle.hz_refusal.proofs.refusal.put_unstable.Goals as goal

pub returns : goal.returns
unfolding unstable_line
returns g c = rw (get_or_from_slice_get c.args.circuit.now.names c.args.gate c.name.result.now [] c.name.ensures.name) c.put_line.ensures
