use Rattle.std.proofs.Common.{◌∙◌}
use Rattle.hz_core.proofs.NameLemmas.{names-more}
use Rattle.hz_core.proofs.circuit.add_name.Goals as goal

pub returns-clause-ok : goal.returns-clause-ok
returns-clause-ok c = c.in_ok-insert.ensures.keys ∙ names-more c.args.names.now.keys c.in_ok-entry.entry c.args.name.now c.in_ok-entry.ensures c.requires
