use Rattle.std.proofs.Common.{◌∙◌, sym, ap}
use Rattle.std.specs.List.{list_any}
use Rattle.hz_blif.specs.Fault.{is_sign}
use Rattle.hz_blif.proofs.SignLemmas.{unsigned-line}
use Rattle.hz_blif.proofs.line.Line.has_sign.Goals as goal

pub returns-clause-plain : goal.returns-clause-plain
returns-clause-plain c = λ unsigned. unsigned-line c.args.self.now (sym (c.have_sign.ensures ∙ ap (list_any (list_any is_sign)) c.names.ensures) ∙ unsigned)
