use Rattle.std.proofs.Common.{◌∙◌, sym, ap}
use Rattle.hz_text.specs.Decimal.{number_by}
use Rattle.hz_timing.specs.TimedResolution.{nth_by}
use Rattle.hz_timing.proofs.StatementLaws.{nth-above}
use Rattle.hz_timing.proofs.statement.nth_of_digits.Goals as goal

pub returns-in-None : goal.returns-in-None
returns-in-None c = sym (nth-above (number_by c.args.digits.now) c.in-None.ensures)

pub returns-in-Some : goal.returns-in-Some
returns-in-Some c = c.nth_by.ensures ∙ ap nth_by c.in-Some.ensures
