use Rattle.std.proofs.Common.{◌≡◌, ◌≤◌, take}
use Rattle.hz_text.specs.Decimal.{number_by}
use Rattle.hz_run_text.proofs.number.number_within.Given as goal

abbrev pub invariant-loop-digit : goal.invariant-loop-digit
invariant-loop-digit l = record {
  number : l.number ≡ number_by (take l.digit-index l.digits);
  few : l.number ≤ l.most;
}
