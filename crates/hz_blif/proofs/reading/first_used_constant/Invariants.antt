use Rattle.std.proofs.Common.{◌≡◌, drop}
use Rattle.hz_blif.specs.Draft.{first_used}
use Rattle.hz_blif.proofs.reading.first_used_constant.Given as goal

abbrev pub invariant-loop-constant : goal.invariant-loop-constant
invariant-loop-constant l = first_used l.draft (drop l.constant-index l.draft.constants.items) ≡ first_used l.draft l.draft.constants.items
