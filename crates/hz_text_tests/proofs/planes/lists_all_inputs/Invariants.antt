-- The inputs so far are listed.
use Rattle.std.proofs.Common.{◌≡◌, ◌<◌, ℕ, Bool, Some, slice_get}
use Rattle.hz_text_tests.proofs.planes.lists_all_inputs.Given as goal

abbrev pub invariant-loop-input : goal.invariant-loop-input
invariant-loop-input l = (input : ℕ) → input < l.input → (bit : Bool) × (slice_get l.listed input ≡ Some (Some bit))
