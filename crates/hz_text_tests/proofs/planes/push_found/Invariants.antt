-- The planes are loading still.
use Rattle.std.proofs.Common.{◌≡◌}
use Rattle.hz_plane.specs.declared.stage.Stage.TheVariants.{Loading}
use Rattle.hz_text_tests.proofs.planes.push_found.Given as goal

abbrev pub invariant-loop-number : goal.invariant-loop-number
invariant-loop-number l = l.planes.stage ≡ Loading
