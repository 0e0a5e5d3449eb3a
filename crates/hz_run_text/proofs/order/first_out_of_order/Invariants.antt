use Rattle.std.proofs.Common.{◌≡◌, drop}
use Rattle.hz_run_text.specs.declared.order.Place.TheVariants as at
use Rattle.hz_run_text.specs.RunOrder.{first_misplaced}
use Rattle.hz_run_text.specs.RunResolution.{numbered_run_resolutions}
use Rattle.hz_run_text.proofs.order.first_out_of_order.Given as goal

abbrev pub invariant-loop-entry : goal.invariant-loop-entry
invariant-loop-entry l = first_misplaced at.Header (numbered_run_resolutions l.entries) ≡ first_misplaced l.place (numbered_run_resolutions (drop l.entry-index l.entries))
