-- What the pattern of a lane comes to, by the job.
use Rattle.std.proofs.Common.{subst, ◌≡◌, Some}
use Rattle.std.specs.Prelude.{slice_get}
use Rattle.hz_plane.specs.Loads.{Loaded}
use Rattle.hz_batch.specs.declared.job.Job.{Job}
use Rattle.hz_batch.specs.Blocks.{load_of, no_gate}
use Rattle.hz_batch.specs.Comes.{kept_at, held_by}
use Rattle.hz_batch.specs.Kept.{HoldBoth}
use Rattle.hz_batch.specs.PatternEnd.{Settled, listing_of}
use Rattle.hz_batch.proofs.BroughtAbout.{brought-about}
use Rattle.hz_batch.proofs.lanes.write_lane.Goals as goal

pub write_ending-requires-clause-columns : goal.write_ending-requires-clause-columns
write_ending-requires-clause-columns g c =
    subst (λ (job : Job). HoldBoth c.args.work.now.net.now (kept_at job) c.args.planes.now.lanes c.args.columns.now) c.in-Batch.is c.requires.columns

pub write_values-requires-clause-columns : goal.write_values-requires-clause-columns
write_values-requires-clause-columns g c =
    subst (λ (job : Job). HoldBoth c.args.work.now.net.now (kept_at job) c.args.planes.now.lanes c.args.columns.now) c.in-Reset.is c.requires.columns

pub returns-in-Batch-clause-gave : goal.returns-in-Batch-clause-gave
returns-in-Batch-clause-gave g c =
    λ pattern right there.
    let held = c.args.work.now.patterns.now.held in
    let loaded : Loaded = record { input = pattern.to; listed = listing_of held pattern } in
    let here : slice_get c.args.planes.now.lanes c.args.at.lane ≡ Some (Some loaded) =
    subst (λ (job : Job). slice_get c.args.planes.now.lanes c.args.at.lane ≡ Some (load_of (held_by job held) pattern)) c.in-Batch.is there in
    rw c.in-Batch.is (c.write_ending.ensures.gave loaded here)

pub returns-in-Reset-clause-gave : goal.returns-in-Reset-clause-gave
returns-in-Reset-clause-gave g c =
    λ pattern right there.
    let held = c.args.work.now.patterns.now.held in
    let netlist = c.args.work.now.net.now in
    let loaded : Loaded = record { input = pattern.to; listed = listing_of (no_gate held) pattern } in
    let here : slice_get c.args.planes.now.lanes c.args.at.lane ≡ Some (Some loaded) =
    subst (λ (job : Job). slice_get c.args.planes.now.lanes c.args.at.lane ≡ Some (load_of (held_by job held) pattern)) c.in-Reset.is there in
    let found = brought-about netlist c.args.work.now.patterns.now pattern c.requires.laws c.keeps_shape.ensures.circuit c.keeps_shape.ensures.whole c.requires.work.patterns right in
    let said = c.write_values.ensures.gave loaded found.first found.second here found.filled found.settles in
    rw c.in-Reset.is (Settled found.first found.second, found.is, said.0, said.1)
