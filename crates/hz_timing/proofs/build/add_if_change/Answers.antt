use Rattle.std.proofs.Common.{◌∙◌, ◌++◌, ◌∷◌, [], List, map, sym, ap}
use Rattle.hz_timing.proofs.Words.{Assigned, assignment_to, timed_resolution_of}
use Rattle.hz_timing.specs.declared.statement.TimedHeld.{TimedHeld}
use Rattle.hz_timing.specs.TimedReading.{changes_of}
use Rattle.hz_timing.proofs.build.add_if_change.Goals as goal

pub returns-clause-changes : goal.returns-clause-changes
returns-clause-changes c =
    let front = map (map assignment_to) c.args.script.now.changes in
    c.in_ok-push_change.ensures.changes
    ∙ ap (λ (one : List Assigned). front ++ one ∷ []) c.as_slice.ensures.value
    ∙ ap (λ (read : TimedHeld). front ++ changes_of (timed_resolution_of read)) (sym c.in-Change.is)
