-- The steps of each run are among those of all.
use Rattle.std.proofs.Common.{ℕ, ◌<◌, List, [], length, None, arith}
use Rattle.std.specs.List.{All}
use Rattle.hz_net.specs.Network.{network_of}
use Rattle.hz_text.specs.RunParts.{RunOf}
use Rattle.hz_run_text.proofs.RunPrintLemmas.{steps_of_run}
use Rattle.hz_run_text.proofs.print.write_all.Goals as goal

pub write_run-requires-clause-lead : goal.write_run-requires-clause-lead
write_run-requires-clause-lead g c =
    let P : List ℕ → Type 0 = λ flips. All (λ var. var < length (network_of c.args.net.now)) flips in
    let d : RunOf = record { lead = []; cycle = None } in
    rw c.lead.ensures
    (steps_of_run P c.args.text.now.runs c.loop-number.number d c.requires.variables (omega (arith, c.loop-number-test.true, c.runs-number-end.ensures))).0

pub write_run-requires-clause-cycle : goal.write_run-requires-clause-cycle
write_run-requires-clause-cycle g c =
    let P : List ℕ → Type 0 = λ flips. All (λ var. var < length (network_of c.args.net.now)) flips in
    let d : RunOf = record { lead = []; cycle = None } in
    rw c.cycle.ensures
    (steps_of_run P c.args.text.now.runs c.loop-number.number d c.requires.variables (omega (arith, c.loop-number-test.true, c.runs-number-end.ensures))).1
