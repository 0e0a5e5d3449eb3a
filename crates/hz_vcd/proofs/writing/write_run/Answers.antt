-- The state, the lead and the cycle.
use Rattle.std.proofs.Common.{◌≡◌, ◌+◌, ◌∙◌, ℕ, Bool, List, length, ◌++◌, refl, sym, ap}
use Rattle.hz_write.proofs.Writers.{writes_then, writes_same}
use Rattle.hz_gmw.specs.Runs.{end_of}
use Rattle.hz_vcd.specs.Dump.{state_words, steps_words}
use Rattle.hz_vcd.specs.Printed.{word_lines}
use Rattle.hz_vcd.specs.Steps.{steps_of_cycle}
use Rattle.hz_vcd.proofs.LineLemmas.{run-lines}
use Rattle.hz_vcd.proofs.writing.write_run.Goals as goal

pub returns-in-Some-clause-gave : goal.returns-in-Some-clause-gave
returns-in-Some-clause-gave g c =
    let state = c.args.state.now in
    let lead = c.args.lead.now.steps in
    let cycle = c.in-Some.cycle.now.steps in
    let same : word_lines (steps_words (1 + c.steps.result) c.write_steps.new.state cycle) ≡ word_lines (steps_words (1 + length lead) (end_of state lead) cycle) =
    ap (λ (s : List Bool). word_lines (steps_words (1 + c.steps.result) s cycle)) c.write_steps.ensures.state
    ∙ ap (λ (n : ℕ). word_lines (steps_words (1 + n) (end_of state lead) cycle)) c.steps.ensures in
    let first = writes_then c.write_state.ensures.gave c.write_steps.ensures.gave refl in
    let there : steps_of_cycle c.args.cycle ≡ cycle = ap steps_of_cycle c.in-Some.is in
    writes_then first (writes_same c.write_steps-in-Some.ensures.gave same)
    (run-lines state lead cycle
    ∙ ap (λ (later : List (List ℕ)). word_lines (state_words state) ++ word_lines (steps_words 1 state (lead ++ later))) (sym there))
