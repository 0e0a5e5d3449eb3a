-- The line of a wire, by its gate and its pin.
use Rattle.std.proofs.Common.{◌++◌, ◌∷◌, [], List, ℕ, ap, sym, ◌∙◌, append_assoc}
use Rattle.hz_write.proofs.Writers.{writes_same}
use Rattle.hz_text.proofs.VariableWords.{pin_of_digit}
use Rattle.hz_run_text.proofs.RunPrintLemmas.{single_step}
use Rattle.hz_run_text.proofs.print.write_single_wire.Goals as goal

pub returns-then-pin-lt9-clause-gave : goal.returns-then-pin-lt9-clause-gave
returns-then-pin-lt9-clause-gave g c =
    let name = c.gate_and_pin-pin.result.0.now in
    let digit = c.digit_after.result in
    let word = pin_of_digit name digit c.gate_and_pin-pin.result.1 c.if-pin-lt9.true c.digit_after.ensures ∙ sym c.gate_and_pin-pin.ensures.word in
    writes_same c.end_by_three.ensures.gave
    (single_step c.args.net.now c.args.wire name (40 ∷ digit ∷ 41 ∷ 10 ∷ [])
    (sym (append_assoc name (40 ∷ digit ∷ 41 ∷ []) (10 ∷ [])) ∙ ap (λ (word : List ℕ). word ++ 10 ∷ []) word))
