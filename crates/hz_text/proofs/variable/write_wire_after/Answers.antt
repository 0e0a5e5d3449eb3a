-- The name of the gate, and the pin in parentheses.
use Rattle.std.proofs.Common.{◌+◌, ◌∷◌, [], ◌++◌, ap, sym, ◌∙◌, refl, append_assoc, decimal, List, ℕ}
use Rattle.hz_write.proofs.Writers.{writes_same, writes_then}
use Rattle.hz_text.proofs.VariableWords.{pin_of_digit}
use Rattle.hz_text.proofs.variable.write_wire_after.Goals as goal

pub returns-then-pin-lt9 : goal.returns-then-pin-lt9
returns-then-pin-lt9 g c =
    let front = c.args.front.now in
    let name = c.gate_and_pin-pin.result.0.now in
    let digit = c.digit_after.result in
    writes_same c.three.ensures
    (append_assoc front name (40 ∷ digit ∷ 41 ∷ [])
    ∙ ap (λ (rest : List ℕ). front ++ rest)
    (pin_of_digit name digit c.gate_and_pin-pin.result.1 c.if-pin-lt9.true c.digit_after.ensures ∙ sym c.gate_and_pin-pin.ensures.word))

pub returns-else-pin-lt9 : goal.returns-else-pin-lt9
returns-else-pin-lt9 g c =
    let front = c.args.front.now in
    let name = c.gate_and_pin-pin.result.0.now in
    let digits = decimal (c.gate_and_pin-pin.result.1 + 1) in
    writes_then (writes_then c.text.ensures c.text-else-pin-lt9.ensures refl) c.write_pin.ensures
    (append_assoc front name (40 ∷ digits ++ 41 ∷ [])
    ∙ ap (λ (rest : List ℕ). front ++ rest)
    (sym (append_assoc name (40 ∷ digits) (41 ∷ [])) ∙ sym c.gate_and_pin-pin.ensures.word))
