use Rattle.std.proofs.Common.{◌≡◌, ◌∙◌, ◌+◌, ap, arith, inr, length, sym}
use Rattle.hz_blif.proofs.LastFaults.{accept, count-small, refuse-constant, refuse-many, refuse-undefined}
use Rattle.hz_blif.proofs.reading.check_names.Goals as goal

pub first_used_constant-requires-clause-outputs : goal.first_used_constant-requires-clause-outputs
first_used_constant-requires-clause-outputs c = (c.requires.draft.is.holds.covers c.requires.clean.wrong_row c.requires.clean.excess).constant_numbers

pub first_used_constant-requires-clause-pins : goal.first_used_constant-requires-clause-pins
first_used_constant-requires-clause-pins c = (c.requires.draft.is.holds.covers c.requires.clean.wrong_row c.requires.clean.excess).pin_numbers

pub returns-in-Ok-Some : goal.returns-in-Ok-Some
returns-in-Ok-Some c = λ text is. inr (refuse-constant text c.args.draft.now c.in-Ok-Some.line is c.requires.clean (sym c.in-Ok-Some.ensures ∙ c.in-Ok-Some.field-0-is))

pub returns-in-Some : goal.returns-in-Some
returns-in-Some c = λ text is. inr (refuse-undefined text c.args.draft.now c.in-Some.line is c.requires.clean (sym c.in-Ok-None.ensures ∙ c.in-Ok-None.field-0-is) (sym c.first_undefined.ensures ∙ c.in-Some.is))

pub overflow_add-variables : goal.overflow_add-variables
overflow_add-variables c =
    let fits = count-small c.requires.draft.text c.args.draft.now c.requires.draft.is c.requires.draft.small in
    omega (arith, fits, c.len.ensures, c.args.draft.now.inputs.ok.0)

pub overflow_cast-result : goal.overflow_cast-result
overflow_cast-result c =
    let fits = count-small c.requires.draft.text c.args.draft.now c.requires.draft.is c.requires.draft.small in
    omega (arith, fits, c.len.ensures, c.args.draft.now.inputs.ok.0)

pub returns-then-variables : goal.returns-then-variables
returns-then-variables c = λ text is.
    (let long : c.len.result ≡ length c.args.draft.now.inputs.items = omega (arith, c.len.ensures, c.args.draft.now.inputs.ok.0) in
    inr (refuse-many text c.args.draft.now (c.len.result + c.args.draft.now.variables) is c.requires.clean (sym c.in-Ok-None.ensures ∙ c.in-Ok-None.field-0-is) (sym c.first_undefined.ensures ∙ c.in_default.is)
    (ap (λ n. n + c.args.draft.now.variables) long) (omega (arith, c.if-variables.true))))

pub returns : goal.returns
returns c = λ text is.
    (let long : c.len.result ≡ length c.args.draft.now.inputs.items = omega (arith, c.len.ensures, c.args.draft.now.inputs.ok.0) in
    accept text c.args.draft.now is c.requires.clean (sym c.in-Ok-None.ensures ∙ c.in-Ok-None.field-0-is) (sym c.first_undefined.ensures ∙ c.in_default.is)
    (omega (arith, c.if-variables.false, long)))
