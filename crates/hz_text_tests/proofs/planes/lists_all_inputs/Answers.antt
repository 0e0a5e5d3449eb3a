use Rattle.std.proofs.Common.{◌≡◌, ◌∙◌, ◌<◌, ℕ, Bool, Some, None, Option, length, slice_get, ap, subst, sym, arith, inl, inr}
use Rattle.std.proofs.lemmas.Bool.{cases_eq}
use Rattle.std.proofs.lemmas.Option.{slice_get-get_or}
use Rattle.hz_core.specs.Netlist.{Netlist}
use Rattle.hz_text_tests.proofs.planes.lists_all_inputs.Goals as goal

pub loop-input-preserved : goal.loop-input-preserved
loop-input-preserved c input below =
    let now = c.loop-input.input in
    let listed = c.args.listed.now in
    let inside : now < length listed = omega (arith, c.loop-input-test.true, c.inputs-input-end.ensures.inputs, ap (λ (n : Netlist). n.inputs) c.circuit.ensures.same, c.circuit.ensures.circuit.nodes, c.requires) in
    elim (cases_eq input now) [
      | inl same ↦ (c.in-Some._bit, subst (λ (n : ℕ). slice_get listed n ≡ Some (Some c.in-Some._bit)) (sym same) (slice_get-get_or listed now None inside ∙ ap (λ (o : Option Bool). Some o) c.in-Some.is))
      | inr differ ↦ c.loop-input.invariant input (omega (arith, below, differ))
    ]
