-- One burst: it does not apply, or its change is made.
use Rattle.std.proofs.Common.{◌≡◌, ◌∙◌, refl, sym, ap, subst, ℕ, Bool, true, false, List, [], ◌∷◌, length, arith}
use Rattle.hz_explore.proofs.Words.{length-network_of, has_failed, writes_nothing, writes_same, writes_then, writes_failed, applies, AreTransitions}
use Rattle.hz_explore.proofs.TransitionLemmas.{transition-one}
use Rattle.hz_explore.proofs.MakesLemmas.{makes-failed}
use Rattle.hz_explore.proofs.ChangeLemmas.{made-one, not-made}
use Rattle.hz_explore.proofs.RoomLemmas.{tellable}
use Rattle.hz_explore.proofs.StepLemmas.{transition-exists}
use Rattle.hz_explore.proofs.exploring.write_change.Goals as goal

pub applies-requires : goal.applies-requires
applies-requires g c =
    λ k d few.
    omega (
      arith,
      c.requires.burst k d few,
      ap (length {A = Bool}) c.as_slice.ensures.value,
      c.requires.room.start,
      c.requires.exploring.making.circuit.nodes,
      length-network_of c.args.exploring.now.making.net.now c.requires.exploring.making.circuit,
    )

pub returns-then-not-applies-clause-gave : goal.returns-then-not-applies-clause-gave
returns-then-not-applies-clause-gave g c =
    let making = c.args.exploring.now.making in
    let burst = c.args.taken.now.burst.now in
    let not_so : applies c.args.room.now.start.items burst ≡ false =
    subst (λ (state : List Bool). applies state burst ≡ false) c.as_slice.ensures.value (sym c.applies.ensures ∙ c.if-not-applies.true) in (
      [],
      not-made making.net.now making.cap making.assumptions.now c.args.room.now.start.items burst c.args.room.now (has_failed c.args.writer.now) not_so,
      λ all ext. writes_nothing c.args.writer.now,
    )

pub returns-in-Ok-clause-gave : goal.returns-in-Ok-clause-gave
returns-in-Ok-clause-gave g c =
    let making = c.args.exploring.now.making in
    let was = c.args.room.now in
    let state = was.start.items in
    let burst = c.args.taken.now.burst.now in
    let failed = has_failed c.write_made.new.writer in
    let can : applies state burst ≡ true = subst (λ (from : List Bool). applies from burst ≡ true) c.as_slice.ensures.value (sym c.applies.ensures ∙ c.if-not-applies.false) in
    let made = made-one making.net.now making.cap making.assumptions.now state burst was c.make.new.self failed can c.in-Ok.made c.in-Ok.ensures.made in (
      made.one ∷ [],
      made.makes,
      λ all ext. writes_same c.write_made.ensures.gave (made.line c.args.taken.now.number all ext),
    )

pub returns-in-Err-clause-gave : goal.returns-in-Err-clause-gave
returns-in-Err-clause-gave g c =
    let making = c.args.exploring.now.making in
    let netlist = making.net.now in
    let was = c.args.room.now in
    let state = was.start.items in
    let burst = c.args.taken.now.burst.now in
    let can : applies state burst ≡ true = subst (λ (from : List Bool). applies from burst ≡ true) c.as_slice.ensures.value (sym c.applies.ensures ∙ c.if-not-applies.false) in
    let one = transition-exists c.changes_exist.ensures making c.requires.exploring.making state burst c.requires.start in
    let are : AreTransitions netlist making.cap making.assumptions.now (burst ∷ []) state (one.0 ∷ []) =
    subst (λ (b : List (ℕ × Bool)). AreTransitions netlist making.cap making.assumptions.now (b ∷ []) state (one.0 ∷ [])) one.2
    (transition-one netlist making.cap making.assumptions.now state one.0 one.1 (subst (λ (b : List (ℕ × Bool)). applies state b ≡ true) (sym one.2) can) one.3) in (
      one.0 ∷ [],
      makes-failed netlist making.cap making.assumptions.now state (burst ∷ []) (one.0 ∷ []) was c.make.new.self (has_failed c.give_up.new.self) c.give_up.ensures.failed are,
      λ all ext. writes_then c.give_up.ensures.gave (writes_failed _ c.give_up.ensures.failed) refl,
    )

pub write_made-requires-clause-end : goal.write_made-requires-clause-end
write_made-requires-clause-end g c =
    tellable c.args.exploring.now.making c.args.room.now.start.items c.args.taken.now.burst.now c.args.room.now c.make.new.self c.requires.exploring.making c.requires.start c.requires.states c.in-Ok.made c.in-Ok.ensures.made
