use Rattle.std.proofs.Common.{◌≡◌, ◌≢◌, ◌<◌, ◌+◌, ◌/◌, ◌%◌, ◌∙◌, ℕ, Some, [], length, get_or, set, ap, sym, arith, inl, inr}
use Rattle.std.proofs.lemmas.Bool.{cases_eq}
use Rattle.std.proofs.lemmas.List.{get_or-set_same, get_or-set_other}
use Rattle.hz_plane.specs.declared.listing.Listing.{Listing}
use Rattle.hz_plane.specs.EightBits.{byte_has}
use Rattle.hz_plane.specs.Loads.{listed_in}
use Rattle.hz_plane.proofs.eights.list_part.Goals as goal

pub list_eight-requires-clause-none : goal.list_eight-requires-clause-none
list_eight-requires-clause-none c lane same =
    c.loop-i.invariant.others (c.args.from + c.loop-i.i) lane (omega (arith, same, c.requires.eight)) (inr (inr (omega arith)))
    ∙ c.requires.none c.loop-i.i lane c.loop-i-test.true same

pub loop-i-preserved : goal.loop-i-preserved
loop-i-preserved c =
    let none : Listing = record { zeros = []; ones = [] } in
    let at = c.args.from + c.loop-i.i in
    let new : Listing = c.list_eight.new.self in
    let listings = c.loop-i.listings in
    let inside : at < length listings = omega (arith, c.loop-i-test.true, c.requires.inside, c.loop-i.auto.listings) in
    let here : get_or (set listings at new) at none ≡ new = get_or-set_same listings at new none inside in
    record {
      here = λ i lane few same. elim (cases_eq i c.loop-i.i) [
        | inl e ↦ ap (λ (n : ℕ). listed_in (get_or (set listings at new) (c.args.from + n) none) lane) e
            ∙ (ap (λ (one : Listing). listed_in one lane) here ∙ (c.list_eight.ensures.here lane same ∙ ap (λ (n : ℕ). Some (byte_has (get_or c.args.bytes.now n 0) (lane % 8))) (sym e)))
        | inr differ ↦ ap (λ (one : Listing). listed_in one lane) (get_or-set_other listings at (c.args.from + i) new none (omega (arith, differ))) ∙ c.loop-i.invariant.here i lane (omega (arith, few, differ)) same
      ];
      others = λ i lane below apart. elim (cases_eq i at) [
        | inl e ↦ (
            let differ : lane / 8 ≢ c.args.eight = elim apart [
              | inl not ↦ not
              | inr (inl before) ↦ absurd (omega (arith, before, e))
              | inr (inr past) ↦ absurd (omega (arith, past, e))
            ] in
            ap (λ (n : ℕ). listed_in (get_or (set listings at new) n none) lane) e
            ∙ (ap (λ (one : Listing). listed_in one lane) here ∙ (c.list_eight.ensures.others lane below differ
            ∙ (ap (λ (n : ℕ). listed_in (get_or listings n none) lane) (sym e) ∙ c.loop-i.invariant.others i lane below (inl differ))))
            )
        | inr other ↦ ap (λ (one : Listing). listed_in one lane) (get_or-set_other listings at i new none other) ∙ c.loop-i.invariant.others i lane below (elim apart [
          | inl not ↦ inl not
          | inr (inl before) ↦ inr (inl before)
          | inr (inr past) ↦ inr (inr (omega (arith, past)))
        ])
      ];
    }
