-- Notes on variables, one after the other: a value that they have, which variable chose another one, and numbers of roots.
use Rattle.std.proofs.Common.{◌≡◌, ℕ, suc, ◌+◌, ◌-◌, ◌<◌, ◌⊎◌, All, true, false, Option, Some, None, List, [], ◌∷◌, ◌++◌, length, take, drop, get_or, set, IsTrue, refl, sym, ap, ◌∙◌, subst, arith, inl, inr, eqb, add-one, get_or-set_same, get_or-set_other}
use Rattle.std.proofs.lemmas.Bool.{cases_Bool, cases_eq, or_right, both_ways, eqb-true}
use Rattle.std.proofs.Math.Seq.{take-suc, drop-cons}
use Rattle.std.proofs.lemmas.List.{take-append-drop, take_all, length-drop}
use Rattle.std.proofs.lemmas.List.Quantifiers.{position-Some}
use Rattle.std.proofs.lemmas.List.Elements.{All-get_or}
use Rattle.std.specs.Prelude.{position}
use Rattle.hz_core.proofs.ListLemmas.{list_any-from_position_none}
use Rattle.std.specs.Option.{IsSome, is_some}
use Rattle.hz_lists.specs.Listed.{is_listed}
use Rattle.hz_free.specs.Paths.{LeadsTo, IsLink, HaveValue, HaveChoosers, HasRoot, IsInside, HaveNumbers, core_by}
use Rattle.hz_lists.proofs.ListedLemmas.{first-or-later, listed-first, listed-other, listed-cases, listed-left, listed-one, listed-append, pushed-last}
use Rattle.hz_free.proofs.Kahn.{listed-push-other}
use Rattle.hz_free.proofs.PathLemmas.{link-one}

take-more : (xs : List ℕ) (k : ℕ) → k < length xs → take (k + 1) xs ≡ take k xs ++ get_or xs k 0 ∷ []
take-more xs k inside = rw add-one (take-suc xs k 0 inside)

pub value-begin : {T : Type 0} (value : Option T) (list : List (Option T)) → HaveValue [] value list list
value-begin value list = record { listed = λ i there. absurd (both_ways false refl there); others = λ i out. refl }

value-push : {T : Type 0} (done : List ℕ) (var : ℕ) (value : Option T) (list list' : List (Option T)) → var < length list' → HaveValue done value list list' → HaveValue (done ++ var ∷ []) value list (set list' var value)
value-push done var value list list' few have =
    record {
      listed =
          λ i there.
          elim (cases_eq i var) [
            | inl here ↦ subst (λ (m : ℕ). get_or (set list' var value) m None ≡ value) (sym here) (get_or-set_same list' var value None few)
            | inr ne ↦ get_or-set_other list' var i value None ne ∙ have.listed i (sym (listed-push-other done var i ne) ∙ there)
          ];
      others =
          λ i out.
          elim (cases_eq i var) [
            | inl here ↦ absurd (both_ways (is_listed (done ++ var ∷ []) i) out (subst (λ (m : ℕ). is_listed (done ++ var ∷ []) m ≡ true) (sym here) (pushed-last done var)))
            | inr ne ↦ get_or-set_other list' var i value None ne ∙ have.others i (sym (listed-push-other done var i ne) ∙ out)
          ];
    }

pub value-more : {T : Type 0} (path : List ℕ) (k : ℕ) (value : Option T) (list list' : List (Option T)) → k < length path → get_or path k 0 < length list' → HaveValue (take k path) value list list' → HaveValue (take (k + 1) path) value list (set list' (get_or path k 0) value)
value-more path k value list list' inside few have =
    subst (λ (done : List ℕ). HaveValue done value list (set list' (get_or path k 0) value)) (sym (take-more path k inside))
    (value-push (take k path) (get_or path k 0) value list list' few have)

-- one variable, and then others
pub value-first : {T : Type 0} (var : ℕ) (rest : List ℕ) (value : Option T) (list list' : List (Option T)) → var < length list → HaveValue rest value (set list var value) list' → HaveValue (var ∷ rest) value list list'
value-first var rest value list list' few have =
    record {
      listed =
          λ i there.
          elim (cases_Bool (is_listed rest i)) [
            | inl later ↦ have.listed i later
            | inr out ↦
                elim (first-or-later i var rest there) [
                  | inl here ↦ have.others i out ∙ subst (λ (m : ℕ). get_or (set list var value) m None ≡ value) (sym here) (get_or-set_same list var value None few)
                  | inr later ↦ have.listed i later
                ]
          ];
      others =
          λ i out.
          elim (cases_eq i var) [
            | inl here ↦ absurd (both_ways (is_listed (var ∷ rest) i) out (listed-first i var rest here))
            | inr ne ↦ have.others i (sym (listed-other i var rest ne) ∙ out) ∙ get_or-set_other list var i value None ne
          ];
    }

-- no variable has the number of its root yet
pub numbers-begin : (numbers roots : List (Option ℕ)) → HaveNumbers numbers roots roots 0
numbers-begin numbers roots = record { below_have = λ i few. absurd (omega arith); others = λ i beyond. refl }

-- the next one has it
pub numbers-more : (numbers roots list : List (Option ℕ)) (var : ℕ) (number : Option ℕ) → var < length list → number ≡ core_by numbers (get_or list var None) → HaveNumbers numbers roots list var → HaveNumbers numbers roots (set list var number) (var + 1)
numbers-more numbers roots list var number few is have =
    record {
      below_have =
          λ i before.
          elim (cases_eq i var) [
            | inl here ↦
                subst (λ (m : ℕ). get_or (set list var number) m None ≡ core_by numbers (get_or roots m None)) (sym here)
                (get_or-set_same list var number None few ∙ (is ∙ ap (core_by numbers) (have.others var (omega arith))))
            | inr ne ↦ get_or-set_other list var i number None ne ∙ have.below_have i (omega arith)
          ];
      others = λ i beyond. get_or-set_other list var i number None (λ same. absurd (omega arith)) ∙ have.others i (omega arith);
    }

-- a root that was not replaced is a variable
pub root-inside : (variables : ℕ) (numbers roots list : List (Option ℕ)) (var : ℕ) → All (IsInside variables) roots → HaveNumbers numbers roots list var → var < length roots → IsInside variables (get_or list var None)
root-inside variables numbers roots list var all have few =
    subst (IsInside variables) (sym (have.others var (omega arith))) (All-get_or (IsInside variables) roots var None few all)

pub choosers-begin : (choices choosers : List (Option ℕ)) → HaveChoosers choices [] choosers choosers
choosers-begin choices choosers =
    record {
      each = λ i j leads. inl leads;
      stays = λ j link. link;
      noted = λ i j there. absurd (both_ways false refl there);
    }

choosers-push : (choices : List (Option ℕ)) (done : List ℕ) (var choice : ℕ) (choosers choosers' : List (Option ℕ)) → LeadsTo choices var choice → choice < length choosers' → HaveChoosers choices done choosers choosers' → HaveChoosers choices (done ++ var ∷ []) choosers (set choosers' choice (Some var))
choosers-push choices done var choice choosers choosers' chooses few have =
    record {
      each = each;
      stays = λ j link. kept j (have.stays j link);
      noted =
          λ i j there leads.
          elim (listed-cases done (var ∷ []) i there) [
            | inl earlier ↦ kept j (have.noted i j earlier leads)
            | inr here ↦
                let same : choice ≡ j = link-one choices var choice j chooses (subst (λ (m : ℕ). LeadsTo choices m j) (listed-one i var here) leads) in
                (var, subst (λ (m : ℕ). LeadsTo (set choosers' choice (Some var)) m var) same (get_or-set_same choosers' choice (Some var) None few))
          ];
    }
  where
    kept : (j : ℕ) → IsLink choosers' j → IsLink (set choosers' choice (Some var)) j
    kept j link =
        elim (cases_eq j choice) [
          | inl here ↦ (var, subst (λ (m : ℕ). LeadsTo (set choosers' choice (Some var)) m var) (sym here) (get_or-set_same choosers' choice (Some var) None few))
          | inr ne ↦ (link.0, get_or-set_other choosers' choice j (Some var) None ne ∙ link.1)
        ]

    each : (i j : ℕ) → LeadsTo (set choosers' choice (Some var)) j i → LeadsTo choosers j i ⊎ (IsTrue (is_listed (done ++ var ∷ []) i) × LeadsTo choices i j)
    each i j leads =
        elim (cases_eq j choice) [
          | inl here ↦
              let noted : LeadsTo (set choosers' choice (Some var)) j var = subst (λ (m : ℕ). LeadsTo (set choosers' choice (Some var)) m var) (sym here) (get_or-set_same choosers' choice (Some var) None few) in
              let same : var ≡ i = link-one (set choosers' choice (Some var)) j var i noted leads in
              inr (
                subst (λ (m : ℕ). is_listed (done ++ var ∷ []) m ≡ true) same (pushed-last done var),
                subst (λ (m : ℕ). LeadsTo choices m j) same (subst (λ (m : ℕ). LeadsTo choices var m) (sym here) chooses),
              )
          | inr ne ↦
              elim (have.each i j (sym (get_or-set_other choosers' choice j (Some var) None ne) ∙ leads)) [
                | inl old ↦ inl old
                | inr new ↦ inr (listed-left done (var ∷ []) i new.0, new.1)
              ]
        ]

pub choosers-more : (choices : List (Option ℕ)) (cycle : List ℕ) (k choice : ℕ) (choosers choosers' : List (Option ℕ)) → k < length cycle → LeadsTo choices (get_or cycle k 0) choice → choice < length choosers' → HaveChoosers choices (take k cycle) choosers choosers' → HaveChoosers choices (take (k + 1) cycle) choosers (set choosers' choice (Some (get_or cycle k 0)))
choosers-more choices cycle k choice choosers choosers' inside chooses few have =
    subst (λ (done : List ℕ). HaveChoosers choices done choosers (set choosers' choice (Some (get_or cycle k 0)))) (sym (take-more cycle k inside))
    (choosers-push choices (take k cycle) (get_or cycle k 0) choice choosers choosers' chooses few have)

pub some-link : (links : List (Option ℕ)) (i : ℕ) → IsLink links i → IsSome (get_or links i None)
some-link links i link = ap is_some link.1

-- the part of a path from the place of a variable on
pub part-of : (path : List ℕ) (place end : ℕ) → place < length path → get_or path place 0 ≡ end → take (length path - place) (drop place path) ≡ end ∷ drop (suc place) path
part-of path place end few at =
    let long = length-drop place path in
    take_all (length path - place) (drop place path) (omega arith) ∙ (drop-cons path place 0 few ∙ ap (λ (first : ℕ). first ∷ drop (suc place) path) at)

pub path-split : (path : List ℕ) (place end : ℕ) → place < length path → get_or path place 0 ≡ end → path ≡ take place path ++ end ∷ drop (suc place) path
path-split path place end few at =
    sym (take-append-drop place path) ∙ ap (λ (rest : List ℕ). take place path ++ rest) (drop-cons path place 0 few ∙ ap (λ (first : ℕ). first ∷ drop (suc place) path) at)

pub place-at : (path : List ℕ) (place end : ℕ) → position (eqb end) path ≡ Some place → (place < length path) × (get_or path place 0 ≡ end)
place-at path place end found =
    let some = position-Some (eqb end) path place 0 found in
    (some.0, sym (eqb-true end (get_or path place 0) some.1))

pub listed-part : (path : List ℕ) (place end i : ℕ) → place < length path → get_or path place 0 ≡ end → is_listed (take (length path - place) (drop place path)) i ≡ true → is_listed path i ≡ true
listed-part path place end i few at there =
    let in_part : is_listed (end ∷ drop (suc place) path) i ≡ true = subst (λ (list : List ℕ). is_listed list i ≡ true) (part-of path place end few at) there in
    subst (λ (list : List ℕ). is_listed list i ≡ true) (sym (path-split path place end few at))
    (listed-append (take place path) (end ∷ drop (suc place) path) i ∙ or_right _ _ in_part)

pub root-new : (choices : List (Option ℕ)) (path : List ℕ) (end place : ℕ) (choosers choosers' roots : List (Option ℕ)) → position (eqb end) path ≡ Some place → HaveChoosers choices (take (length path - place) (drop place path)) choosers choosers' → HasRoot choices path end choosers choosers' roots (Some end)
root-new choices path end place choosers choosers' roots found have =
    let at = place-at path place end found in
    inl (
      take place path,
      drop (suc place) path,
      path-split path place end at.0 at.1,
      subst (λ (part : List ℕ). HaveChoosers choices part choosers choosers') (part-of path place end at.0 at.1) have,
      refl,
    )

pub root-old : (choices : List (Option ℕ)) (path : List ℕ) (end : ℕ) (choosers roots : List (Option ℕ)) → position (eqb end) path ≡ None → HasRoot choices path end choosers choosers roots (get_or roots end None)
root-old choices path end choosers roots none = inr (list_any-from_position_none (eqb end) path none, refl, refl)
