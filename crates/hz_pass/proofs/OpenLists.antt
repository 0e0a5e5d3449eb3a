-- Lists of the variables that may still change: one variable more, or final values, keep what is known; where all that is listed is made, every variable is.
use Rattle.std.proofs.Common.{◌≡◌, ℕ, ◌+◌, ◌-◌, ◌<◌, Bool, true, false, cond, List, [], ◌∷◌, ◌++◌, length, take, All, refl, sym, ap, ◌∙◌, subst, arith, inl, inr, length-append, append-nil}
use Rattle.std.specs.Prelude.{Contains}
use Rattle.std.proofs.lemmas.Bool.{cases_lt}
use Rattle.std.proofs.lemmas.List.Elements.{All-contains, All-nil, All-push, Contains-append_left, Contains-push}
use Rattle.std.proofs.Math.Seq.{take-append-add}
use mir.Val.{bool_byte}
use Rattle.hz_core.specs.declared.tri.Tri.{Tri}
use Rattle.hz_net.specs.Network.{network_of, value_at, IsVariable}
use Rattle.hz_pass.specs.declared.round.Round.{Round}
use Rattle.hz_pass.specs.Frontier.{is_open}
use Rattle.hz_pass.specs.InRound.{CanBeMade, IsMadeIn, LeavesFrom, ListsOpen, MakesSoFar}
use Rattle.hz_pass.proofs.Evaluations.{made-final}

no-both : true ≡ false → ⊥
no-both e = cc

pub open-none : (round : Round) → ListsOpen round 0 []
open-none round = record {
  few = omega arith;
  inside = All-nil (IsVariable round.net.now);
  every = λ i below is. absurd (omega (arith, below));
}

-- final values need not be listed
pub open-skips :
    (round : Round) (first count : ℕ) (listed : List ℕ) →
    ((i : ℕ) → i < count → is_open round.rule (value_at round.state.now (first + i)) ≡ false) →
    ListsOpen round first listed → ListsOpen round (first + count) listed
open-skips round first count listed final lists = record {
  few = omega (arith, lists.few);
  inside = lists.inside;
  every = λ i below is. elim (cases_lt i first) [
    | inl before ↦ lists.every i before is
    | inr late ↦ (
        let at : i ≡ first + (i - first) = omega (arith, late) in
        let near : i - first < count = omega (arith, below, late) in
        absurd (no-both (sym is ∙ (ap (λ (n : ℕ). is_open round.rule (value_at round.state.now n)) at ∙ final (i - first) near)))
        )
  ];
}

-- the next variable is listed if it may change
open-next :
    (round : Round) (var : ℕ) (listed : List ℕ) (wanted : Bool) →
    wanted ≡ is_open round.rule (value_at round.state.now var) → IsVariable round.net.now var → ListsOpen round var listed →
    ListsOpen round (var + 1) (listed ++ cond wanted (var ∷ []) [])
open-next round var listed true is within lists = record {
  few = omega (arith, lists.few, length-append listed (var ∷ []));
  inside = All-push (IsVariable round.net.now) listed var lists.inside within;
  every = λ i below there. elim (cases_lt i var) [
    | inl before ↦ Contains-append_left listed (var ∷ []) i (lists.every i before there)
    | inr last ↦ (
        let same : var ≡ i = omega (arith, below, last) in
        subst (Contains (listed ++ var ∷ [])) same (Contains-push listed var)
        )
  ];
}
open-next round var listed false is within lists =
    subst (ListsOpen round (var + 1)) (sym (append-nil listed))
    (open-skips round var 1 listed (λ i few.
    let same : var + i ≡ var = omega (arith, few) in
    ap (λ (n : ℕ). is_open round.rule (value_at round.state.now n)) same ∙ sym is) lists)

-- a list of one ends before its number or behind it
one : (wanted : Bool) (number : ℕ) → take (bool_byte wanted) (number ∷ []) ≡ cond wanted (number ∷ []) []
one true number = refl
one false number = refl

-- it is put last, and the list ends before it or behind it
pub open-put :
    (round : Round) (var : ℕ) (listed pushed after : List ℕ) (wanted : Bool) →
    wanted ≡ is_open round.rule (value_at round.state.now var) → IsVariable round.net.now var → ListsOpen round var listed →
    pushed ≡ listed ++ var ∷ [] → after ≡ take (length listed + bool_byte wanted) pushed → ListsOpen round (var + 1) after
open-put round var listed pushed after wanted is within lists puts ends =
    let whole : after ≡ listed ++ cond wanted (var ∷ []) [] =
    ends ∙ (ap (take (length listed + bool_byte wanted)) puts
    ∙ (take-append-add listed (var ∷ []) (bool_byte wanted) ∙ ap (λ (more : List ℕ). listed ++ more) (one wanted var))) in
    subst (ListsOpen round (var + 1)) (sym whole) (open-next round var listed wanted is within lists)

-- where the listed variables below a number are made, every variable is
pub made-listed :
    (round : Round) (next : List Tri) (changed listed : List ℕ) (count : ℕ) → CanBeMade round → LeavesFrom count round →
    MakesSoFar round next changed → ListsOpen round count listed → All (IsMadeIn round next) listed →
    (i : ℕ) → i < length (network_of round.net.now) → IsMadeIn round next i
made-listed round next changed listed count can rest so_far lists made i inside = elim (cases_lt i count) [
  | inl below ↦ by-value (is_open round.rule (value_at round.state.now i)) refl below
  | inr late ↦ elim (so_far.either i) [
    | inl was ↦ was ∙ rest i late inside
    | inr there ↦ there
  ]
]
  where
    by-value : (is : Bool) → is ≡ is_open round.rule (value_at round.state.now i) → i < count → IsMadeIn round next i
    by-value true e below = All-contains (IsMadeIn round next) listed i made (lists.every i below (sym e))
    by-value false e below = elim (so_far.either i) [
      | inl was ↦ made-final can.state inside can.falls so_far (ap (is_open round.rule) was ∙ sym e)
      | inr there ↦ there
    ]
