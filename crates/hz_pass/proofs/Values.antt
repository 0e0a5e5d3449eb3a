-- How one round changes one value, and what variables weigh that later rounds may still change.
use Rattle.std.proofs.Common.{◌≡◌, ◌≢◌, ℕ, zero, suc, ◌+◌, ◌<◌, ◌≤◌, ◌⊎◌, Bool, true, false, not, cond, List, [], ◌∷◌, length, set, IsTrue, refl, sym, ap, ◌∙◌, subst, arith, inl, inr}
use Rattle.std.specs.Prelude.{sum_by}
use Rattle.std.proofs.lemmas.List.Sums.{sum_by-cons}
use Rattle.hz_core.specs.declared.tri.Tri.{Tri}
use Rattle.hz_core.specs.declared.tri.Tri.TheVariants.{Zero, One, Unknown}
use Rattle.hz_core.specs.Ternary.{is_below}
use Rattle.hz_core.specs.contracts.tri.TriPartialEq.TheImpl.{eq-value}
use Rattle.hz_core.proofs.Refinements.{get_or-AllBelow}
use Rattle.hz_net.specs.Network.{Driver, value_at, excitation3}
use Rattle.hz_net.specs.Passes.{excitations}
use Rattle.hz_net.proofs.Excitations.{length-excitations, at-excitations, length-join_each, at-join_each, AllBelow-excitations}
use Rattle.hz_pass.specs.declared.round.Rule.{Rule}
use Rattle.hz_pass.specs.declared.round.Rule.TheVariants.{Join, Replace}
use Rattle.hz_pass.specs.Changes.{is_change, differing_count}
use Rattle.hz_pass.specs.Frontier.{next_value, next_state, Falls, is_open, open_weight_from}

-- two values are the same or differ
pub same-or-differ : (value other : Tri) → (value ≡ other) ⊎ (value ≢ other)
same-or-differ Zero Zero = inl refl
same-or-differ Zero One = inr (λ e. cc)
same-or-differ Zero Unknown = inr (λ e. cc)
same-or-differ One Zero = inr (λ e. cc)
same-or-differ One One = inl refl
same-or-differ One Unknown = inr (λ e. cc)
same-or-differ Unknown Zero = inr (λ e. cc)
same-or-differ Unknown One = inr (λ e. cc)
same-or-differ Unknown Unknown = inl refl

-- what a test for unequal values tells
pub differ-by-test : (value other : Tri) → true ≡ not (eq-value.it value other) → value ≢ other
differ-by-test Zero Zero test = cc
differ-by-test Zero One test = λ e. cc
differ-by-test Zero Unknown test = λ e. cc
differ-by-test One Zero test = λ e. cc
differ-by-test One One test = cc
differ-by-test One Unknown test = λ e. cc
differ-by-test Unknown Zero test = λ e. cc
differ-by-test Unknown One test = λ e. cc
differ-by-test Unknown Unknown test = cc

-- what a test for a value that is not open tells
pub not-true : (b : Bool) → true ≡ not b → b ≡ false
not-true true test = cc
not-true false test = refl

-- an excitation that takes the place of a value lies below it
abbrev pub FallsAt : Rule → Tri → Tri → Type 0
FallsAt Join value excited = Unit {0}
FallsAt Replace value excited = IsTrue (is_below excited value)

pub falls-at :
    (rule : Rule) (net : List Driver) (input : List Bool) (state : List Tri) (i : ℕ) → i < length net → Falls rule net input state →
    FallsAt rule (value_at state i) (excitation3 net input state i)
falls-at Join net input state i inside falls = tt
falls-at Replace net input state i inside falls =
    subst (λ (excited : Tri). IsTrue (is_below excited (value_at state i))) (at-excitations net input state i inside)
    (get_or-AllBelow (excitations net input state) state falls i)

-- excitations fall from one state to the next
pub falls-after :
    (rule : Rule) (net : List Driver) (input : List Bool) (state next : List Tri) → next ≡ next_state rule net input state →
    Falls rule net input state → Falls rule net input next
falls-after Join net input state next made falls = tt
falls-after Replace net input state next made falls =
    subst (λ (values : List Tri). Falls Replace net input values) (sym made) (AllBelow-excitations net input (excitations net input state) state falls)

pub length-next_state :
    (rule : Rule) (net : List Driver) (input : List Bool) (state : List Tri) → length state ≡ length net →
    length (next_state rule net input state) ≡ length net
length-next_state Join net input state long =
    length-join_each state (excitations net input state) (long ∙ sym (length-excitations net input state)) ∙ long
length-next_state Replace net input state long = length-excitations net input state

-- the next state, variable by variable
pub at-next_state :
    (rule : Rule) (net : List Driver) (input : List Bool) (state : List Tri) (i : ℕ) → length state ≡ length net → i < length net →
    value_at (next_state rule net input state) i ≡ next_value rule (value_at state i) (excitation3 net input state i)
at-next_state Join net input state i long inside =
    at-join_each state (excitations net input state) (long ∙ sym (length-excitations net input state)) i ∙
    ap (next_value Join (value_at state i)) (at-excitations net input state i inside)
at-next_state Replace net input state i long inside = at-excitations net input state i inside

-- the same excitation once more changes nothing
pub once-more :
    (rule : Rule) (value excited : Tri) →
    next_value rule (next_value rule value excited) excited ≡ next_value rule value excited
once-more Join Zero Zero = refl
once-more Join Zero One = refl
once-more Join Zero Unknown = refl
once-more Join One Zero = refl
once-more Join One One = refl
once-more Join One Unknown = refl
once-more Join Unknown Zero = refl
once-more Join Unknown One = refl
once-more Join Unknown Unknown = refl
once-more Replace value excited = refl

-- a variable that changes could change, and can't any more
pub closes :
    (rule : Rule) (value excited : Tri) → FallsAt rule value excited → next_value rule value excited ≢ value →
    (is_open rule value ≡ true) × (is_open rule (next_value rule value excited) ≡ false)
closes Join Zero Zero falls differ = absurd (differ refl)
closes Join Zero One falls differ = (refl, refl)
closes Join Zero Unknown falls differ = (refl, refl)
closes Join One Zero falls differ = (refl, refl)
closes Join One One falls differ = absurd (differ refl)
closes Join One Unknown falls differ = (refl, refl)
closes Join Unknown Zero falls differ = absurd (differ refl)
closes Join Unknown One falls differ = absurd (differ refl)
closes Join Unknown Unknown falls differ = absurd (differ refl)
closes Replace Zero Zero falls differ = absurd (differ refl)
closes Replace Zero One falls differ = cc
closes Replace Zero Unknown falls differ = cc
closes Replace One Zero falls differ = cc
closes Replace One One falls differ = absurd (differ refl)
closes Replace One Unknown falls differ = cc
closes Replace Unknown Zero falls differ = (refl, refl)
closes Replace Unknown One falls differ = (refl, refl)
closes Replace Unknown Unknown falls differ = absurd (differ refl)

-- a value that can't change any more loses its weight
pub open_weight-set :
    (rule : Rule) (weight : ℕ → ℕ) (first : ℕ) (values : List Tri) (i : ℕ) (value : Tri) → i < length values →
    is_open rule (value_at values i) ≡ true → is_open rule value ≡ false →
    weight (first + i) + open_weight_from rule weight first (set values i value) ≡ open_weight_from rule weight first values
open_weight-set rule weight first [] i value inside opens closed = absurd (omega (arith, inside))
open_weight-set rule weight first (other ∷ values) zero value inside opens closed =
    omega (
      arith,
      ap weight (let same : first + 0 ≡ first = omega arith in same),
      ap (λ (b : Bool). cond b (weight first) 0) opens,
      ap (λ (b : Bool). cond b (weight first) 0) closed,
    )
open_weight-set rule weight first (other ∷ values) (suc i) value inside opens closed =
    omega (
      arith,
      ap weight (let same : first + suc i ≡ suc first + i = omega arith in same),
      open_weight-set rule weight (suc first) values i value (omega (arith, inside)) opens closed,
    )

-- weights of one: as many as there are
pub open_weight-ones :
    (rule : Rule) (first : ℕ) (values : List Tri) → open_weight_from rule (λ i. 1) first values ≤ length values
open_weight-ones rule first [] = omega arith
open_weight-ones rule first (value ∷ values) =
    omega (arith, at-most-one (is_open rule value), open_weight-ones rule (suc first) values)
  where
    at-most-one : (b : Bool) → cond b 1 0 ≤ 1
    at-most-one true = omega arith
    at-most-one false = omega arith

-- a value doesn't differ from itself
no-change : (value : Tri) → is_change value value ≡ false
no-change Zero = refl
no-change One = refl
no-change Unknown = refl

-- Values that differ from others could change, and can't any more: there are no more of them than values that could
-- change, less those that still can.
pub differing-open :
    (rule : Rule) (first : ℕ) (values others : List Tri) → length others ≡ length values →
    ((i : ℕ) → i < length values → (value_at others i ≡ value_at values i) ⊎ ((is_open rule (value_at values i) ≡ true) × (is_open rule (value_at others i) ≡ false))) →
    differing_count values others + open_weight_from rule (λ i. 1) first others ≤ open_weight_from rule (λ i. 1) first values
differing-open rule first [] [] long each = omega arith
differing-open rule first [] (other ∷ others) long each = cc
differing-open rule first (value ∷ values) [] long each = cc
differing-open rule first (value ∷ values) (other ∷ others) long each =
    omega (
      arith,
      at-first value other (each 0 (omega arith)),
      differing-open rule (suc first) values others (omega (arith, long)) (λ i few. each (suc i) (omega (arith, few))),
    )
  where
    one_if : Bool → ℕ
    one_if b = cond b 1 0

    at-most-one : (b : Bool) → cond b 1 0 ≤ 1
    at-most-one true = omega arith
    at-most-one false = omega arith

    at-first :
        (value other : Tri) → (other ≡ value) ⊎ ((is_open rule value ≡ true) × (is_open rule other ≡ false)) →
        cond (is_change value other) 1 0 + cond (is_open rule other) 1 0 ≤ cond (is_open rule value) 1 0
    at-first value other (inl same) =
        omega (
          arith,
          ap one_if (ap (is_change value) same ∙ no-change value),
          ap one_if (ap (is_open rule) same),
        )
    at-first value other (inr shut) =
        omega (arith, at-most-one (is_change value other), ap one_if shut.0, ap one_if shut.1)

pub sum_by-ones : (list : List ℕ) → sum_by (λ i. 1) list ≡ length list
sum_by-ones [] = refl
sum_by-ones (i ∷ list) = omega (arith, sum_by-cons (λ (i : ℕ). 1) i list, sum_by-ones list)
