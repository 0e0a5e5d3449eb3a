-- The values that a round changed, taken over into the state, and the round noted at them.
use Rattle.std.proofs.Common.{◌≡◌, ◌≢◌, ℕ, zero, suc, ◌+◌, ◌-◌, ◌<◌, ◌≤◌, Bool, List, [], ◌∷◌, length, set, slice_index, get_or, All, refl, sym, ap, ◌∙◌, subst, arith, inl, inr}
use Rattle.std.specs.Prelude.{Contains, fold, slice_set}
use Rattle.std.proofs.lemmas.Bool.{cases_eq, cases_lt}
use Rattle.std.proofs.lemmas.List.{get_or-set_same, get_or-set_other, get_or_past, length-set, nil_from_length}
use Rattle.std.proofs.lemmas.List.Elements.{All-from_get_or, Contains-get_or}
use Rattle.hz_core.specs.declared.tri.Tri.{Tri}
use Rattle.hz_core.specs.declared.tri.Tri.TheVariants.{Zero}
use Rattle.hz_net.specs.Network.{Driver, value_at}
use Rattle.hz_pass.specs.declared.round.Rule.{Rule}
use Rattle.hz_net.specs.Passes.{AreRounds}
use Rattle.hz_pass.specs.Frontier.{Falls, IsQuiet, IsRound, round_states, with_values_of}
use Rattle.hz_pass.proofs.Places.{same-values}
use Rattle.hz_pass.proofs.WholeRounds.{quiet-after}
use Rattle.hz_pass.proofs.Values.{same-or-differ, length-next_state}
use Rattle.hz_pass.proofs.PassLoop.{IsNotedAfter, PassSoFar, pass-long, pass-done}

-- the noted rounds with a round at listed variables
abbrev pub noted_at : ℕ → List ℕ → List ℕ → List ℕ
noted_at round noted list = fold (λ noted i. slice_set noted i round) noted list

length-taken : (next state : List Tri) (list : List ℕ) → length (with_values_of next state list) ≡ length state
length-taken next state [] = refl
length-taken next state (x ∷ list) = length-taken next (set state x (value_at next x)) list ∙ length-set state x (value_at next x)

pub length-noted : (round : ℕ) (noted list : List ℕ) → length (noted_at round noted list) ≡ length noted
length-noted round noted [] = refl
length-noted round noted (x ∷ list) = length-noted round (set noted x round) list ∙ length-set noted x round

-- what has the new value already keeps it
taken-kept :
    (next state : List Tri) (list : List ℕ) (i : ℕ) → i < length state → value_at state i ≡ value_at next i →
    value_at (with_values_of next state list) i ≡ value_at next i
taken-kept next state [] i inside is = is
taken-kept next state (x ∷ list) i inside is =
    taken-kept next (set state x (value_at next x)) list i (omega (arith, inside, length-set state x (value_at next x)))
    (elim (cases_eq i x) [
      | inl same ↦ subst (λ (n : ℕ). value_at (set state x (value_at next x)) n ≡ value_at next n) (sym same) (get_or-set_same state x (value_at next x) Zero (omega (arith, inside, same)))
      | inr other ↦ get_or-set_other state x i (value_at next x) Zero other ∙ is
    ])

-- and a listed variable gets it
taken-listed :
    (next state : List Tri) (list : List ℕ) (i : ℕ) → i < length state → Contains list i →
    value_at (with_values_of next state list) i ≡ value_at next i
taken-listed next state [] i inside there = absurd (omega (arith, there.1))
taken-listed next state (x ∷ list) i inside (zero, few, e) =
    subst (λ (n : ℕ). value_at (with_values_of next state (x ∷ list)) n ≡ value_at next n) e
    (taken-kept next (set state x (value_at next x)) list x (omega (arith, inside, e, length-set state x (value_at next x))) (get_or-set_same state x (value_at next x) Zero (omega (arith, inside, e))))
taken-listed next state (x ∷ list) i inside (suc k, few, e) =
    taken-listed next (set state x (value_at next x)) list i (omega (arith, inside, length-set state x (value_at next x))) (k, omega (arith, few), e)

noted-kept :
    (round : ℕ) (noted list : List ℕ) (i : ℕ) → i < length noted → slice_index noted i ≡ round →
    slice_index (noted_at round noted list) i ≡ round
noted-kept round noted [] i inside is = is
noted-kept round noted (x ∷ list) i inside is =
    noted-kept round (set noted x round) list i (omega (arith, inside, length-set noted x round))
    (elim (cases_eq i x) [
      | inl same ↦ subst (λ (n : ℕ). slice_index (set noted x round) n ≡ round) (sym same) (get_or-set_same noted x round 0 (omega (arith, inside, same)))
      | inr other ↦ get_or-set_other noted x i round 0 other ∙ is
    ])

noted-listed :
    (round : ℕ) (noted list : List ℕ) (i : ℕ) → i < length noted → Contains list i →
    slice_index (noted_at round noted list) i ≡ round
noted-listed round noted [] i inside there = absurd (omega (arith, there.1))
noted-listed round noted (x ∷ list) i inside (zero, few, e) =
    subst (λ (n : ℕ). slice_index (noted_at round noted (x ∷ list)) n ≡ round) e
    (noted-kept round (set noted x round) list x (omega (arith, inside, e, length-set noted x round)) (get_or-set_same noted x round 0 (omega (arith, inside, e))))
noted-listed round noted (x ∷ list) i inside (suc k, few, e) =
    noted-listed round (set noted x round) list i (omega (arith, inside, length-set noted x round)) (k, omega (arith, few), e)

noted-other :
    (round : ℕ) (noted list : List ℕ) (i : ℕ) → (Contains list i → ⊥) →
    slice_index (noted_at round noted list) i ≡ slice_index noted i
noted-other round noted [] i none = refl
noted-other round noted (x ∷ list) i none =
    let other : i ≢ x = λ e. none (0, omega arith, sym e) in
    noted-other round (set noted x round) list i (λ there. none (suc there.0, omega (arith, there.1), there.2)) ∙ get_or-set_other noted x i round 0 other

pub some-long : (list : List ℕ) → list ≢ [] → 1 ≤ length list
some-long [] some = absurd (some refl)
some-long (x ∷ list) some = omega arith

module _
    {rule : Rule} {net : List Driver} {input : List Bool} {state next : List Tri} {changed : List ℕ}
    (long : length state ≡ length net) (round : IsRound rule net input state next changed) where
  -- with what changed the state is the next one
  pub taken-over : with_values_of next state changed ≡ next
  taken-over =
      let next_long : length next ≡ length state = ap (length {A = Tri}) round.made ∙ (length-next_state rule net input state long ∙ sym long) in
      same-values (with_values_of next state changed) next (length-taken next state changed ∙ sym next_long)
      (λ i few.
      let inside : i < length state = omega (arith, few, length-taken next state changed) in
      elim (same-or-differ (value_at next i) (value_at state i)) [
        | inl same ↦ taken-kept next state changed i inside (sym same)
        | inr differ ↦ taken-listed next state changed i inside (round.lists.every i differ)
      ])

  -- the round is noted where it changed something, and only there
  pub noted-over :
      (number : ℕ) (noted : List ℕ) → length noted ≡ length net → (i : ℕ) → i < length net →
      IsNotedAfter number state next i (slice_index noted i) (slice_index (noted_at number noted changed) i)
  noted-over number noted noted_long i inside = record {
    same = λ e. noted-other number noted changed i (λ there. round.lists.each i there e);
    changed = λ differ. noted-listed number noted changed i (omega (arith, inside, noted_long)) (round.lists.every i differ);
  }

  -- the same with what a call was handed
  pub state-after :
      {list : List ℕ} {after : List Tri} → list ≡ changed → after ≡ with_values_of next state list → after ≡ next
  state-after same taken = taken ∙ (ap (with_values_of next state) same ∙ taken-over)

  pub noted-after :
      (number : ℕ) (noted : List ℕ) {list after : List ℕ} → length noted ≡ length net → list ≡ changed → after ≡ noted_at number noted list →
      (i : ℕ) → i < length net → IsNotedAfter number state next i (slice_index noted i) (slice_index after i)
  noted-after number noted {list} {after} noted_long same taken i inside =
      subst (λ (rounds : List ℕ). IsNotedAfter number state next i (slice_index noted i) (slice_index rounds i)) (sym (taken ∙ ap (noted_at number noted) same))
      (noted-over number noted noted_long i inside)

  -- where nothing changed the next state is the same
  pub unchanged : changed ≡ [] → state ≡ next
  unchanged none =
      let next_long : length next ≡ length state = ap (length {A = Tri}) round.made ∙ (length-next_state rule net input state long ∙ sym long) in
      same-values state next (sym next_long) (λ i few. elim (same-or-differ (value_at next i) (value_at state i)) [
        | inl same ↦ sym same
        | inr differ ↦ absurd (nothing (subst (λ (list : List ℕ). Contains list i) none (round.lists.every i differ)))
      ])
    where
      nothing : {i : ℕ} → Contains [] i → ⊥
      nothing there = omega (arith, there.1)

  -- where something changed it is another one
  pub differs : changed ≢ [] → state ≢ next
  differs some same = some (nothing-listed changed (λ i there. round.lists.each i there (ap (λ (values : List Tri). value_at values i) (sym same))))
    where
      nothing-listed : (list : List ℕ) → ((i : ℕ) → Contains list i → ⊥) → list ≡ []
      nothing-listed [] none = refl
      nothing-listed (x ∷ list) none = absurd (none x (0, omega arith, refl))

  -- what changed are variables
  pub changed-inside : (i : ℕ) → Contains changed i → i < length net
  changed-inside i there =
      let next_long : length next ≡ length state = ap (length {A = Tri}) round.made ∙ (length-next_state rule net input state long ∙ sym long) in
      elim (cases_lt i (length net)) [
        | inl inside ↦ inside
        | inr out ↦ absurd (round.lists.each i there (get_or_past next i Zero (omega (arith, out, next_long, long)) ∙ sym (get_or_past state i Zero (omega (arith, out, long)))))
      ]

  pub changed-all : {count : ℕ} {list : List ℕ} → length net ≡ count → list ≡ changed → All (λ i. i < count) list
  changed-all {count} {list} same is =
      subst (λ (n : ℕ). All (λ i. i < n) list) same
      (subst (All (λ i. i < length net)) (sym is)
      (All-from_get_or (λ (i : ℕ). i < length net) changed 0 (λ k few. changed-inside (get_or changed k 0) (Contains-get_or changed k 0 few))))

  -- the next state is as long as the network
  pub next-long : length next ≡ length net
  next-long = ap (length {A = Tri}) round.made ∙ length-next_state rule net input state long

  -- after the round, what reads nothing that changed stays
  pub quiet-list :
      {list : List ℕ} {after : List Tri} → list ≡ changed → after ≡ next → IsQuiet rule net input after list
  quiet-list {list} {after} same is =
      subst (λ (values : List Tri). IsQuiet rule net input values list) (sym is)
      (subst (IsQuiet rule net input next) (sym same) (quiet-after long round))

-- the round that changes nothing is the last
pub pass-ends :
    {rule : Rule} {net : List Driver} {input : List Bool} {first : List Tri} (long : length first ≡ length net) (falls : Falls rule net input first)
    {number : ℕ} {state next : List Tri} {changed noted : List ℕ} → 1 ≤ number →
    PassSoFar rule net input first (number - 1) state noted → IsRound rule net input state next changed → length changed ≡ 0 →
    AreRounds (round_states rule net input first) number × (state ≡ round_states rule net input first number) ×
    (number ≤ length net + 1)
pass-ends long falls {changed = changed} one so_far round none =
    pass-done long falls one so_far round (unchanged (pass-long long falls so_far) round (nil_from_length changed none))
