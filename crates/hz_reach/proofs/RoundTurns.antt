-- The loops over settling rounds: that a mark may be set, that each step has room, and what holds after it.
use Rattle.std.proofs.Common.{◌≡◌, ◌≢◌, ℕ, suc, ◌+◌, ◌-◌, ◌<◌, ◌≤◌, Bool, true, false, not, cond, List, [], ◌∷◌, ◌++◌, length, get_or, take, drop, sym, ap, ◌∙◌, subst, arith, inl, inr, append-nil, slice_range}
use Rattle.std.proofs.lemmas.List.{get_or-drop, get_or-take, length-take, length-drop}
use Rattle.hz_reach.proofs.Words.{cases_lt, not-true, not_from_false, filter-append, Tri, admits, Driver, bit_at, value_at, is_listed, state_after}
use Rattle.hz_reach.proofs.Words.{RunRecord, length-state_after, key_at, IsEarlier, IsInKeyOrder, with_step_if_any, Spends, HasRoomFor, HasRoomForStep}
use Rattle.hz_reach.proofs.Words.{ScratchState, listed-at, listed-place, Ascends, ascends-once, ascends-filter, filtered-is, is-filtered, take_more}
use Rattle.hz_reach.specs.Rounds.{differing_variables, IsOneRound, AreRoundsOf, AreRoundsMade}
use Rattle.hz_reach.proofs.FlipCounts.{flips_per_variable}
use Rattle.hz_reach.proofs.ListPlaces.{key-inside}
use Rattle.hz_reach.proofs.Room.{steps-after, flips-after, room-for-step, room-left, spends-none, spends-more}
use Rattle.hz_reach.proofs.RoundSteps.{IsSettledTo, AreRoundFlips, settled-begin, settled-skip, settled-after, settled-end}

-- One round is marked

-- a variable of the order has a key
pub order-inside : (keys order : List ℕ) (k : ℕ) → IsInKeyOrder keys order → k < length order → get_or order k 0 < length keys
order-inside keys order k sorted inside = key-inside keys (get_or order k 0) ((sorted.keyed (get_or order k 0)).0 (listed-at order k inside))

-- one variable more
pub slice-more : (order : List ℕ) (from place : ℕ) → from ≤ place → place < length order → slice_range order from (place + 1) ≡ slice_range order from place ++ get_or order place 0 ∷ []
slice-more order from place above inside =
    let count : place + 1 - from ≡ place - from + 1 = omega (arith, above) in
    let here : from + (place - from) ≡ place = omega (arith, above) in
    ap (λ (n : ℕ). take n (drop from order)) count
    ∙ (take_more (drop from order) (place - from) 0 (omega (arith, length-drop from order, above, inside))
    ∙ ap (λ (x : ℕ). take (place - from) (drop from order) ++ x ∷ []) (get_or-drop from order (place - from) 0 ∙ ap (λ (n : ℕ). get_or order n 0) here))

pub differing-next : (b : List Tri) (state : List Bool) (list : List ℕ) (var : ℕ) → differing_variables b state (list ++ var ∷ []) ≡ differing_variables b state list ++ cond (not (admits (value_at b var) (bit_at state var))) (var ∷ []) []
differing-next b state list var = filter-append (λ v. not (admits (value_at b v) (bit_at state v))) list (var ∷ [])

-- A variable that is read at a place has the key of the round.
pub record IsInRound (keys order : List ℕ) (from place : ℕ) : Type 0 where
  pub inside : place < length order
  pub same : (k : ℕ) → from ≤ k → k < place + 1 → key_at keys (get_or order k 0) ≡ key_at keys (get_or order from 0)

pub in-round :
    {keys order read first : List ℕ} {from place places : ℕ} → read ≡ order → first ≡ order → places ≡ length order → place < places →
    ((k : ℕ) → from ≤ k → k < place → key_at keys (get_or order k 0) ≡ key_at keys (get_or order from 0)) →
    key_at keys (get_or read place 0) ≡ key_at keys (get_or first from 0) → IsInRound keys order from place
in-round {keys} {order} {read} {first} {from} {place} same again end less before here = record {
  inside = omega (arith, less, end);
  same = λ k above few. elim (cases_lt k place) [
    | inl early ↦ before k above early
    | inr late ↦ (
        let is : k ≡ place = omega (arith, late, few) in
        ap (λ (n : ℕ). key_at keys (get_or order n 0)) is
        ∙ (ap (λ (list : List ℕ). key_at keys (get_or list place 0)) (sym same) ∙ (here ∙ ap (λ (list : List ℕ). key_at keys (get_or list from 0)) again))
        )
  ];
}

-- marks so far are less than the next variable of the round
pub round-ascends : {keys order : List ℕ} {from place : ℕ} (b : List Tri) (state : List Bool) (i : ℕ) → IsInKeyOrder keys order → IsInRound keys order from place → is_listed (differing_variables b state (slice_range order from place)) i ≡ true → i < get_or order place 0
round-ascends {keys} {order} {from} {place} b state i sorted round there =
    let listed = (filtered-is (λ v. not (admits (value_at b v) (bit_at state v))) (slice_range order from place) i there).1 in
    let at = listed-place (slice_range order from place) i listed in
    let few : at.0 < place - from = omega (arith, at.1, length-take (place - from) (drop from order)) in
    let here : get_or order (from + at.0) 0 ≡ i = sym (get_or-take (place - from) (drop from order) at.0 0 few ∙ get_or-drop from order at.0 0) ∙ at.2 in
    number (sorted.ordered (from + at.0) place (omega (arith, few)) round.inside) (round.same (from + at.0) (omega arith) (omega (arith, few))) (round.same place (omega (arith, few)) (omega arith)) here
  where
    number : {one : ℕ} → IsEarlier keys one (get_or order place 0) → key_at keys one ≡ key_at keys (get_or order from 0) → key_at keys (get_or order place 0) ≡ key_at keys (get_or order from 0) → one ≡ i → i < get_or order place 0
    number (inl less) first second here = absurd (omega (arith, less, first, second))
    number (inr equal) first second here = omega (arith, equal.1, here)

-- The rounds one after the other

-- what a call of `settle_rounds` is given
pub record AreRoundsAsked (when : List ℕ) (b : List Tri) (begun : List Bool) (first : RunRecord) : Type 0 where
  pub rounds : (net : List Driver) × (input : List Bool) × (a : List Tri) × AreRoundsOf net input a when b begun
  pub room : HasRoomFor (length when) first

-- At a place of the order: the variables before it are those that settle before a round, and they have settled.
pub record AreRoundsUnderway (when : List ℕ) (b : List Tri) (begun : List Bool) (first : RunRecord) (place : ℕ) (scratch : ScratchState) (now : RunRecord) : Type 0 where
  pub asked : AreRoundsAsked when b begun first
  pub sorted : IsInKeyOrder when scratch.by_round
  pub marked : scratch.marked ≡ []
  pub long : length scratch.state ≡ length begun
  pub made : List (List ℕ)
  pub steps : now.steps ≡ first.steps ++ made
  pub spent : Spends first now
  pub round : ℕ
  pub below : (k : ℕ) → k < place → k < length scratch.by_round → key_at when (get_or scratch.by_round k 0) < round
  pub above : (k : ℕ) → place ≤ k → k < length scratch.by_round → round ≤ key_at when (get_or scratch.by_round k 0)
  pub settled :
      (net : List Driver) (input : List Bool) (a : List Tri) → AreRoundsOf net input a when b begun →
      IsSettledTo net input when b begun round made scratch.state

pub rounds-begin : {when : List ℕ} {b : List Tri} {begun : List Bool} {first : RunRecord} {scratch : ScratchState} → AreRoundsAsked when b begun first → IsInKeyOrder when scratch.by_round → scratch.marked ≡ [] → scratch.state ≡ begun → AreRoundsUnderway when b begun first 0 scratch first
rounds-begin {when} {b} {begun} {first} {scratch} asked sorted marked state = record {
  asked = asked;
  sorted = sorted;
  marked = marked;
  long = ap (length {A = Bool}) state;
  made = [];
  steps = sym (append-nil first.steps);
  spent = spends-none first;
  round = 1;
  below = λ k few inside. absurd (omega (arith, few));
  above = λ k late inside. (let some = (sorted.keyed (get_or scratch.by_round k 0)).0 (listed-at scratch.by_round k inside) in omega (arith, some));
  settled = λ net input a rounds. subst (IsSettledTo net input when b begun 1 []) (sym state) (settled-begin net input when b begun);
}

module _ {when : List ℕ} {b : List Tri} {begun : List Bool} {first : RunRecord} {place : ℕ} {scratch : ScratchState} {now : RunRecord} (underway : AreRoundsUnderway when b begun first place scratch now) where
  abbrev order : List ℕ
  order = scratch.by_round

  -- where a variable stands that has a settling round
  stands : (i : ℕ) → key_at when i ≢ 0 → (k : ℕ) × (k < length order) × (get_or order k 0 ≡ i)
  stands i some = listed-place order i ((underway.sorted.keyed i).1 some)

  module _ {next : ℕ} {flips : List ℕ} (one : IsOneRound when scratch.by_round place next) (marks : flips ≡ differing_variables b scratch.state (slice_range scratch.by_round place next)) where
    abbrev here : ℕ
    here = key_at when (get_or scratch.by_round place 0)

    place-inside : place < length order
    place-inside = omega (arith, one.more, one.inside)

    -- what stands at the next round or behind it settles later
    later : (k : ℕ) → next ≤ k → k < length order → here < key_at when (get_or order k 0)
    later k behind inside = elim (cases_lt next k) [
      | inl more ↦ (
          let then = at-least (underway.sorted.ordered next k more inside) in
          let first_key = greater (underway.sorted.ordered place next one.more (omega (arith, more, inside))) (one.beyond (omega (arith, more, inside))) in
          omega (arith, then, first_key)
          )
      | inr no_more ↦ (
          let same : next ≡ k = omega (arith, behind, no_more) in
          subst (λ (n : ℕ). here < key_at when (get_or order n 0)) same
          (greater (underway.sorted.ordered place next one.more (omega (arith, same, inside))) (one.beyond (omega (arith, same, inside))))
          )
    ]
      where
        at-least : {i j : ℕ} → IsEarlier when i j → key_at when i ≤ key_at when j
        at-least (inl less) = omega (arith, less)
        at-least (inr same) = omega (arith, same.0)

        greater : {i j : ℕ} → IsEarlier when i j → key_at when j ≢ key_at when i → key_at when i < key_at when j
        greater (inl less) other = less
        greater (inr same) other = absurd (other (sym same.0))

    -- the variables of the round
    abbrev group : List ℕ
    group = slice_range scratch.by_round place next

    group-length : length group ≡ next - place
    group-length = length-take (next - place) (drop place order) ∙ omega (arith, length-drop place order, one.inside)

    group-at : (k : ℕ) → k < next - place → get_or group k 0 ≡ get_or order (place + k) 0
    group-at k few = get_or-take (next - place) (drop place order) k 0 few ∙ get_or-drop place order k 0

    group-round : (i : ℕ) → is_listed group i ≡ true → key_at when i ≡ here
    group-round i there =
        let at = listed-place group i there in
        let few : at.0 < next - place = omega (arith, at.1, group-length) in
        ap (key_at when) (sym at.2 ∙ group-at at.0 few) ∙ one.same (place + at.0) (omega arith) (omega (arith, few))

    round-group : (i : ℕ) → key_at when i ≡ here → is_listed group i ≡ true
    round-group i is =
        let at = stands i (λ none. (underway.sorted.keyed (get_or order place 0)).0 (listed-at order place place-inside) (sym is ∙ none)) in
        let key : key_at when (get_or order at.0 0) ≡ here = ap (key_at when) at.2 ∙ is in
        elim (cases_lt at.0 place) [
          | inl early ↦ absurd (omega (arith, underway.below at.0 early at.1, key, underway.above place (omega arith) place-inside))
          | inr late ↦ elim (cases_lt at.0 next) [
            | inl few ↦ (
                let within : at.0 - place < next - place = omega (arith, few, late) in
                let same : place + (at.0 - place) ≡ at.0 = omega (arith, late) in
                subst (λ (n : ℕ). is_listed group n ≡ true) (group-at (at.0 - place) within ∙ (ap (λ (n : ℕ). get_or order n 0) same ∙ at.2))
                (listed-at group (at.0 - place) (omega (arith, within, group-length)))
                )
            | inr behind ↦ absurd (omega (arith, later at.0 behind at.1, key))
          ]
        ]

    group-ascends : Ascends 0 group
    group-ascends =
        ascends-of 0 group (λ k few. omega arith) (λ j k less few.
        let short : k < next - place = omega (arith, few, group-length) in
        number (underway.sorted.ordered (place + j) (place + k) (omega (arith, less)) (omega (arith, short, one.inside)))
        (one.same (place + j) (omega arith) (omega (arith, less, short))) (one.same (place + k) (omega arith) (omega (arith, short)))
        (group-at j (omega (arith, less, short))) (group-at k short))
      where
        ascends-of : (low : ℕ) (list : List ℕ) → ((k : ℕ) → k < length list → low ≤ get_or list k 0) → ((j k : ℕ) → j < k → k < length list → get_or list j 0 < get_or list k 0) → Ascends low list
        ascends-of low [] bound pairs = tt
        ascends-of low (x ∷ list) bound pairs =
            (bound 0 (omega arith), ascends-of (suc x) list (λ k few. pairs 0 (suc k) (omega arith) (omega (arith, few))) (λ j k less few. pairs (suc j) (suc k) (omega (arith, less)) (omega (arith, few))))

        number : {i j left right : ℕ} → IsEarlier when i j → key_at when i ≡ here → key_at when j ≡ here → left ≡ i → right ≡ j → left < right
        number (inl less) first_key second_key is_left is_right = absurd (omega (arith, less, first_key, second_key))
        number (inr same) first_key second_key is_left is_right = omega (arith, same.1, is_left, is_right)

    abbrev lacks : ℕ → Bool
    lacks var = not (admits (value_at b var) (bit_at scratch.state var))

    flips-are : AreRoundFlips when b scratch.state here flips
    flips-are = subst (AreRoundFlips when b scratch.state here) (sym marks) (record {
      once = ascends-once 0 (differing_variables b scratch.state group) (ascends-filter lacks 0 group group-ascends);
      only = λ i there. let is = filtered-is lacks group i there in (group-round i is.1, not-true _ is.0);
      all = λ i is lacking. is-filtered lacks group i (round-group i is) (not_from_false _ lacking);
    })

    settled-next : (net : List Driver) (input : List Bool) (a : List Tri) → AreRoundsOf net input a when b begun → IsSettledTo net input when b begun (suc here) (with_step_if_any underway.made flips) (state_after flips scratch.state)
    settled-next net input a rounds =
        settled-after rounds (settled-skip (underway.settled net input a rounds) (underway.above place (omega arith) place-inside) none)
        ((underway.sorted.keyed (get_or order place 0)).0 (listed-at order place place-inside)) flips-are
      where
        none : (i : ℕ) → key_at when i ≢ 0 → key_at when i < here → key_at when i < underway.round
        none i some less =
            let at = stands i some in
            let key : key_at when (get_or order at.0 0) ≡ key_at when i = ap (key_at when) at.2 in
            elim (cases_lt at.0 place) [
              | inl early ↦ omega (arith, underway.below at.0 early at.1, key)
              | inr late ↦ elim (cases_lt at.0 next) [
                | inl few ↦ absurd (omega (arith, one.same at.0 late few, key, less))
                | inr behind ↦ absurd (omega (arith, later at.0 behind at.1, key, less))
              ]
            ]

    -- a round has room, since no variable changes in two of them
    pub round-room : HasRoomForStep flips now
    round-room =
        let net = underway.asked.rounds.0 in
        let input = underway.asked.rounds.1 in
        let rounds = underway.asked.rounds.3 in
        let then = settled-next net input underway.asked.rounds.2 rounds in
        room-for-step flips now
        (room-left net input begun underway.made (length flips) (underway.settled net input underway.asked.rounds.2 rounds).run underway.steps underway.spent underway.asked.room
        (omega (arith, flips_per_variable net input begun (with_step_if_any underway.made flips) 1 then.run then.once, flips-after underway.made flips, rounds.long, rounds.rounds.long)))

    pub rounds-next : {last : ScratchState} {end : RunRecord} → last.by_round ≡ scratch.by_round → last.marked ≡ [] → last.state ≡ state_after flips scratch.state → end.steps ≡ with_step_if_any now.steps flips → Spends now end → AreRoundsUnderway when b begun first next last end
    rounds-next {last} {end} sorted marked state steps spent = record {
      asked = underway.asked;
      sorted = subst (IsInKeyOrder when) (sym sorted) underway.sorted;
      marked = marked;
      long = ap (length {A = Bool}) state ∙ (length-state_after flips scratch.state ∙ underway.long);
      made = with_step_if_any underway.made flips;
      steps = steps ∙ (ap (λ (list : List (List ℕ)). with_step_if_any list flips) underway.steps ∙ steps-after first.steps underway.made flips);
      spent = spends-more underway.spent spent;
      round = suc here;
      below = subst (λ (list : List ℕ). (k : ℕ) → k < next → k < length list → key_at when (get_or list k 0) < suc here) (sym sorted) (λ k few inside. elim (cases_lt k place) [
        | inl early ↦ omega (arith, underway.below k early inside, underway.above place (omega arith) place-inside)
        | inr late ↦ omega (arith, one.same k late few)
      ]);
      above = subst (λ (list : List ℕ). (k : ℕ) → next ≤ k → k < length list → suc here ≤ key_at when (get_or list k 0)) (sym sorted) later;
      settled = λ net input a rounds. subst (IsSettledTo net input when b begun (suc here) (with_step_if_any underway.made flips)) (sym state) (settled-next net input a rounds);
    }

  pub rounds-end : length scratch.by_round ≤ place → AreRoundsMade when b begun first.steps now.steps scratch.state
  rounds-end end = record {
    made = underway.made;
    whole = underway.steps;
    settling = λ net input a rounds. settled-end rounds (underway.settled net input a rounds) (λ i some.
        let at = stands i some in
        omega (arith, underway.below at.0 (omega (arith, at.1, end)) at.1, ap (key_at when) at.2));
  }
