-- Along every run that keeps the orders, and in which what is held stays, each word that is told covers the history of its variable: by
-- induction on the number of steps, so it does not matter what reads what.
use Rattle.std.proofs.Common.{◌≡◌, ℕ, zero, suc, ◌+◌, ◌<◌, ◌≤◌, Bool, true, false, List, [], ◌∷◌, map, length, take, get_or, All, refl, sym, ap, ◌∙◌, subst, arith, inl, inr}
use Rattle.hz_orders.proofs.Words.{cases_Bool, false≢true, slice_range, length-map, get_or-map, take-length, Kind, gate_value, Netlist, IsCircuit, IsWhole, Driver, External}
use Rattle.hz_orders.proofs.Words.{Function, Source, network_of, driver_at, bit_at, excitation, IsStableStart, Reads, wired-network_of, is_listed, length-part, at-part, IsRun}
use Rattle.hz_orders.proofs.Words.{state_after, Exact, Word, change_count, current_letters, change_between, walk_changes, capped_word, IsWithinCap, IsAtMost, constant_word}
use Rattle.hz_orders.proofs.Words.{input_word, reads-inside, changes_along, change-same, told_at, at_most-trans, Order, Keeps, advances, IsKeptAt, IsBoundUnder, IsEnoughUnder}
use Rattle.hz_orders.proofs.Words.{IsInductiveHolding, IsInductiveUnder}
use Rattle.std.proofs.lemmas.List.{ext_get_or}
use Rattle.hz_net.specs.Network.{driver_value}
use Rattle.hz_word.specs.Word.{first_letter}
use Rattle.hz_word.specs.Covers.{Covers}
use Rattle.hz_word.proofs.Longest.{first_letter-alternating}
use Rattle.hz_free.specs.VariableWords.{variable_history}
use Rattle.hz_free.proofs.Covered.{same-driver_value-input, source-place, function-place}
use Rattle.hz_free.proofs.Delays.{delay-before, constant-along, same-along, change_count-history, first_letter-history}
use Rattle.hz_word.proofs.AtMost.{at_most-less, at_most-zero, covers-at_most}
use Rattle.hz_orders.specs.Orders.{KeepsOrder}
use Rattle.hz_orders.proofs.Tracked.{tracked-along, Tracks}
use Rattle.hz_word.proofs.Stretched.{stretched, stretched_count, map-capped-stretched, AreWords-stretched, bound-stretched}

input_word-changes : (old new : Bool) → change_between old new ≡ change_count (input_word old new)
input_word-changes true true = refl
input_word-changes true false = refl
input_word-changes false true = refl
input_word-changes false false = refl

-- there are at most as many changes as steps
change_between-one : (a b : Bool) → change_between a b ≤ 1
change_between-one true true = omega arith
change_between-one true false = omega arith
change_between-one false true = omega arith
change_between-one false false = omega arith

changes-steps : (f : List Bool → Bool) (state : List Bool) (steps : List (List ℕ)) → changes_along f state steps ≤ length steps
changes-steps f state [] = omega arith
changes-steps f state (flips ∷ steps) =
    omega (arith, changes-steps f (state_after flips state) steps, change_between-one (f state) (f (state_after flips state)))

-- later there are no fewer changes
fewer-before : (f : List Bool → Bool) (state : List Bool) (steps : List (List ℕ)) (k : ℕ) → changes_along f state (take k steps) ≤ changes_along f state (take (suc k) steps)
fewer-before f state [] zero = omega arith
fewer-before f state [] (suc k) = omega arith
fewer-before f state (flips ∷ steps) zero = omega arith
fewer-before f state (flips ∷ steps) (suc k) = omega (arith, fewer-before f (state_after flips state) steps k)

-- a prefix of a prefix is one
pub take-take : (k' k : ℕ) (steps : List (List ℕ)) → (n : ℕ) × (take k' (take k steps) ≡ take n steps)
take-take zero k steps = (0, refl)
take-take (suc k') zero steps = (0, refl)
take-take (suc k') (suc k) [] = (0, refl)
take-take (suc k') (suc k) (flips ∷ steps) =
    let rest = take-take k' k steps in (suc rest.0, ap (λ (later : List (List ℕ)). flips ∷ later) rest.1)

-- wires that keep an order along a run keep it in the moves that track them
module _ (start : List Bool) (wire pins : ℕ) where
  kept-here : (steps : List (List ℕ)) (k : ℕ) (moves : List (List Bool)) (order : Order) → KeepsOrder start steps order → Tracks (λ s. slice_range s wire (wire + pins)) start (take k steps) moves → (k1 : ℕ) → IsKeptAt wire pins (advances (take k1 moves)) order
  kept-here steps k moves order keeps tracks k1 first second few few' is_first is_second much =
      let at = tracks k1 in
      let prefix = take-take at.0 k steps in
      let count : (j : ℕ) → j < pins → advances (take k1 moves) j ≡ change_count (variable_history start (take prefix.0 steps) (wire + j)) =
      λ j less.
      at.1 j
      ∙ (same-along (λ s. get_or (slice_range s wire (wire + pins)) j false) (λ s. bit_at s (wire + j)) start (take at.0 (take k steps)) (λ s. at-part s wire pins j false less)
      ∙ (ap (changes_along (λ s. bit_at s (wire + j)) start) prefix.1
      ∙ sym (change_count-history start (take prefix.0 steps) (wire + j)))) in
      let much' : order.nth ≤ change_count (variable_history start (take prefix.0 steps) order.second) =
      subst (λ (i : ℕ). order.nth ≤ change_count (variable_history start (take prefix.0 steps) i)) is_second
      (omega (arith, much, count second few')) in
      let some : 1 ≤ change_count (variable_history start (take prefix.0 steps) (wire + first)) =
      subst (λ (i : ℕ). 1 ≤ change_count (variable_history start (take prefix.0 steps) i)) (sym is_first) (keeps prefix.0 much') in
      omega (arith, some, count first few)

module _ (netlist : Netlist) (circuit : IsCircuit netlist) (netlist_whole : IsWhole netlist) (input start : List Bool) (begins : IsStableStart netlist start) (cap : ℕ) (held : List ℕ) (orders : List Order) (told : List Word) (is : IsInductiveHolding held orders (network_of netlist) input start cap told) (steps : List (List ℕ)) (run : IsRun (network_of netlist) input start steps) (keeps : Keeps orders start steps) where
  abbrev net : List Driver
  net = network_of netlist

  within : (i : ℕ) → i < length net → IsWithinCap cap (told_at told i).changes
  within i few = let long = is.long in is.counted i (constant_word false) (omega (arith, few, long))

  -- along the first steps a variable changes at most as often as it is told
  abbrev IsBounded : ℕ → ℕ → Type 0
  IsBounded k i = IsAtMost (Exact (changes_along (λ s. bit_at s i) start (take k steps))) (told_at told i).changes

  -- one step more: as often as its excitation so far, but for an input
  later : (k i : ℕ) → i < length net → changes_along (λ s. bit_at s i) start (take (suc k) steps) ≤ changes_along (λ s. excitation net input s i) start (take k steps) + change_between (bit_at start i) (excitation net input start i)
  later k i few = let long = begins.long in delay-before net input i start steps k (omega (arith, few, long)) run

  follows : (k i : ℕ) → i < length net → ((place : ℕ) → driver_at net i ≡ External place → ⊥) → changes_along (λ s. bit_at s i) start (take (suc k) steps) ≤ changes_along (λ s. excitation net input s i) start (take k steps)
  follows k i few no_input =
      let here : bit_at start i ≡ excitation net input start i =
      begins.stable i few ∙ same-driver_value-input (take netlist.inputs start) input start (driver_at net i) no_input in
      let none : change_between (bit_at start i) (excitation net input start i) ≡ 0 =
      rw here (change-same (excitation net input start i)) in
      let late = later k i few in
      omega arith

  bounded-input : (k i place : ℕ) → i < length net → driver_at net i ≡ External place → IsAtMost (Exact (change_count (input_word (bit_at start i) (bit_at input place)))) (told_at told i).changes → IsBounded (suc k) i
  bounded-input k i place few driven_by below =
      let late = later k i few in
      let constant = constant-along (λ s. excitation net input s i) (bit_at input place) start (take k steps) (λ s. ap (driver_value input s) driven_by) in
      let asked : excitation net input start i ≡ bit_at input place = ap (driver_value input start) driven_by in
      let same : change_between (bit_at start i) (excitation net input start i) ≡ change_between (bit_at start i) (bit_at input place) = rw asked refl in
      let counted = input_word-changes (bit_at start i) (bit_at input place) in
      at_most-less (changes_along (λ s. bit_at s i) start (take (suc k) steps)) (change_count (input_word (bit_at start i) (bit_at input place))) (told_at told i).changes (omega arith) below

  bounded-wire : (k i node : ℕ) → i < length net → driver_at net i ≡ Source node → IsAtMost (told_at told node).changes (told_at told i).changes → IsBounded k node → IsBounded (suc k) i
  bounded-wire k i node few driven_by below source =
      let late = follows k i few (λ place e. source-place node place (sym driven_by ∙ e)) in
      let same = same-along (λ s. excitation net input s i) (λ s. bit_at s node) start (take k steps) (λ s. ap (driver_value input s) driven_by) in
      at_most-trans (changes_along (λ s. bit_at s i) start (take (suc k) steps)) (told_at told node).changes (told_at told i).changes
      (at_most-less (changes_along (λ s. bit_at s i) start (take (suc k) steps)) (changes_along (λ s. bit_at s node) start (take k steps)) (told_at told node).changes (omega arith) source)
      below

  module _ (k i : ℕ) (kind : Kind) (first pins : ℕ) (few : i < length net) (driven_by : driver_at net i ≡ Function kind first pins) (wires : (j : ℕ) → j < pins → IsBounded k (first + j)) where
    -- what the wires are told, and words that are as long as the run needs
    abbrev parts : List Word
    parts = slice_range told first (first + pins)

    abbrev words : List (List Bool)
    words = map (stretched cap (length (take k steps))) (slice_range told first (first + pins))

    inside : (j : ℕ) → j < pins → first + j < length net
    inside j less = reads-inside net i (first + j) (wired-network_of netlist circuit)
        (subst (λ (driver : Driver). Reads driver (first + j)) (sym driven_by) (omega arith, omega arith))

    length-parts : length parts ≡ pins
    length-parts = let long = is.long in length-part told first pins (λ j less. omega (arith, inside j less))

    length-words : length words ≡ pins
    length-words = length-map parts (stretched cap (length (take k steps))) ∙ length-parts

    length-row : (state : List Bool) → length state ≡ length net → length (slice_range state first (first + pins)) ≡ length words
    length-row state there = length-part state first pins (λ j less. omega (arith, inside j less)) ∙ sym length-words

    at-parts : (j : ℕ) → j < pins → get_or parts j (constant_word false) ≡ told_at told (first + j)
    at-parts j less = at-part told first pins j (constant_word false) less

    at-words : (j : ℕ) → j < pins → get_or words j [] ≡ stretched cap (length (take k steps)) (told_at told (first + j))
    at-words j less =
        get_or-map (stretched cap (length (take k steps))) parts j (constant_word false) [] (omega (arith, less, length-parts))
        ∙ ap (stretched cap (length (take k steps))) (at-parts j less)

    capped-words : map (capped_word cap) words ≡ parts
    capped-words = map-capped-stretched cap (length (take k steps)) (constant_word false) parts (λ j less.
        let less' : j < pins = omega (arith, less, length-parts) in
        subst (λ (word : Word). IsWithinCap cap word.changes) (sym (at-parts j less')) (within (first + j) (inside j less')))

    present : current_letters words ≡ slice_range start first (first + pins)
    present = ext_get_or false (current_letters words) (slice_range start first (first + pins))
        (length-map words first_letter ∙ sym (length-row start begins.long))
        (λ j less.
        let less' : j < pins = omega (arith, less, length-map words first_letter, length-words) in
        get_or-map first_letter words j [] false (omega (arith, less', length-words))
        ∙ (ap first_letter (at-words j less')
        ∙ (first_letter-alternating (told_at told (first + j)).first (stretched_count cap (length (take k steps)) (told_at told (first + j)).changes)
        ∙ (is.begins (first + j) (inside j less') ∙ sym (at-part start first pins j false less')))))

    columns : (j : ℕ) → j < length words → changes_along (λ s. get_or (slice_range s first (first + pins)) j false) start (take k steps) ≤ change_count (get_or words j [])
    columns j less =
        let less' : j < pins = omega (arith, less, length-words) in
        let column = same-along (λ s. get_or (slice_range s first (first + pins)) j false) (λ s. bit_at s (first + j)) start (take k steps) (λ s. at-part s first pins j false less') in
        let word : change_count (get_or words j []) ≡ change_count (stretched cap (length (take k steps)) (told_at told (first + j))) = ap change_count (at-words j less') in
        let bound = bound-stretched cap (length (take k steps)) (changes_along (λ s. bit_at s (first + j)) start (take k steps)) (told_at told (first + j))
        (changes-steps (λ s. bit_at s (first + j)) start (take k steps)) (wires j less') in
        omega arith

    bounded-gate : IsBoundUnder orders kind first parts cap (told_at told i).changes → IsBounded (suc k) i
    bounded-gate bound =
        let late = follows k i few (λ place e. function-place kind first pins place (sym driven_by ∙ e)) in
        let same = same-along (λ s. excitation net input s i) (λ s. gate_value kind (slice_range s first (first + pins))) start (take k steps) (λ s. ap (driver_value input s) driven_by) in
        let are_words = AreWords-stretched cap (length (take k steps)) parts in
        let part = tracked-along (gate_value kind) (λ s. slice_range s first (first + pins)) (length net) words start (take k steps) are_words present begins.long length-row columns in
        let counted = part.2 in
        let kept : (k1 : ℕ) → k1 < length part.0 → All (λ order. IsKeptAt first (length words) (advances (take (suc k1) part.0)) order) orders =
        λ k1 few_moves at none less.
        subst (λ (n : ℕ). IsKeptAt first n (advances (take (suc k1) part.0)) (get_or orders at none)) (sym length-words)
        (kept-here start first pins steps k part.0 (get_or orders at none) (keeps at none less) part.3 (suc k1)) in
        at_most-less (changes_along (λ s. bit_at s i) start (take (suc k) steps)) (walk_changes (gate_value kind) words part.0) (told_at told i).changes (omega arith)
        (bound words are_words capped-words part.0 (record { part = part.1; kept = kept }))

  -- one step more for every variable
  one-more : (k i : ℕ) → i < length net → ((j : ℕ) → j < length net → IsBounded k j) → (driver : Driver) → driver_at net i ≡ driver → IsEnoughUnder orders input start cap told i driver (told_at told i).changes → IsBounded (suc k) i
  one-more k i few so_far (External place) driven_by enough = bounded-input k i place few driven_by enough
  one-more k i few so_far (Source node) driven_by enough =
      bounded-wire k i node few driven_by enough (so_far node ((wired-network_of netlist circuit).node_inside i node driven_by))
  one-more k i few so_far (Function kind first pins) driven_by enough =
      bounded-gate k i kind first pins few driven_by
      (λ j less. so_far (first + j) (reads-inside net i (first + j) (wired-network_of netlist circuit)
      (subst (λ (driver : Driver). Reads driver (first + j)) (sym driven_by) (omega arith, omega arith))))
      enough

  -- so far no held variable has changed
  abbrev pub Stay : ℕ → Type 0
  Stay k = (i : ℕ) → is_listed held i ≡ true → changes_along (λ s. bit_at s i) start (take k steps) ≡ 0

  stay-before : (k : ℕ) → Stay (suc k) → Stay k
  stay-before k stay i listed =
      let none = stay i listed in
      let fewer = fewer-before (λ s. bit_at s i) start steps k in
      omega arith

  step-bounded : (k i : ℕ) → i < length net → is_listed held i ≡ false → ((j : ℕ) → j < length net → IsBounded k j) → IsBounded (suc k) i
  step-bounded k i few free so_far = one-more k i few so_far (driver_at net i) refl (is.enough i few free)

  pub all-bounded : (k i : ℕ) → i < length net → Stay k → IsBounded k i
  all-bounded zero i few stay = at_most-zero (told_at told i).changes
  all-bounded (suc k) i few stay =
      elim (cases_Bool (is_listed held i)) [
        | inl listed ↦
            at_most-less (changes_along (λ s. bit_at s i) start (take (suc k) steps)) 0 (told_at told i).changes
            (let none = stay i listed in omega arith) (at_most-zero (told_at told i).changes)
        | inr free ↦ step-bounded k i few free (λ j less. all-bounded k j less (stay-before k stay))
      ]

  -- a variable that is not held is bounded one step longer
  pub next-bounded : (k i : ℕ) → i < length net → is_listed held i ≡ false → Stay k → IsBounded (suc k) i
  next-bounded k i few free stay = step-bounded k i few free (λ j less. all-bounded k j less stay)

  pub holding-covers : (i : ℕ) → i < length net → Stay (length steps) → Covers (told_at told i) (variable_history start steps i)
  holding-covers i few stay =
      let whole : changes_along (λ s. bit_at s i) start (take (length steps) steps) ≡ changes_along (λ s. bit_at s i) start steps = ap (changes_along (λ s. bit_at s i) start) (take-length steps) in
      let count = change_count-history start steps i in
      covers-at_most (told_at told i) (variable_history start steps i)
      (first_letter-history start steps i ∙ sym (is.begins i few))
      (at_most-less (change_count (variable_history start steps i)) (changes_along (λ s. bit_at s i) start (take (length steps) steps)) (told_at told i).changes (omega arith)
      (all-bounded (length steps) i few stay))

-- if nothing is held
pub none-held : (start : List Bool) (steps : List (List ℕ)) (k i : ℕ) → is_listed [] i ≡ true → changes_along (λ s. bit_at s i) start (take k steps) ≡ 0
none-held start steps k i listed = absurd (false≢true listed)

pub ordered-covers : (orders : List Order) (netlist : Netlist) (input start : List Bool) (cap : ℕ) (told : List Word) (i : ℕ) (steps : List (List ℕ)) → IsCircuit netlist → IsWhole netlist → IsStableStart netlist start → IsInductiveUnder orders (network_of netlist) input start cap told → i < length (network_of netlist) → IsRun (network_of netlist) input start steps → Keeps orders start steps → Covers (told_at told i) (variable_history start steps i)
ordered-covers orders netlist input start cap told i steps circuit whole begins is few run keeps =
    holding-covers netlist circuit whole input start begins cap [] orders told is steps run keeps i few (none-held start steps (length steps))

-- the first steps of a run keep what the run keeps
pub prefix-keeps : (orders : List Order) (start : List Bool) (steps : List (List ℕ)) (k : ℕ) → Keeps orders start steps → Keeps orders start (take k steps)
prefix-keeps orders start steps k keeps at none few k' much =
    let prefix = take-take k' k steps in
    let order = get_or orders at none in
    subst (λ (first : List (List ℕ)). 1 ≤ change_count (variable_history start first (get_or orders at none).first)) (sym prefix.1)
    (keeps at none few prefix.0 (subst (λ (first : List (List ℕ)). (get_or orders at none).nth ≤ change_count (variable_history start first (get_or orders at none).second)) prefix.1 much))
