-- Along every run each word that is told covers the history of its variable: by induction on the number of steps, so it
-- does not matter what reads what.
use Rattle.std.proofs.Common.{◌≡◌, ℕ, zero, suc, ◌+◌, ◌<◌, ◌≤◌, Bool, true, false, List, [], ◌∷◌, map, length, take, get_or, IsTrue, refl, sym, ap, ◌∙◌, subst, arith}
use Rattle.std.specs.Prelude.{slice_range}
use Rattle.std.proofs.lemmas.List.{ext_get_or, length-map, get_or-map}
use Rattle.std.proofs.Math.Seq.{take-length}
use Rattle.hz_core.specs.declared.kind.Kind.{Kind}
use Rattle.hz_core.specs.Gate.{takes, gate_value}
use Rattle.hz_core.specs.Netlist.{Netlist, IsCircuit, IsWhole, gate_at}
use Rattle.hz_core.proofs.CircuitLemmas.{takes-at_gate}
use Rattle.hz_net.specs.Network.{Driver, External, Function, Source, network_of, driver_at, driver_value, bit_at, excitation}
use Rattle.hz_net.specs.Starts.{IsStableStart}
use Rattle.hz_net.specs.Reads.{Reads}
use Rattle.hz_net.proofs.Wired.{wired-network_of, is_gate_of}
use Rattle.hz_lists.proofs.PartLemmas.{length-part, at-part}
use Rattle.hz_gmw.specs.Runs.{IsRun, state_after}
use Rattle.hz_word.specs.declared.count.Count.TheVariants.{Exact}
use Rattle.hz_word.specs.declared.word.Word.{Word}
use Rattle.hz_word.specs.Word.{first_letter, change_count}
use Rattle.hz_word.specs.Walk.{current_letters, change_between}
use Rattle.hz_word.specs.Capped.{capped_word, capped_count, IsWithinCap, IsAtMost, IsFold}
use Rattle.hz_word.specs.Covers.{Covers}
use Rattle.hz_word.specs.Pairs.{constant_word}
use Rattle.hz_word.proofs.Longest.{takes-HasPins, part-IsWordOf, first_letter-alternating}
use Rattle.hz_free.specs.VariableWords.{input_word, variable_history}
use Rattle.hz_free.proofs.Chains.{reads-inside}
use Rattle.hz_free.proofs.Covered.{same-driver_value-input, source-place, function-place}
use Rattle.hz_free.proofs.Delays.{delay-before, changes_along, change-same, constant-along, same-along, change_count-history, first_letter-history}
use Rattle.hz_free.proofs.Columns.{part-along}
use Rattle.hz_free.specs.Inductive.{told_at, GivesWord, IsInductive}
use Rattle.hz_word.proofs.AtMost.{at_most-trans, at_most-less, at_most-capped, at_most-zero, covers-at_most}
use Rattle.hz_word.proofs.Stretched.{stretched, stretched_count, map-capped-stretched, AreWords-stretched, bound-stretched}

input_word-changes : (old new : Bool) → change_between old new ≡ change_count (input_word old new)
input_word-changes true true = refl
input_word-changes true false = refl
input_word-changes false true = refl
input_word-changes false false = refl

-- there are at most as many changes as steps
change_between-one : (a b : Bool) → change_between a b ≤ 1
change_between-one true true = omega arith
change_between-one true false = omega arith
change_between-one false true = omega arith
change_between-one false false = omega arith

changes-steps : (f : List Bool → Bool) (state : List Bool) (steps : List (List ℕ)) → changes_along f state steps ≤ length steps
changes-steps f state [] = omega arith
changes-steps f state (flips ∷ steps) =
    omega (arith, changes-steps f (state_after flips state) steps, change_between-one (f state) (f (state_after flips state)))

module _ (netlist : Netlist) (circuit : IsCircuit netlist) (netlist_whole : IsWhole netlist) (input start : List Bool) (begins : IsStableStart netlist start) (cap : ℕ) (told : List Word) (is : IsInductive (network_of netlist) input start cap told) (steps : List (List ℕ)) (run : IsRun (network_of netlist) input start steps) where
  abbrev net : List Driver
  net = network_of netlist

  within : (i : ℕ) → i < length net → IsWithinCap cap (told_at told i).changes
  within i few = let long = is.long in is.counted i (constant_word false) (omega (arith, few, long))

  -- along the first steps a variable changes at most as often as it is told
  abbrev IsBounded : ℕ → ℕ → Type 0
  IsBounded k i = IsAtMost (Exact (changes_along (λ s. bit_at s i) start (take k steps))) (told_at told i).changes

  -- one step more: as often as its excitation so far, but for an input
  later : (k i : ℕ) → i < length net → changes_along (λ s. bit_at s i) start (take (suc k) steps) ≤ changes_along (λ s. excitation net input s i) start (take k steps) + change_between (bit_at start i) (excitation net input start i)
  later k i few = let long = begins.long in delay-before net input i start steps k (omega (arith, few, long)) run

  follows : (k i : ℕ) → i < length net → ((place : ℕ) → driver_at net i ≡ External place → ⊥) → changes_along (λ s. bit_at s i) start (take (suc k) steps) ≤ changes_along (λ s. excitation net input s i) start (take k steps)
  follows k i few no_input =
      let here : bit_at start i ≡ excitation net input start i =
      begins.stable i few ∙ same-driver_value-input (take netlist.inputs start) input start (driver_at net i) no_input in
      let none : change_between (bit_at start i) (excitation net input start i) ≡ 0 =
      rw here (change-same (excitation net input start i)) in
      let late = later k i few in
      omega arith

  bounded-input : (k i place : ℕ) → i < length net → driver_at net i ≡ External place → IsAtMost (capped_count cap (change_count (input_word (bit_at start i) (bit_at input place)))) (told_at told i).changes → IsBounded (suc k) i
  bounded-input k i place few driven_by below =
      let late = later k i few in
      let constant = constant-along (λ s. excitation net input s i) (bit_at input place) start (take k steps) (λ s. ap (driver_value input s) driven_by) in
      let asked : excitation net input start i ≡ bit_at input place = ap (driver_value input start) driven_by in
      let same : change_between (bit_at start i) (excitation net input start i) ≡ change_between (bit_at start i) (bit_at input place) = rw asked refl in
      let counted = input_word-changes (bit_at start i) (bit_at input place) in
      at_most-trans (changes_along (λ s. bit_at s i) start (take (suc k) steps)) (capped_count cap (change_count (input_word (bit_at start i) (bit_at input place)))) (told_at told i).changes
      (at_most-capped cap (changes_along (λ s. bit_at s i) start (take (suc k) steps)) (change_count (input_word (bit_at start i) (bit_at input place))) (omega arith))
      below

  bounded-wire : (k i node : ℕ) → i < length net → driver_at net i ≡ Source node → IsAtMost (told_at told node).changes (told_at told i).changes → IsBounded k node → IsBounded (suc k) i
  bounded-wire k i node few driven_by below source =
      let late = follows k i few (λ place e. source-place node place (sym driven_by ∙ e)) in
      let same = same-along (λ s. excitation net input s i) (λ s. bit_at s node) start (take k steps) (λ s. ap (driver_value input s) driven_by) in
      at_most-trans (changes_along (λ s. bit_at s i) start (take (suc k) steps)) (told_at told node).changes (told_at told i).changes
      (at_most-less (changes_along (λ s. bit_at s i) start (take (suc k) steps)) (changes_along (λ s. bit_at s node) start (take k steps)) (told_at told node).changes (omega arith) source)
      below

  module _ (k i : ℕ) (kind : Kind) (first pins : ℕ) (few : i < length net) (driven_by : driver_at net i ≡ Function kind first pins) (wires : (j : ℕ) → j < pins → IsBounded k (first + j)) where
    -- what the wires are told, and words that are as long as the run needs
    abbrev parts : List Word
    parts = slice_range told first (first + pins)

    abbrev words : List (List Bool)
    words = map (stretched cap (length (take k steps))) (slice_range told first (first + pins))

    inside : (j : ℕ) → j < pins → first + j < length net
    inside j less = reads-inside net i (first + j) (wired-network_of netlist circuit)
        (subst (λ (driver : Driver). Reads driver (first + j)) (sym driven_by) (omega arith, omega arith))

    length-parts : length parts ≡ pins
    length-parts = let long = is.long in length-part told first pins (λ j less. omega (arith, inside j less))

    length-words : length words ≡ pins
    length-words = length-map parts (stretched cap (length (take k steps))) ∙ length-parts

    length-row : (state : List Bool) → length state ≡ length net → length (slice_range state first (first + pins)) ≡ length words
    length-row state there = length-part state first pins (λ j less. omega (arith, inside j less)) ∙ sym length-words

    at-parts : (j : ℕ) → j < pins → get_or parts j (constant_word false) ≡ told_at told (first + j)
    at-parts j less = at-part told first pins j (constant_word false) less

    at-words : (j : ℕ) → j < pins → get_or words j [] ≡ stretched cap (length (take k steps)) (told_at told (first + j))
    at-words j less =
        get_or-map (stretched cap (length (take k steps))) parts j (constant_word false) [] (omega (arith, less, length-parts))
        ∙ ap (stretched cap (length (take k steps))) (at-parts j less)

    capped-words : map (capped_word cap) words ≡ parts
    capped-words = map-capped-stretched cap (length (take k steps)) (constant_word false) parts (λ j less.
        let less' : j < pins = omega (arith, less, length-parts) in
        subst (λ (word : Word). IsWithinCap cap word.changes) (sym (at-parts j less')) (within (first + j) (inside j less')))

    present : current_letters words ≡ slice_range start first (first + pins)
    present = ext_get_or false (current_letters words) (slice_range start first (first + pins))
        (length-map words first_letter ∙ sym (length-row start begins.long))
        (λ j less.
        let less' : j < pins = omega (arith, less, length-map words first_letter, length-words) in
        get_or-map first_letter words j [] false (omega (arith, less', length-words))
        ∙ (ap first_letter (at-words j less')
        ∙ (first_letter-alternating (told_at told (first + j)).first (stretched_count cap (length (take k steps)) (told_at told (first + j)).changes)
        ∙ ((is.each (first + j) (inside j less')).begins ∙ sym (at-part start first pins j false less')))))

    takes-words : IsTrue (takes kind (length words))
    takes-words =
        let gate = is_gate_of netlist circuit i kind first pins driven_by in
        subst (λ (n : ℕ). IsTrue (takes kind n)) (gate.pins_are ∙ sym length-words)
        (subst (λ (k : Kind). IsTrue (takes k (length (gate_at netlist i).sources))) gate.same_kind (takes-at_gate netlist i circuit netlist_whole gate.is_gate))

    columns : (j : ℕ) → j < length words → changes_along (λ s. get_or (slice_range s first (first + pins)) j false) start (take k steps) ≤ change_count (get_or words j [])
    columns j less =
        let less' : j < pins = omega (arith, less, length-words) in
        let column = same-along (λ s. get_or (slice_range s first (first + pins)) j false) (λ s. bit_at s (first + j)) start (take k steps) (λ s. at-part s first pins j false less') in
        let word : change_count (get_or words j []) ≡ change_count (stretched cap (length (take k steps)) (told_at told (first + j))) = ap change_count (at-words j less') in
        let bound = bound-stretched cap (length (take k steps)) (changes_along (λ s. bit_at s (first + j)) start (take k steps)) (told_at told (first + j))
        (changes-steps (λ s. bit_at s (first + j)) start (take k steps)) (wires j less') in
        omega arith

    bounded-gate : (given : Word) → IsFold kind parts cap given → IsAtMost given.changes (told_at told i).changes → IsBounded (suc k) i
    bounded-gate given is_fold below =
        let late = follows k i few (λ place e. function-place kind first pins place (sym driven_by ∙ e)) in
        let same = same-along (λ s. excitation net input s i) (λ s. gate_value kind (slice_range s first (first + pins))) start (take k steps) (λ s. ap (driver_value input s) driven_by) in
        let are_words = AreWords-stretched cap (length (take k steps)) parts in
        let part = part-along (gate_value kind) (λ s. slice_range s first (first + pins)) (length net) words start (take k steps) are_words present begins.long length-row columns in
        let counted = part.2 in
        let made = is_fold words are_words capped-words in
        let bound = part-IsWordOf kind words are_words (takes-HasPins kind (length words) takes-words) made.0 made.1 part.0 part.1 in
        at_most-trans (changes_along (λ s. bit_at s i) start (take (suc k) steps)) given.changes (told_at told i).changes
        (subst (λ (word : Word). IsAtMost (Exact (changes_along (λ s. bit_at s i) start (take (suc k) steps))) word.changes) made.2
        (at_most-capped cap (changes_along (λ s. bit_at s i) start (take (suc k) steps)) (change_count made.0) (omega arith)))
        below

  -- one step more for every variable
  one-more : (k i : ℕ) → i < length net → ((j : ℕ) → j < length net → IsBounded k j) → (driver : Driver) → driver_at net i ≡ driver → (given : Word) → GivesWord input start cap told i driver given → IsAtMost given.changes (told_at told i).changes → IsBounded (suc k) i
  one-more k i few so_far (External place) driven_by given gives below =
      bounded-input k i place few driven_by (subst (λ (word : Word). IsAtMost word.changes (told_at told i).changes) gives below)
  one-more k i few so_far (Source node) driven_by given gives below =
      bounded-wire k i node few driven_by (subst (λ (word : Word). IsAtMost word.changes (told_at told i).changes) gives below)
      (so_far node ((wired-network_of netlist circuit).node_inside i node driven_by))
  one-more k i few so_far (Function kind first pins) driven_by given gives below =
      bounded-gate k i kind first pins few driven_by
      (λ j less. so_far (first + j) (reads-inside net i (first + j) (wired-network_of netlist circuit)
      (subst (λ (driver : Driver). Reads driver (first + j)) (sym driven_by) (omega arith, omega arith))))
      given gives below

  all-bounded : (k i : ℕ) → i < length net → IsBounded k i
  all-bounded zero i few = at_most-zero (told_at told i).changes
  all-bounded (suc k) i few =
      let each = is.each i few in
      one-more k i few (λ j less. all-bounded k j less) (driver_at net i) refl each.given each.gives each.enough

  pub inductive-covers : (i : ℕ) → i < length net → Covers (told_at told i) (variable_history start steps i)
  inductive-covers i few =
      let whole : changes_along (λ s. bit_at s i) start (take (length steps) steps) ≡ changes_along (λ s. bit_at s i) start steps = ap (changes_along (λ s. bit_at s i) start) (take-length steps) in
      let count = change_count-history start steps i in
      covers-at_most (told_at told i) (variable_history start steps i)
      (first_letter-history start steps i ∙ sym (is.each i few).begins)
      (at_most-less (change_count (variable_history start steps i)) (changes_along (λ s. bit_at s i) start (take (length steps) steps)) (told_at told i).changes (omega arith)
      (all-bounded (length steps) i few))
