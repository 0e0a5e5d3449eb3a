-- A word has a change exactly if Algorithm A makes its variable X.
use Rattle.std.proofs.Common.{◌≡◌, ◌≢◌, ◌↔◌, ℕ, zero, suc, ◌+◌, ◌<◌, ◌≤◌, ◌⊎◌, Bool, true, false, List, [], ◌∷◌, length, drop, get_or, IsTrue, refl, sym, ap, ◌∙◌, subst, arith, inl, inr}
use Rattle.std.specs.Prelude.{slice_range, take}
use Rattle.std.proofs.lemmas.Bool.{cases_Bool, cases_lt, false≢true, true≢false}
use Rattle.std.proofs.lemmas.List.{length-map, get_or-map}
use Rattle.hz_core.specs.declared.kind.Kind.{Kind}
use Rattle.hz_core.specs.declared.tri.Tri.{Tri}
use Rattle.hz_core.specs.declared.tri.Tri.TheVariants.{Zero, One, Unknown}
use Rattle.hz_core.specs.Ternary.{tri_of, join_of, admits, Refines, IsJoinOf}
use Rattle.hz_core.specs.Gate.{takes, gate_value, some_pin}
use Rattle.hz_core.specs.Extension.{extension, IsValueOver}
use Rattle.hz_core.specs.Netlist.{Netlist, IsCircuit, IsWhole}
use Rattle.hz_core.proofs.Extensions.{IsExtension-extension, gate_value-known}
use Rattle.hz_core.proofs.Refinements.{known-admits, admits-tri_of, get_or-Refines, length-Refines}
use Rattle.hz_net.specs.Network.{Driver, External, Function, Source, network_of, driver_at, driver_value3, bit_at, value_at, IsStable}
use Rattle.hz_net.specs.Passes.{excitations, algorithm_a, AreRounds}
use Rattle.hz_net.specs.Reads.{Reads}
use Rattle.hz_net.proofs.Wired.{wired-network_of}
use Rattle.hz_net.proofs.Excitations.{length-excitations, at-excitations, at-join_each}
use Rattle.hz_net.proofs.Sequences.{length-algorithm_a, start-refines, closed-result}
use Rattle.hz_lists.proofs.PartLemmas.{length-part, at-part}
use Rattle.hz_word.specs.Word.{IsWord, AreWords, first_letter, change_count}
use Rattle.hz_word.specs.Walk.{current_letters, after_move, IsWalk, change_between, walk_changes, IsWordOf}
use Rattle.hz_word.proofs.Longest.{takes-HasPins, part-IsWordOf}
use Rattle.hz_word.proofs.Moves.{after_move-AreWords}
use Rattle.hz_free.specs.Chains.{IsFeedbackFree}
use Rattle.hz_free.specs.VariableWords.{IsDrivenWord, input_word, AreVariableWords}
use Rattle.hz_free.proofs.Chains.{free-induction, reads-free, reads-inside}
use Rattle.hz_free.proofs.Delays.{change-same}
use Rattle.hz_free.proofs.Columns.{moved, moved-none, move-may, move-letters}
use Rattle.hz_free.proofs.Covered.{IsFollowed, free-followed, length-wires, takes-wires, wires-AreWords, wires-present}

-- joins
known-join : (set : Bool → Type 0) (value : Tri) (v : Bool) → IsJoinOf set value → ((b : Bool) → set b → b ≡ v) → value ≡ tri_of v
known-join set Zero true join same = absurd (false≢true (same false join.0))
known-join set Zero false join same = refl
known-join set One true join same = refl
known-join set One false join same = absurd (true≢false (same true join.0))
known-join set Unknown v join same = absurd (false≢true (same false join.0 ∙ sym (same true join.1)))

extension-constant : (kind : Kind) (pins : List Tri) (v : Bool) → ((bits : List Bool) → Refines bits pins → gate_value kind bits ≡ v) → extension kind pins ≡ tri_of v
extension-constant kind pins v same =
    known-join (IsValueOver kind pins) (extension kind pins) v (IsExtension-extension kind pins)
    (λ b found. sym found.2 ∙ same found.0 found.1)

join-same : (v : Bool) → join_of (tri_of v) (tri_of v) ≡ tri_of v
join-same true = refl
join-same false = refl

join-unknown : (t : Tri) → join_of t Unknown ≡ Unknown
join-unknown Zero = refl
join-unknown One = refl
join-unknown Unknown = refl

-- a value that admits a bit, and that a value joins which is not this bit
pub join-other : (a e : Tri) (v : Bool) → IsTrue (admits a v) → a ≡ join_of a e → e ≢ tri_of v → a ≡ Unknown
join-other Unknown e v admit closed ne = refl
join-other Zero Zero true admit closed ne = absurd (false≢true admit)
join-other Zero Zero false admit closed ne = absurd (ne refl)
join-other Zero One v admit closed ne = cc
join-other Zero Unknown v admit closed ne = cc
join-other One Zero v admit closed ne = cc
join-other One One true admit closed ne = absurd (ne refl)
join-other One One false admit closed ne = absurd (false≢true admit)
join-other One Unknown v admit closed ne = cc

pub tri_of-or-not : (e : Tri) (v : Bool) → (e ≡ tri_of v) ⊎ (e ≢ tri_of v)
tri_of-or-not Zero true = inr (λ e. cc)
tri_of-or-not Zero false = inl refl
tri_of-or-not One true = inl refl
tri_of-or-not One false = inr (λ e. cc)
tri_of-or-not Unknown true = inr (λ e. cc)
tri_of-or-not Unknown false = inr (λ e. cc)

known-not_unknown : (v : Bool) → tri_of v ≡ Unknown → ⊥
known-not_unknown true e = cc
known-not_unknown false e = cc

change-zero : (a b : Bool) → change_between a b ≡ 0 → a ≡ b
change-zero true true e = refl
change-zero true false e = absurd (omega arith)
change-zero false true e = absurd (omega arith)
change-zero false false e = refl

change-one : (a b : Bool) → change_between a b ≤ 1
change-one true true = omega arith
change-one true false = omega arith
change-one false true = omega arith
change-one false false = omega arith

-- values that admit all letters of words
abbrev pub AdmitsAll : Tri → List Bool → Type 0
AdmitsAll value [] = Unit {0}
AdmitsAll value (letter ∷ word) = IsTrue (admits value letter) × AdmitsAll value word

abbrev pub AdmitWords : List Tri → List (List Bool) → Type 0
AdmitWords [] [] = Unit {0}
AdmitWords [] (word ∷ words) = ⊥
AdmitWords (value ∷ values) [] = ⊥
AdmitWords (value ∷ values) (word ∷ words) = AdmitsAll value word × AdmitWords values words

admits-unknown : (b : Bool) → IsTrue (admits Unknown b)
admits-unknown true = refl
admits-unknown false = refl

pub admits_all-unknown : (word : List Bool) → AdmitsAll Unknown word
admits_all-unknown [] = tt
admits_all-unknown (letter ∷ word) = (admits-unknown letter, admits_all-unknown word)

admits_all-alone : (word : List Bool) (v : Bool) → IsWord word → change_count word ≡ 0 → first_letter word ≡ v → AdmitsAll (tri_of v) word
admits_all-alone [] v is_word none first = absurd is_word
admits_all-alone (letter ∷ []) v is_word none first = (subst (λ (b : Bool). IsTrue (admits (tri_of v) b)) (sym first) (admits-tri_of v), tt)
admits_all-alone (letter ∷ next ∷ rest) v is_word none first = absurd (omega arith)

admit-present : (values : List Tri) (words : List (List Bool)) → AreWords words → AdmitWords values words → Refines (current_letters words) values
admit-present [] [] are_words admit = tt
admit-present [] (word ∷ words) are_words admit = absurd admit
admit-present (value ∷ values) [] are_words admit = absurd admit
admit-present (value ∷ values) ([] ∷ words) are_words admit = absurd are_words.0
admit-present (value ∷ values) ((letter ∷ rest) ∷ words) are_words admit = (admit.0.0, admit-present values words are_words.1 admit.1)

admit-drop : (value : Tri) (word : List Bool) → AdmitsAll value word → AdmitsAll value (drop 1 word)
admit-drop value [] admit = tt
admit-drop value (letter ∷ word) admit = admit.1

admit-move : (values : List Tri) (words : List (List Bool)) (move : List Bool) → AdmitWords values words → AdmitWords values (after_move words move)
admit-move [] [] move admit = tt
admit-move [] (word ∷ words) move admit = absurd admit
admit-move (value ∷ values) [] move admit = absurd admit
admit-move (value ∷ values) (word ∷ words) [] admit = admit
admit-move (value ∷ values) (word ∷ words) (true ∷ move) admit = (admit-drop value word admit.0, admit-move values words move admit.1)
admit-move (value ∷ values) (word ∷ words) (false ∷ move) admit = (admit.0, admit-move values words move admit.1)

-- a gate that is constant on the values that the pins admit does not change along a walk
pub walk-constant : (kind : Kind) (values : List Tri) (v : Bool) (words moves : List (List Bool)) → AreWords words → AdmitWords values words → ((bits : List Bool) → Refines bits values → gate_value kind bits ≡ v) → IsWalk words moves → walk_changes (gate_value kind) words moves ≡ 0
walk-constant kind values v words [] are_words admit same walk = refl
walk-constant kind values v words (move ∷ moves) are_words admit same walk =
    let next_words = after_move-AreWords words move are_words walk.0.0 in
    let next_admit = admit-move values words move admit in
    let later = walk-constant kind values v (after_move words move) moves next_words next_admit same walk.1 in
    let here : change_between (gate_value kind (current_letters words)) (gate_value kind (current_letters (after_move words move))) ≡ 0 =
    rw (same (current_letters words) (admit-present values words are_words admit), same (current_letters (after_move words move)) (admit-present values (after_move words move) next_words next_admit)) (change-self v) in
    omega arith
  where
    change-self : (b : Bool) → change_between b b ≡ 0
    change-self true = refl
    change-self false = refl

-- words admitted element by element
pub admit-each : (values : List Tri) (words : List (List Bool)) → length values ≡ length words → ((k : ℕ) → k < length words → AdmitsAll (get_or values k Zero) (get_or words k [])) → AdmitWords values words
admit-each [] [] long each = tt
admit-each [] (word ∷ words) long each = absurd (omega arith)
admit-each (value ∷ values) [] long each = absurd (omega arith)
admit-each (value ∷ values) (word ∷ words) long each = (each 0 (omega arith), admit-each values words (omega arith) (λ k few. each (suc k) (omega arith)))

-- letters that words without a change leave as they are can all be come to by one move
one-move : (kind : Kind) (words : List (List Bool)) (word bits : List Bool) → AreWords words → IsTrue (takes kind (length words)) → IsWordOf kind words word → change_count word ≡ 0 → length bits ≡ length words → ((k : ℕ) → k < length words → change_between (get_or (current_letters words) k false) (get_or bits k false) ≤ change_count (get_or words k [])) → gate_value kind bits ≡ gate_value kind (current_letters words)
one-move kind words word bits are_words takes_words is_word none long bounds =
    let present_long : length (current_letters words) ≡ length words = length-map words first_letter in
    elim (cases_Bool (some_pin (moved (current_letters words) bits))) [
      | inr same ↦ ap (gate_value kind) (sym (moved-none (current_letters words) bits (present_long ∙ sym long) same))
      | inl some ↦
          let may = move-may words (current_letters words) bits present_long long bounds in
          let letters = move-letters words (current_letters words) bits are_words refl long may in
          let bound = part-IsWordOf kind words are_words (takes-HasPins kind (length words) takes_words) word is_word (moved (current_letters words) bits ∷ []) ((may, some), tt) in
          let zero_is : change_between (gate_value kind (current_letters words)) (gate_value kind (current_letters (after_move words (moved (current_letters words) bits)))) ≡ 0 = omega arith in
          sym (change-zero (gate_value kind (current_letters words)) (gate_value kind (current_letters (after_move words (moved (current_letters words) bits)))) zero_is ∙ ap (gate_value kind) letters)
    ]

input_word-same : (old new : Bool) → change_count (input_word old new) ≡ 0 → new ≡ old
input_word-same true true e = refl
input_word-same true false e = absurd (omega arith)
input_word-same false true e = absurd (omega arith)
input_word-same false false e = refl

pub input_word-differs : (old new : Bool) → 1 ≤ change_count (input_word old new) → tri_of new ≢ tri_of old
input_word-differs true true some e = absurd (omega arith)
input_word-differs true false some e = cc
input_word-differs false true some e = cc
input_word-differs false false some e = absurd (omega arith)

module _ (netlist : Netlist) (circuit : IsCircuit netlist) (netlist_whole : IsWhole netlist) (input start : List Bool) (whole : length start ≡ length (network_of netlist)) (stable : IsStable (network_of netlist) (take netlist.inputs start) start) (words : List (List Bool)) (are : AreVariableWords (network_of netlist) input start words) (rounds : ℕ) (are_rounds : AreRounds (algorithm_a (network_of netlist) input start) rounds) where
  -- a word without a change: the variable keeps its start in all rounds; a word with one: it is X in the result
  record IsAgreed (i : ℕ) : Type 0 where
    still : change_count (get_or words i []) ≡ 0 → (round : ℕ) → value_at (algorithm_a (network_of netlist) input start round) i ≡ tri_of (bit_at start i)
    moves : 1 ≤ change_count (get_or words i []) → value_at (algorithm_a (network_of netlist) input start rounds) i ≡ Unknown

  begin-value : (i : ℕ) → i < length (network_of netlist) → value_at (algorithm_a (network_of netlist) input start 0) i ≡ tri_of (bit_at start i)
  begin-value i few = get_or-map tri_of start i false Zero (omega arith)

  next-value : (round i : ℕ) → i < length (network_of netlist) → value_at (algorithm_a (network_of netlist) input start (suc round)) i ≡ join_of (value_at (algorithm_a (network_of netlist) input start round) i) (driver_value3 input (algorithm_a (network_of netlist) input start round) (driver_at (network_of netlist) i))
  next-value round i few =
      at-join_each (algorithm_a (network_of netlist) input start round) (excitations (network_of netlist) input (algorithm_a (network_of netlist) input start round))
      (length-algorithm_a (network_of netlist) input start whole round ∙ sym (length-excitations (network_of netlist) input (algorithm_a (network_of netlist) input start round))) i
      ∙ ap (join_of (value_at (algorithm_a (network_of netlist) input start round) i)) (at-excitations (network_of netlist) input (algorithm_a (network_of netlist) input start round) i few)

  closed-value : (i : ℕ) → i < length (network_of netlist) → value_at (algorithm_a (network_of netlist) input start rounds) i ≡ join_of (value_at (algorithm_a (network_of netlist) input start rounds) i) (driver_value3 input (algorithm_a (network_of netlist) input start rounds) (driver_at (network_of netlist) i))
  closed-value i few =
      let closed = closed-result (network_of netlist) input start rounds whole are_rounds in
      ap (λ (values : List Tri). value_at values i) closed.same
      ∙ (at-join_each (algorithm_a (network_of netlist) input start rounds) (excitations (network_of netlist) input (algorithm_a (network_of netlist) input start rounds))
      (length-algorithm_a (network_of netlist) input start whole rounds ∙ sym (length-excitations (network_of netlist) input (algorithm_a (network_of netlist) input start rounds))) i
      ∙ ap (join_of (value_at (algorithm_a (network_of netlist) input start rounds) i)) (at-excitations (network_of netlist) input (algorithm_a (network_of netlist) input start rounds) i few))

  start-admitted : (i : ℕ) → IsTrue (admits (value_at (algorithm_a (network_of netlist) input start rounds) i) (bit_at start i))
  start-admitted i = get_or-Refines start (algorithm_a (network_of netlist) input start rounds) (start-refines (network_of netlist) input start whole rounds) i

  -- a variable whose excitation is its start in all rounds keeps its start
  stays : (i : ℕ) → i < length (network_of netlist) → ((round : ℕ) → driver_value3 input (algorithm_a (network_of netlist) input start round) (driver_at (network_of netlist) i) ≡ tri_of (bit_at start i)) → (round : ℕ) → value_at (algorithm_a (network_of netlist) input start round) i ≡ tri_of (bit_at start i)
  stays i few asked zero = begin-value i few
  stays i few asked (suc round) =
      let before = stays i few asked round in
      next-value round i few ∙ (rw (before, asked round) (join-same (bit_at start i)))

  followed : (i : ℕ) → i < length (network_of netlist) → IsFeedbackFree (network_of netlist) i → IsFollowed start i (get_or words i [])
  followed i few free = free-followed netlist circuit input start whole stable words are netlist_whole i few free

  record-input : (i place : ℕ) → i < length (network_of netlist) → driver_at (network_of netlist) i ≡ External place → get_or words i [] ≡ input_word (bit_at start i) (bit_at input place) → IsAgreed i
  record-input i place few driven_by word_is = record {
    still = λ none.
        let same = input_word-same (bit_at start i) (bit_at input place) (sym (ap change_count word_is) ∙ none) in
        stays i few (λ round. ap (driver_value3 input (algorithm_a (network_of netlist) input start round)) driven_by ∙ ap tri_of same);
    moves = λ some.
        let counted : change_count (get_or words i []) ≡ change_count (input_word (bit_at start i) (bit_at input place)) = ap change_count word_is in
        let closed = closed-value i few ∙ ap (λ (driver : Driver). join_of (value_at (algorithm_a (network_of netlist) input start rounds) i) (driver_value3 input (algorithm_a (network_of netlist) input start rounds) driver)) driven_by in
        join-other (value_at (algorithm_a (network_of netlist) input start rounds) i) (tri_of (bit_at input place)) (bit_at start i) (start-admitted i) closed
        (input_word-differs (bit_at start i) (bit_at input place) (omega arith));
  }

  record-wire : (i node : ℕ) → i < length (network_of netlist) → IsFeedbackFree (network_of netlist) i → IsFeedbackFree (network_of netlist) node → node < length (network_of netlist) → driver_at (network_of netlist) i ≡ Source node → get_or words i [] ≡ get_or words node [] → IsAgreed node → IsAgreed i
  record-wire i node few free free_node few_node driven_by word_is agreed =
      let same_start : bit_at start node ≡ bit_at start i = sym (followed node few_node free_node).first ∙ (ap first_letter (sym word_is) ∙ (followed i few free).first) in
      record {
        still = λ none.
            let none' : change_count (get_or words node []) ≡ 0 = sym (ap change_count word_is) ∙ none in
            stays i few (λ round. ap (driver_value3 input (algorithm_a (network_of netlist) input start round)) driven_by ∙ (agreed.still none' round ∙ ap tri_of same_start));
        moves = λ some.
            let counted : change_count (get_or words i []) ≡ change_count (get_or words node []) = ap change_count word_is in
            let source_unknown = agreed.moves (omega arith) in
            closed-value i few
            ∙ (ap (λ (driver : Driver). join_of (value_at (algorithm_a (network_of netlist) input start rounds) i) (driver_value3 input (algorithm_a (network_of netlist) input start rounds) driver)) driven_by
            ∙ (ap (join_of (value_at (algorithm_a (network_of netlist) input start rounds) i)) source_unknown
            ∙ join-unknown (value_at (algorithm_a (network_of netlist) input start rounds) i)));
      }

  module _ (i : ℕ) (kind : Kind) (first pins : ℕ) (few : i < length (network_of netlist)) (driven_by : driver_at (network_of netlist) i ≡ Function kind first pins) (free : IsFeedbackFree (network_of netlist) i) (is_word : IsWordOf kind (slice_range words first (first + pins)) (get_or words i [])) (wire_followed : (k : ℕ) → k < pins → IsFollowed start (first + k) (get_or words (first + k) [])) (wire_agreed : (k : ℕ) → k < pins → IsAgreed (first + k)) where
    wires : List (List Bool)
    wires = slice_range words first (first + pins)

    wires-long : length (slice_range words first (first + pins)) ≡ pins
    wires-long = length-wires netlist circuit input start whole stable words are netlist_whole i kind first pins few driven_by

    wires-words : AreWords (slice_range words first (first + pins))
    wires-words = wires-AreWords netlist circuit input start whole stable words are netlist_whole i kind first pins few driven_by wire_followed

    wires-takes : IsTrue (takes kind (length (slice_range words first (first + pins))))
    wires-takes = takes-wires netlist circuit input start whole stable words are netlist_whole i kind first pins few driven_by

    present-start : current_letters (slice_range words first (first + pins)) ≡ slice_range start first (first + pins)
    present-start = wires-present netlist circuit input start whole stable words are netlist_whole i kind first pins few driven_by wire_followed

    -- the gate value of the first letters is the start
    start-value : gate_value kind (current_letters (slice_range words first (first + pins))) ≡ bit_at start i
    start-value = sym is_word.begins ∙ (followed i few free).first

    pins-of : List Tri → List Tri
    pins-of values = slice_range values first (first + pins)

    -- in each round the gate has its start value on all bits that the pins admit, if its word has no change
    still-bits : change_count (get_or words i []) ≡ 0 → (round : ℕ) (bits : List Bool) → Refines bits (slice_range (algorithm_a (network_of netlist) input start round) first (first + pins)) → gate_value kind bits ≡ bit_at start i
    still-bits none round bits refines =
        let values_long : length (algorithm_a (network_of netlist) input start round) ≡ length (network_of netlist) = length-algorithm_a (network_of netlist) input start whole round in
        let long : length bits ≡ length (slice_range words first (first + pins)) =
        length-Refines bits (slice_range (algorithm_a (network_of netlist) input start round) first (first + pins)) refines
        ∙ (length-part (algorithm_a (network_of netlist) input start round) first pins (λ k less. omega (arith, reads-inside (network_of netlist) i (first + k) (wired-network_of netlist circuit) (subst (λ (driver : Driver). Reads driver (first + k)) (sym driven_by) (omega arith, omega arith))))
        ∙ sym wires-long) in
        one-move kind (slice_range words first (first + pins)) (get_or words i []) bits wires-words wires-takes is_word none long
        (λ k less.
        let less' : k < pins = omega (arith, less, wires-long) in
        let word : change_count (get_or (slice_range words first (first + pins)) k []) ≡ change_count (get_or words (first + k) []) = ap change_count (at-part words first pins k [] less') in
        elim (cases_lt 0 (change_count (get_or words (first + k) []))) [
          | inl some ↦ let one = change-one (get_or (current_letters (slice_range words first (first + pins))) k false) (get_or bits k false) in omega arith
          | inr alone ↦
              let value = (wire_agreed k less').still (omega arith) round in
              let admitted : IsTrue (admits (tri_of (bit_at start (first + k))) (get_or bits k false)) =
              subst (λ (t : Tri). IsTrue (admits t (get_or bits k false))) (at-part (algorithm_a (network_of netlist) input start round) first pins k Zero less' ∙ value)
              (get_or-Refines bits (slice_range (algorithm_a (network_of netlist) input start round) first (first + pins)) refines k) in
              let bit : get_or bits k false ≡ bit_at start (first + k) = known-admits (bit_at start (first + k)) (get_or bits k false) admitted in
              let letter : get_or (current_letters (slice_range words first (first + pins))) k false ≡ bit_at start (first + k) = ap (λ (list : List Bool). get_or list k false) present-start ∙ at-part start first pins k false less' in
              let same : change_between (get_or (current_letters (slice_range words first (first + pins))) k false) (get_or bits k false) ≡ 0 = rw (letter, bit) (change-same (bit_at start (first + k))) in
              omega arith
        ])
        ∙ start-value

    -- the result admits all letters of the words of the wires
    result-admits : AdmitWords (slice_range (algorithm_a (network_of netlist) input start rounds) first (first + pins)) (slice_range words first (first + pins))
    result-admits =
        let values_long : length (algorithm_a (network_of netlist) input start rounds) ≡ length (network_of netlist) = length-algorithm_a (network_of netlist) input start whole rounds in
        admit-each (slice_range (algorithm_a (network_of netlist) input start rounds) first (first + pins)) (slice_range words first (first + pins))
        (length-part (algorithm_a (network_of netlist) input start rounds) first pins (λ k less. omega (arith, reads-inside (network_of netlist) i (first + k) (wired-network_of netlist circuit) (subst (λ (driver : Driver). Reads driver (first + k)) (sym driven_by) (omega arith, omega arith)))) ∙ sym wires-long)
        (λ k less.
        let less' : k < pins = omega (arith, less, wires-long) in
        subst (λ (w : List Bool). AdmitsAll (get_or (slice_range (algorithm_a (network_of netlist) input start rounds) first (first + pins)) k Zero) w) (sym (at-part words first pins k [] less'))
        (subst (λ (t : Tri). AdmitsAll t (get_or words (first + k) [])) (sym (at-part (algorithm_a (network_of netlist) input start rounds) first pins k Zero less'))
        (elim (cases_lt 0 (change_count (get_or words (first + k) []))) [
          | inl some ↦ subst (λ (t : Tri). AdmitsAll t (get_or words (first + k) [])) (sym ((wire_agreed k less').moves (omega arith))) (admits_all-unknown (get_or words (first + k) []))
          | inr alone ↦
              subst (λ (t : Tri). AdmitsAll t (get_or words (first + k) [])) (sym ((wire_agreed k less').still (omega arith) rounds))
              (admits_all-alone (get_or words (first + k) []) (bit_at start (first + k)) (wire_followed k less').is_word (omega arith) (wire_followed k less').first)
        ])))

    record-gate : IsAgreed i
    record-gate = record {
      still = λ none.
          stays i few (λ round.
          ap (driver_value3 input (algorithm_a (network_of netlist) input start round)) driven_by
          ∙ extension-constant kind (slice_range (algorithm_a (network_of netlist) input start round) first (first + pins)) (bit_at start i) (still-bits none round));
      moves = λ some.
          let closed = closed-value i few ∙ ap (λ (driver : Driver). join_of (value_at (algorithm_a (network_of netlist) input start rounds) i) (driver_value3 input (algorithm_a (network_of netlist) input start rounds) driver)) driven_by in
          elim (tri_of-or-not (extension kind (slice_range (algorithm_a (network_of netlist) input start rounds) first (first + pins))) (bit_at start i)) [
            | inr ne ↦ join-other (value_at (algorithm_a (network_of netlist) input start rounds) i) (extension kind (slice_range (algorithm_a (network_of netlist) input start rounds) first (first + pins))) (bit_at start i) (start-admitted i) closed ne
            | inl same ↦
                let attained = is_word.attained in
                let counted = attained.2 in
                let constant = walk-constant kind (slice_range (algorithm_a (network_of netlist) input start rounds) first (first + pins)) (bit_at start i) (slice_range words first (first + pins)) attained.0 wires-words result-admits
                (λ bits refines. gate_value-known kind (slice_range (algorithm_a (network_of netlist) input start rounds) first (first + pins)) bits (bit_at start i) same refines) attained.1 in
                absurd (omega arith)
          ];
    }

  agreed-by : (i : ℕ) → i < length (network_of netlist) → IsFeedbackFree (network_of netlist) i → (driver : Driver) → driver_at (network_of netlist) i ≡ driver → IsDrivenWord input start words i driver (get_or words i []) → ((j : ℕ) → Reads driver j → IsAgreed j) → IsAgreed i
  agreed-by i few free (External place) driven_by word_is reads = record-input i place few driven_by word_is
  agreed-by i few free (Source node) driven_by word_is reads =
      let reads_node : Reads (driver_at (network_of netlist) i) node = subst (λ (driver : Driver). Reads driver node) (sym driven_by) refl in
      record-wire i node few free (reads-free (network_of netlist) i node free reads_node) (reads-inside (network_of netlist) i node (wired-network_of netlist circuit) reads_node) driven_by word_is (reads node refl)
  agreed-by i few free (Function kind first pins) driven_by word_is reads =
      let reads_wire : (k : ℕ) → k < pins → Reads (driver_at (network_of netlist) i) (first + k) = λ k less. subst (λ (driver : Driver). Reads driver (first + k)) (sym driven_by) (omega arith, omega arith) in
      record-gate i kind first pins few driven_by free word_is
      (λ k less. followed (first + k) (reads-inside (network_of netlist) i (first + k) (wired-network_of netlist circuit) (reads_wire k less)) (reads-free (network_of netlist) i (first + k) free (reads_wire k less)))
      (λ k less. reads (first + k) (omega arith, omega arith))

  free-agreed : (i : ℕ) → i < length (network_of netlist) → IsFeedbackFree (network_of netlist) i → IsAgreed i
  free-agreed i few free =
      free-induction (network_of netlist) (wired-network_of netlist circuit) IsAgreed
      (λ j few_j free_j reads. agreed-by j few_j free_j (driver_at (network_of netlist) j) refl (are.each j few_j free_j) reads)
      i few free

  pub change-unknown : (i : ℕ) → i < length (network_of netlist) → IsFeedbackFree (network_of netlist) i → (1 ≤ change_count (get_or words i [])) ↔ (value_at (algorithm_a (network_of netlist) input start rounds) i ≡ Unknown)
  change-unknown i few free =
      let agreed = free-agreed i few free in (
        agreed.moves,
        λ unknown.
            elim (cases_lt 0 (change_count (get_or words i []))) [
              | inl some ↦ omega arith
              | inr none ↦ absurd (known-not_unknown (bit_at start i) (sym (agreed.still (omega arith) rounds) ∙ unknown))
            ],
      )
