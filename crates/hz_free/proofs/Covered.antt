-- The words of the feedback-free variables are words, and begin as the variables at the start.
use Rattle.std.proofs.Common.{◌≡◌, ℕ, ◌+◌, ◌<◌, Bool, true, false, List, [], length, get_or, IsTrue, refl, sym, ap, ◌∙◌, subst, arith}
use Rattle.std.specs.Prelude.{slice_range, take}
use Rattle.std.proofs.lemmas.List.{ext_get_or, length-map, get_or-map}
use Rattle.hz_core.specs.declared.kind.Kind.{Kind}
use Rattle.hz_core.specs.Gate.{takes, gate_value}
use Rattle.hz_core.specs.Netlist.{Netlist, IsCircuit, IsWhole, gate_at}
use Rattle.hz_core.proofs.CircuitLemmas.{takes-at_gate}
use Rattle.hz_net.specs.Network.{Driver, External, Function, Source, network_of, driver_at, driver_value, bit_at, excitation, IsStable}
use Rattle.hz_net.specs.Reads.{Reads, IsWired}
use Rattle.hz_net.proofs.Wired.{wired-network_of, is_gate_of}
use Rattle.hz_lists.proofs.PartLemmas.{length-part, at-part}
use Rattle.hz_word.specs.Word.{IsWord, AreWords, first_letter}
use Rattle.hz_word.specs.Walk.{current_letters, IsWordOf}
use Rattle.hz_free.specs.Chains.{IsFeedbackFree}
use Rattle.hz_free.specs.VariableWords.{IsDrivenWord, input_word, AreVariableWords}
use Rattle.hz_free.proofs.Chains.{free-induction, reads-inside}
use Rattle.hz_free.proofs.NextWord.{input_word-IsWord, AreWords-each}

-- what a variable that is no input asks for does not depend on the input
pub same-driver_value-input : (input other state : List Bool) (driver : Driver) → ((place : ℕ) → driver ≡ External place → ⊥) → driver_value input state driver ≡ driver_value other state driver
same-driver_value-input input other state (External place) no_input = absurd (no_input place refl)
same-driver_value-input input other state (Function kind first pins) no_input = refl
same-driver_value-input input other state (Source node) no_input = refl

input_word-first : (old new : Bool) → first_letter (input_word old new) ≡ old
input_word-first true true = refl
input_word-first true false = refl
input_word-first false true = refl
input_word-first false false = refl

pub source-place : (node place : ℕ) → Source node ≡ External place → ⊥
source-place node place e = cc

pub function-place : (kind : Kind) (first pins place : ℕ) → Function kind first pins ≡ External place → ⊥
function-place kind first pins place e = cc

-- a word that begins as a variable
pub record IsFollowed (start : List Bool) (i : ℕ) (word : List Bool) : Type 0 where
  pub is_word : IsWord word
  pub first : first_letter word ≡ bit_at start i

module _ (netlist : Netlist) (circuit : IsCircuit netlist) (input start : List Bool) (whole : length start ≡ length (network_of netlist)) (stable : IsStable (network_of netlist) (take netlist.inputs start) start) (words : List (List Bool)) (are : AreVariableWords (network_of netlist) input start words) where
  wired : IsWired (network_of netlist)
  wired = wired-network_of netlist circuit

  abbrev word_at : ℕ → List Bool
  word_at i = get_or words i []

  Is : ℕ → Type 0
  Is i = IsFollowed start i (get_or words i [])

  -- a variable that is no input begins with the value that it asks for
  begins-stable : (i : ℕ) → i < length (network_of netlist) → ((place : ℕ) → driver_at (network_of netlist) i ≡ External place → ⊥) → bit_at start i ≡ excitation (network_of netlist) input start i
  begins-stable i few no_input =
      stable i few ∙ same-driver_value-input (take netlist.inputs start) input start (driver_at (network_of netlist) i) no_input

  follows-input : (i place : ℕ) → i < length (network_of netlist) → driver_at (network_of netlist) i ≡ External place → get_or words i [] ≡ input_word (bit_at start i) (bit_at input place) → IsFollowed start i (get_or words i [])
  follows-input i place few driven_by word_is =
      subst (λ (w : List Bool). IsFollowed start i w) (sym word_is) (record {
        is_word = input_word-IsWord (bit_at start i) (bit_at input place);
        first = input_word-first (bit_at start i) (bit_at input place);
      })

  follows-wire : (i node : ℕ) → i < length (network_of netlist) → driver_at (network_of netlist) i ≡ Source node → get_or words i [] ≡ get_or words node [] → IsFollowed start node (get_or words node []) → IsFollowed start i (get_or words i [])
  follows-wire i node few driven_by word_is source =
      let no_input : (place : ℕ) → driver_at (network_of netlist) i ≡ External place → ⊥ = λ place e. source-place node place (sym driven_by ∙ e) in
      subst (λ (w : List Bool). IsFollowed start i w) (sym word_is) (record {
        is_word = source.is_word;
        first = source.first ∙ sym (begins-stable i few no_input ∙ ap (driver_value input start) driven_by);
      })

  module _ (netlist_whole : IsWhole netlist) where
    module _ (i : ℕ) (kind : Kind) (first pins : ℕ) (few : i < length (network_of netlist)) (driven_by : driver_at (network_of netlist) i ≡ Function kind first pins) where
      -- the words of the wires
      abbrev wires : List (List Bool)
      wires = slice_range words first (first + pins)

      wire-reads : (k : ℕ) → k < pins → Reads (driver_at (network_of netlist) i) (first + k)
      wire-reads k less = subst (λ (driver : Driver). Reads driver (first + k)) (sym driven_by) (omega arith, omega arith)

      wire-inside : (k : ℕ) → k < pins → first + k < length (network_of netlist)
      wire-inside k less = reads-inside (network_of netlist) i (first + k) wired (wire-reads k less)

      pub length-wires : length (slice_range words first (first + pins)) ≡ pins
      length-wires = let long = are.long in length-part words first pins (λ k less. omega (arith, wire-inside k less))

      length-row : (state : List Bool) → length state ≡ length (network_of netlist) → length (slice_range state first (first + pins)) ≡ length (slice_range words first (first + pins))
      length-row state there = length-part state first pins (λ k less. omega (arith, wire-inside k less)) ∙ sym length-wires

      pub takes-wires : IsTrue (takes kind (length (slice_range words first (first + pins))))
      takes-wires =
          let gate = is_gate_of netlist circuit i kind first pins driven_by in
          subst (λ (n : ℕ). IsTrue (takes kind n)) (gate.pins_are ∙ sym length-wires)
          (subst (λ (k : Kind). IsTrue (takes k (length (gate_at netlist i).sources))) gate.same_kind (takes-at_gate netlist i circuit netlist_whole gate.is_gate))

      module _ (followed : (k : ℕ) → k < pins → IsFollowed start (first + k) (get_or words (first + k) [])) where
        pub wires-AreWords : AreWords (slice_range words first (first + pins))
        wires-AreWords = AreWords-each (slice_range words first (first + pins)) (λ k less.
            let less' : k < pins = omega (arith, less, length-wires) in
            subst (λ (w : List Bool). IsWord w) (sym (at-part words first pins k [] less')) (followed k less').is_word)

        pub wires-present : current_letters (slice_range words first (first + pins)) ≡ slice_range start first (first + pins)
        wires-present = ext_get_or false (current_letters (slice_range words first (first + pins))) (slice_range start first (first + pins))
            (length-map (slice_range words first (first + pins)) first_letter ∙ sym (length-row start whole))
            (λ k less.
            let less' : k < pins = omega (arith, less, length-map (slice_range words first (first + pins)) first_letter, length-wires) in
            get_or-map first_letter (slice_range words first (first + pins)) k [] false (omega (arith, less', length-wires))
            ∙ (ap first_letter (at-part words first pins k [] less')
            ∙ ((followed k less').first ∙ sym (at-part start first pins k false less'))))

        follows-gate : IsWordOf kind (slice_range words first (first + pins)) (get_or words i []) → IsFollowed start i (get_or words i [])
        follows-gate is_word =
            let no_input : (place : ℕ) → driver_at (network_of netlist) i ≡ External place → ⊥ = λ place e. function-place kind first pins place (sym driven_by ∙ e) in
            record {
              is_word = is_word.is_word;
              first = is_word.begins ∙ (ap (gate_value kind) wires-present ∙ sym (begins-stable i few no_input ∙ ap (driver_value input start) driven_by));
            }

    -- every feedback-free variable
    follows-by : (i : ℕ) → i < length (network_of netlist) → (driver : Driver) → driver_at (network_of netlist) i ≡ driver → IsDrivenWord input start words i driver (get_or words i []) → ((j : ℕ) → Reads driver j → IsFollowed start j (get_or words j [])) → IsFollowed start i (get_or words i [])
    follows-by i few (External place) driven_by word_is reads = follows-input i place few driven_by word_is
    follows-by i few (Source node) driven_by word_is reads = follows-wire i node few driven_by word_is (reads node refl)
    follows-by i few (Function kind first pins) driven_by word_is reads =
        follows-gate i kind first pins few driven_by (λ k less. reads (first + k) (omega arith, omega arith)) word_is

    pub free-followed : (i : ℕ) → i < length (network_of netlist) → IsFeedbackFree (network_of netlist) i → IsFollowed start i (get_or words i [])
    free-followed i few free =
        free-induction (network_of netlist) wired (λ j. IsFollowed start j (get_or words j []))
        (λ j few_j free_j reads. follows-by j few_j (driver_at (network_of netlist) j) refl (are.each j few_j free_j) reads)
        i few free
