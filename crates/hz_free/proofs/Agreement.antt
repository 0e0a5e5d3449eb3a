-- The words agree with the passes: a word ends with B's value, and it has a change exactly where A is X.
use Rattle.std.proofs.Common.{◌≡◌, ℕ, zero, suc, ◌+◌, ◌-◌, ◌<◌, Bool, true, false, List, [], map, length, get_or, refl, sym, ap, ◌∙◌, subst, arith}
use Rattle.std.specs.Prelude.{slice_range}
use Rattle.std.proofs.lemmas.List.{ext_get_or, length-map, get_or-map}
use Rattle.hz_core.specs.declared.tri.Tri.{Tri}
use Rattle.hz_core.specs.declared.tri.Tri.TheVariants.{Zero}
use Rattle.hz_core.specs.Ternary.{tri_of}
use Rattle.hz_core.specs.Extension.{extension}
use Rattle.hz_core.specs.Netlist.{Netlist, IsCircuit}
use Rattle.hz_core.proofs.Extensions.{extension-map}
use Rattle.hz_net.specs.Network.{Driver, External, Function, Source, network_of, driver_at, driver_value3, bit_at, value_at}
use Rattle.hz_net.specs.Passes.{excitations, algorithm_b, AreRounds}
use Rattle.hz_net.specs.Reads.{Reads}
use Rattle.hz_net.proofs.Wired.{wired-network_of}
use Rattle.hz_net.proofs.Excitations.{at-excitations}
use Rattle.hz_net.proofs.Sequences.{length-algorithm_b}
use Rattle.hz_lists.proofs.PartLemmas.{length-part, at-part}
use Rattle.hz_word.specs.Word.{last_letter}
use Rattle.hz_free.specs.Chains.{IsFeedbackFree}
use Rattle.hz_free.specs.VariableWords.{IsDrivenWord, input_word, AreVariableWords}
use Rattle.hz_free.proofs.Chains.{free-induction, reads-inside}
use Rattle.hz_free.proofs.LastLetters.{last-IsWordOf}

input_word-last : (old new : Bool) → last_letter (input_word old new) ≡ new
input_word-last true true = refl
input_word-last true false = refl
input_word-last false true = refl
input_word-last false false = refl

-- a ternary state that Algorithm B leaves as it is
pub record IsFixed (net : List Driver) (input : List Bool) (values : List Tri) : Type 0 where
  pub long : length values ≡ length net
  pub same : values ≡ excitations net input values

-- the result of Algorithm B is one
pub fixed-result : (net : List Driver) (input : List Bool) (first : List Tri) (rounds : ℕ) → length first ≡ length net → AreRounds (algorithm_b net input first) rounds → IsFixed net input (algorithm_b net input first rounds)
fixed-result net input first zero long are = absurd (let some = are.some in omega arith)
fixed-result net input first (suc round) long are =
    let last : suc round - 1 ≡ round = omega arith in
    let settled : algorithm_b net input first (suc round) ≡ algorithm_b net input first round = are.settled ∙ ap (algorithm_b net input first) last in
    record {
      long = length-algorithm_b net input first long (suc round);
      same = ap (excitations net input) (sym settled);
    }

module _ (netlist : Netlist) (circuit : IsCircuit netlist) (input start : List Bool) (words : List (List Bool)) (are : AreVariableWords (network_of netlist) input start words) where
  module _ (b : List Tri) (fixed : IsFixed (network_of netlist) input b) where
    ends-by : (i : ℕ) → i < length (network_of netlist) → (driver : Driver) → driver_at (network_of netlist) i ≡ driver → IsDrivenWord input start words i driver (get_or words i []) → ((j : ℕ) → Reads driver j → value_at b j ≡ tri_of (last_letter (get_or words j []))) → driver_value3 input b driver ≡ tri_of (last_letter (get_or words i []))
    ends-by i few (External place) driven_by word_is reads =
        ap tri_of (sym (ap last_letter word_is ∙ input_word-last (bit_at start i) (bit_at input place)))
    ends-by i few (Source node) driven_by word_is reads = reads node refl ∙ ap (λ (w : List Bool). tri_of (last_letter w)) (sym word_is)
    ends-by i few (Function kind first pins) driven_by word_is reads =
        let inside : (k : ℕ) → k < pins → first + k < length (network_of netlist) = λ k less.
        reads-inside (network_of netlist) i (first + k) (wired-network_of netlist circuit) (subst (λ (driver : Driver). Reads driver (first + k)) (sym driven_by) (omega arith, omega arith)) in
        let words_long = are.long in
        let b_long = fixed.long in
        let long_words = length-part words first pins (λ k less. omega (arith, inside k less)) in
        let long_b = length-part b first pins (λ k less. omega (arith, inside k less)) in
        let wires = slice_range words first (first + pins) in
        let same : slice_range b first (first + pins) ≡ map tri_of (map last_letter (slice_range words first (first + pins))) =
        ext_get_or Zero (slice_range b first (first + pins)) (map tri_of (map last_letter (slice_range words first (first + pins))))
        (long_b ∙ sym (length-map (map last_letter (slice_range words first (first + pins))) tri_of ∙ (length-map (slice_range words first (first + pins)) last_letter ∙ long_words)))
        (λ k less.
        let less' : k < pins = omega (arith, less, long_b) in
        at-part b first pins k Zero less'
        ∙ (reads (first + k) (omega arith, omega arith)
        ∙ sym (get_or-map tri_of (map last_letter (slice_range words first (first + pins))) k false Zero (omega (arith, less', long_words, length-map (slice_range words first (first + pins)) last_letter))
        ∙ ap tri_of (get_or-map last_letter (slice_range words first (first + pins)) k [] false (omega (arith, less', long_words))
        ∙ ap last_letter (at-part words first pins k [] less'))))) in
        ap (extension kind) same
        ∙ (extension-map kind (map last_letter (slice_range words first (first + pins)))
        ∙ ap tri_of (sym (last-IsWordOf kind (slice_range words first (first + pins)) (get_or words i []) word_is)))

    pub free-ends : (i : ℕ) → i < length (network_of netlist) → IsFeedbackFree (network_of netlist) i → value_at b i ≡ tri_of (last_letter (get_or words i []))
    free-ends i few free =
        free-induction (network_of netlist) (wired-network_of netlist circuit) (λ j. value_at b j ≡ tri_of (last_letter (get_or words j [])))
        (λ j few_j free_j reads.
        ap (λ (values : List Tri). value_at values j) fixed.same
        ∙ (at-excitations (network_of netlist) input b j few_j
        ∙ ends-by j few_j (driver_at (network_of netlist) j) refl (are.each j few_j free_j) reads))
        i few free
