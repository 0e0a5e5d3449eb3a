-- The word of a variable, once all that it reads have one.
use Rattle.std.proofs.Common.{◌≡◌, ℕ, zero, suc, ◌+◌, ◌<◌, ◌≤◌, Bool, true, false, List, [], ◌∷◌, map, length, get_or, Option, Some, None, All, IsTrue, slice_get, refl, sym, ap, ◌∙◌, subst, arith, inl, inr}
use Rattle.std.specs.Prelude.{slice_range}
use Rattle.std.specs.Bool.{nat_le}
use Rattle.std.proofs.lemmas.Bool.{cases_Bool, leb-true}
use Rattle.std.proofs.lemmas.List.{length-map, get_or-map, ext_get_or}
use Rattle.hz_core.specs.declared.kind.Kind.{Kind}
use Rattle.hz_core.specs.Gate.{takes}
use Rattle.hz_core.specs.Netlist.{Netlist, IsCircuit, IsWhole, variable_count}
use Rattle.hz_net.specs.Network.{Driver, External, Function, network_of, driver_at, bit_at}
use Rattle.hz_net.specs.Reads.{Reads}
use Rattle.hz_net.specs.Variables.{variable_kinds, first_wire}
use Rattle.hz_net.specs.Driven.{IsDrivenAs as IsDrivenInNet}
use Rattle.hz_net.specs.declared.variable.VarKind.{VarKind}
use Rattle.hz_net.specs.declared.variable.VarKind.TheVariants.{Input as InputKind, Gate as GateKind, Wire as WireKind}
use Rattle.hz_net.proofs.DrivenLemmas.{driven-as as net-driven-as}
use Rattle.hz_lists.proofs.PartLemmas.{length-part, at-part}
use Rattle.hz_word.proofs.Stretched.{counted-capped_count}
use Rattle.hz_word.specs.declared.word.Word.{Word}
use Rattle.hz_word.specs.Word.{IsWord, AreWords, change_count}
use Rattle.hz_word.specs.Capped.{capped_word, capped_count, IsWithinCap}
use Rattle.hz_free.specs.VariableWords.{IsDrivenWord, input_word}
use Rattle.hz_free.specs.CappedWords.{CanBeFolded, IsDrivenAs, IsReady, IsNextWord, HasCountedWord, IsGateWord}
use Rattle.hz_free.specs.declared.free.Folding.{Folding}
use Rattle.hz_gmw.proofs.Counts.{nodes-among}

-- an element that is there does not depend on the default
pub default-same : {X : Type 0} (xs : List X) (k : ℕ) (d e : X) → k < length xs → get_or xs k d ≡ get_or xs k e
default-same [] k d e few = absurd (omega arith)
default-same (x ∷ xs) zero d e few = refl
default-same (x ∷ xs) (suc k) d e few = default-same xs k d e (omega arith)

-- how a variable is driven, by what it is, in the words of this crate
pub driven-as : (netlist : Netlist) (var : ℕ) (kind : VarKind) → IsCircuit netlist → IsWhole netlist → var < length (network_of netlist) → slice_get (variable_kinds netlist) var ≡ Some kind → IsDrivenAs netlist var kind
driven-as netlist var kind circuit whole within seen = here kind (net-driven-as netlist var kind circuit whole within seen)
  where
    here : (kind : VarKind) → IsDrivenInNet netlist var kind → IsDrivenAs netlist var kind
    here (InputKind number) is = (is.driven, is.is_input)
    here (GateKind kind) is = (is.is_gate, is.driven, is.inside, is.takes_pins)
    here (WireKind gate pin source) is =
        (is.driven, let node = is.from_node in let above = is.above in omega (arith, node, above, within))

-- how a node is driven, by what it is
pub node-driven : (folding : Folding) (node : ℕ) (kind : VarKind) → CanBeFolded folding → node < length folding.net.now.names → slice_get (variable_kinds folding.net.now) node ≡ Some kind → IsDrivenAs folding.net.now node kind
node-driven folding node kind can few seen =
    driven-as folding.net.now node kind can.circuit can.whole (omega (arith, few, nodes-among folding.net.now can.circuit)) seen

-- words by their elements
pub AreWords-each : (words : List (List Bool)) → ((k : ℕ) → k < length words → IsWord (get_or words k [])) → AreWords words
AreWords-each [] each = tt
AreWords-each (word ∷ words) each = (each 0 (omega arith), AreWords-each words (λ k few. each (suc k) (omega arith)))

-- the word of an input
pub input_word-IsWord : (old new : Bool) → IsWord (input_word old new)
input_word-IsWord true true = tt
input_word-IsWord false false = tt
input_word-IsWord true false = (λ e. cc, tt)
input_word-IsWord false true = (λ e. cc, tt)

module _ (netlist : Netlist) (circuit : IsCircuit netlist) (input start : List Bool) (cap var : ℕ) (told : List (Option Word)) where
  reads-told : (ready : IsReady (network_of netlist) cap told var) → (j : ℕ) → Reads (driver_at (network_of netlist) var) j → get_or told j None ≡ Some (capped_word cap (get_or ready.words j []))
  reads-told ready j reads = ready.tells j reads

  -- an input
  pub next-input : (number : ℕ) (outcome : Word) → driver_at (network_of netlist) var ≡ External number → capped_word cap (input_word (bit_at start var) (bit_at input number)) ≡ outcome → IsNextWord (network_of netlist) input start cap told var outcome
  next-input number outcome driven same ready = (
    input_word (bit_at start var) (bit_at input number),
    input_word-IsWord (bit_at start var) (bit_at input number),
    subst (λ (driver : Driver). IsDrivenWord input start ready.words var driver (input_word (bit_at start var) (bit_at input number))) (sym driven) refl,
    same,
  )

  -- a gate
  module _ (kind : Kind) (first count : ℕ) (driven : driver_at (network_of netlist) var ≡ Function kind first count) (inside : first + count ≤ length (network_of netlist)) where
    wire-reads : (k : ℕ) → k < count → Reads (driver_at (network_of netlist) var) (first + k)
    wire-reads k few = subst (λ (driver : Driver). Reads driver (first + k)) (sym driven) (omega arith, omega arith)

    pub length-wires : IsReady (network_of netlist) cap told var → length (slice_range told first (first + count)) ≡ count
    length-wires ready = let long = ready.told_long in length-part told first count (λ k few. omega arith)

    at-wire : (ready : IsReady (network_of netlist) cap told var) (k : ℕ) (d : Option Word) → k < count → get_or (slice_range told first (first + count)) k d ≡ Some (capped_word cap (get_or ready.words (first + k) []))
    at-wire ready k d few =
        let long = length-wires ready in
        default-same (slice_range told first (first + count)) k d None (omega arith)
        ∙ (at-part told first count k None few ∙ reads-told ready (first + k) (wire-reads k few))

    pub counted-wires : IsReady (network_of netlist) cap told var → All (HasCountedWord cap) (slice_range told first (first + count))
    counted-wires ready = λ k d few.
        let long = length-wires ready in
        subst (HasCountedWord cap) (sym (at-wire ready k d (omega arith))) (counted-capped_count cap (change_count (get_or ready.words (first + k) [])))

    pub next-gate : (outcome : Word) → IsGateWord kind (slice_range told first (first + count)) cap outcome → IsNextWord (network_of netlist) input start cap told var outcome
    next-gate outcome is_gate ready =
        let words = slice_range ready.words first (first + count) in
        let words_long = ready.long in
        let long_words : length (slice_range ready.words first (first + count)) ≡ count = length-part ready.words first count (λ k few. omega arith) in
        let long_told = length-wires ready in
        let are_words : AreWords (slice_range ready.words first (first + count)) = AreWords-each (slice_range ready.words first (first + count)) (λ k few.
        subst (λ (word : List Bool). IsWord word) (sym (at-part ready.words first count k [] (omega arith)))
        (ready.is_word (first + k) (wire-reads k (omega arith)))) in
        let same : map (λ (word : List Bool). Some (capped_word cap word)) (slice_range ready.words first (first + count)) ≡ slice_range told first (first + count) =
        ext_get_or None (map (λ (word : List Bool). Some (capped_word cap word)) (slice_range ready.words first (first + count))) (slice_range told first (first + count))
        (length-map (slice_range ready.words first (first + count)) (λ (word : List Bool). Some (capped_word cap word)) ∙ (long_words ∙ sym long_told))
        (λ k few.
        let less : k < count = omega (arith, few, length-map (slice_range ready.words first (first + count)) (λ (word : List Bool). Some (capped_word cap word))) in
        get_or-map (λ (word : List Bool). Some (capped_word cap word)) (slice_range ready.words first (first + count)) k [] None (omega arith)
        ∙ (ap (λ (word : List Bool). Some (capped_word cap word)) (at-part ready.words first count k [] less) ∙ sym (at-wire ready k None less))) in
        let made = is_gate (slice_range ready.words first (first + count)) are_words same in (
          made.0,
          made.1.is_word,
          subst (λ (driver : Driver). IsDrivenWord input start ready.words var driver made.0) (sym driven) made.1,
          made.2,
        )

-- the driver of a gate by the numbers that are read
pub driven-at : (net : List Driver) (var : ℕ) (kind : Kind) (first count read_first read_count : ℕ) → driver_at net var ≡ Function kind first count → read_first ≡ first → read_count ≡ count → driver_at net var ≡ Function kind read_first read_count
driven-at net var kind first count read_first read_count driven e f =
    driven ∙ (ap (λ (n : ℕ). Function kind n count) (sym e) ∙ ap (λ (n : ℕ). Function kind read_first n) (sym f))
