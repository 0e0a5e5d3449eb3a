-- The elements of statements that have no fault make a circuit.
use Rattle.std.proofs.Common.{◌≡◌, ◌∙◌, ℕ, true, false, not, List, [], ◌∷◌, Option, None, Some, length, refl, sym, arith, ◌==◌}
use Rattle.std.specs.List.{AllByRecursion, list_all, list_any}
use Rattle.std.specs.Str.{bytes_eq}
use Rattle.std.proofs.lemmas.Bool.Decides.{nat_tests}
use Rattle.hz_core.specs.declared.kind.Kind.{Kind}
use Rattle.hz_core.specs.Netlist.{IsName, is_name_byte}
use Rattle.hz_core.proofs.CircuitLemmas.{bounds-from_takes}
use Rattle.hz_line.specs.Byte.{is_word_byte}
use Rattle.hz_line.specs.Token.{IsWordToken}
use Rattle.hz_line.proofs.WrittenLemmas.{both, is_word_byte-is}
use Rattle.hz_netlist.specs.Build.{AreKnown, AreWired, HasNodeName, HasRightPins, UsesKnown}
use Rattle.hz_netlist.specs.Circuit.{node_names}
use Rattle.hz_netlist.specs.Element as element
use Rattle.hz_bench.specs.Netlist.{data_name, elements_of, kind_of}
use Rattle.hz_bench.specs.Statement.{Statement, Input, Output, FlipFlop, Gate, has_long_name, has_unknown_kind, has_wrong_pins, is_long, name_of}
use Rattle.hz_netlist.proofs.Tests.{either, not-false}
use Rattle.hz_bench.proofs.CheckedLemmas.{IsChecked, UsesNames}

-- word bytes may stand in a name
name_bytes : (word : List ℕ) → list_all is_word_byte word ≡ true → list_all is_name_byte word ≡ true
name_bytes [] h = refl
name_bytes (byte ∷ word) h =
    let parts = both (is_word_byte byte) _ h in
    let this : is_name_byte byte ≡ true = sym (is_word_byte-is byte) ∙ parts.0 in
    rw (this, name_bytes word parts.1) refl

-- a word that is not too long is a name
IsName-word : (name : List ℕ) → IsWordToken name → is_long name ≡ false → IsName name
IsName-word name word h =
    record { some = omega (arith, word.some); short = grind (arith, nat_tests, h); bytes = name_bytes name word.letters }

-- the name that a statement begins with is a word
abbrev pub Worded : Statement → Type 0
Worded statement = IsWordToken (name_of statement)

named : (statements : List Statement) → AllByRecursion Worded statements → AllByRecursion (λ statement. has_long_name statement ≡ false) statements → AllByRecursion HasNodeName (elements_of statements)
named [] words short = tt
named (Input name ∷ rest) words short = (IsName-word name words.0 (either (is_long name) _ short.0).0, named rest words.1 short.1)
named (Output name ∷ rest) words short = (tt, named rest words.1 short.1)
named (FlipFlop name sources ∷ rest) words short = (IsName-word name words.0 (either (is_long name) _ short.0).0, named rest words.1 short.1)
named (Gate name kind sources ∷ rest) words short = (IsName-word name words.0 (either (is_long name) _ short.0).0, named rest words.1 short.1)

-- the pins of a gate whose kind is known, and takes them
gate_pins : (name : List ℕ) (kind : Option Kind) (sources : List (List ℕ)) → has_unknown_kind (Gate name kind sources) ≡ false → has_wrong_pins (Gate name kind sources) ≡ false → HasRightPins (element.Gate name (kind_of kind) sources)
gate_pins name None sources known right = cc
gate_pins name (Some kind) sources known right = bounds-from_takes kind (length sources) (not-false _ right)

right : (statements : List Statement) → AllByRecursion (λ statement. has_unknown_kind statement ≡ false) statements → AllByRecursion (λ statement. has_wrong_pins statement ≡ false) statements → AllByRecursion HasRightPins (elements_of statements)
right [] known pins = tt
right (Input name ∷ rest) known pins = (tt, right rest known.1 pins.1)
right (Output name ∷ rest) known pins = (tt, right rest known.1 pins.1)
right (FlipFlop name sources ∷ rest) known pins = (tt, right rest known.1 pins.1)
right (Gate name kind sources ∷ rest) known pins = (gate_pins name kind sources known.0 pins.0, right rest known.1 pins.1)

-- the one name that a flip-flop reads is known
data_known : (names sources : List (List ℕ)) → not (length sources == 1) ≡ false → AreKnown names sources → list_any (bytes_eq (data_name sources)) names ≡ true
data_known names [] one known = cc
data_known names (source ∷ rest) one known = known.0

uses : (names : List (List ℕ)) (statements : List Statement) → AllByRecursion (λ statement. has_wrong_pins statement ≡ false) statements → AllByRecursion (UsesNames names) statements → AllByRecursion (UsesKnown names) (elements_of statements)
uses names [] pins known = tt
uses names (Input name ∷ rest) pins known = (tt, uses names rest pins.1 known.1)
uses names (Output name ∷ rest) pins known = (known.0.0, uses names rest pins.1 known.1)
uses names (FlipFlop name sources ∷ rest) pins known = (data_known names sources pins.0 known.0, uses names rest pins.1 known.1)
uses names (Gate name kind sources ∷ rest) pins known = (known.0, uses names rest pins.1 known.1)

-- the elements of checked statements make a circuit
pub wired : (statements : List Statement) → AllByRecursion Worded statements → IsChecked statements → AreWired (elements_of statements)
wired statements words h = record {
  named = named statements words h.short;
  inputs_apart = h.inputs_apart;
  cuts_apart = h.cuts_apart;
  gates_apart = h.gates_apart;
  pins = right statements h.known h.pins;
  defined = uses (node_names (elements_of statements)) statements h.pins h.defined;
  few = h.few;
}
