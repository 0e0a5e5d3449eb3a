-- The words of dumps have bytes, and no white ones.
use Rattle.std.proofs.Common.{◌≡◌, ◌∙◌, ℕ, zero, suc, ◌+◌, ◌<◌, ◌≤◌, ◌^◌, ◌/◌, ◌%◌, Bool, true, false, List, [], ◌∷◌, ◌++◌, map, length, refl, ap, arith, inl, inr, decimal, nat_le, ◌&&◌}
use Rattle.std.specs.List.{list_all}
use Rattle.std.specs.Int.Digits.{digits_of, AllBelowBase}
use Rattle.std.proofs.lemmas.Bool.{cases_lt, and_parts, leb-true}
use Rattle.std.proofs.lemmas.Int.Digits.{digits_of_step, all_below_base_digits_of}
use Rattle.std.proofs.lemmas.List.Folds.{list_all-append}
use Rattle.hz_core.specs.Netlist.{Netlist, IsCircuit, IsName, variable_count, node_name, is_name_byte}
use Rattle.hz_net.specs.Network.{network_of}
use Rattle.hz_net.proofs.Places.{length-network_of}
use Rattle.hz_text.specs.Printed.{letter_of}
use Rattle.hz_text.specs.VariableWord.{variable_word, wire_word}
use Rattle.hz_text.proofs.DecimalLemmas.{decimal-digits, digits-name}
use Rattle.hz_text.proofs.VariableWords.{wire_at, variable_word-node, variable_word-wire, wire_is_pin, pin-bound}
use Rattle.hz_vcd.specs.Code.{code_digits, code_of}
use Rattle.hz_vcd.specs.Word.{is_filled}
use Rattle.hz_vcd.specs.Dump.{value_word, time_word, reference_of}
use Rattle.hz_vcd.proofs.WordLemmas.{is_dark, dark-above, dark-bytes, IsWord, IsWord-cons}

dark-digits : (digits : List ℕ) → AllBelowBase 94 digits → list_all is_dark (map (λ digit. 33 + digit) digits) ≡ true
dark-digits [] below = refl
dark-digits (digit ∷ digits) below = rw (dark-above (33 + digit) (omega arith), dark-digits digits below.1) refl

pub code-dark : (var : ℕ) → list_all is_dark (code_of var) ≡ true
unfolding code_of code_digits
code-dark zero = refl
code-dark (suc var) = dark-digits (digits_of 94 (suc var)) (all_below_base_digits_of 94 (suc var) (omega arith))

-- bytes of names are above the space
name-above : (byte : ℕ) → is_name_byte byte ≡ true → 33 ≤ byte
name-above byte is = leb-true 33 byte (and_parts (nat_le 33 byte) (nat_le byte 126) (and_parts (nat_le 33 byte && nat_le byte 126) _ is).0).0

pub decimal-dark : (n : ℕ) → n < 2 ^ 64 → list_all is_dark (decimal n) ≡ true
decimal-dark n small = dark-bytes is_name_byte name-above (decimal n) (digits-name (decimal n) (decimal-digits n small))

filled-map : (f : ℕ → ℕ) (front : List ℕ) (last : ℕ) → is_filled (map f (front ++ last ∷ [])) ≡ true
filled-map f [] last = refl
filled-map f (first ∷ front) last = refl

code-filled : (var : ℕ) → is_filled (code_of var) ≡ true
unfolding code_of code_digits
code-filled zero = refl
code-filled (suc var) =
    let f : ℕ → ℕ = λ digit. 33 + digit in
    ap (λ (digits : List ℕ). is_filled (map f digits)) (digits_of_step 94 (suc var) (omega arith) (omega arith))
    ∙ filled-map f (digits_of 94 (suc var / 94)) (suc var % 94)

pub IsWord-code : (var : ℕ) → IsWord (code_of var)
IsWord-code var = record { filled = code-filled var; dark = code-dark var }

pub IsWord-value : (var : ℕ) (bit : Bool) → IsWord (value_word var bit)
IsWord-value var bit = IsWord-cons (letter_of bit) (code_of var) (letter bit) (code-dark var)
  where
    letter : (bit : Bool) → 33 ≤ letter_of bit
    letter false = omega arith
    letter true = omega arith

pub IsWord-time : (time : ℕ) → time < 2 ^ 64 → IsWord (time_word time)
IsWord-time time small = IsWord-cons 35 (decimal time) (omega arith) (decimal-dark time small)

name-dark : (netlist : Netlist) (node : ℕ) → IsCircuit netlist → node < length netlist.names → list_all is_dark (node_name netlist.names node) ≡ true
name-dark netlist node circuit there =
    let is : IsName (node_name netlist.names node) = circuit.names node [] there in
    dark-bytes is_name_byte name-above (node_name netlist.names node) is.bytes

wire-dark : (netlist : Netlist) (var : ℕ) → IsCircuit netlist → length netlist.names ≤ var → var < variable_count netlist → list_all is_dark (wire_word netlist (wire_at netlist var)) ≡ true
unfolding wire_word
wire-dark netlist var circuit above below =
    let wire = wire_at netlist var in
    let at = wire_is_pin netlist var circuit above below in
    let name = node_name netlist.names wire.gate in
    let digits = decimal (wire.pin + 1) in
    let small : wire.pin + 1 < 2 ^ 64 = omega (arith, pin-bound netlist var wire.gate wire.pin circuit at) in
    let is_gate = at.is_gate in
    rw (
      list_all-append is_dark (name ++ 40 ∷ digits) (41 ∷ []),
      list_all-append is_dark name (40 ∷ digits),
      name-dark netlist wire.gate circuit is_gate.1,
      decimal-dark (wire.pin + 1) small,
    ) refl

variable-dark : (netlist : Netlist) (var : ℕ) → IsCircuit netlist → var < length (network_of netlist) → list_all is_dark (variable_word netlist var) ≡ true
variable-dark netlist var circuit there =
    let below : var < variable_count netlist = omega (arith, there, length-network_of netlist circuit) in
    elim (cases_lt var (length netlist.names)) [
      | inl within ↦ ap (list_all is_dark) (variable_word-node netlist var within) ∙ name-dark netlist var circuit within
      | inr above ↦ ap (list_all is_dark) (variable_word-wire netlist var above below) ∙ wire-dark netlist var circuit above below
    ]

pub IsWord-reference : (netlist : Netlist) (var : ℕ) → IsCircuit netlist → var < length (network_of netlist) → IsWord (reference_of netlist var)
IsWord-reference netlist var circuit there = IsWord-cons 92 (variable_word netlist var) (omega arith) (variable-dark netlist var circuit there)
