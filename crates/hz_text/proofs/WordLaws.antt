-- The tokens of printed assignments.
use Rattle.std.proofs.Common.{◌≡◌, ◌∙◌, ℕ, ◌<◌, Bool, true, false, List, [], ◌∷◌, ◌++◌, Some, length, map, refl, ap, arith, append_assoc}
use Rattle.std.specs.List.{list_all, flat_map, All}
use Rattle.std.specs.Option.{option_map}
use Rattle.std.proofs.lemmas.List.Folds.{list_all-append}
use Rattle.std.proofs.lemmas.List.Elements.{All-head, All-tail}
use Rattle.hz_core.specs.Netlist.{Netlist, IsName, IsCircuit, node_name, is_name_byte}
use Rattle.hz_line.specs.declared.bytes.Punctuation.TheVariants.{Equals}
use Rattle.hz_line.specs.Byte.{class_of, is_word_byte}
use Rattle.hz_line.specs.Token.{TokenOf, WordOf, PunctuationOf, tokens_of, with_token, begins_in_word}
use Rattle.hz_line.proofs.WrittenLemmas.{is_word_byte-is, word_bytes, tokens_of-equals, tokens_of-space, is_word_byte-separators, tokens_of-word_before, is_inline}
use Rattle.hz_text.specs.Assignment.{Assignment, assignments_of}
use Rattle.hz_text.specs.Printed.{letter_of, assignment_text}

letter_word : (bit : Bool) → (list_all is_word_byte (letter_of bit ∷ []) ≡ true) × (is_inline (letter_of bit) ≡ true)
unfolding class_of
letter_word true = (refl, refl)
letter_word false = (refl, refl)

-- the tokens of assignments
abbrev pub pair_tokens : Netlist → List (ℕ × Bool) → List TokenOf
pair_tokens netlist [] = []
pair_tokens netlist (pair ∷ pairs) = WordOf (node_name netlist.names pair.0) ∷ PunctuationOf Equals ∷ WordOf (letter_of pair.1 ∷ []) ∷ pair_tokens netlist pairs

-- the pairs name nodes
abbrev pub AreNodes : Netlist → List (ℕ × Bool) → Type 0
AreNodes netlist pairs = All (λ pair. pair.0 < length netlist.names) pairs

pub no_word : (netlist : Netlist) (pairs : List (ℕ × Bool)) → begins_in_word (flat_map (assignment_text netlist) pairs) ≡ false
no_word netlist [] = refl
no_word netlist (pair ∷ pairs) = is_word_byte-separators.0

pub IsName-node : (netlist : Netlist) (node : ℕ) → IsCircuit netlist → node < length netlist.names → IsName (node_name netlist.names node)
IsName-node netlist node whole l = whole.names node [] l

one_assignment : (name : List ℕ) (bit : Bool) (rest : List ℕ) (tokens : List TokenOf) → IsName name → begins_in_word rest ≡ false → tokens_of rest ≡ Some tokens → tokens_of ((32 ∷ name ++ 61 ∷ letter_of bit ∷ []) ++ rest) ≡ Some (WordOf name ∷ PunctuationOf Equals ∷ WordOf (letter_of bit ∷ []) ∷ tokens)
one_assignment name bit rest tokens is ends read =
    let words = word_bytes is_name_byte is_word_byte-is name is.bytes in
    let letters = letter_word bit in
    tokens_of-space ((name ++ 61 ∷ letter_of bit ∷ []) ++ rest)
    ∙ ap tokens_of (append_assoc name (61 ∷ letter_of bit ∷ []) rest)
    ∙ tokens_of-word_before name (61 ∷ letter_of bit ∷ rest) (omega (arith, is.some)) words.0 is_word_byte-separators.4
    ∙ ap (with_token (WordOf name)) (tokens_of-equals (letter_of bit ∷ rest) ∙ ap (with_token (PunctuationOf Equals)) (tokens_of-word_before (letter_of bit ∷ []) rest (omega arith) letters.0 ends ∙ ap (with_token (WordOf (letter_of bit ∷ []))) read))

pub pairs_read : (netlist : Netlist) (pairs : List (ℕ × Bool)) → IsCircuit netlist → AreNodes netlist pairs → tokens_of (flat_map (assignment_text netlist) pairs) ≡ Some (pair_tokens netlist pairs)
pairs_read netlist [] whole h = refl
pairs_read netlist (pair ∷ pairs) whole h =
    let P : ℕ × Bool → Type 0 = λ pair. pair.0 < length netlist.names in
    one_assignment (node_name netlist.names pair.0) pair.1 (flat_map (assignment_text netlist) pairs) (pair_tokens netlist pairs) (IsName-node netlist pair.0 whole (All-head P pair pairs h)) (no_word netlist pairs) (pairs_read netlist pairs whole (All-tail P pair pairs h))

pub pairs_inline : (netlist : Netlist) (pairs : List (ℕ × Bool)) → IsCircuit netlist → AreNodes netlist pairs → list_all is_inline (flat_map (assignment_text netlist) pairs) ≡ true
pairs_inline netlist [] whole h = refl
pairs_inline netlist (pair ∷ pairs) whole h =
    let P : ℕ × Bool → Type 0 = λ pair. pair.0 < length netlist.names in
    let name = node_name netlist.names pair.0 in
    let words = word_bytes is_name_byte is_word_byte-is name (IsName-node netlist pair.0 whole (All-head P pair pairs h)).bytes in
    let first : list_all is_inline (name ++ 61 ∷ letter_of pair.1 ∷ []) ≡ true = rw (list_all-append is_inline name (61 ∷ letter_of pair.1 ∷ []), words.1, (letter_word pair.1).1) refl in
    rw (list_all-append is_inline (name ++ 61 ∷ letter_of pair.1 ∷ []) (flat_map (assignment_text netlist) pairs), first, pairs_inline netlist pairs whole (All-tail P pair pairs h)) refl

-- an assignment of a bit to a node's name
abbrev pub spelled : Netlist → ℕ × Bool → Assignment
spelled netlist pair = record { name = node_name netlist.names pair.0; word = letter_of pair.1 ∷ [] }

pub assignments_read : (netlist : Netlist) (pairs : List (ℕ × Bool)) → assignments_of (pair_tokens netlist pairs) ≡ Some (map (spelled netlist) pairs)
assignments_read netlist [] = refl
assignments_read netlist (pair ∷ pairs) = ap (option_map (λ assignments. spelled netlist pair ∷ assignments)) (assignments_read netlist pairs)
