-- What the pins come to, one after the other, is the capped form of the word of the kind.
use Rattle.std.proofs.Common.{◌≡◌, ℕ, Bool, true, false, not, List, [], ◌∷◌, map, length, IsTrue, refl, sym, ap, subst, ◌∙◌, arith}
use Rattle.std.proofs.lemmas.List.{length-map}
use Rattle.hz_core.specs.declared.kind.Kind.{Kind}
use Rattle.hz_core.specs.Gate.{takes, Connective, conjunction, disjunction, parity, copy, connective, inverts, connective_value, complemented_if, gate_value}
use Rattle.hz_word.specs.declared.word.Word.{Word}
use Rattle.hz_word.specs.Word.{AreWords}
use Rattle.hz_word.specs.Walk.{current_letters}
use Rattle.hz_word.specs.Capped.{capped_word, capped_count, IsFold}
use Rattle.hz_word.specs.Pairs.{complement_word_if, connective_word, kind_word}
use Rattle.hz_word.proofs.Totals.{totals}
use Rattle.hz_word.proofs.Controlled.{some-first, every-first}
use Rattle.hz_word.proofs.Longest.{HasPins, takes-HasPins, longest, longest_word, longest_word-IsWordOf, first_letter-alternating, change_count-alternating}
use Rattle.hz_word.proofs.Forms.{letter_of, same_fields, fold-controlled, fold-parity}

letter_of-false : (first : Bool) → letter_of false first ≡ not first
letter_of-false true = refl
letter_of-false false = refl

letter_of-true : (first : Bool) → letter_of true first ≡ first
letter_of-true true = refl
letter_of-true false = refl

connective_word-longest : (c : Connective) (cap : ℕ) (words : List (List Bool)) → AreWords words → HasPins c (length words) → connective_word c cap (map (capped_word cap) words) ≡ record { first = connective_value c (current_letters words); changes = capped_count cap (longest c words) }
connective_word-longest conjunction cap words are_words has =
    fold-controlled false cap words are_words
    ∙ same_fields (letter_of-false (totals false words).first ∙ sym (every-first words are_words)) refl
connective_word-longest disjunction cap words are_words has =
    fold-controlled true cap words are_words
    ∙ same_fields (letter_of-true (totals true words).first ∙ sym (some-first words)) refl
connective_word-longest parity cap words are_words has = fold-parity cap words
connective_word-longest copy cap [] are_words has = absurd (omega arith)
connective_word-longest copy cap (word ∷ []) are_words has = same_fields refl (ap (capped_count cap) (omega arith))
connective_word-longest copy cap (word ∷ next ∷ words) are_words has = absurd (omega arith)

complement_word_if-same : (inverted : Bool) (word : Word) → complement_word_if inverted word ≡ record { first = complemented_if inverted word.first; changes = word.changes }
complement_word_if-same true word = refl
complement_word_if-same false word = refl

kind_word-longest : (kind : Kind) (cap : ℕ) (words : List (List Bool)) → AreWords words → HasPins (connective kind) (length words) → kind_word kind cap (map (capped_word cap) words) ≡ record { first = gate_value kind (current_letters words); changes = capped_count cap (longest (connective kind) words) }
kind_word-longest kind cap words are_words has =
    ap (complement_word_if (inverts kind)) (connective_word-longest (connective kind) cap words are_words has)
    ∙ complement_word_if-same (inverts kind) (record { first = connective_value (connective kind) (current_letters words); changes = capped_count cap (longest (connective kind) words) })

-- the contract of `fold`
pub IsFold-kind_word : (kind : Kind) (pins : List Word) (cap : ℕ) → IsTrue (takes kind (length pins)) → IsFold kind pins cap (kind_word kind cap pins)
IsFold-kind_word kind pins cap takes_pins words are_words same =
    let long : length words ≡ length pins = sym (length-map words (capped_word cap)) ∙ ap length same in
    let has = takes-HasPins kind (length words) (subst (λ n. IsTrue (takes kind n)) (sym long) takes_pins) in (
      longest_word kind words are_words has,
      longest_word-IsWordOf kind words are_words has,
      same_fields
          (first_letter-alternating (gate_value kind (current_letters words)) (longest (connective kind) words))
          (ap (capped_count cap) (change_count-alternating (gate_value kind (current_letters words)) (longest (connective kind) words)))
          ∙ (sym (kind_word-longest kind cap words are_words has) ∙ ap (kind_word kind cap) same),
    )
