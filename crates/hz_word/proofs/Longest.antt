-- The word of a kind over words: there is one, and it is the longest for parts of walks too.
use Rattle.std.proofs.Common.{◌≡◌, ℕ, zero, suc, ◌≤◌, Bool, true, false, not, List, [], ◌∷◌, length, IsTrue, refl, sym, ap, ◌∙◌, arith}
use Rattle.std.proofs.lemmas.Bool.{false≢true, true≢false}
use Rattle.std.proofs.lemmas.Bool.Decides.{nat_tests}
use Rattle.hz_core.specs.declared.kind.Kind.{Kind}
use Rattle.hz_core.specs.declared.kind.Kind.TheVariants.{And, Nand, Or, Nor, Xor, Xnor, Not, Buff}
use Rattle.hz_core.specs.Gate.{takes, Connective, conjunction, disjunction, parity, copy, connective, inverts, connective_value, complemented_if, gate_value, only_pin, odd_pins}
use Rattle.hz_word.specs.Word.{Alternates, IsWord, AreWords, first_letter, change_count}
use Rattle.hz_word.specs.Walk.{current_letters, after_move, IsPartOfWalk, IsWalk, walk_changes, IsWordOf}
use Rattle.hz_word.proofs.Moves.{steps_left}
use Rattle.hz_word.proofs.Potentials.{IsPotential, bounded, attained}
use Rattle.hz_word.proofs.Parity.{steps_left-IsPotential}
use Rattle.hz_word.proofs.Controlled.{most_in, some-first, every-first, most_in-IsPotential}

-- the word of so many changes from a letter on
abbrev pub alternating : Bool → ℕ → List Bool
alternating letter zero = letter ∷ []
alternating letter (suc n) = letter ∷ alternating (not letter) n

pub not-other : (letter : Bool) → not letter ≡ letter → ⊥
not-other true e = cc
not-other false e = cc

pub alternating-IsWord : (letter : Bool) (n : ℕ) → IsWord (alternating letter n)
alternating-IsWord letter zero = tt
alternating-IsWord letter (suc zero) = (not-other letter, tt)
alternating-IsWord letter (suc (suc n)) = (not-other letter, alternating-IsWord (not letter) (suc n))

length-alternating : (letter : Bool) (n : ℕ) → length (alternating letter n) ≡ suc n
length-alternating letter zero = refl
length-alternating letter (suc n) = ap suc (length-alternating (not letter) n)

pub first_letter-alternating : (letter : Bool) (n : ℕ) → first_letter (alternating letter n) ≡ letter
first_letter-alternating letter zero = refl
first_letter-alternating letter (suc n) = refl

pub change_count-alternating : (letter : Bool) (n : ℕ) → change_count (alternating letter n) ≡ n
change_count-alternating letter n = let e = length-alternating letter n in omega arith

-- a connective with as many pins as it may have
abbrev pub HasPins : Connective → ℕ → Type 0
HasPins conjunction pins = Unit {0}
HasPins disjunction pins = Unit {0}
HasPins parity pins = Unit {0}
HasPins copy pins = pins ≡ 1

pub takes-HasPins : (kind : Kind) (pins : ℕ) → IsTrue (takes kind pins) → HasPins (connective kind) pins
takes-HasPins And pins takes = tt
takes-HasPins Nand pins takes = tt
takes-HasPins Or pins takes = tt
takes-HasPins Nor pins takes = tt
takes-HasPins Xor pins takes = tt
takes-HasPins Xnor pins takes = tt
takes-HasPins Not pins takes = grind (arith, nat_tests, takes)
takes-HasPins Buff pins takes = grind (arith, nat_tests, takes)

-- the most changes, by connective
abbrev pub longest : Connective → List (List Bool) → ℕ
longest conjunction words = most_in false words
longest disjunction words = most_in true words
longest parity words = steps_left words
longest copy words = steps_left words

complemented-not : (inverted bit : Bool) → complemented_if inverted (not bit) ≡ complemented_if (not inverted) bit
complemented-not true true = refl
complemented-not true false = refl
complemented-not false bit = refl

only-odd : (words : List (List Bool)) → length words ≡ 1 → only_pin (current_letters words) ≡ odd_pins (current_letters words)
only-odd [] one = refl
only-odd ([] ∷ []) one = refl
only-odd ((true ∷ rest) ∷ []) one = refl
only-odd ((false ∷ rest) ∷ []) one = refl
only-odd (word ∷ next ∷ words) one = absurd (omega arith)

longest-IsPotential : (c : Connective) (inverted : Bool) (pins : ℕ) → HasPins c pins → IsPotential (λ bits. complemented_if inverted (connective_value c bits)) (longest c) pins
longest-IsPotential conjunction inverted pins has =
    most_in-IsPotential (λ bits. complemented_if inverted (connective_value conjunction bits)) false (not inverted) pins
    (λ words are_words long. ap (complemented_if inverted) (every-first words are_words) ∙ complemented-not inverted _)
longest-IsPotential disjunction inverted pins has =
    most_in-IsPotential (λ bits. complemented_if inverted (connective_value disjunction bits)) true inverted pins
    (λ words are_words long. ap (complemented_if inverted) (some-first words))
longest-IsPotential parity inverted pins has =
    steps_left-IsPotential (λ bits. complemented_if inverted (connective_value parity bits)) inverted pins
    (λ words long. refl)
longest-IsPotential copy inverted pins has =
    steps_left-IsPotential (λ bits. complemented_if inverted (connective_value copy bits)) inverted pins
    (λ words long. ap (complemented_if inverted) (only-odd words (long ∙ has)))

-- a walk is a part of itself
part-from_walk : (words moves : List (List Bool)) → IsWalk words moves → IsPartOfWalk words moves
part-from_walk words [] walk = tt
part-from_walk words (move ∷ moves) walk = (walk.0, part-from_walk (after_move words move) moves walk.1)

-- two words with the same first letter and as many changes are the same
same_letters : (letter : Bool) (rest rest' : List Bool) → Alternates letter rest → Alternates letter rest' → length rest ≡ length rest' → rest ≡ rest'
same_letters letter [] [] one other e = refl
same_letters letter [] (next ∷ rest) one other e = absurd (omega arith)
same_letters letter (next ∷ rest) [] one other e = absurd (omega arith)
same_letters letter (true ∷ rest) (true ∷ rest') one other e = ap (λ xs. true ∷ xs) (same_letters true rest rest' one.1 other.1 (omega arith))
same_letters letter (false ∷ rest) (false ∷ rest') one other e = ap (λ xs. false ∷ xs) (same_letters false rest rest' one.1 other.1 (omega arith))
same_letters true (true ∷ rest) (false ∷ rest') one other e = absurd (one.0 refl)
same_letters true (false ∷ rest) (true ∷ rest') one other e = absurd (other.0 refl)
same_letters false (true ∷ rest) (false ∷ rest') one other e = absurd (other.0 refl)
same_letters false (false ∷ rest) (true ∷ rest') one other e = absurd (one.0 refl)

pub same_word : (word word' : List Bool) → IsWord word → IsWord word' → first_letter word ≡ first_letter word' → change_count word ≡ change_count word' → word ≡ word'
same_word [] word' one other e f = absurd one
same_word (letter ∷ rest) [] one other e f = absurd other
same_word (true ∷ rest) (true ∷ rest') one other e f = ap (λ xs. true ∷ xs) (same_letters true rest rest' one other (omega arith))
same_word (false ∷ rest) (false ∷ rest') one other e f = ap (λ xs. false ∷ xs) (same_letters false rest rest' one other (omega arith))
same_word (true ∷ rest) (false ∷ rest') one other e f = absurd (true≢false e)
same_word (false ∷ rest) (true ∷ rest') one other e f = absurd (false≢true e)

module _ (kind : Kind) (words : List (List Bool)) (are_words : AreWords words) (has : HasPins (connective kind) (length words)) where
  potential : IsPotential (gate_value kind) (longest (connective kind)) (length words)
  potential = longest-IsPotential (connective kind) (inverts kind) (length words) has

  abbrev pub longest_word : List Bool
  longest_word = alternating (gate_value kind (current_letters words)) (longest (connective kind) words)

  -- no part of a walk has more changes than the longest
  part-longest : (moves : List (List Bool)) → IsPartOfWalk words moves → walk_changes (gate_value kind) words moves ≤ longest (connective kind) words
  part-longest moves part = bounded (gate_value kind) (longest (connective kind)) (length words) potential words moves are_words refl part

  -- the word of the kind
  pub longest_word-IsWordOf : IsWordOf kind words longest_word
  longest_word-IsWordOf =
      let same = change_count-alternating (gate_value kind (current_letters words)) (longest (connective kind) words) in
      let walk = attained (gate_value kind) (longest (connective kind)) (length words) potential words are_words refl in
      let walk_same = walk.2 in
      record {
        is_word = alternating-IsWord (gate_value kind (current_letters words)) (longest (connective kind) words);
        begins = first_letter-alternating (gate_value kind (current_letters words)) (longest (connective kind) words);
        attained = (walk.0, walk.1, walk_same ∙ sym same);
        most = λ moves is_walk. let bound = part-longest moves (part-from_walk words moves is_walk) in omega arith;
      }

  -- any word of the kind has this number of changes
  pub change_count-IsWordOf : (word : List Bool) → IsWordOf kind words word → change_count word ≡ longest (connective kind) words
  change_count-IsWordOf word is =
      let walk = attained (gate_value kind) (longest (connective kind)) (length words) potential words are_words refl in
      let walk_same = walk.2 in
      let more = is.most walk.0 walk.1 in
      let own = is.attained in
      let own_same = own.2 in
      let bound = part-longest own.0 (part-from_walk words own.0 own.1) in
      omega arith

  -- along a part of a walk the gate changes at most as often as its word
  pub part-IsWordOf : (word : List Bool) → IsWordOf kind words word → (moves : List (List Bool)) → IsPartOfWalk words moves → walk_changes (gate_value kind) words moves ≤ change_count word
  part-IsWordOf word is moves part =
      let same = change_count-IsWordOf word is in
      let bound = part-longest moves part in
      omega arith

  -- there is one word of the kind
  pub unique-IsWordOf : (word word' : List Bool) → IsWordOf kind words word → IsWordOf kind words word' → word ≡ word'
  unique-IsWordOf word word' one other =
      same_word word word' one.is_word other.is_word (one.begins ∙ sym other.begins)
      (change_count-IsWordOf word one ∙ sym (change_count-IsWordOf word' other))
