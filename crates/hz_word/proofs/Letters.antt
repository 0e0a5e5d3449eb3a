-- The letters of a word: the last one by the first one and the number of changes, and the complement of a word.
use Rattle.std.proofs.Common.{◌≡◌, ℕ, suc, ◌-◌, ◌%◌, Bool, true, false, not, ◌==◌, List, [], ◌∷◌, length, get_or, refl, sym, ap, ◌∙◌, inl, inr, arith}
use Rattle.std.specs.Bool.{beq}
use Rattle.std.proofs.lemmas.Bool.{cases_Bool}
use Rattle.hz_core.proofs.Kleene.{flipped}
use Rattle.std.specs.Bool.{nat_le}
use Rattle.hz_word.specs.declared.count.Count.TheVariants.{Exact}
use Rattle.hz_word.specs.declared.word.Word.{Word}
use Rattle.hz_word.specs.Word.{Alternates, IsWord, first_letter, last_letter, change_count}
use Rattle.hz_word.specs.Capped.{capped_word, capped_count}
use Rattle.hz_word.specs.Pairs.{last_after}
use Rattle.hz_word.proofs.Totals.{final}

get_or-final : (letter : Bool) (rest : List Bool) → get_or (letter ∷ rest) (length rest) false ≡ final letter rest
get_or-final letter [] = refl
get_or-final letter (next ∷ rest) = get_or-final next rest

last_letter-final : (letter : Bool) (rest : List Bool) → last_letter (letter ∷ rest) ≡ final letter rest
last_letter-final letter rest =
    let e : suc (length rest) - 1 ≡ length rest = omega arith in
    rw e (get_or-final letter rest)

odd-suc : (n : ℕ) → (suc n % 2 == 1) ≡ not (n % 2 == 1)
odd-suc n = flipped (suc n % 2) (n % 2) (omega arith)

beq-not : (a b : Bool) → beq (not a) b ≡ beq a (not b)
beq-not true true = refl
beq-not true false = refl
beq-not false true = refl
beq-not false false = refl

pub last_after-suc : (letter : Bool) (n : ℕ) → last_after (not letter) n ≡ last_after letter (suc n)
last_after-suc letter n =
    ap not (beq-not letter (n % 2 == 1) ∙ ap (beq letter) (sym (odd-suc n)))

pub last_after-zero : (letter : Bool) → letter ≡ last_after letter 0
last_after-zero true = refl
last_after-zero false = refl

final-last_after : (letter : Bool) (rest : List Bool) → Alternates letter rest → final letter rest ≡ last_after letter (length rest)
final-last_after letter [] alternates = last_after-zero letter
final-last_after true (true ∷ rest) alternates = absurd (alternates.0 refl)
final-last_after true (false ∷ rest) alternates = final-last_after false rest alternates.1 ∙ last_after-suc true (length rest)
final-last_after false (true ∷ rest) alternates = final-last_after true rest alternates.1 ∙ last_after-suc false (length rest)
final-last_after false (false ∷ rest) alternates = absurd (alternates.0 refl)

-- the last letter of a word
pub last_letter-last_after : (word : List Bool) → IsWord word → last_letter word ≡ last_after (first_letter word) (change_count word)
last_letter-last_after [] is_word = absurd is_word
last_letter-last_after (letter ∷ rest) is_word =
    let e : suc (length rest) - 1 ≡ length rest = omega arith in
    last_letter-final letter rest ∙ (final-last_after letter rest is_word ∙ ap (last_after letter) (sym e))

-- a number that is exact under a cap is the number itself
pub exact-capped_count : (cap n m : ℕ) → capped_count cap n ≡ Exact m → n ≡ m
exact-capped_count cap n m e =
    elim (cases_Bool (nat_le n cap)) [
      | inl within ↦ let same = rw within at e in cc
      | inr beyond ↦ let wrong = rw beyond at e in cc
    ]

-- the last letter by the capped form
pub last-capped_word : (cap : ℕ) (letters : List Bool) (word : Word) (changes : ℕ) → IsWord letters → capped_word cap letters ≡ word → word.changes ≡ Exact changes → last_after word.first changes ≡ last_letter letters
last-capped_word cap letters word changes is_word same exact =
    let first = ap (λ (w : Word). w.first) same in
    let count = exact-capped_count cap (change_count letters) changes (ap (λ (w : Word). w.changes) same ∙ exact) in
    sym (last_letter-last_after letters is_word ∙ (ap (λ letter. last_after letter (change_count letters)) first ∙ ap (last_after word.first) count))
