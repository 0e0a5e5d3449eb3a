-- Rows of letters that change along a run are a part of a walk, if each column changes at most as often as its word.
use Rattle.std.proofs.Common.{◌≡◌, ℕ, zero, suc, ◌+◌, ◌<◌, ◌≤◌, Bool, true, false, not, List, [], ◌∷◌, length, drop, get_or, refl, sym, ap, ◌∙◌, arith, inl, inr}
use Rattle.std.specs.Bool.{beq}
use Rattle.std.proofs.lemmas.Bool.{cases_Bool, false≢true, true≢false}
use Rattle.hz_core.specs.Gate.{some_pin}
use Rattle.hz_gmw.specs.Runs.{state_after}
use Rattle.hz_word.specs.Word.{IsWord, AreWords, change_count}
use Rattle.hz_word.specs.Walk.{current_letters, MayAdvance, after_move, IsPartOfWalk, change_between, walk_changes}
use Rattle.hz_word.proofs.Moves.{after_move-AreWords, length-after_move}
use Rattle.hz_gmw.proofs.Flips.{length-state_after}
use Rattle.hz_free.proofs.Delays.{changes_along, change-same}

-- the places at which two rows differ
abbrev pub moved : List Bool → List Bool → List Bool
moved [] after = []
moved (letter ∷ before) [] = []
moved (letter ∷ before) (next ∷ after) = not (beq letter next) ∷ moved before after

-- a row that does not differ is the same
pub moved-none : (before after : List Bool) → length before ≡ length after → some_pin (moved before after) ≡ false → before ≡ after
moved-none [] [] long none = refl
moved-none [] (next ∷ after) long none = absurd (omega arith)
moved-none (letter ∷ before) [] long none = absurd (omega arith)
moved-none (true ∷ before) (true ∷ after) long none = ap (λ row. true ∷ row) (moved-none before after (omega arith) none)
moved-none (true ∷ before) (false ∷ after) long none = absurd (true≢false none)
moved-none (false ∷ before) (true ∷ after) long none = absurd (true≢false none)
moved-none (false ∷ before) (false ∷ after) long none = ap (λ row. false ∷ row) (moved-none before after (omega arith) none)

-- one move of one word
long-word : (word : List Bool) → 1 ≤ change_count word → 1 < length word
long-word word some = omega arith

pub move-may : (words : List (List Bool)) (before after : List Bool) → length before ≡ length words → length after ≡ length words → ((k : ℕ) → k < length words → change_between (get_or before k false) (get_or after k false) ≤ change_count (get_or words k [])) → MayAdvance words (moved before after)
move-may [] [] after long long' bounds = tt
move-may [] (letter ∷ before) after long long' bounds = absurd (omega arith)
move-may (word ∷ words) [] after long long' bounds = absurd (omega arith)
move-may (word ∷ words) (letter ∷ before) [] long long' bounds = absurd (omega arith)
move-may (word ∷ words) (true ∷ before) (true ∷ after) long long' bounds =
    (λ e. absurd (false≢true e), move-may words before after (omega arith) (omega arith) (λ k few. bounds (suc k) (omega arith)))
move-may (word ∷ words) (false ∷ before) (false ∷ after) long long' bounds =
    (λ e. absurd (false≢true e), move-may words before after (omega arith) (omega arith) (λ k few. bounds (suc k) (omega arith)))
move-may (word ∷ words) (true ∷ before) (false ∷ after) long long' bounds =
    (λ e. long-word word (bounds 0 (omega arith)), move-may words before after (omega arith) (omega arith) (λ k few. bounds (suc k) (omega arith)))
move-may (word ∷ words) (false ∷ before) (true ∷ after) long long' bounds =
    (λ e. long-word word (bounds 0 (omega arith)), move-may words before after (omega arith) (omega arith) (λ k few. bounds (suc k) (omega arith)))

-- the next letter of a word is the other one
next-letter : (letter next : Bool) (word : List Bool) → IsWord word → get_or word 0 false ≡ letter → next ≡ not letter → 1 < length word → get_or (drop 1 word) 0 false ≡ next
next-letter letter next [] is_word first turned long = absurd is_word
next-letter letter next (x ∷ []) is_word first turned long = absurd (omega arith)
next-letter letter next (true ∷ true ∷ rest) is_word first turned long = absurd (is_word.0 refl)
next-letter letter next (false ∷ false ∷ rest) is_word first turned long = absurd (is_word.0 refl)
next-letter true next (true ∷ false ∷ rest) is_word first turned long = sym turned
next-letter false next (true ∷ false ∷ rest) is_word first turned long = absurd (true≢false first)
next-letter true next (false ∷ true ∷ rest) is_word first turned long = absurd (false≢true first)
next-letter false next (false ∷ true ∷ rest) is_word first turned long = sym turned

cons-head : {a b : Bool} {xs ys : List Bool} → ◌≡◌ {A = List Bool} (a ∷ xs) (b ∷ ys) → a ≡ b
cons-head e = cc

cons-tail : {a b : Bool} {xs ys : List Bool} → ◌≡◌ {A = List Bool} (a ∷ xs) (b ∷ ys) → xs ≡ ys
cons-tail e = cc

-- after the move the letters are those of the next row
pub move-letters : (words : List (List Bool)) (before after : List Bool) → AreWords words → current_letters words ≡ before → length after ≡ length words → MayAdvance words (moved before after) → current_letters (after_move words (moved before after)) ≡ after
move-letters [] [] [] are_words present long may = refl
move-letters [] [] (next ∷ after) are_words present long may = absurd (omega arith)
move-letters [] (letter ∷ before) after are_words present long may = cc
move-letters (word ∷ words) [] after are_words present long may = cc
move-letters (word ∷ words) (letter ∷ before) [] are_words present long may = absurd (omega arith)
move-letters (word ∷ words) (true ∷ before) (true ∷ after) are_words present long may =
    let rest = move-letters words before after are_words.1 (cons-tail present) (omega arith) may.1 in
    let head = cons-head present in
    cc
move-letters (word ∷ words) (false ∷ before) (false ∷ after) are_words present long may =
    let rest = move-letters words before after are_words.1 (cons-tail present) (omega arith) may.1 in
    let head = cons-head present in
    cc
move-letters (word ∷ words) (true ∷ before) (false ∷ after) are_words present long may =
    let rest = move-letters words before after are_words.1 (cons-tail present) (omega arith) may.1 in
    let head = next-letter true false word are_words.0 (cons-head present) refl (may.0 refl) in
    cc
move-letters (word ∷ words) (false ∷ before) (true ∷ after) are_words present long may =
    let rest = move-letters words before after are_words.1 (cons-tail present) (omega arith) may.1 in
    let head = next-letter false true word are_words.0 (cons-head present) refl (may.0 refl) in
    cc

-- and each word has as many changes less as its letter changed
dropped : (word : List Bool) → 1 < length word → change_count (drop 1 word) + 1 ≡ change_count word
dropped [] long = absurd (omega arith)
dropped (letter ∷ rest) long = omega arith

move-counts : (words : List (List Bool)) (before after : List Bool) (k : ℕ) → length before ≡ length words → length after ≡ length words → MayAdvance words (moved before after) → k < length words → change_count (get_or (after_move words (moved before after)) k []) + change_between (get_or before k false) (get_or after k false) ≡ change_count (get_or words k [])
move-counts [] before after k long long' may few = absurd (omega arith)
move-counts (word ∷ words) [] after k long long' may few = absurd (omega arith)
move-counts (word ∷ words) (letter ∷ before) [] k long long' may few = absurd (omega arith)
move-counts (word ∷ words) (letter ∷ before) (next ∷ after) (suc k) long long' may few = move-counts words before after k (omega arith) (omega arith) may.1 (omega arith)
move-counts (word ∷ words) (true ∷ before) (true ∷ after) zero long long' may few = omega arith
move-counts (word ∷ words) (false ∷ before) (false ∷ after) zero long long' may few = omega arith
move-counts (word ∷ words) (true ∷ before) (false ∷ after) zero long long' may few = dropped word (may.0 refl)
move-counts (word ∷ words) (false ∷ before) (true ∷ after) zero long long' may few = dropped word (may.0 refl)

-- rows along a run
module _ (gate : List Bool → Bool) (row : List Bool → List Bool) (variables : ℕ) where
  pub part-along : (words : List (List Bool)) (state : List Bool) (steps : List (List ℕ)) → AreWords words → current_letters words ≡ row state → length state ≡ variables → ((s : List Bool) → length s ≡ variables → length (row s) ≡ length words) → ((k : ℕ) → k < length words → changes_along (λ s. get_or (row s) k false) state steps ≤ change_count (get_or words k [])) → (moves : List (List Bool)) × IsPartOfWalk words moves × (walk_changes gate words moves ≡ changes_along (λ s. gate (row s)) state steps)
  part-along words state [] are_words present whole long bounds = ([], tt, refl)
  part-along words state (flips ∷ steps) are_words present whole long bounds =
      let whole' : length (state_after flips state) ≡ variables = length-state_after flips state ∙ whole in
      elim (cases_Bool (some_pin (moved (row state) (row (state_after flips state))))) [
        | inl some ↦
            let may : MayAdvance words (moved (row state) (row (state_after flips state))) = move-may words (row state) (row (state_after flips state)) (long state whole) (long (state_after flips state) whole') (λ k few. let bound = bounds k few in omega arith) in
            let letters = move-letters words (row state) (row (state_after flips state)) are_words present (long (state_after flips state) whole') may in
            let rest = part-along (after_move words (moved (row state) (row (state_after flips state)))) (state_after flips state) steps
            (after_move-AreWords words (moved (row state) (row (state_after flips state))) are_words may) letters whole'
            (λ s there. long s there ∙ sym (length-after_move words (moved (row state) (row (state_after flips state)))))
            (λ k few.
            let few' : k < length words = omega (arith, few, length-after_move words (moved (row state) (row (state_after flips state)))) in
            let bound = bounds k few' in
            let count = move-counts words (row state) (row (state_after flips state)) k (long state whole) (long (state_after flips state) whole') may few' in
            omega arith) in
            let same = rest.2 in
            let here : change_between (gate (current_letters words)) (gate (current_letters (after_move words (moved (row state) (row (state_after flips state)))))) ≡ change_between (gate (row state)) (gate (row (state_after flips state))) = rw (present, letters) refl in
            (moved (row state) (row (state_after flips state)) ∷ rest.0, ((may, some), rest.1), omega arith)
        | inr none ↦
            let same_row = moved-none (row state) (row (state_after flips state)) (long state whole ∙ sym (long (state_after flips state) whole')) none in
            let rest = part-along words (state_after flips state) steps are_words (present ∙ same_row) whole' long (λ k few. let bound = bounds k few in omega arith) in
            let same = rest.2 in
            let here : change_between (gate (row state)) (gate (row (state_after flips state))) ≡ 0 = rw same_row (change-same (gate (row (state_after flips state)))) in
            (rest.0, rest.1, omega arith)
      ]
