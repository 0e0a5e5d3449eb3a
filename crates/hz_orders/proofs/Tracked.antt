-- Rows of letters that change along a run are a part of a walk, in which each word advances as often as its column changes.
use Rattle.std.proofs.Common.{◌≡◌, ℕ, zero, suc, ◌+◌, ◌<◌, ◌≤◌, Bool, true, false, List, [], ◌∷◌, length, take, drop, get_or, if◌then◌else◌, refl, sym, ◌∙◌, arith, inl, inr}
use Rattle.hz_orders.proofs.Words.{cases_Bool, state_after, change_count, current_letters, after_move, IsPartOfWalk, change_between, walk_changes, changes_along, change-same}
use Rattle.hz_orders.proofs.Words.{advances}
use Rattle.hz_core.specs.Gate.{some_pin}
use Rattle.hz_word.specs.Word.{AreWords}
use Rattle.hz_word.specs.Walk.{MayAdvance}
use Rattle.hz_word.proofs.Moves.{after_move-AreWords, length-after_move}
use Rattle.hz_gmw.proofs.Flips.{length-state_after}
use Rattle.hz_free.proofs.Columns.{moved, moved-none, move-may, move-letters}

-- each word has as many changes less as its letter changed
dropped : (word : List Bool) → 1 < length word → change_count (drop 1 word) + 1 ≡ change_count word
dropped [] long = absurd (omega arith)
dropped (letter ∷ rest) long = omega arith

move-counts : (words : List (List Bool)) (before after : List Bool) (k : ℕ) → length before ≡ length words → length after ≡ length words → MayAdvance words (moved before after) → k < length words → change_count (get_or (after_move words (moved before after)) k []) + change_between (get_or before k false) (get_or after k false) ≡ change_count (get_or words k [])
move-counts [] before after k long long' may few = absurd (omega arith)
move-counts (word ∷ words) [] after k long long' may few = absurd (omega arith)
move-counts (word ∷ words) (letter ∷ before) [] k long long' may few = absurd (omega arith)
move-counts (word ∷ words) (letter ∷ before) (next ∷ after) (suc k) long long' may few = move-counts words before after k (omega arith) (omega arith) may.1 (omega arith)
move-counts (word ∷ words) (true ∷ before) (true ∷ after) zero long long' may few = omega arith
move-counts (word ∷ words) (false ∷ before) (false ∷ after) zero long long' may few = omega arith
move-counts (word ∷ words) (true ∷ before) (false ∷ after) zero long long' may few = dropped word (may.0 refl)
move-counts (word ∷ words) (false ∷ before) (true ∷ after) zero long long' may few = dropped word (may.0 refl)

-- a column advances where its letter changes
moved-advance : (before after : List Bool) (j : ℕ) → length before ≡ length after → (if get_or (moved before after) j false then 1 else 0) ≡ change_between (get_or before j false) (get_or after j false)
moved-advance [] [] j long = refl
moved-advance [] (next ∷ after) j long = absurd (omega arith)
moved-advance (letter ∷ before) [] j long = absurd (omega arith)
moved-advance (letter ∷ before) (next ∷ after) (suc j) long = moved-advance before after j (omega arith)
moved-advance (true ∷ before) (true ∷ after) zero long = refl
moved-advance (true ∷ before) (false ∷ after) zero long = refl
moved-advance (false ∷ before) (true ∷ after) zero long = refl
moved-advance (false ∷ before) (false ∷ after) zero long = refl

-- after each number of moves each column has advanced as often as it has changed after some number of steps
abbrev pub Tracks : (List Bool → List Bool) → List Bool → List (List ℕ) → List (List Bool) → Type 0
Tracks row state steps moves =
    (k : ℕ) → (k' : ℕ) × ((j : ℕ) → advances (take k moves) j ≡ changes_along (λ s. get_or (row s) j false) state (take k' steps))

tracks-none : (row : List Bool → List Bool) (state : List Bool) → Tracks row state [] []
tracks-none row state zero = (0, λ j. refl)
tracks-none row state (suc k) = (0, λ j. refl)

tracks-move : (row : List Bool → List Bool) (state : List Bool) (flips : List ℕ) (steps : List (List ℕ)) (moves : List (List Bool)) → length (row state) ≡ length (row (state_after flips state)) → Tracks row (state_after flips state) steps moves → Tracks row state (flips ∷ steps) (moved (row state) (row (state_after flips state)) ∷ moves)
tracks-move row state flips steps moves long tracks zero = (0, λ j. refl)
tracks-move row state flips steps moves long tracks (suc k) =
    let later = tracks k in (
      suc later.0,
      λ j.
          let here = moved-advance (row state) (row (state_after flips state)) j long in
          let there = later.1 j in
          omega arith,
    )

tracks-rest : (row : List Bool → List Bool) (state : List Bool) (flips : List ℕ) (steps : List (List ℕ)) (moves : List (List Bool)) → row state ≡ row (state_after flips state) → Tracks row (state_after flips state) steps moves → Tracks row state (flips ∷ steps) moves
tracks-rest row state flips steps moves same tracks k =
    let later = tracks k in (
      suc later.0,
      λ j.
          let none : change_between (get_or (row state) j false) (get_or (row (state_after flips state)) j false) ≡ 0 = rw same (change-same (get_or (row (state_after flips state)) j false)) in
          let there = later.1 j in
          omega arith,
    )

-- rows along a run
module _ (gate : List Bool → Bool) (row : List Bool → List Bool) (variables : ℕ) where
  pub tracked-along : (words : List (List Bool)) (state : List Bool) (steps : List (List ℕ)) → AreWords words → current_letters words ≡ row state → length state ≡ variables → ((s : List Bool) → length s ≡ variables → length (row s) ≡ length words) → ((k : ℕ) → k < length words → changes_along (λ s. get_or (row s) k false) state steps ≤ change_count (get_or words k [])) → (moves : List (List Bool)) × IsPartOfWalk words moves × (walk_changes gate words moves ≡ changes_along (λ s. gate (row s)) state steps) × Tracks row state steps moves
  tracked-along words state [] are_words present whole long bounds = ([], tt, refl, tracks-none row state)
  tracked-along words state (flips ∷ steps) are_words present whole long bounds =
      let whole' : length (state_after flips state) ≡ variables = length-state_after flips state ∙ whole in
      let rows : length (row state) ≡ length (row (state_after flips state)) = long state whole ∙ sym (long (state_after flips state) whole') in
      elim (cases_Bool (some_pin (moved (row state) (row (state_after flips state))))) [
        | inl some ↦
            let may : MayAdvance words (moved (row state) (row (state_after flips state))) = move-may words (row state) (row (state_after flips state)) (long state whole) (long (state_after flips state) whole') (λ k few. let bound = bounds k few in omega arith) in
            let letters = move-letters words (row state) (row (state_after flips state)) are_words present (long (state_after flips state) whole') may in
            let rest = tracked-along (after_move words (moved (row state) (row (state_after flips state)))) (state_after flips state) steps
            (after_move-AreWords words (moved (row state) (row (state_after flips state))) are_words may) letters whole'
            (λ s there. long s there ∙ sym (length-after_move words (moved (row state) (row (state_after flips state)))))
            (λ k few.
            let few' : k < length words = omega (arith, few, length-after_move words (moved (row state) (row (state_after flips state)))) in
            let bound = bounds k few' in
            let count = move-counts words (row state) (row (state_after flips state)) k (long state whole) (long (state_after flips state) whole') may few' in
            omega arith) in
            let same = rest.2 in
            let here : change_between (gate (current_letters words)) (gate (current_letters (after_move words (moved (row state) (row (state_after flips state)))))) ≡ change_between (gate (row state)) (gate (row (state_after flips state))) = rw (present, letters) refl in
            (moved (row state) (row (state_after flips state)) ∷ rest.0, ((may, some), rest.1), omega arith, tracks-move row state flips steps rest.0 rows rest.3)
        | inr none ↦
            let same_row = moved-none (row state) (row (state_after flips state)) rows none in
            let rest = tracked-along words (state_after flips state) steps are_words (present ∙ same_row) whole' long (λ k few. let bound = bounds k few in omega arith) in
            let same = rest.2 in
            let here : change_between (gate (row state)) (gate (row (state_after flips state))) ≡ 0 = rw same_row (change-same (gate (row (state_after flips state)))) in
            (rest.0, rest.1, omega arith, tracks-rest row state flips steps rest.0 same_row rest.3)
      ]
