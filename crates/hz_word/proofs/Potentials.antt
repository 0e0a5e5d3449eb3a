-- A potential of a gate: a number that each move lowers by at least the change that the gate makes, and some move by just
-- that. So no walk has more changes than the potential at its begin, and some walk has as many.
use Rattle.std.proofs.Common.{◌≡◌, ℕ, zero, suc, ◌+◌, ◌≤◌, Bool, List, [], ◌∷◌, length, refl, sym, ◌∙◌, ◌⊎◌, inl, inr, arith}
use Rattle.hz_word.specs.Word.{AreWords}
use Rattle.hz_word.specs.Walk.{current_letters, IsMove, after_move, AreAtTheirEnds, IsPartOfWalk, IsWalk, change_between, walk_changes}
use Rattle.hz_word.proofs.Moves.{steps_left, after_move-AreWords, length-after_move}

-- a move that lowers a potential by just the change of the gate, and of one word alone
pub record IsTight (gate : List Bool → Bool) (potential : List (List Bool) → ℕ) (words : List (List Bool)) (move : List Bool) : Type 0 where
  pub is_move : IsMove words move
  pub exact : change_between (gate (current_letters words)) (gate (current_letters (after_move words move))) + potential (after_move words move) ≡ potential words
  pub shorter : steps_left words ≡ suc (steps_left (after_move words move))

pub record IsPotential (gate : List Bool → Bool) (potential : List (List Bool) → ℕ) (pins : ℕ) : Type 0 where
  pub bound : (words : List (List Bool)) (move : List Bool) → AreWords words → length words ≡ pins → IsMove words move → change_between (gate (current_letters words)) (gate (current_letters (after_move words move))) + potential (after_move words move) ≤ potential words
  pub tight : (words : List (List Bool)) → AreWords words → length words ≡ pins → (AreAtTheirEnds words × (potential words ≡ 0)) ⊎ ((move : List Bool) × IsTight gate potential words move)

module _ (gate : List Bool → Bool) (potential : List (List Bool) → ℕ) (pins : ℕ) (is : IsPotential gate potential pins) where
  -- no part of a walk has more changes than the potential
  pub bounded : (words moves : List (List Bool)) → AreWords words → length words ≡ pins → IsPartOfWalk words moves → walk_changes gate words moves ≤ potential words
  bounded words [] are_words long part = omega arith
  bounded words (move ∷ moves) are_words long part =
      let later = bounded (after_move words move) moves (after_move-AreWords words move are_words part.0.0)
      (length-after_move words move ∙ long) part.1 in
      let now = is.bound words move are_words long part.0 in
      omega arith

  -- a walk that goes on from a tight move
  from_move : (words : List (List Bool)) (move : List Bool) → IsTight gate potential words move → (moves : List (List Bool)) × IsWalk (after_move words move) moves × (walk_changes gate (after_move words move) moves ≡ potential (after_move words move)) → (moves : List (List Bool)) × IsWalk words moves × (walk_changes gate words moves ≡ potential words)
  from_move words move tight (moves, walk, same) =
      let exact = tight.exact in
      (move ∷ moves, (tight.is_move, walk), omega arith)

  -- some walk has as many
  attained_in : (steps : ℕ) (words : List (List Bool)) → AreWords words → length words ≡ pins → steps_left words ≡ steps → (moves : List (List Bool)) × IsWalk words moves × (walk_changes gate words moves ≡ potential words)
  attained_in zero words are_words long left =
      elim (is.tight words are_words long) [
        | inl ends ↦ ([], ends.0, sym ends.1)
        | inr found ↦ let shorter = found.1.shorter in absurd (omega arith)
      ]
  attained_in (suc steps) words are_words long left =
      elim (is.tight words are_words long) [
        | inl ends ↦ ([], ends.0, sym ends.1)
        | inr found ↦
            let tight = found.1 in
            let shorter = tight.shorter in
            from_move words found.0 tight
            (attained_in steps (after_move words found.0) (after_move-AreWords words found.0 are_words tight.is_move.0)
            (length-after_move words found.0 ∙ long) (omega arith))
      ]

  pub attained : (words : List (List Bool)) → AreWords words → length words ≡ pins → (moves : List (List Bool)) × IsWalk words moves × (walk_changes gate words moves ≡ potential words)
  attained words are_words long = attained_in (steps_left words) words are_words long refl
