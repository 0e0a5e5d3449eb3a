-- The laws that callers of this crate use: one word, parts of walks bounded by it, and completed.
use Rattle.std.proofs.Common.{◌≡◌, ◌≤◌, Bool, false, List, [], ◌∷◌, ◌++◌, length, IsTrue, refl}
use Rattle.hz_core.specs.declared.kind.Kind.{Kind}
use Rattle.hz_core.specs.Gate.{takes, gate_value, odd_pins}
use Rattle.hz_word.specs.Word.{AreWords, change_count}
use Rattle.hz_word.specs.Walk.{after_move, IsPartOfWalk, IsWalk, walk_changes, IsWordOf}
use Rattle.hz_word.proofs.Moves.{steps_left, after_move-AreWords}
use Rattle.hz_word.proofs.Potentials.{attained}
use Rattle.hz_word.proofs.Parity.{steps_left-IsPotential}
use Rattle.hz_word.proofs.Longest.{takes-HasPins, unique-IsWordOf, part-IsWordOf}

pub one_word : (kind : Kind) (words : List (List Bool)) (word other : List Bool) → IsTrue (takes kind (length words)) → AreWords words → IsWordOf kind words word → IsWordOf kind words other → word ≡ other
one_word kind words word other takes_words are_words is is_other =
    unique-IsWordOf kind words are_words (takes-HasPins kind (length words) takes_words) word other is is_other

pub part_changes : (kind : Kind) (words : List (List Bool)) (word : List Bool) (moves : List (List Bool)) → IsTrue (takes kind (length words)) → AreWords words → IsWordOf kind words word → IsPartOfWalk words moves → walk_changes (gate_value kind) words moves ≤ change_count word
part_changes kind words word moves takes_words are_words is part =
    part-IsWordOf kind words are_words (takes-HasPins kind (length words) takes_words) word is moves part

pub completed_part : (words moves : List (List Bool)) → AreWords words → IsPartOfWalk words moves → (rest : List (List Bool)) × IsWalk words (moves ++ rest)
completed_part words [] are_words part =
    let walk = attained odd_pins steps_left (length words) (steps_left-IsPotential odd_pins false (length words) (λ words long. refl)) words are_words refl in
    (walk.0, walk.1)
completed_part words (move ∷ moves) are_words part =
    let rest = completed_part (after_move words move) moves (after_move-AreWords words move are_words part.0.0) part.1 in
    (rest.0, (part.0, rest.1))
