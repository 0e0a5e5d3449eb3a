-- Moves of a gate's pins lead from one position to another, and back: each way is a part of walks, and each part of a walk a way.
use Rattle.std.proofs.Common.{◌≡◌, ◌≢◌, ℕ, zero, suc, ◌+◌, ◌<◌, ◌≤◌, Bool, true, false, not, List, [], ◌∷◌, map, length, take, drop, get_or, All, if◌then◌else◌, refl, sym, ap, ◌∙◌, subst, arith, inl, inr}
use Rattle.hz_orders.proofs.Words.{◌==◌, cases_Bool, false≢true, Kind, gate_value, Count, Exact, Many, Word, change_count, current_letters, after_move, IsPartOfWalk}
use Rattle.hz_orders.proofs.Words.{change_between, walk_changes, capped_word, IsAtMost, last_after, Order, advances, IsKeptAt, IsExactCount, AreExact, IsPosition, value_of, IsOnward}
use Rattle.hz_orders.proofs.Words.{KeepsAt, IsMostFrom, begin}
use Rattle.std.specs.Bool.{beq, nat_lt, nat_le}
use Rattle.std.specs.Prelude.{◌%◌}
use Rattle.std.proofs.lemmas.Bool.{ltb-true, ltb-false}
use Rattle.hz_core.specs.Gate.{some_pin}
use Rattle.hz_word.specs.Word.{IsWord, AreWords, first_letter}
use Rattle.hz_word.specs.Walk.{MayAdvance}
use Rattle.hz_word.specs.Capped.{capped_count}
use Rattle.hz_word.proofs.Moves.{after_move-AreWords}
use Rattle.hz_word.proofs.Letters.{last_after-suc, last_after-zero}
use Rattle.hz_orders.specs.Parts.{IsMostUnder}
use Rattle.hz_orders.specs.Positions.{letters_at, IsKeptMove, IsWay, way_changes}

-- what is left of a pin's word after it has advanced so often
abbrev IsLeft : Word → ℕ → List Bool → Type 0
IsLeft pin times word =
    IsWord word × (first_letter word ≡ last_after pin.first times) × (Exact (times + change_count word) ≡ pin.changes)

abbrev AreLeft : List Word → List ℕ → List (List Bool) → Type 0
AreLeft [] [] [] = Unit {0}
AreLeft [] [] (word ∷ words) = ⊥
AreLeft [] (times ∷ position) words = ⊥
AreLeft (pin ∷ pins) [] words = ⊥
AreLeft (pin ∷ pins) (times ∷ position) [] = ⊥
AreLeft (pin ∷ pins) (times ∷ position) (word ∷ words) = IsLeft pin times word × AreLeft pins position words

left-letters : (pins : List Word) (position : List ℕ) (words : List (List Bool)) → AreLeft pins position words → current_letters words ≡ letters_at pins position
left-letters [] [] [] left = refl
left-letters [] [] (word ∷ words) left = absurd left
left-letters [] (times ∷ position) words left = absurd left
left-letters (pin ∷ pins) [] words left = absurd left
left-letters (pin ∷ pins) (times ∷ position) [] left = absurd left
left-letters (pin ∷ pins) (times ∷ position) (word ∷ words) left =
    let rest = left-letters pins position words left.1 in
    let head = left.0.1 in
    cc

-- a pin has advanced at most as often as its word changes
advanced-at_most : (times more : ℕ) (count : Count) → times ≤ more → Exact more ≡ count → IsAtMost (Exact times) count
advanced-at_most times more count less same = subst (λ (c : Count). IsAtMost (Exact times) c) same less

left-position : (pins : List Word) (position : List ℕ) (words : List (List Bool)) → AreLeft pins position words → IsPosition pins position
left-position [] [] [] left = tt
left-position [] [] (word ∷ words) left = absurd left
left-position [] (times ∷ position) words left = absurd left
left-position (pin ∷ pins) [] words left = absurd left
left-position (pin ∷ pins) (times ∷ position) [] left = absurd left
left-position (pin ∷ pins) (times ∷ position) (word ∷ words) left =
    (advanced-at_most times (times + change_count word) pin.changes (omega arith) left.0.2, left-position pins position words left.1)

left-length : (pins : List Word) (position : List ℕ) (words : List (List Bool)) → AreLeft pins position words → length position ≡ length words
left-length [] [] [] left = refl
left-length [] [] (word ∷ words) left = absurd left
left-length [] (times ∷ position) words left = absurd left
left-length (pin ∷ pins) [] words left = absurd left
left-length (pin ∷ pins) (times ∷ position) [] left = absurd left
left-length (pin ∷ pins) (times ∷ position) (word ∷ words) left = ap suc (left-length pins position words left.1)

-- the position after a move
abbrev moved_on : List ℕ → List Bool → List ℕ
moved_on [] move = []
moved_on (times ∷ position) [] = times ∷ position
moved_on (times ∷ position) (true ∷ move) = (times + 1) ∷ moved_on position move
moved_on (times ∷ position) (false ∷ move) = times ∷ moved_on position move

at-moved : (position : List ℕ) (move : List Bool) (j : ℕ) → j < length position → get_or (moved_on position move) j 0 ≡ get_or position j 0 + (if get_or move j false then 1 else 0)
at-moved [] move j few = absurd (omega arith)
at-moved (times ∷ position) [] j few = omega arith
at-moved (times ∷ position) (true ∷ move) zero few = omega arith
at-moved (times ∷ position) (false ∷ move) zero few = omega arith
at-moved (times ∷ position) (true ∷ move) (suc j) few = at-moved position move j (omega arith)
at-moved (times ∷ position) (false ∷ move) (suc j) few = at-moved position move j (omega arith)

length-moved : (position : List ℕ) (move : List Bool) → length (moved_on position move) ≡ length position
length-moved [] move = refl
length-moved (times ∷ position) [] = refl
length-moved (times ∷ position) (true ∷ move) = ap suc (length-moved position move)
length-moved (times ∷ position) (false ∷ move) = ap suc (length-moved position move)

onward-itself : (position : List ℕ) → IsOnward position position
onward-itself [] = tt
onward-itself (times ∷ position) = (omega arith, omega arith, onward-itself position)

moved-onward : (position : List ℕ) (move : List Bool) → IsOnward position (moved_on position move)
moved-onward [] move = tt
moved-onward (times ∷ position) [] = onward-itself (times ∷ position)
moved-onward (times ∷ position) (true ∷ move) = (omega arith, omega arith, moved-onward position move)
moved-onward (times ∷ position) (false ∷ move) = (omega arith, omega arith, moved-onward position move)

-- one word advances by a letter
not-last : (letter odd : Bool) → not (not (beq letter odd)) ≡ not (beq (not letter) odd)
not-last true true = refl
not-last true false = refl
not-last false true = refl
not-last false false = refl

drop-first : (word : List Bool) → IsWord word → 1 < length word → first_letter (drop 1 word) ≡ not (first_letter word)
drop-first [] is_word long = absurd is_word
drop-first (letter ∷ []) is_word long = absurd (omega arith)
drop-first (true ∷ true ∷ rest) is_word long = absurd (is_word.0 refl)
drop-first (true ∷ false ∷ rest) is_word long = refl
drop-first (false ∷ true ∷ rest) is_word long = refl
drop-first (false ∷ false ∷ rest) is_word long = absurd (is_word.0 refl)

drop-count : (word : List Bool) → 1 < length word → change_count (drop 1 word) + 1 ≡ change_count word
drop-count [] long = absurd (omega arith)
drop-count (letter ∷ rest) long = omega arith

left-drop : (pin : Word) (times : ℕ) (word : List Bool) → IsLeft pin times word → 1 < length word → IsLeft pin (times + 1) (drop 1 word)
left-drop pin times word left long =
    let words : AreWords (drop 1 word ∷ []) = after_move-AreWords (word ∷ []) (true ∷ []) (left.0, tt) (λ e. long, tt) in
    let next : last_after pin.first (suc times) ≡ last_after pin.first (times + 1) = ap (last_after pin.first) (omega arith) in
    let count = drop-count word long in
    let left_over : times + 1 + change_count (drop 1 word) ≡ times + change_count word = omega (arith, count) in (
      words.0,
      drop-first word left.0 long
          ∙ (ap not left.1
          ∙ (not-last pin.first (times % 2 == 1)
          ∙ (last_after-suc pin.first times ∙ next))),
      ap Exact left_over ∙ left.2,
    )

left-move : (pins : List Word) (position : List ℕ) (words : List (List Bool)) (move : List Bool) → AreLeft pins position words → MayAdvance words move → AreLeft pins (moved_on position move) (after_move words move)
left-move [] [] [] move left may = tt
left-move [] [] (word ∷ words) move left may = absurd left
left-move [] (times ∷ position) words move left may = absurd left
left-move (pin ∷ pins) [] words move left may = absurd left
left-move (pin ∷ pins) (times ∷ position) [] move left may = absurd left
left-move (pin ∷ pins) (times ∷ position) (word ∷ words) [] left may = absurd may
left-move (pin ∷ pins) (times ∷ position) (word ∷ words) (true ∷ move) left may =
    (left-drop pin times word left.0 (may.0 refl), left-move pins position words move left.1 may.1)
left-move (pin ∷ pins) (times ∷ position) (word ∷ words) (false ∷ move) left may =
    (left.0, left-move pins position words move left.1 may.1)

-- a move leads to another position
cons-head : {a b : ℕ} {xs ys : List ℕ} → ◌≡◌ {A = List ℕ} (a ∷ xs) (b ∷ ys) → a ≡ b
cons-head e = cc

cons-tail : {a b : ℕ} {xs ys : List ℕ} → ◌≡◌ {A = List ℕ} (a ∷ xs) (b ∷ ys) → xs ≡ ys
cons-tail e = cc

move-differs : (pins : List Word) (position : List ℕ) (words : List (List Bool)) (move : List Bool) → AreLeft pins position words → MayAdvance words move → some_pin move ≡ true → moved_on position move ≡ position → ⊥
move-differs [] [] [] [] left may some same = false≢true some
move-differs [] [] [] (bit ∷ move) left may some same = may
move-differs [] [] (word ∷ words) move left may some same = left
move-differs [] (times ∷ position) words move left may some same = left
move-differs (pin ∷ pins) [] words move left may some same = left
move-differs (pin ∷ pins) (times ∷ position) [] move left may some same = left
move-differs (pin ∷ pins) (times ∷ position) (word ∷ words) [] left may some same = may
move-differs (pin ∷ pins) (times ∷ position) (word ∷ words) (true ∷ move) left may some same =
    let head : times + 1 ≡ times = cons-head same in
    omega (arith, head)
move-differs (pin ∷ pins) (times ∷ position) (word ∷ words) (false ∷ move) left may some same =
    move-differs pins position words move left.1 may.1 some (cons-tail same)

-- the move from one position to another
abbrev move_to : List ℕ → List ℕ → List Bool
move_to [] after = []
move_to (times ∷ before) [] = []
move_to (times ∷ before) (more ∷ after) = nat_lt times more ∷ move_to before after

moved-to : (before after : List ℕ) → IsOnward before after → moved_on before (move_to before after) ≡ after
moved-to [] [] onward = refl
moved-to [] (more ∷ after) onward = absurd onward
moved-to (times ∷ before) [] onward = absurd onward
moved-to (times ∷ before) (more ∷ after) onward =
    let rest = moved-to before after onward.2 in
    elim (cases_Bool (nat_lt times more)) [
      | inl less ↦
          let next : times + 1 ≡ more = omega (arith, ltb-true times more less, onward.1) in
          rw less (let head = next in cc)
      | inr not_less ↦
          let stays : times ≡ more = omega (arith, ltb-false times more not_less, onward.0) in
          rw not_less (let head = stays in cc)
    ]

long-word : (times more : ℕ) (word : List Bool) (count : Count) → times < more → IsAtMost (Exact more) count → Exact (times + change_count word) ≡ count → 1 < length word
long-word times more word (Exact c) less below same =
    let e : times + change_count word ≡ c = cc in
    omega (arith, less, below, e)
long-word times more word Many less below same = cc

may-move : (pins : List Word) (before after : List ℕ) (words : List (List Bool)) → AreLeft pins before words → IsPosition pins after → MayAdvance words (move_to before after)
may-move [] [] after [] left inside = tt
may-move [] [] after (word ∷ words) left inside = absurd left
may-move [] (times ∷ before) after words left inside = absurd left
may-move (pin ∷ pins) [] after words left inside = absurd left
may-move (pin ∷ pins) (times ∷ before) after [] left inside = absurd left
may-move (pin ∷ pins) (times ∷ before) [] (word ∷ words) left inside = absurd inside
may-move (pin ∷ pins) (times ∷ before) (more ∷ after) (word ∷ words) left inside =
    (λ less. long-word times more word pin.changes (ltb-true times more less) inside.0 left.0.2, may-move pins before after words left.1 inside.1)

no-move : (position : List ℕ) (move : List Bool) → some_pin move ≡ false → moved_on position move ≡ position
no-move [] move none = refl
no-move (times ∷ position) [] none = refl
no-move (times ∷ position) (true ∷ move) none = absurd (false≢true (sym none))
no-move (times ∷ position) (false ∷ move) none = ap (λ (rest : List ℕ). times ∷ rest) (no-move position move none)

some-move : (before after : List ℕ) → IsOnward before after → after ≢ before → some_pin (move_to before after) ≡ true
some-move before after onward differs =
    elim (cases_Bool (some_pin (move_to before after))) [
      | inl some ↦ some
      | inr none ↦ absurd (differs (sym (moved-to before after onward) ∙ no-move before (move_to before after) none))
    ]

-- where a walk begins
at-begin : (pins : List Word) (j : ℕ) → get_or (begin pins) j 0 ≡ 0
at-begin [] j = refl
at-begin (pin ∷ pins) zero = refl
at-begin (pin ∷ pins) (suc j) = at-begin pins j

exact-count : (cap n : ℕ) → IsExactCount (capped_count cap n) → Exact n ≡ capped_count cap n
exact-count cap n exact =
    elim (cases_Bool (nat_le n cap)) [
      | inl within ↦ rw within refl
      | inr beyond ↦ absurd (subst (λ (c : Count). IsExactCount c) (same beyond) exact)
    ]
  where
    same : nat_le n cap ≡ false → capped_count cap n ≡ Many
    same beyond = rw beyond refl

left-begin : (cap : ℕ) (words : List (List Bool)) → AreWords words → AreExact (map (capped_word cap) words) → AreLeft (map (capped_word cap) words) (begin (map (capped_word cap) words)) words
left-begin cap [] are_words exact = tt
left-begin cap (word ∷ words) are_words exact =
    let none : 0 + change_count word ≡ change_count word = omega arith in
    let count : Exact (0 + change_count word) ≡ capped_count cap (change_count word) = ap Exact none ∙ exact-count cap (change_count word) exact.0 in
    ((are_words.0, last_after-zero (first_letter word), count), left-begin cap words are_words.1 exact.1)

-- the same numbers at the pins keep the same orders
pub same-IsKeptAt : (wire pins pins' : ℕ) (f g : ℕ → ℕ) (order : Order) → pins ≡ pins' → ((j : ℕ) → j < pins → f j ≡ g j) → IsKeptAt wire pins f order → IsKeptAt wire pins' g order
same-IsKeptAt wire pins pins' f g order long same kept first second few few' is_first is_second much =
    let less : first < pins = omega arith in
    let less' : second < pins = omega arith in
    let here = same first less in
    let there = same second less' in
    let some = kept first second less less' is_first is_second (omega arith) in
    omega arith

module _ (orders : List Order) (kind : Kind) (wire : ℕ) (pins : List Word) where
  -- what is left of a part of a walk keeps the orders, from a position on
  abbrev KeepsOn : List ℕ → List (List Bool) → Type 0
  KeepsOn position moves =
      (k : ℕ) → k < length moves → All (λ order. IsKeptAt wire (length position) (λ j. get_or position j 0 + advances (take (suc k) moves) j) order) orders

  keeps-first : (position : List ℕ) (move : List Bool) (moves : List (List Bool)) → KeepsOn position (move ∷ moves) → KeepsAt orders wire (moved_on position move)
  keeps-first position move moves kept at none few =
      same-IsKeptAt wire (length position) (length (moved_on position move)) (λ j. get_or position j 0 + advances (take 1 (move ∷ moves)) j)
      (λ j. get_or (moved_on position move) j 0) (get_or orders at none) (sym (length-moved position move))
      (λ j less. let here = at-moved position move j less in omega arith) (kept 0 (omega arith) at none few)

  keeps-rest : (position : List ℕ) (move : List Bool) (moves : List (List Bool)) → KeepsOn position (move ∷ moves) → KeepsOn (moved_on position move) moves
  keeps-rest position move moves kept k less at none few =
      same-IsKeptAt wire (length position) (length (moved_on position move)) (λ j. get_or position j 0 + advances (take (suc (suc k)) (move ∷ moves)) j)
      (λ j. get_or (moved_on position move) j 0 + advances (take (suc k) moves) j) (get_or orders at none) (sym (length-moved position move))
      (λ j less. let here = at-moved position move j less in omega arith) (kept (suc k) (omega (arith, less)) at none few)

  keeps-cons : (position : List ℕ) (move : List Bool) (moves : List (List Bool)) → KeepsAt orders wire (moved_on position move) → KeepsOn (moved_on position move) moves → KeepsOn position (move ∷ moves)
  keeps-cons position move moves first rest zero less at none few =
      same-IsKeptAt wire (length (moved_on position move)) (length position) (λ j. get_or (moved_on position move) j 0)
      (λ j. get_or position j 0 + advances (take 1 (move ∷ moves)) j) (get_or orders at none) (length-moved position move)
      (λ j less. let here = at-moved position move j (omega (arith, less, length-moved position move)) in omega arith) (first at none few)
  keeps-cons position move moves first rest (suc k) less at none few =
      same-IsKeptAt wire (length (moved_on position move)) (length position) (λ j. get_or (moved_on position move) j 0 + advances (take (suc k) moves) j)
      (λ j. get_or position j 0 + advances (take (suc (suc k)) (move ∷ moves)) j) (get_or orders at none) (length-moved position move)
      (λ j less. let here = at-moved position move j (omega (arith, less, length-moved position move)) in omega arith)
      (rest k (omega (arith, less)) at none few)

  -- the gate changes as its values at the positions do
  change-move : (position : List ℕ) (words : List (List Bool)) (move : List Bool) → AreLeft pins position words → MayAdvance words move → change_between (gate_value kind (current_letters words)) (gate_value kind (current_letters (after_move words move))) ≡ change_between (value_of kind pins position) (value_of kind pins (moved_on position move))
  change-move position words move left may =
      rw (left-letters pins position words left, left-letters pins (moved_on position move) (after_move words move) (left-move pins position words move left may)) refl

  -- a part of a walk is a way
  part-way : (moves : List (List Bool)) (position : List ℕ) (words : List (List Bool)) → AreLeft pins position words → IsPartOfWalk words moves → KeepsOn position moves → (way : List (List ℕ)) × IsWay orders wire pins position way × (way_changes kind pins position way ≡ walk_changes (gate_value kind) words moves)
  part-way [] position words left part kept = ([], tt, refl)
  part-way (move ∷ moves) position words left part kept =
      let next = moved_on position move in
      let left' = left-move pins position words move left part.0.0 in
      let rest = part-way moves (moved_on position move) (after_move words move) left' part.1 (keeps-rest position move moves kept) in
      let is_move : IsKeptMove orders wire pins position (moved_on position move) =
      record {
        onward = moved-onward position move;
        moved = move-differs pins position words move left part.0.0 part.0.1;
        inside = left-position pins (moved_on position move) (after_move words move) left';
        kept = keeps-first position move moves kept;
      } in
      let same = change-move position words move left part.0.0 in
      let later = rest.2 in
      (moved_on position move ∷ rest.0, (is_move, rest.1), omega arith)

  -- a way is a part of a walk
  way-part : (way : List (List ℕ)) (position : List ℕ) (words : List (List Bool)) → AreLeft pins position words → IsWay orders wire pins position way → (moves : List (List Bool)) × IsPartOfWalk words moves × KeepsOn position moves × (walk_changes (gate_value kind) words moves ≡ way_changes kind pins position way)
  way-part [] position words left is_way = ([], tt, (λ k less. absurd (omega (arith, less))), refl)
  way-part (next ∷ way) position words left is_way =
      let move = move_to position next in
      let to : moved_on position (move_to position next) ≡ next = moved-to position next is_way.0.onward in
      let may : MayAdvance words (move_to position next) = may-move pins position next words left is_way.0.inside in
      let some : some_pin (move_to position next) ≡ true = some-move position next is_way.0.onward is_way.0.moved in
      let left' : AreLeft pins next (after_move words (move_to position next)) =
      subst (λ (p : List ℕ). AreLeft pins p (after_move words (move_to position next))) to (left-move pins position words (move_to position next) left may) in
      let rest = way-part way next (after_move words (move_to position next)) left' is_way.1 in
      let kept : KeepsOn position (move_to position next ∷ rest.0) =
      keeps-cons position (move_to position next) rest.0 (subst (KeepsAt orders wire) (sym to) is_way.0.kept) (subst (λ (p : List ℕ). KeepsOn p rest.0) (sym to) rest.2) in
      let same : change_between (gate_value kind (current_letters words)) (gate_value kind (current_letters (after_move words (move_to position next)))) ≡ change_between (value_of kind pins position) (value_of kind pins next) =
      change-move position words (move_to position next) left may ∙ ap (λ (p : List ℕ). change_between (value_of kind pins position) (value_of kind pins p)) to in
      let later = rest.3 in
      (move_to position next ∷ rest.0, ((may, some), rest.1), kept, omega arith)

  -- the most from the begin on is the most along the parts of walks that keep the orders
  pub most-under : (cap most : ℕ) (words : List (List Bool)) → AreWords words → map (capped_word cap) words ≡ pins → AreExact pins → IsMostFrom orders kind wire pins (begin pins) most → IsMostUnder orders kind wire words most
  most-under cap most words are_words capped exact is =
      let exact' : AreExact (map (capped_word cap) words) = subst AreExact (sym capped) exact in
      let left : AreLeft pins (begin pins) words = subst (λ (ps : List Word). AreLeft ps (begin ps) words) capped (left-begin cap words are_words exact') in
      let long : length words ≡ length (begin pins) = sym (left-length pins (begin pins) words left) in
      let numbers : (moves : List (List Bool)) (k j : ℕ) → get_or (begin pins) j 0 + advances (take (suc k) moves) j ≡ advances (take (suc k) moves) j =
      λ moves k j. let none = at-begin pins j in omega arith in
      let way = way-part is.attained.0 (begin pins) words left is.attained.1 in
      record {
        bound = λ moves keeping.
            let found = part-way moves (begin pins) words left keeping.part (λ k less at none few.
            same-IsKeptAt wire (length words) (length (begin pins)) (advances (take (suc k) moves)) (λ j. get_or (begin pins) j 0 + advances (take (suc k) moves) j)
            (get_or orders at none) long (λ j few'. sym (numbers moves k j)) (keeping.kept k less at none few)) in
            let same = found.2 in
            let below = is.bound found.0 found.1 in
            omega arith;
        attained = (
          way.0,
          record {
            part = way.1;
            kept = λ k less at none few.
                same-IsKeptAt wire (length (begin pins)) (length words) (λ j. get_or (begin pins) j 0 + advances (take (suc k) way.0) j) (advances (take (suc k) way.0))
                (get_or orders at none) (sym long) (λ j few'. numbers way.0 k j) (way.2 k less at none few);
          },
          way.3 ∙ is.attained.2,
        );
      }
