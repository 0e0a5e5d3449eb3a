-- A gate whose word has two changes or more is turned by pins that went to their other letter, and turned back by more of them, or by
-- one that returns, whose own word has two changes or more.
use Rattle.std.proofs.Common.{◌≡◌, ◌≢◌, ◌⊎◌, suc, ◌<◌, ◌≤◌, Bool, true, false, not, cond, List, [], ◌∷◌, map, length, drop, refl, sym, ap, ◌∙◌, arith, inl, inr}
use Rattle.hz_bounds.proofs.Words.{le-leb, Kind, gate_value, AreWords, first_letter, change_count, current_letters, MayAdvance, after_move, change_between, walk_changes, IsWordOf}
use Rattle.hz_bounds.proofs.Words.{IsOnTheWay}
use Rattle.std.specs.Bool.{nat_le}
use Rattle.hz_word.specs.Word.{IsWord}
use Rattle.hz_word.specs.Walk.{IsWalk}

-- the letter to which a pin can go: the other one if its word has a change
abbrev pub far_letter : List Bool → Bool
far_letter word = cond (nat_le 1 (change_count word)) (not (first_letter word)) (first_letter word)

abbrev pub far_letters : List (List Bool) → List Bool
far_letters words = map far_letter words

pub same-or-not : (a b : Bool) → (a ≡ b) ⊎ (a ≢ b)
same-or-not true true = inl refl
same-or-not true false = inr (λ e. cc)
same-or-not false true = inr (λ e. cc)
same-or-not false false = inl refl

pub other : (a b : Bool) → a ≢ b → a ≡ not b
other true true differ = absurd (differ refl)
other true false differ = refl
other false true differ = refl
other false false differ = absurd (differ refl)

third : (a b c : Bool) → a ≢ b → b ≢ c → a ≡ c
third a b c differ differ' = other a b differ ∙ sym (other c b (λ e. differ' (sym e)))

pub far : (word : List Bool) (letter : Bool) → 1 ≤ change_count word → letter ≢ first_letter word → letter ≡ far_letter word
far word letter some differ = rw (le-leb 1 (change_count word) some) (other letter (first_letter word) differ)

-- what is left of a word while its pin has advanced
pub record IsLeftOf (word rest : List Bool) : Type 0 where
  pub is_word : IsWord rest
  pub fewer : change_count rest ≤ change_count word
  pub letter : (first_letter rest ≡ first_letter word)
      ⊎ ((first_letter rest ≢ first_letter word) × (suc (change_count rest) ≤ change_count word))

abbrev pub AreLeftOf : List (List Bool) → List (List Bool) → Type 0
AreLeftOf [] [] = Unit {0}
AreLeftOf [] (rest ∷ rests) = ⊥
AreLeftOf (word ∷ words) [] = ⊥
AreLeftOf (word ∷ words) (rest ∷ rests) = IsLeftOf word rest × AreLeftOf words rests

left-self : (words : List (List Bool)) → AreWords words → AreLeftOf words words
left-self [] are = tt
left-self (word ∷ words) are = (record { is_word = are.0; fewer = omega arith; letter = inl refl }, left-self words are.1)

-- how the letter of a pin goes on: it stays, or goes to the other one, or returns
abbrev GoesOn : List Bool → Bool → Bool → Type 0
GoesOn word before after =
    (after ≡ before) ⊎ ((after ≡ far_letter word) ⊎ ((before ≡ far_letter word) × (after ≡ first_letter word) × (2 ≤ change_count word)))

abbrev GoOn : List (List Bool) → List Bool → List Bool → Type 0
GoOn [] [] [] = Unit {0}
GoOn [] [] (next ∷ after) = ⊥
GoOn [] (letter ∷ before) after = ⊥
GoOn (word ∷ words) [] after = ⊥
GoOn (word ∷ words) (letter ∷ before) [] = ⊥
GoOn (word ∷ words) (letter ∷ before) (next ∷ after) = GoesOn word letter next × GoOn words before after

-- one pin advances
advances-left : (word rest : List Bool) → IsLeftOf word rest → 1 < length rest → IsLeftOf word (drop 1 rest) × GoesOn word (first_letter rest) (first_letter (drop 1 rest))
advances-left word [] left long = absurd (omega arith)
advances-left word (letter ∷ []) left long = absurd (omega arith)
advances-left word (letter ∷ next ∷ more) left long =
    let differ = left.is_word.0 in
    let few = left.fewer in
    elim left.letter [
      | inl same ↦
          let away : next ≢ first_letter word = λ e. differ (e ∙ sym same) in (
            record { is_word = left.is_word.1; fewer = omega (arith, few); letter = inr (away, omega (arith, few)) },
            inr (inl (far word next (omega (arith, few)) away)),
          )
      | inr gone ↦
          let back : next ≡ first_letter word = third next letter (first_letter word) differ gone.0 in
          let fewer = gone.1 in (
            record { is_word = left.is_word.1; fewer = omega (arith, few); letter = inl back },
            inr (inr (far word letter (omega (arith, fewer)) gone.0, back, omega (arith, fewer))),
          )
    ]

moves-left : (words rests : List (List Bool)) (move : List Bool) → AreLeftOf words rests → MayAdvance rests move → AreLeftOf words (after_move rests move) × GoOn words (current_letters rests) (current_letters (after_move rests move))
moves-left [] [] [] left may = (tt, tt)
moves-left [] [] (advances ∷ move) left may = absurd may
moves-left [] (rest ∷ rests) move left may = absurd left
moves-left (word ∷ words) [] move left may = absurd left
moves-left (word ∷ words) (rest ∷ rests) [] left may = absurd may
moves-left (word ∷ words) (rest ∷ rests) (false ∷ move) left may =
    let later = moves-left words rests move left.1 may.1 in
    ((left.0, later.0), (inl refl, later.1))
moves-left (word ∷ words) (rest ∷ rests) (true ∷ move) left may =
    let here = advances-left word rest left.0 (may.0 refl) in
    let later = moves-left words rests move left.1 may.1 in
    ((here.0, later.0), (here.1, later.1))

-- the letters that are left are on the way to the other ones
left-way : (words rests : List (List Bool)) → AreLeftOf words rests → IsOnTheWay (far_letters words) (current_letters words) (current_letters rests)
left-way [] [] left = tt
left-way [] (rest ∷ rests) left = absurd left
left-way (word ∷ words) [] left = absurd left
left-way (word ∷ words) (rest ∷ rests) left = (way left.0.letter, left-way words rests left.1)
  where
    way : (first_letter rest ≡ first_letter word) ⊎ ((first_letter rest ≢ first_letter word) × (suc (change_count rest) ≤ change_count word)) → (first_letter rest ≡ first_letter word) ⊎ (first_letter rest ≡ far_letter word)
    way (inl same) = inl same
    way (inr gone) = let fewer = gone.1 in inr (far word (first_letter rest) (omega (arith, fewer)) gone.0)

-- one pin returns, whose word has two changes or more, and the others stay
abbrev pub ReturnsOne : List (List Bool) → List Bool → List Bool → Type 0
ReturnsOne [] before after = ⊥
ReturnsOne (word ∷ words) [] after = ⊥
ReturnsOne (word ∷ words) (letter ∷ before) [] = ⊥
ReturnsOne (word ∷ words) (letter ∷ before) (next ∷ after) =
    ((letter ≡ far_letter word) × (next ≡ first_letter word) × (2 ≤ change_count word) × (after ≡ before))
    ⊎ ((next ≡ letter) × ReturnsOne words before after)

-- a gate is turned by pins that have gone, and turned back by more, or by one that returns
pub record IsTurnedBack (gate : List Bool → Bool) (words : List (List Bool)) : Type 0 where
  pub before : List Bool
  pub after : List Bool
  pub way : IsOnTheWay (far_letters words) (current_letters words) before
  pub turned : gate before ≢ gate (current_letters words)
  pub back : gate after ≡ gate (current_letters words)
  pub how : IsOnTheWay (far_letters words) before after ⊎ ReturnsOne words before after

-- the pins that go, without those that return
abbrev Return : List (List Bool) → List Bool → List Bool → Type 0
Return [] [] [] = Unit {0}
Return [] [] (next ∷ after) = ⊥
Return [] (letter ∷ before) after = ⊥
Return (word ∷ words) [] after = ⊥
Return (word ∷ words) (letter ∷ before) [] = ⊥
Return (word ∷ words) (letter ∷ before) (next ∷ after) =
    ((next ≡ letter) ⊎ ((letter ≡ far_letter word) × (next ≡ first_letter word) × (2 ≤ change_count word))) × Return words before after

go-and-return : (words : List (List Bool)) (before after : List Bool) → GoOn words before after → (gone : List Bool) × IsOnTheWay (far_letters words) before gone × Return words gone after
go-and-return [] [] [] on = ([], tt, tt)
go-and-return [] [] (next ∷ after) on = absurd on
go-and-return [] (letter ∷ before) after on = absurd on
go-and-return (word ∷ words) [] after on = absurd on
go-and-return (word ∷ words) (letter ∷ before) [] on = absurd on
go-and-return (word ∷ words) (letter ∷ before) (next ∷ after) on =
    let rest = go-and-return words before after on.1 in
    let here = one on.0 in
    (here.0 ∷ rest.0, (here.1, rest.1), (here.2, rest.2))
  where
    one : GoesOn word letter next → (gone : Bool) × ((gone ≡ letter) ⊎ (gone ≡ far_letter word)) × ((next ≡ gone) ⊎ ((gone ≡ far_letter word) × (next ≡ first_letter word) × (2 ≤ change_count word)))
    one (inl same) = (letter, inl refl, inl same)
    one (inr (inl away)) = (next, inr away, inl refl)
    one (inr (inr back)) = (letter, inl refl, inr back)

-- a row on the way to which pins return one by one
module _ (turned : Bool) where
  pub record IsOneBack (gate : List Bool → Bool) (words : List (List Bool)) : Type 0 where
    pub before : List Bool
    pub after : List Bool
    pub way : IsOnTheWay (far_letters words) (current_letters words) before
    pub away : gate before ≢ turned
    pub back : gate after ≡ turned
    pub one : ReturnsOne words before after

  one-by-one : (gate : List Bool → Bool) (words : List (List Bool)) (before after : List Bool) → IsOnTheWay (far_letters words) (current_letters words) before → Return words before after → gate before ≢ turned → gate after ≡ turned → IsOneBack gate words
  one-by-one gate [] [] [] way return away back = absurd (away back)
  one-by-one gate [] [] (next ∷ after) way return away back = absurd return
  one-by-one gate [] (letter ∷ before) after way return away back = absurd return
  one-by-one gate (word ∷ words) [] after way return away back = absurd return
  one-by-one gate (word ∷ words) (letter ∷ before) [] way return away back = absurd return
  one-by-one gate (word ∷ words) (letter ∷ before) (next ∷ after) way return away back =
      elim (same-or-not (gate (next ∷ before)) turned) [
        | inl now ↦ elim return.0 [
          | inl same ↦ absurd (away (ap (λ (bit : Bool). gate (bit ∷ before)) (sym same) ∙ now))
          | inr one ↦ record { before = letter ∷ before; after = next ∷ before; way = way; away = away; back = now; one = inl (one.0, one.1, one.2, refl) }
        ]
        | inr still ↦
            let rest = one-by-one (λ row. gate (next ∷ row)) words before after way.1 return.1 still back in
            record {
              before = next ∷ rest.before;
              after = next ∷ rest.after;
              way = (on way.0 return.0, rest.way);
              away = rest.away;
              back = rest.back;
              one = inr (refl, rest.one);
            }
      ]
    where
      on : (letter ≡ first_letter word) ⊎ (letter ≡ far_letter word) → (next ≡ letter) ⊎ ((letter ≡ far_letter word) × (next ≡ first_letter word) × (2 ≤ change_count word)) → (next ≡ first_letter word) ⊎ (next ≡ far_letter word)
      on (inl first) (inl same) = inl (same ∙ first)
      on (inr gone) (inl same) = inr (same ∙ gone)
      on was (inr one) = inl one.1

no-change : (a b c : Bool) → a ≢ c → b ≢ c → change_between a b ≡ 0
no-change true true c differ differ' = omega arith
no-change true false true differ differ' = absurd (differ refl)
no-change true false false differ differ' = absurd (differ' refl)
no-change false true true differ differ' = absurd (differ' refl)
no-change false true false differ differ' = absurd (differ refl)
no-change false false c differ differ' = omega arith

no-change-same : (a b c : Bool) → a ≡ c → b ≡ c → change_between a b ≡ 0
no-change-same true true c e f = omega arith
no-change-same true false true e f = cc
no-change-same true false false e f = cc
no-change-same false true true e f = cc
no-change-same false true false e f = cc
no-change-same false false c e f = omega arith

at-most-one : (a b : Bool) → change_between a b ≤ 1
at-most-one true true = omega arith
at-most-one true false = omega arith
at-most-one false true = omega arith
at-most-one false false = omega arith

on-way : (ends start before after : List Bool) → IsOnTheWay ends start before → IsOnTheWay ends before after → IsOnTheWay ends start after
on-way [] [] [] [] first second = tt
on-way [] [] [] (d ∷ after) first second = absurd second
on-way [] [] (c ∷ before) after first second = absurd first
on-way [] (b ∷ start) before after first second = absurd first
on-way (a ∷ ends) [] before after first second = absurd first
on-way (a ∷ ends) (b ∷ start) [] after first second = absurd first
on-way (a ∷ ends) (b ∷ start) (c ∷ before) [] first second = absurd second
on-way (a ∷ ends) (b ∷ start) (c ∷ before) (d ∷ after) first second =
    (one first.0 second.0, on-way ends start before after first.1 second.1)
  where
    one : (c ≡ b) ⊎ (c ≡ a) → (d ≡ c) ⊎ (d ≡ a) → (d ≡ b) ⊎ (d ≡ a)
    one (inl e) (inl f) = inl (f ∙ e)
    one (inr e) (inl f) = inr (f ∙ e)
    one (inl e) (inr f) = inr f
    one (inr e) (inr f) = inr f

module _ (gate : List Bool → Bool) (words : List (List Bool)) where
  -- the step by which a walk turns the gate back
  step-back : (before after : List Bool) → IsOnTheWay (far_letters words) (current_letters words) before → GoOn words before after → gate before ≢ gate (current_letters words) → gate after ≡ gate (current_letters words) → IsTurnedBack gate words
  step-back before after way on turned back =
      let parts = go-and-return words before after on in
      elim (same-or-not (gate parts.0) (gate (current_letters words))) [
        | inl closed ↦ record { before = before; after = parts.0; way = way; turned = turned; back = closed; how = inl parts.1 }
        | inr still ↦
            let one = one-by-one (gate (current_letters words)) gate words parts.0 after
            (on-way (far_letters words) (current_letters words) before parts.0 way parts.1) parts.2 still back in
            record { before = one.before; after = one.after; way = one.way; turned = one.away; back = one.back; how = inr one.one }
      ]

  -- while the gate is turned, one change more turns it back
  turned-walk : (rests moves : List (List Bool)) → AreLeftOf words rests → IsWalk rests moves → gate (current_letters rests) ≢ gate (current_letters words) → 1 ≤ walk_changes gate rests moves → IsTurnedBack gate words
  turned-walk rests [] left walk turned some = absurd (omega arith)
  turned-walk rests (move ∷ moves) left walk turned some =
      let next = moves-left words rests move left walk.0.0 in
      elim (same-or-not (gate (current_letters (after_move rests move))) (gate (current_letters words))) [
        | inl back ↦ step-back (current_letters rests) (current_letters (after_move rests move)) (left-way words rests left) next.1 turned back
        | inr still ↦
            let none = no-change (gate (current_letters rests)) (gate (current_letters (after_move rests move))) (gate (current_letters words)) turned still in
            turned-walk (after_move rests move) moves next.0 walk.1 still (omega (arith, none, some))
      ]

  walk-back : (rests moves : List (List Bool)) → AreLeftOf words rests → IsWalk rests moves → gate (current_letters rests) ≡ gate (current_letters words) → 2 ≤ walk_changes gate rests moves → IsTurnedBack gate words
  walk-back rests [] left walk same some = absurd (omega arith)
  walk-back rests (move ∷ moves) left walk same some =
      let next = moves-left words rests move left walk.0.0 in
      elim (same-or-not (gate (current_letters (after_move rests move))) (gate (current_letters words))) [
        | inl still ↦
            let none = no-change-same (gate (current_letters rests)) (gate (current_letters (after_move rests move))) (gate (current_letters words)) same still in
            walk-back (after_move rests move) moves next.0 walk.1 still (omega (arith, none, some))
        | inr turned ↦
            let one = at-most-one (gate (current_letters rests)) (gate (current_letters (after_move rests move))) in
            turned-walk (after_move rests move) moves next.0 walk.1 turned (omega (arith, one, some))
      ]

  -- with one change the gate is turned by pins that have gone
  walk-turned : (rests moves : List (List Bool)) → AreLeftOf words rests → IsWalk rests moves → gate (current_letters rests) ≡ gate (current_letters words) → 1 ≤ walk_changes gate rests moves → (row : List Bool) × IsOnTheWay (far_letters words) (current_letters words) row × (gate row ≢ gate (current_letters words))
  walk-turned rests [] left walk same some = absurd (omega arith)
  walk-turned rests (move ∷ moves) left walk same some =
      let next = moves-left words rests move left walk.0.0 in
      elim (same-or-not (gate (current_letters (after_move rests move))) (gate (current_letters words))) [
        | inl still ↦
            let none = no-change-same (gate (current_letters rests)) (gate (current_letters (after_move rests move))) (gate (current_letters words)) same still in
            walk-turned (after_move rests move) moves next.0 walk.1 still (omega (arith, none, some))
        | inr turned ↦ (current_letters (after_move rests move), left-way words (after_move rests move) next.0, turned)
      ]

-- a gate whose word has two changes or more
pub turned-back : (kind : Kind) (words : List (List Bool)) (word : List Bool) → AreWords words → IsWordOf kind words word → 2 ≤ change_count word → IsTurnedBack (gate_value kind) words
turned-back kind words word are is some =
    let count = is.attained.2 in
    walk-back (gate_value kind) words words is.attained.0 (left-self words are) is.attained.1 refl (omega (arith, count, some))

-- a gate whose word has a change
pub turned-once : (kind : Kind) (words : List (List Bool)) (word : List Bool) → AreWords words → IsWordOf kind words word → 1 ≤ change_count word → (row : List Bool) × IsOnTheWay (far_letters words) (current_letters words) row × (gate_value kind row ≢ gate_value kind (current_letters words))
turned-once kind words word are is some =
    let count = is.attained.2 in
    walk-turned (gate_value kind) words words is.attained.0 (left-self words are) is.attained.1 refl (omega (arith, count, some))
