-- What the letters of words come to for a gate with a controlling letter, which alone gives the gate its value: 1 for OR,
-- 0 for AND.
use Rattle.std.proofs.Common.{◌≡◌, ℕ, zero, suc, ◌+◌, ◌*◌, ◌≤◌, Bool, true, false, ◌||◌, List, [], ◌∷◌, refl, sym, ◌∙◌, ◌⊎◌, inl, inr, arith}
use Rattle.std.specs.Bool.{beq, if◌then◌else◌}
use Rattle.std.proofs.lemmas.Bool.{false≢true, true≢false}
use Rattle.hz_word.specs.Walk.{change_between}

-- the letters of a word other than the controlling one
abbrev pub others : Bool → List Bool → ℕ
others letter [] = 0
others true (true ∷ word) = others true word
others true (false ∷ word) = suc (others true word)
others false (true ∷ word) = suc (others false word)
others false (false ∷ word) = others false word

-- the last of the letters after a letter, or this letter
abbrev pub final : Bool → List Bool → Bool
final letter [] = letter
final letter (next ∷ rest) = final next rest

abbrev pub is_zero : ℕ → Bool
is_zero zero = true
is_zero (suc n) = false

abbrev pub less_one : ℕ → ℕ
less_one zero = zero
less_one (suc n) = n

abbrev pub bit : Bool → ℕ
bit b = if b then 1 else 0

-- Of words: whether one has the controlling letter alone, whether one begins with it, whether one ends with it, and how many
-- other letters the words have beyond one each.
pub record Totals : Type 0 where
  pub fixed : Bool
  pub first : Bool
  pub last : Bool
  pub further : ℕ

abbrev pub of_word : Bool → List Bool → Totals
of_word letter [] = record { fixed = false; first = false; last = false; further = 0 }
of_word letter (present ∷ rest) = record {
  fixed = is_zero (others letter (present ∷ rest));
  first = beq letter present;
  last = beq letter (final present rest);
  further = less_one (others letter (present ∷ rest));
}

abbrev pub plus : Totals → Totals → Totals
plus left right = record {
  fixed = left.fixed || right.fixed;
  first = left.first || right.first;
  last = left.last || right.last;
  further = left.further + right.further;
}

abbrev pub nothing : Totals
nothing = record { fixed = false; first = false; last = false; further = 0 }

abbrev pub totals : Bool → List (List Bool) → Totals
totals letter [] = nothing
totals letter (word ∷ words) = plus (of_word letter word) (totals letter words)

-- the most changes of a walk
abbrev pub most_by : Bool → ℕ → Bool → Bool → ℕ
most_by true further first last = 0
most_by false further first last = 2 * further + bit first + bit last

abbrev pub most_of : Totals → ℕ
most_of t = most_by t.fixed t.further t.first t.last

-- a word with the controlling letter alone begins and ends with it
pub record IsSound (t : Totals) : Type 0 where
  pub begins : t.fixed ≡ true → t.first ≡ true
  pub ends : t.fixed ≡ true → t.last ≡ true

-- how a move changes the totals
pub record IsMoved (before after : Totals) : Type 0 where
  pub same_last : after.last ≡ before.last
  pub kept : before.fixed ≡ true → after.fixed ≡ true
  pub fewer : after.further ≤ before.further
  pub rises : before.first ≡ false → after.first ≡ true → (after.fixed ≡ true) ⊎ (after.further + 1 ≤ before.further)

-- booleans
or-true : (a b : Bool) → (a || b) ≡ true → (a ≡ true) ⊎ (b ≡ true)
or-true true b e = inl refl
or-true false b e = inr e

pub or-false-left : (a b : Bool) → (a || b) ≡ false → a ≡ false
or-false-left true b e = absurd (true≢false e)
or-false-left false b e = refl

pub or-false-right : (a b : Bool) → (a || b) ≡ false → b ≡ false
or-false-right true b e = absurd (true≢false e)
or-false-right false b e = e

or-left : (a b : Bool) → a ≡ true → (a || b) ≡ true
or-left a b e = rw e refl

or-right : (a b : Bool) → b ≡ true → (a || b) ≡ true
or-right true b e = refl
or-right false b e = e

pub plus-IsSound : (t u : Totals) → IsSound t → IsSound u → IsSound (plus t u)
plus-IsSound t u st su = record {
  begins = λ e. elim (or-true t.fixed u.fixed e) [
    | inl l ↦ or-left t.first u.first (st.begins l)
    | inr r ↦ or-right t.first u.first (su.begins r)
  ];
  ends = λ e. elim (or-true t.fixed u.fixed e) [
    | inl l ↦ or-left t.last u.last (st.ends l)
    | inr r ↦ or-right t.last u.last (su.ends r)
  ];
}

pub plus-IsMoved : (t u t' u' : Totals) → IsMoved t t' → IsMoved u u' → IsMoved (plus t u) (plus t' u')
plus-IsMoved t u t' u' mt mu =
    let less_t = mt.fewer in
    let less_u = mu.fewer in
    record {
      same_last = let e = mt.same_last in let f = mu.same_last in cc;
      kept = λ e. elim (or-true t.fixed u.fixed e) [
        | inl l ↦ or-left t'.fixed u'.fixed (mt.kept l)
        | inr r ↦ or-right t'.fixed u'.fixed (mu.kept r)
      ];
      fewer = omega arith;
      rises = λ was is. elim (or-true t'.first u'.first is) [
        | inl l ↦ elim (mt.rises (or-false-left t.first u.first was) l) [
          | inl fixed ↦ inl (or-left t'.fixed u'.fixed fixed)
          | inr less ↦ inr (omega arith)
        ]
        | inr r ↦ elim (mu.rises (or-false-right t.first u.first was) r) [
          | inl fixed ↦ inl (or-right t'.fixed u'.fixed fixed)
          | inr less ↦ inr (omega arith)
        ]
      ];
    }

pub same-IsMoved : (t : Totals) → IsMoved t t
same-IsMoved t = record {
  same_last = refl;
  kept = λ e. e;
  fewer = omega arith;
  rises = λ was is. absurd (false≢true (sym was ∙ is));
}

-- the bound, over plain values
bound_by : (fixed fixed' first first' last : Bool) (further further' : ℕ) → (fixed ≡ true → fixed' ≡ true) → further' ≤ further → (first ≡ false → first' ≡ true → (fixed' ≡ true) ⊎ (further' + 1 ≤ further)) → (fixed ≡ true → first ≡ true) → (fixed' ≡ true → first' ≡ true) → (fixed' ≡ true → last ≡ true) → change_between first first' + most_by fixed' further' first' last ≤ most_by fixed further first last
bound_by true true true true last further further' kept fewer rises begins begins' ends = omega arith
bound_by true true true false last further further' kept fewer rises begins begins' ends = absurd (false≢true (begins' refl))
bound_by true true false first' last further further' kept fewer rises begins begins' ends = absurd (false≢true (begins refl))
bound_by true false first first' last further further' kept fewer rises begins begins' ends = absurd (false≢true (kept refl))
bound_by false true first false last further further' kept fewer rises begins begins' ends = absurd (false≢true (begins' refl))
bound_by false true first true false further further' kept fewer rises begins begins' ends = absurd (false≢true (ends refl))
bound_by false true true true true further further' kept fewer rises begins begins' ends = omega arith
bound_by false true false true true further further' kept fewer rises begins begins' ends = omega arith
bound_by false false true true last further further' kept fewer rises begins begins' ends = omega arith
bound_by false false true false last further further' kept fewer rises begins begins' ends = omega arith
bound_by false false false false last further further' kept fewer rises begins begins' ends = omega arith
bound_by false false false true last further further' kept fewer rises begins begins' ends =
    elim (rises refl refl) [
      | inl wrong ↦ absurd (false≢true wrong)
      | inr less ↦ omega arith
    ]

-- a move lowers the most changes by at least the change that it makes
pub bound : (t t' : Totals) → IsMoved t t' → IsSound t → IsSound t' → change_between t.first t'.first + most_of t' ≤ most_of t
bound t t' moved sound sound' =
    let same = moved.same_last in
    rw same (bound_by t.fixed t'.fixed t.first t'.first t.last t.further t'.further moved.kept moved.fewer moved.rises sound.begins sound'.begins
    (λ e. sym same ∙ sound'.ends e))
