-- Lists of bytes that are compared by their ends.
use Rattle.std.proofs.Common.{◌≡◌, refl, sym, ap, subst, ℕ, zero, suc, ◌+◌, ◌-◌, ◌<◌, ◌≤◌, Bool, true, false, List, length, get_or, inl, inr, ◌⊎◌, eqb, arith}
use Rattle.std.specs.Str.{bytes_eq}
use Rattle.std.proofs.lemmas.Bool.{cases_lt, eqb-true, eq-eqb}
use Rattle.std.proofs.lemmas.List.{ext_get_or}
use Rattle.std.proofs.lemmas.Slice.Eq.{bytes_eq-Decides}
use Rattle.std.specs.Hash.FoldHasher.{read_u32}

-- two tests that follow from each other
same_truth : (test other : Bool) → (test ≡ true → other ≡ true) → (other ≡ true → test ≡ true) → test ≡ other
same_truth true other then back = sym (then refl)
same_truth false true then back = back refl
same_truth false false then back = refl

module _ (name other : List ℕ) (small : (k : ℕ) → get_or name k 0 < 256) (small_too : (k : ℕ) → get_or other k 0 < 256) where
  -- the same byte stands at a place
  abbrev Same : ℕ → Type 0
  Same k = get_or name k 0 ≡ get_or other k 0

  -- four bytes are the same if they are as one number
  four-same : (at : ℕ) → read_u32 name at ≡ read_u32 other at → Same at × Same (at + 1) × Same (at + 2) × Same (at + 3)
  unfolding read_u32
  four-same at e =
      let a = small at in let b = small (at + 1) in let c = small (at + 2) in let d = small (at + 3) in
      let f = small_too at in let g = small_too (at + 1) in let h = small_too (at + 2) in let i = small_too (at + 3) in (
        omega (arith, e, a, b, c, d, f, g, h, i),
        omega (arith, e, a, b, c, d, f, g, h, i),
        omega (arith, e, a, b, c, d, f, g, h, i),
        omega (arith, e, a, b, c, d, f, g, h, i),
      )

  -- and so is each of them
  four-each : (at k : ℕ) → at ≤ k → k < at + 4 → read_u32 name at ≡ read_u32 other at → Same k
  four-each at k from below e = by (k - at) (omega (arith, from, below)) (omega (arith, from))
    where
      by : (far : ℕ) → far < 4 → k ≡ at + far → Same k
      by zero _ is = let here : at ≡ k = omega (arith, is) in subst Same here (four-same at e).0
      by (suc zero) _ is = subst Same (sym is) (four-same at e).1
      by (suc (suc zero)) _ is = subst Same (sym is) (four-same at e).2
      by (suc (suc (suc zero))) _ is = subst Same (sym is) (four-same at e).3
      by (suc (suc (suc (suc far)))) below _ = absurd (omega (arith, below))

  -- four to eight bytes are the same if the first four and the last four are
  same_by_ends :
      length name ≡ length other → 4 ≤ length name → length name ≤ 8
      → read_u32 name 0 ≡ read_u32 other 0 → read_u32 name (length name - 4) ≡ read_u32 other (length name - 4) → name ≡ other
  same_by_ends counted few many front back = ext_get_or 0 name other counted (λ k below. by k below (cases_lt k 4))
    where
      by : (k : ℕ) → k < length name → (k < 4) ⊎ (4 ≤ k) → Same k
      by k _ (inl early) = four-each 0 k (omega arith) early front
      by k below (inr late) = four-each (length name - 4) k (omega (arith, late, many)) (omega (arith, below, few)) back

  -- if the first four are the same, the last four tell whether four to eight bytes are
  pub ends-tell :
      length name ≡ length other → 4 ≤ length name → length name ≤ 8 → read_u32 name 0 ≡ read_u32 other 0
      → eqb (read_u32 name (length name - 4)) (read_u32 other (length name - 4)) ≡ bytes_eq name other
  ends-tell counted few many front =
      let last = length name - 4 in
      same_truth (eqb (read_u32 name last) (read_u32 other last)) (bytes_eq name other)
      (λ same. (bytes_eq-Decides name other).1 (same_by_ends counted few many front (eqb-true (read_u32 name last) (read_u32 other last) same)))
      (λ same. eq-eqb (read_u32 name last) (read_u32 other last) (ap (λ all. read_u32 all last) ((bytes_eq-Decides name other).0 same)))
