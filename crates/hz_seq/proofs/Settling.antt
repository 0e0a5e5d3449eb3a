-- What the loop over the values knows.
use Rattle.std.proofs.Common.{◌≡◌, ℕ, ◌+◌, ◌<◌, ◌≤◌, Bool, true, false, List, length, map, get_or, set, Some, None, refl, sym, ap, ◌∙◌, subst, arith, inl, inr}
use Rattle.std.proofs.lemmas.Bool.{cases_lt}
use Rattle.std.proofs.lemmas.List.{ext_get_or, get_or_default, get_or-set_same, get_or-set_other, length-map}
use Rattle.hz_core.specs.declared.tri.Tri.{Tri}
use Rattle.hz_core.specs.declared.tri.Tri.TheVariants.{Zero, One, Unknown}
use Rattle.hz_core.specs.Ternary.{tri_of, known_bit}
use Rattle.hz_net.specs.Network.{bit_at, value_at}
use Rattle.hz_net.specs.Passes.{IsUnknown}
use Rattle.hz_net.proofs.Ranks.{at-tri_of}
use Rattle.hz_seq.specs.Sequence.{IsSettledAt, IsFirstUnknown}

-- bits that have the values, place by place
pub settled_at : (values : List Tri) (state : List Bool) (var : ℕ) → ((i : ℕ) → i < var → value_at values i ≡ tri_of (bit_at state i)) → length values ≡ length state → length values ≤ var → IsSettledAt values state
settled_at values state var each long all =
    ext_get_or Zero values (map tri_of state) (long ∙ sym (length-map state tri_of)) (λ i inside.
    each i (omega (arith, inside, all)) ∙ sym (at-tri_of state i))

-- a value with a bit
bit-known : (value : Tri) (bit : Bool) → known_bit value ≡ Some bit → value ≡ tri_of bit
bit-known Zero false known = refl
bit-known Zero true known = cc
bit-known One false known = cc
bit-known One true known = refl
bit-known Unknown bit known = cc

none-unknown : (value : Tri) → known_bit value ≡ None → IsUnknown value
none-unknown Zero known = cc
none-unknown One known = cc
none-unknown Unknown known = refl

bit-not_unknown : (bit : Bool) → tri_of bit ≡ Unknown → ⊥
bit-not_unknown false e = cc
bit-not_unknown true e = cc

module _ (values : List Tri) (state : List Bool) (var : ℕ) (value : Tri) (inside : var < length values) (before : (i : ℕ) → i < var → value_at values i ≡ tri_of (bit_at state i)) where
  here : value_at values var ≡ get_or values var value
  here = get_or_default values var Zero value inside

  -- one more variable has its bit
  pub one_more : (bit : Bool) → length values ≡ length state → known_bit (get_or values var value) ≡ Some bit → (i : ℕ) → i < var + 1 → value_at values i ≡ tri_of (bit_at (set state var bit) i)
  one_more bit long known i below =
      elim (cases_lt i var) [
        | inl less ↦ before i less ∙ ap tri_of (sym (get_or-set_other state var i bit false (λ same. omega (arith, less, same))))
        | inr last ↦ (
            let same : i ≡ var = omega (arith, below, last) in
            subst (λ (n : ℕ). value_at values n ≡ tri_of (bit_at (set state var bit) n)) (sym same)
            (here ∙ (bit-known (get_or values var value) bit known ∙ ap tri_of (sym (get_or-set_same state var bit false (omega (arith, inside, long))))))
            )
      ]

  -- the first that has none
  pub first_without : known_bit (get_or values var value) ≡ None → IsFirstUnknown values var
  first_without none =
      record {
        here = here ∙ none-unknown (get_or values var value) none;
        least = λ j unknown. elim (cases_lt j var) [
          | inl less ↦ absurd (bit-not_unknown (bit_at state j) (sym (before j less) ∙ unknown))
          | inr beyond ↦ beyond
        ];
      }
