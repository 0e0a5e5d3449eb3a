-- The loop that sets the listed values, and what is known before any of them is carried on.
use Rattle.std.proofs.Common.{◌≡◌, ◌≢◌, ℕ, ◌+◌, ◌<◌, ◌≤◌, Bool, Option, Some, None, List, [], ◌∷◌, ◌++◌, length, set, slice_get, replicate, All, sym, ap, ◌∙◌, subst, arith, inl, inr}
use Rattle.std.specs.Prelude.{Contains}
use Rattle.std.proofs.lemmas.Bool.{cases_lt}
use Rattle.std.proofs.lemmas.Option.{slice_get_within, slice_get_past}
use Rattle.std.proofs.lemmas.List.{get_or-set_same, get_or-set_other, length-set, get_or-replicate}
use Rattle.std.proofs.lemmas.List.Elements.{All-nil, All-push, Contains-append_left, Contains-push}
use Rattle.hz_core.specs.declared.tri.Tri.{Tri}
use Rattle.hz_core.specs.declared.tri.Tri.TheVariants.{Zero, Unknown}
use Rattle.hz_core.specs.Ternary.{tri_of}
use Rattle.hz_pass.specs.Forcing.{listed_value, HasListedValues}
use Rattle.hz_net.specs.Network.{value_at}

-- what is known after the first nodes
pub record ListedSoFar (listed : List (Option Bool)) (values : List Tri) (waiting : List ℕ) (count : ℕ) : Type 0 where
  pub long : length listed ≤ length values
  pub done : (var : ℕ) → var < count → value_at values var ≡ listed_value (slice_get listed var)
  pub left : (var : ℕ) → count ≤ var → var < length values → value_at values var ≡ Unknown
  pub wait : (node : ℕ) (bit : Bool) → node < count → slice_get listed node ≡ Some (Some bit) → Contains waiting node
  pub are_listed : All (λ node. (bit : Bool) × (slice_get listed node ≡ Some (Some bit))) waiting

pub listed-begin : (listed : List (Option Bool)) (values : List Tri) (waiting : List ℕ) → length listed ≤ length values → values ≡ replicate (length values) Unknown → waiting ≡ [] → ListedSoFar listed values waiting 0
listed-begin listed values waiting long unknown none =
    record {
      long = long;
      done = λ var few. absurd (omega (arith, few));
      left = λ var from inside. ap (λ (v : List Tri). value_at v var) unknown ∙ get_or-replicate (length values) var Unknown Zero inside;
      wait = λ node bit few e. absurd (omega (arith, few));
      are_listed = subst (All (λ (node : ℕ). (bit : Bool) × (slice_get listed node ≡ Some (Some bit)))) (sym none) (All-nil (λ (node : ℕ). (bit : Bool) × (slice_get listed node ≡ Some (Some bit))));
    }

-- a node that is not listed
pub listed-none : (listed : List (Option Bool)) (values : List Tri) (waiting : List ℕ) (count : ℕ) → ListedSoFar listed values waiting count → slice_get listed count ≡ Some None → ListedSoFar listed values waiting (count + 1)
listed-none listed values waiting count so_far entry =
    let inside : count < length listed = slice_get_within listed count None entry in
    record {
      long = so_far.long;
      done = λ var few. elim (cases_lt var count) [
        | inl before ↦ so_far.done var before
        | inr here ↦ (
            let same : var ≡ count = omega (arith, few, here) in
            so_far.left var here (omega (arith, same, so_far.long)) ∙ sym (ap listed_value (ap (slice_get listed) same ∙ entry))
            )
      ];
      left = λ var from below. so_far.left var (omega (arith, from)) below;
      wait = λ node bit few e. elim (cases_lt node count) [
        | inl before ↦ so_far.wait node bit before e
        | inr here ↦ (
            let same : node ≡ count = omega (arith, few, here) in
            let moved : slice_get listed node ≡ Some None = ap (slice_get listed) same ∙ entry in
            absurd (let wrong : ⊥ = cc in wrong)
            )
      ];
      are_listed = so_far.are_listed;
    }

-- a node that is listed
pub listed-some : (listed : List (Option Bool)) (values : List Tri) (waiting : List ℕ) (count : ℕ) (bit : Bool) → ListedSoFar listed values waiting count → slice_get listed count ≡ Some (Some bit) → ListedSoFar listed (set values count (tri_of bit)) (waiting ++ count ∷ []) (count + 1)
listed-some listed values waiting count bit so_far entry =
    let inside : count < length listed = slice_get_within listed count (Some bit) entry in
    let long : length listed ≤ length values = so_far.long in
    let within : count < length values = omega arith in
    let set_long : length (set values count (tri_of bit)) ≡ length values = length-set values count (tri_of bit) in
    record {
      long = omega arith;
      done = λ var few. elim (cases_lt var count) [
        | inl before ↦ get_or-set_other values count var (tri_of bit) Zero (let other : var ≢ count = omega (arith, before) in other) ∙ so_far.done var before
        | inr here ↦ (
            let same : var ≡ count = omega (arith, few, here) in
            ap (value_at (set values count (tri_of bit))) same ∙ (get_or-set_same values count (tri_of bit) Zero within ∙ sym (ap listed_value (ap (slice_get listed) same ∙ entry)))
            )
      ];
      left = λ var from below. get_or-set_other values count var (tri_of bit) Zero (let other : var ≢ count = omega (arith, from) in other) ∙ so_far.left var (omega (arith, from)) (omega (arith, below, set_long));
      wait = λ node other few e. elim (cases_lt node count) [
        | inl before ↦ Contains-append_left waiting (count ∷ []) node (so_far.wait node other before e)
        | inr here ↦ (
            let same : count ≡ node = omega (arith, few, here) in
            subst (Contains (waiting ++ count ∷ [])) same (Contains-push waiting count)
            )
      ];
      are_listed = All-push (λ (node : ℕ). (b : Bool) × (slice_get listed node ≡ Some (Some b))) waiting count so_far.are_listed (bit, entry);
    }

pub listed-end : (listed : List (Option Bool)) (values : List Tri) (waiting : List ℕ) (count : ℕ) → ListedSoFar listed values waiting count → length listed ≤ count → HasListedValues listed values waiting
listed-end listed values waiting count so_far end =
    record {
      values_are = λ var inside. elim (cases_lt var count) [
        | inl before ↦ so_far.done var before
        | inr beyond ↦ so_far.left var beyond inside ∙ sym (ap listed_value (slice_get_past listed var (omega (arith, beyond, end))))
      ];
      wait = λ node bit e. let inside : node < length listed = slice_get_within listed node (Some bit) e in so_far.wait node bit (omega (arith, inside, end)) e;
      are_listed = so_far.are_listed;
    }
