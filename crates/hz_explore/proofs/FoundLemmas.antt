-- States that are found one after the other.
use Rattle.std.proofs.Common.{◌≡◌, ◌∙◌, refl, sym, ap, subst, inl, inr, ℕ, ◌+◌, ◌<◌, ◌≤◌, ◌⊎◌, Bool, true, false, ◌||◌, List, [], ◌∷◌, ◌++◌, length, is_some, All, nat_le, append_assoc, append-nil, length-append, arith}
use Rattle.hz_explore.proofs.Words.{list_any, IsDistinct, true≢false, nat_tests, All-nil, All-cons, All-head, All-tail, All-append, has_state, state_number, same_state, most_states}
use Rattle.hz_explore.proofs.Words.{found_by, found_with, Extends}
use Rattle.std.specs.List.{position_from, AllByRecursion}
use Rattle.std.proofs.lemmas.Bool.{false_from_ne_true}
use Rattle.std.proofs.lemmas.Iterator.Adapters.{position_from-zero}
use Rattle.std.proofs.lemmas.List.Folds.{list_any-append}
use Rattle.hz_states.specs.Key.{same_state-Decides}

-- the test finds a state in itself, and the same whichever of two states comes first
pub same-self : (nodes : List Bool) → same_state nodes nodes ≡ true
same-self nodes = (same_state-Decides nodes nodes).1 refl

same-turned : (nodes other : List Bool) → same_state nodes other ≡ false → same_state other nodes ≡ false
same-turned nodes other differ =
    false_from_ne_true (same_state other nodes) (λ same.
    let equal : other ≡ nodes = (same_state-Decides other nodes).0 same in
    true≢false (sym ((same_state-Decides nodes other).1 (sym equal)) ∙ differ))

or-right : (a : Bool) → (a || true) ≡ true
or-right true = refl
or-right false = refl

or-left : (a b : Bool) → a ≡ true → (a || b) ≡ true
or-left a b e = rw e refl

-- what a list has, a longer one has
pub has-front : (states later : List (List Bool)) (nodes : List Bool) → has_state states nodes ≡ true → has_state (states ++ later) nodes ≡ true
has-front states later nodes has = list_any-append (same_state nodes) states later ∙ or-left (has_state states nodes) (has_state later nodes) has

-- the last state is there
pub has-last : (states : List (List Bool)) (nodes : List Bool) → has_state (states ++ nodes ∷ []) nodes ≡ true
has-last states nodes =
    list_any-append (same_state nodes) states (nodes ∷ [])
    ∙ ap (λ (same : Bool). has_state states nodes || (same || false)) (same-self nodes)
    ∙ or-right (has_state states nodes)

-- the place of what is found does not change behind it
from-front : (test : List Bool → Bool) (i : ℕ) (states later : List (List Bool)) → list_any test states ≡ true → position_from test i (states ++ later) ≡ position_from test i states
from-front test i [] later has = absurd (true≢false (sym has))
from-front test i (first ∷ states) later has = by (test first) refl (from-front test (i + 1) states later)
  where
    by : (here : Bool) → test first ≡ here → (list_any test states ≡ true → position_from test (i + 1) (states ++ later) ≡ position_from test (i + 1) states) → position_from test i ((first ∷ states) ++ later) ≡ position_from test i (first ∷ states)
    by true e rest = rw e refl
    by false e rest = rw e (rest (ap (λ (here : Bool). here || list_any test states) (sym e) ∙ has))

pub number-front : (states later : List (List Bool)) (nodes : List Bool) → has_state states nodes ≡ true → state_number (states ++ later) nodes ≡ state_number states nodes
number-front states later nodes has =
    position_from-zero (same_state nodes) (states ++ later)
    ∙ (from-front (same_state nodes) 0 states later has ∙ sym (position_from-zero (same_state nodes) states))

from-some : (test : List Bool → Bool) (i : ℕ) (states : List (List Bool)) → is_some (position_from test i states) ≡ list_any test states
from-some test i [] = refl
from-some test i (first ∷ states) = by (test first) refl (from-some test (i + 1) states)
  where
    by : (here : Bool) → test first ≡ here → is_some (position_from test (i + 1) states) ≡ list_any test states → is_some (position_from test i (first ∷ states)) ≡ list_any test (first ∷ states)
    by true e rest = rw e refl
    by false e rest = rw e rest

-- a state has a number if it is there
pub has-number : (states : List (List Bool)) (nodes : List Bool) → has_state states nodes ≡ is_some (state_number states nodes)
has-number states nodes = sym (ap is_some (position_from-zero (same_state nodes) states) ∙ from-some (same_state nodes) 0 states)

-- one more state: there is no room, or it is there already, or it is new
pub record IsFull (found : List (List Bool)) (nodes : List Bool) : Type 0 where
  pub full : most_states ≤ length found
  pub same : found_with found nodes ≡ found

pub record IsThere (found : List (List Bool)) (nodes : List Bool) : Type 0 where
  pub has : has_state found nodes ≡ true
  pub same : found_with found nodes ≡ found

pub record IsNew (found : List (List Bool)) (nodes : List Bool) : Type 0 where
  pub room : length found < most_states
  pub lacks : has_state found nodes ≡ false
  pub more : found_with found nodes ≡ found ++ nodes ∷ []

pub found-case : (found : List (List Bool)) (nodes : List Bool) → IsFull found nodes ⊎ (IsThere found nodes ⊎ IsNew found nodes)
found-case found nodes = by (nat_le most_states (length found)) refl (has_state found nodes) refl
  where
    by : (full : Bool) → nat_le most_states (length found) ≡ full → (has : Bool) → has_state found nodes ≡ has → IsFull found nodes ⊎ (IsThere found nodes ⊎ IsNew found nodes)
    by true f has h =
        let room : most_states ≤ length found = grind (arith, nat_tests) in
        inl (record { full = room; same = rw f refl })
    by false f true h = inr (inl (record { has = h; same = rw (f, h) refl }))
    by false f false h =
        let room : length found < most_states = grind (arith, nat_tests) in
        inr (inr (record { room = room; lacks = h; more = rw (f, h) refl }))

-- what holds of all that are found and seen holds of all that are found then
pub all-with : (P : List Bool → Type 0) (found : List (List Bool)) (nodes : List Bool) → All P found → P nodes → All P (found_with found nodes)
all-with P found nodes all here =
    elim (found-case found nodes) [
      | inl full ↦ subst (All P) (sym full.same) all
      | inr rest ↦ elim rest [
        | inl there ↦ subst (All P) (sym there.same) all
        | inr new ↦ subst (All P) (sym new.more) (All-append P found (nodes ∷ []) all (All-cons P nodes [] here (All-nil P)))
      ]
    ]

pub all-by : (P : List Bool → Type 0) (found seen : List (List Bool)) → All P found → All P seen → All P (found_by found seen)
all-by P found [] all each = all
all-by P found (nodes ∷ seen) all each = all-by P (found_with found nodes) seen (all-with P found nodes all (All-head P nodes seen each)) (All-tail P nodes seen each)

-- none stands twice
distinct-last : (found : List (List Bool)) (nodes : List Bool) → IsDistinct same_state found → has_state found nodes ≡ false → IsDistinct same_state (found ++ nodes ∷ [])
unfolding IsDistinct
distinct-last [] nodes once lacks = (tt, tt)
distinct-last (first ∷ found) nodes once lacks = by (same_state nodes first) refl (distinct-last found nodes once.1)
  where
    more : (states : List (List Bool)) → AllByRecursion (λ (y : List Bool). same_state first y ≡ false) states → same_state first nodes ≡ false → AllByRecursion (λ (y : List Bool). same_state first y ≡ false) (states ++ nodes ∷ [])
    more [] all last = (last, tt)
    more (one ∷ states) all last = (all.0, more states all.1 last)

    by : (same : Bool) → same_state nodes first ≡ same → (has_state found nodes ≡ false → IsDistinct same_state (found ++ nodes ∷ [])) → IsDistinct same_state ((first ∷ found) ++ nodes ∷ [])
    by true e rest = absurd (true≢false (sym (ap (λ (same : Bool). same || has_state found nodes) e) ∙ lacks))
    by false e rest = (more found once.0 (same-turned nodes first e), rest (sym (ap (λ (same : Bool). same || has_state found nodes) e) ∙ lacks))

pub once-by : (found seen : List (List Bool)) → IsDistinct same_state found → IsDistinct same_state (found_by found seen)
once-by found [] once = once
once-by found (nodes ∷ seen) once = once-by (found_with found nodes) seen (elim (found-case found nodes) [
  | inl full ↦ subst (IsDistinct same_state) (sym full.same) once
  | inr rest ↦ elim rest [
    | inl there ↦ subst (IsDistinct same_state) (sym there.same) once
    | inr new ↦ subst (IsDistinct same_state) (sym new.more) (distinct-last found nodes once new.lacks)
  ]
])

-- there are at most so many
few-with : (found : List (List Bool)) (nodes : List Bool) → length found ≤ most_states → length (found_with found nodes) ≤ most_states
few-with found nodes few =
    elim (found-case found nodes) [
      | inl full ↦ subst (λ (list : List (List Bool)). length list ≤ most_states) (sym full.same) few
      | inr rest ↦ elim rest [
        | inl there ↦ subst (λ (list : List (List Bool)). length list ≤ most_states) (sym there.same) few
        | inr new ↦ subst (λ (list : List (List Bool)). length list ≤ most_states) (sym new.more) (omega (arith, new.room, length-append found (nodes ∷ [])))
      ]
    ]

pub few-by : (found seen : List (List Bool)) → length found ≤ most_states → length (found_by found seen) ≤ most_states
few-by found [] few = few
few-by found (nodes ∷ seen) few = few-by (found_with found nodes) seen (few-with found nodes few)

-- what was found stays in front
grows-with : (found : List (List Bool)) (nodes : List Bool) → (later : List (List Bool)) × (found_with found nodes ≡ found ++ later)
grows-with found nodes =
    elim (found-case found nodes) [
      | inl full ↦ ([], full.same ∙ sym (append-nil found))
      | inr rest ↦ elim rest [
        | inl there ↦ ([], there.same ∙ sym (append-nil found))
        | inr new ↦ (nodes ∷ [], new.more)
      ]
    ]

pub grows-by : (found seen : List (List Bool)) → (later : List (List Bool)) × (found_by found seen ≡ found ++ later)
grows-by found [] = ([], sym (append-nil found))
grows-by found (nodes ∷ seen) =
    let one = grows-with found nodes in
    let rest = grows-by (found_with found nodes) seen in
    (one.0 ++ rest.0, rest.1 ∙ (ap (λ (list : List (List Bool)). list ++ rest.0) one.1 ∙ append_assoc found one.0 rest.0))

-- all states of an exploration begin with those that were found at any time
pub extends-self : (found : List (List Bool)) → Extends found found
extends-self found = record { later = []; whole = sym (append-nil found); full = λ full. refl }

pub extends-with : (found : List (List Bool)) (nodes : List Bool) (all : List (List Bool)) → Extends (found_with found nodes) all → Extends found all
extends-with found nodes all ext =
    elim (found-case found nodes) [
      | inl full ↦ subst (λ (list : List (List Bool)). Extends list all) full.same ext
      | inr rest ↦ elim rest [
        | inl there ↦ subst (λ (list : List (List Bool)). Extends list all) there.same ext
        | inr new ↦ record {
          later = nodes ∷ ext.later;
          whole = ext.whole ∙ (ap (λ (list : List (List Bool)). list ++ ext.later) new.more ∙ append_assoc found (nodes ∷ []) ext.later);
          full = λ full. absurd (omega (arith, full, new.room));
        }
      ]
    ]

pub extends-by : (found seen all : List (List Bool)) → Extends (found_by found seen) all → Extends found all
extends-by found [] all ext = ext
extends-by found (nodes ∷ seen) all ext = extends-with found nodes all (extends-by (found_with found nodes) seen all ext)

-- so a state has the same number among all, or none
pub number-among : (found : List (List Bool)) (nodes : List Bool) (all : List (List Bool)) → Extends (found_with found nodes) all → state_number all nodes ≡ state_number (found_with found nodes) nodes
number-among found nodes all ext =
    elim (found-case found nodes) [
      | inl full ↦ (
          let none : ext.later ≡ [] = ext.full (subst (λ (list : List (List Bool)). most_states ≤ length list) (sym full.same) full.full) in
          ap (λ (list : List (List Bool)). state_number list nodes) (ext.whole ∙ (ap (λ (list : List (List Bool)). found_with found nodes ++ list) none ∙ append-nil (found_with found nodes)))
          )
      | inr rest ↦ elim rest [
        | inl there ↦ behind (subst (λ (list : List (List Bool)). has_state list nodes ≡ true) (sym there.same) there.has)
        | inr new ↦ behind (subst (λ (list : List (List Bool)). has_state list nodes ≡ true) (sym new.more) (has-last found nodes))
      ]
    ]
  where
    behind : has_state (found_with found nodes) nodes ≡ true → state_number all nodes ≡ state_number (found_with found nodes) nodes
    behind has = ap (λ (list : List (List Bool)). state_number list nodes) ext.whole ∙ number-front (found_with found nodes) ext.later nodes has

-- the first state of all is there
pub has-first : (nodes : List Bool) (seen : List (List Bool)) → has_state (found_by [] (nodes ∷ seen)) nodes ≡ true
has-first nodes seen =
    let grown = grows-by (nodes ∷ []) seen in
    subst (λ (list : List (List Bool)). has_state list nodes ≡ true) (sym grown.1) (has-front (nodes ∷ []) grown.0 nodes (has-last [] nodes))
