-- Turns in the order of a key: who has had one and whose comes next, and that they keep what each turn keeps.
use Rattle.std.proofs.Common.{◌≡◌, ◌≢◌, ℕ, zero, suc, ◌+◌, ◌<◌, ◌≤◌, ◌⊎◌, ◌&&◌, ◌||◌, Bool, true, false, List, [], ◌∷◌, ◌++◌, length, get_or, take, refl, sym, ap, ◌∙◌, subst, arith, inl, inr, eqb, sum_by}
use Rattle.hz_reach.proofs.Words.{cases_eq, cases_lt, cases_order, both_ways, and_parts, and_from, or_right, false_from_ne_true, get_or-le-sum_by}
use Rattle.hz_reach.proofs.Words.{is_listed, key_at, IsEarlier, IsInKeyOrder, IsBefore, AreBefore, listed-at, listed-place}
use Rattle.std.proofs.lemmas.Bool.{eqb-true, eq-eqb, ne_eqb}
use Rattle.std.proofs.Math.Path.{fun_ext}
use Rattle.std.proofs.lemmas.List.{take_all, length-take, get_or-take}
use Rattle.std.proofs.lemmas.List.Folds.{list_any_more}
use Rattle.hz_reach.proofs.Links.{before-more}
use Rattle.hz_reach.proofs.ListPlaces.{key-inside}

-- The order by a key and then by number

pub not-earlier : (keys : List ℕ) (i : ℕ) → IsEarlier keys i i → ⊥
not-earlier keys i (inl less) = omega (arith, less)
not-earlier keys i (inr same) = omega (arith, same.1)

pub not-both : (keys : List ℕ) (i j : ℕ) → IsEarlier keys i j → IsEarlier keys j i → ⊥
not-both keys i j (inl less) (inl more) = omega (arith, less, more)
not-both keys i j (inl less) (inr same) = omega (arith, less, same.0)
not-both keys i j (inr same) (inl more) = omega (arith, more, same.0)
not-both keys i j (inr same) (inr other) = omega (arith, same.1, other.1)

pub earlier-or-not : (keys : List ℕ) (i j : ℕ) → IsEarlier keys i j ⊎ (IsEarlier keys i j → ⊥)
earlier-or-not keys i j =
    elim (cases_order (key_at keys i) (key_at keys j)) [
      | inl same ↦ elim (cases_lt i j) [
        | inl less ↦ inl (inr (same, less))
        | inr more ↦ inr (not-less same more)
      ]
      | inr (inl less) ↦ inl (inl less)
      | inr (inr more) ↦ inr (λ before. elim before [ inl less ↦ omega (arith, more, less) | inr same ↦ omega (arith, more, same.0) ])
    ]
  where
    not-less : key_at keys i ≡ key_at keys j → j ≤ i → IsEarlier keys i j → ⊥
    not-less same more (inl less) = omega (arith, same, less)
    not-less same more (inr both) = omega (arith, more, both.1)

-- what stands before a place stands at a lesser one
pub before-place : (order : List ℕ) (place i : ℕ) → is_listed (take place order) i ≡ true → (k : ℕ) × (k < place) × (k < length order) × (get_or order k 0 ≡ i)
before-place order place i there =
    let at = listed-place (take place order) i there in
    let less : at.0 < place = omega (arith, at.1, length-take place order) in
    (at.0, less, omega (arith, at.1, length-take place order), sym (get_or-take place order at.0 0 less) ∙ at.2)

pub place-before : (order : List ℕ) (place k i : ℕ) → k < place → k < length order → get_or order k 0 ≡ i → is_listed (take place order) i ≡ true
place-before order place k i less inside is =
    subst (λ (n : ℕ). is_listed (take place order) n ≡ true) (get_or-take place order k 0 less ∙ is)
    (listed-at (take place order) k (omega (arith, less, inside, length-take place order)))

-- Who has had a turn: of the variables that have turns those before a place of the order
abbrev pub had_before : (ℕ → Bool) → List ℕ → ℕ → ℕ → Bool
had_before turning order place i = turning i && is_listed (take place order) i

-- and one more
abbrev pub also : (ℕ → Bool) → ℕ → ℕ → Bool
also had gate i = had i || eqb i gate

pub also-itself : (had : ℕ → Bool) (gate i : ℕ) → i ≡ gate → also had gate i ≡ true
also-itself had gate i same = or_right (had i) (eqb i gate) (eq-eqb i gate same)

pub also-other : (had : ℕ → Bool) (gate i : ℕ) → i ≢ gate → also had gate i ≡ had i
also-other had gate i other = rw (ne_eqb i gate other) (or-none (had i))
  where
    or-none : (bit : Bool) → (bit || false) ≡ bit
    or-none true = refl
    or-none false = refl

-- a variable whose turn comes next: all earlier ones have had theirs, and no others
pub record IsNext (keys : List ℕ) (turning had : ℕ → Bool) (gate : ℕ) : Type 0 where
  pub turns : turning gate ≡ true
  pub keyed : key_at keys gate ≢ 0
  pub waits : had gate ≡ false
  pub before : (i : ℕ) → turning i ≡ true → key_at keys i ≢ 0 → IsEarlier keys i gate → had i ≡ true
  pub only : (i : ℕ) → had i ≡ true → IsEarlier keys i gate

-- before a place stand the earlier variables that have a key
module _ {keys order : List ℕ} (sorted : IsInKeyOrder keys order) (place : ℕ) (inside : place < length order) where
  pub listed-earlier : (i : ℕ) → is_listed (take place order) i ≡ true → IsEarlier keys i (get_or order place 0)
  listed-earlier i there =
      let at = before-place order place i there in
      subst (λ (n : ℕ). IsEarlier keys n (get_or order place 0)) at.3 (sorted.ordered at.0 place at.1 inside)

  pub earlier-listed : (i : ℕ) → key_at keys i ≢ 0 → IsEarlier keys i (get_or order place 0) → is_listed (take place order) i ≡ true
  earlier-listed i some less =
      let at = listed-place order i ((sorted.keyed i).1 some) in
      elim (cases_order at.0 place) [
        | inl here ↦ absurd (not-earlier keys i (subst (IsEarlier keys i) (ap (λ (n : ℕ). get_or order n 0) (sym here) ∙ at.2) less))
        | inr (inl early) ↦ place-before order place at.0 i early at.1 at.2
        | inr (inr behind) ↦
            absurd (not-both keys i (get_or order place 0) less (subst (IsEarlier keys (get_or order place 0)) at.2 (sorted.ordered place at.0 behind at.1)))
      ]

module _ {keys order : List ℕ} (sorted : IsInKeyOrder keys order) (turning : ℕ → Bool) where
  module _ (place : ℕ) (inside : place < length order) where
    pub place-next : turning (get_or order place 0) ≡ true → IsNext keys turning (had_before turning order place) (get_or order place 0)
    place-next turns = record {
      turns = turns;
      keyed = (sorted.keyed (get_or order place 0)).0 (listed-at order place inside);
      waits = false_from_ne_true _ (λ had. not-earlier keys (get_or order place 0) (listed-earlier sorted place inside (get_or order place 0) (and_parts _ _ had).1));
      before = λ i comes some less. and_from _ _ comes (earlier-listed sorted place inside i some less);
      only = λ i had. listed-earlier sorted place inside i (and_parts _ _ had).1;
    }

    -- before the next place stands one variable more, which has a turn or not
    with-turn : (comes there here : Bool) → (here ≡ true → comes ≡ true) → (comes && (there || here)) ≡ ((comes && there) || here)
    with-turn true there here e = refl
    with-turn false there true e = absurd (both_ways false refl (e refl))
    with-turn false there false e = refl

    with-none : (comes there here : Bool) → (here ≡ true → comes ≡ false) → (comes && (there || here)) ≡ (comes && there)
    with-none false there here e = refl
    with-none true true here e = refl
    with-none true false true e = absurd (both_ways true (e refl) refl)
    with-none true false false e = refl

    pub turn-comes : turning (get_or order place 0) ≡ true → had_before turning order (place + 1) ≡ also (had_before turning order place) (get_or order place 0)
    turn-comes turns = fun_ext (λ i.
        ap (λ (b : Bool). turning i && b) (list_any_more (eqb i) order place 0 inside)
        ∙ with-turn (turning i) (is_listed (take place order) i) (eqb i (get_or order place 0)) (λ same. ap turning (eqb-true i _ same) ∙ turns))

    pub none-comes : turning (get_or order place 0) ≡ false → had_before turning order (place + 1) ≡ had_before turning order place
    none-comes none = fun_ext (λ i.
        ap (λ (b : Bool). turning i && b) (list_any_more (eqb i) order place 0 inside)
        ∙ with-none (turning i) (is_listed (take place order) i) (eqb i (get_or order place 0)) (λ same. ap turning (eqb-true i _ same) ∙ none))

  -- at the beginning nobody has had a turn
  pub none-yet : had_before turning order 0 ≡ (λ i. false)
  none-yet = fun_ext (λ i. none (turning i))
    where
      none : (comes : Bool) → (comes && false) ≡ false
      none true = refl
      none false = refl

  -- and at the end all that have a key
  pub all-had : (place i : ℕ) → length order ≤ place → turning i ≡ true → key_at keys i ≢ 0 → had_before turning order place i ≡ true
  all-had place i end comes some =
      and_from _ _ comes (ap (λ (list : List ℕ). is_listed list i) (take_all place order end) ∙ (sorted.keyed i).1 some)

  -- Turns in the order of the key keep what each turn keeps.
  module _ (Holds : (ℕ → Bool) → Type 0) (begins : Holds (λ i. false)) (turn : (had : ℕ → Bool) (gate : ℕ) → IsNext keys turning had gate → Holds had → Holds (also had gate)) where
    pub after-turns : (place : ℕ) → place ≤ length order → Holds (had_before turning order place)
    after-turns zero few = subst Holds (sym none-yet) begins
    after-turns (suc place) few =
        let inside : place < length order = omega (arith, few) in
        let more : place + 1 ≡ suc place = omega arith in
        let so_far = after-turns place (omega (arith, few)) in
        subst (λ (n : ℕ). Holds (had_before turning order n)) more
        (by_turn place inside so_far (turning (get_or order place 0)) refl)
      where
        by_turn : (place : ℕ) → place < length order → Holds (had_before turning order place) → (comes : Bool) → turning (get_or order place 0) ≡ comes → Holds (had_before turning order (place + 1))
        by_turn place inside so_far true comes =
            subst Holds (sym (turn-comes place inside comes)) (turn (had_before turning order place) (get_or order place 0) (place-next place inside comes) so_far)
        by_turn place inside so_far false none = subst Holds (sym (none-comes place inside none)) so_far

-- There is such an order

-- two bounds that let the same variables through
same-before :
    {keys list : List ℕ} {key from later to : ℕ} → ((i : ℕ) → key_at keys i ≢ 0 → IsBefore keys key from i → IsBefore keys later to i) →
    ((i : ℕ) → key_at keys i ≢ 0 → IsBefore keys later to i → IsBefore keys key from i) → AreBefore keys key from list → AreBefore keys later to list
same-before there back before = record {
  keyed = λ i. ((λ is. let was = (before.keyed i).0 is in (was.0, there i was.0 was.1)), (λ is. (before.keyed i).1 (is.0, back i is.0 is.1)));
  ordered = before.ordered;
}

ordered-to : (keys : List ℕ) (key from : ℕ) → (list : List ℕ) × AreBefore keys (suc key) from list
ordered-to keys zero zero = (
  [],
  record {
    keyed = λ i. ((λ there. absurd (both_ways false refl there)), (λ is. elim is.1 [ inl less ↦ absurd (is.0 (omega (arith, less))) | inr same ↦ absurd (omega (arith, same.1)) ]));
    ordered = λ j k less inside. absurd (omega (arith, inside));
  },
)
ordered-to keys (suc key) zero =
    let before = ordered-to keys key (length keys) in
    (before.0, same-before {from = length keys} (λ i some is. inl (elim is [ inl less ↦ omega (arith, less) | inr same ↦ omega (arith, same.0) ])) back before.1)
  where
    back : (i : ℕ) → key_at keys i ≢ 0 → IsBefore keys (suc (suc key)) 0 i → IsBefore keys (suc key) (length keys) i
    back i some (inl less) = elim (cases_eq (key_at keys i) (suc key)) [ inl same ↦ inr (same, key-inside keys i some) | inr other ↦ inl (omega (arith, less, other)) ]
    back i some (inr same) = absurd (omega (arith, same.1))
ordered-to keys key (suc from) =
    let before = ordered-to keys key from in
    elim (cases_eq (key_at keys from) (suc key)) [
      | inl here ↦ (
        before.0 ++ from ∷ [],
        before-more keys before.0 (suc key) from from (λ e. omega (arith, e)) before.1
            (record { at_least = omega arith; within = omega (arith, key-inside keys from (some here)); skips = λ i above below same. omega (arith, above, below); has = λ inside. here })
            (key-inside keys from (some here)),
      )
      | inr other ↦ (before.0, same-before {from = from} (λ i keyed is. elim is [ inl less ↦ inl less | inr same ↦ inr (same.0, omega (arith, same.1)) ]) (back other) before.1)
    ]
  where
    some : {n : ℕ} → n ≡ suc key → n ≢ 0
    some is none = omega (arith, is, none)

    back : key_at keys from ≢ suc key → (i : ℕ) → key_at keys i ≢ 0 → IsBefore keys (suc key) (suc from) i → IsBefore keys (suc key) from i
    back other i keyed (inl less) = inl less
    back other i keyed (inr same) = inr (same.0, elim (cases_eq i from) [ inl this ↦ absurd (other (ap (key_at keys) (sym this) ∙ same.0)) | inr away ↦ omega (arith, same.1, away) ])

pub order-found : (keys : List ℕ) → (list : List ℕ) × IsInKeyOrder keys list
order-found keys =
    let found = ordered-to keys (sum_by (λ (key : ℕ). key) keys) 0 in (
      found.0,
      record {
        keyed = λ i. (
          (λ there. ((found.1.keyed i).0 there).0),
          (λ some. (found.1.keyed i).1 (some, inl (omega (arith, get_or-le-sum_by (λ (key : ℕ). key) keys i 0 (key-inside keys i some))))),
        );
        ordered = found.1.ordered;
      },
    )
