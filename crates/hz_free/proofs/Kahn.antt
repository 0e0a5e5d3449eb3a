-- Kahn's order: telling a reader keeps what is known of the order.
use Rattle.std.proofs.Common.{◌≡◌, ℕ, zero, suc, ◌+◌, ◌-◌, ◌<◌, ◌≤◌, ◌≢◌, Bool, true, false, ◌||◌, cond, List, [], ◌∷◌, ◌++◌, length, take, get_or, set, refl, sym, ap, ◌∙◌, subst, arith, inl, inr, eqb, add-one, get_or-set_same, get_or-set_other, length-set}
use Rattle.std.proofs.lemmas.Bool.{cases_Bool, cases_lt, cases_eq, eqb-true, eq-eqb}
use Rattle.std.proofs.Math.Seq.{take-suc, get_or-append_seam, take-append_seam}
use Rattle.std.proofs.lemmas.List.{take-append-le, get_or_append_left}
use Rattle.hz_lists.specs.Listed.{is_listed}
use Rattle.hz_free.specs.Order.{occurrences, unplaced_count, IsOrdering}
use Rattle.hz_lists.proofs.ListedLemmas.{listed-append, listed-cases, listed-one, is_repeat_free-push, unlisted-before, listed-at, listed-from_take, pushed-last}

-- tests of equality
pub eqb-self : (a : ℕ) → eqb a a ≡ true
eqb-self a = eq-eqb a a refl

pub eqb-other : (a b : ℕ) → a ≢ b → eqb a b ≡ false
eqb-other a b ne =
    elim (cases_Bool (eqb a b)) [
      | inl same ↦ absurd (ne (eqb-true a b same))
      | inr other ↦ other
    ]

pub occurrences-same : (i : ℕ) (list : List ℕ) → occurrences i (i ∷ list) ≡ suc (occurrences i list)
occurrences-same i list = rw (eqb-self i) (omega arith)

pub occurrences-other : (i j : ℕ) (list : List ℕ) → i ≢ j → occurrences i (j ∷ list) ≡ occurrences i list
occurrences-other i j list ne = rw (eqb-other i j ne) (omega arith)

or-false-right : (a : Bool) → (a || false) ≡ a
or-false-right true = refl
or-false-right false = refl

pub listed-push-other : (placed : List ℕ) (var n : ℕ) → n ≢ var → is_listed (placed ++ var ∷ []) n ≡ is_listed placed n
listed-push-other placed var n ne = listed-append placed (var ∷ []) n ∙ (rw (eqb-other n var ne) (or-false-right (is_listed placed n)))

-- a number that is placed counts no more
unplaced-same : (readers : ℕ → List ℕ) (placed : List ℕ) (var n i : ℕ) → n ≤ var → unplaced_count readers placed n i ≡ unplaced_count readers (placed ++ var ∷ []) n i
unplaced-same readers placed var zero i beyond = refl
unplaced-same readers placed var (suc n) i beyond =
    let earlier = unplaced-same readers placed var n i (omega arith) in
    let ne : n ≢ var = omega arith in
    rw (listed-push-other placed var n ne) (ap (λ m. m + cond (is_listed placed n) 0 (occurrences i (readers n))) earlier)

unplaced-more : (readers : ℕ → List ℕ) (placed : List ℕ) (var n i : ℕ) → is_listed placed var ≡ false → var < n → unplaced_count readers placed n i ≡ unplaced_count readers (placed ++ var ∷ []) n i + occurrences i (readers var)
unplaced-more readers placed var zero i out few = absurd (omega arith)
unplaced-more readers placed var (suc n) i out few =
    elim (cases_eq n var) [
      | inl e ↦
          let earlier = unplaced-same readers placed var n i (omega arith) in
          let here : is_listed placed n ≡ false = rw e out in
          let there : is_listed (placed ++ var ∷ []) n ≡ true = rw e (pushed-last placed var) in
          rw (here, there) (rw (← e) (rw e (rw (← e) (omega arith))))
      | inr ne ↦
          let earlier = unplaced-more readers placed var n i out (omega arith) in
          rw (listed-push-other placed var n ne) (omega arith)
    ]

-- nothing is unplaced, or something is
pub unplaced-none : (readers : ℕ → List ℕ) (placed : List ℕ) (n i j : ℕ) → unplaced_count readers placed n i ≡ 0 → j < n → 1 ≤ occurrences i (readers j) → is_listed placed j ≡ true
unplaced-none readers placed zero i j none few some = absurd (omega arith)
unplaced-none readers placed (suc n) i j none few some =
    elim (cases_eq j n) [
      | inl e ↦
          elim (cases_Bool (is_listed placed n)) [
            | inl here ↦ rw e here
            | inr out ↦
                let all = rw out at none in
                let more : 1 ≤ occurrences i (readers n) = subst (λ (m : ℕ). 1 ≤ occurrences i (readers m)) e some in
                absurd (omega arith)
          ]
      | inr ne ↦ unplaced-none readers placed n i j (omega arith) (omega arith) some
    ]

pub record IsUnplaced (readers : ℕ → List ℕ) (placed : List ℕ) (n i : ℕ) : Type 0 where
  pub var : ℕ
  pub below : var < n
  pub out : is_listed placed var ≡ false
  pub read : 1 ≤ occurrences i (readers var)

pub unplaced-some : (readers : ℕ → List ℕ) (placed : List ℕ) (n i : ℕ) → 1 ≤ unplaced_count readers placed n i → IsUnplaced readers placed n i
unplaced-some readers placed zero i some = absurd (omega arith)
unplaced-some readers placed (suc n) i some =
    elim (cases_lt 0 (unplaced_count readers placed n i)) [
      | inl earlier ↦
          let found = unplaced-some readers placed n i (omega arith) in
          record { var = found.var; below = let b = found.below in omega arith; out = found.out; read = found.read }
      | inr none ↦
          elim (cases_Bool (is_listed placed n)) [
            | inl here ↦ let all = rw here at some in absurd (omega arith)
            | inr out ↦ let all = rw out at some in record { var = n; below = omega arith; out = out; read = omega arith }
          ]
    ]

-- lists that grow at their end
pub length-push : (xs : List ℕ) (x : ℕ) → length (xs ++ x ∷ []) ≡ suc (length xs)
length-push [] x = refl
length-push (y ∷ xs) x = ap suc (length-push xs x)

zero-test : (n : ℕ) → (eqb n 0 ≡ true) → n ≡ 0
zero-test n e = eqb-true n 0 e

module _ (readers : ℕ → List ℕ) (variables place : ℕ) (unread order : List ℕ) where
  -- the readers of the next variable are to be told
  pub begin-telling : IsOrdering readers variables place [] unread order → place < length order → IsOrdering readers variables (place + 1) (readers (get_or order place 0)) unread order
  begin-telling is few =
      let out = unlisted-before order place is.once few in
      let inside = is.inside (get_or order place 0) (listed-at order place few) in
      record {
        long = is.long;
        counted = λ i within.
            let counted = is.counted i within in
            let more = unplaced-more readers (take place order) (get_or order place 0) variables i out inside in
            rw (add-one, take-suc order place 0 few) (omega arith);
        listed = is.listed;
        once = is.once;
        inside = is.inside;
        after = is.after;
        within = omega arith;
      }

module _ (readers : ℕ → List ℕ) (variables place reader : ℕ) (left unread order : List ℕ) (is : IsOrdering readers variables place (reader ∷ left) unread order) (within_reader : reader < variables) where
  -- a reader that is told has something to be told
  pub unread-reader : 1 ≤ get_or unread reader 0
  unread-reader =
      let counted = is.counted reader within_reader in
      let same = occurrences-same reader left in
      omega arith

  inside_unread : reader < length unread
  inside_unread = let long = is.long in omega arith

  counted-told : (i : ℕ) → i < variables → get_or (set unread reader (get_or unread reader 0 - 1)) i 0 ≡ unplaced_count readers (take place order) variables i + occurrences i left
  counted-told i within =
      let counted = is.counted i within in
      elim (cases_eq i reader) [
        | inl e ↦
            let inside : reader < length unread = inside_unread in
            let same = occurrences-same reader left in
            let at_reader : get_or unread reader 0 ≡ unplaced_count readers (take place order) variables reader + occurrences reader (reader ∷ left) = is.counted reader within_reader in
            rw e (rw get_or-set_same (omega arith))
        | inr ne ↦
            let other = occurrences-other i reader left ne in
            rw get_or-set_other (omega arith)
      ]

  -- it still reads something that was not told
  pub told-waits : 1 ≤ get_or unread reader 0 - 1 → IsOrdering readers variables place left (set unread reader (get_or unread reader 0 - 1)) order
  told-waits waits = record {
    long = length-set unread reader (get_or unread reader 0 - 1) ∙ is.long;
    counted = counted-told;
    listed = λ i within.
        elim (cases_eq i reader) [
          | inl e ↦
              let inside : reader < length unread = inside_unread in
              let before = is.listed reader within_reader in
              let some : eqb (get_or unread reader 0) 0 ≡ false = eqb-other (get_or unread reader 0) 0 (omega arith) in
              let some' : eqb (get_or unread reader 0 - 1) 0 ≡ false = eqb-other (get_or unread reader 0 - 1) 0 (omega arith) in
              rw e (rw get_or-set_same (before ∙ (some ∙ sym some')))
          | inr ne ↦ rw get_or-set_other (is.listed i within)
        ];
    once = is.once;
    inside = is.inside;
    after = is.after;
    within = is.within;
  }

  -- all that it reads was told: it is placed
  pub told-placed : get_or unread reader 0 - 1 ≡ 0 → IsOrdering readers variables place left (set unread reader (get_or unread reader 0 - 1)) (order ++ reader ∷ [])
  told-placed none =
      let positive = unread-reader in
      let within = is.within in
      let before : is_listed order reader ≡ false = is.listed reader within_reader ∙ eqb-other (get_or unread reader 0) 0 (omega arith) in
      let front : take place (order ++ reader ∷ []) ≡ take place order = take-append-le place order (reader ∷ []) within in
      record {
        long = length-set unread reader (get_or unread reader 0 - 1) ∙ is.long;
        counted = λ i few. rw front (counted-told i few);
        listed = λ i few.
            elim (cases_eq i reader) [
              | inl e ↦
                  let inside : reader < length unread = inside_unread in
                  rw e (rw get_or-set_same (pushed-last order reader ∙ sym (eq-eqb (get_or unread reader 0 - 1) 0 none)))
              | inr ne ↦ rw get_or-set_other (listed-push-other order reader i ne ∙ is.listed i few)
            ];
        once = is_repeat_free-push order reader is.once before;
        inside = λ i there.
            elim (listed-cases order (reader ∷ []) i there) [
              | inl earlier ↦ is.inside i earlier
              | inr here ↦ let same = listed-one i reader here in omega arith
            ];
        after = λ at j few few_j read. placed-after at j few few_j read;
        within = let long = length-push order reader in omega arith;
      }
    where
      placed-after : (at j : ℕ) → at < length (order ++ reader ∷ []) → j < variables → 1 ≤ occurrences (get_or (order ++ reader ∷ []) at 0) (readers j) → is_listed (take at (order ++ reader ∷ [])) j ≡ true
      placed-after at j few few_j read =
          elim (cases_lt at (length order)) [
            | inl earlier ↦
                let same : get_or (order ++ reader ∷ []) at 0 ≡ get_or order at 0 = get_or_append_left order (reader ∷ []) 0 at earlier in
                let front : take at (order ++ reader ∷ []) ≡ take at order = take-append-le at order (reader ∷ []) (omega arith) in
                rw front (is.after at j earlier few_j (subst (λ (i : ℕ). 1 ≤ occurrences i (readers j)) same read))
            | inr beyond ↦
                let long = length-push order reader in
                let e : at ≡ length order = omega arith in
                let same : get_or (order ++ reader ∷ []) at 0 ≡ reader = subst (λ (i : ℕ). get_or (order ++ reader ∷ []) i 0 ≡ reader) (sym e) (get_or-append_seam order reader [] 0) in
                let front : take at (order ++ reader ∷ []) ≡ order = subst (λ (i : ℕ). take i (order ++ reader ∷ []) ≡ order) (sym e) (take-append_seam order (reader ∷ [])) in
                let counted = is.counted reader within_reader in
                let one = occurrences-same reader left in
                let all : unplaced_count readers (take place order) variables reader ≡ 0 = omega arith in
                rw front
                (listed-from_take place order j
                (unplaced-none readers (take place order) variables reader j all few_j (subst (λ (i : ℕ). 1 ≤ occurrences i (readers j)) same read)))
          ]
