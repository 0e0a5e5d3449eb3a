-- The canonical pattern: where there is one, and what it is by cases.
use Rattle.std.proofs.Common.{◌≡◌, ℕ, zero, suc, ◌+◌, ◌<◌, ◌≤◌, Bool, true, false, not, List, [], ◌∷◌, length, get_or, set, replicate, Option, Some, None, MatchOption, IsTrue, refl, sym, ap, subst, ◌∙◌, inl, inr, arith, get_or-set_same, get_or-set_other}
use Rattle.std.proofs.lemmas.Bool.{false≢true, true≢false, cases_eq, cases_Bool, cases_lt}
use Rattle.std.proofs.lemmas.List.{ext_get_or}
use Rattle.std.proofs.lemmas.List.Elements.{filter_passes, All-head}
use Rattle.std.proofs.lemmas.List.Quantifiers.{position-Some}
use Rattle.std.specs.List.{filter, range_with_len, position, All}
use Rattle.std.proofs.Math.ListN.{get_or-eq_default, length-set}
use Rattle.std.proofs.lemmas.List.Folds.{list_any_at}
use Rattle.hz_core.specs.declared.kind.Kind.{Kind}
use Rattle.hz_core.specs.declared.tri.Tri.{Tri}
use Rattle.hz_core.specs.declared.tri.Tri.TheVariants.{Zero, One, Unknown}
use Rattle.hz_core.specs.Ternary.{tri_of, admits, IsJoinOf}
use Rattle.hz_core.specs.Gate.{takes, gate_value}
use Rattle.hz_core.specs.Extension.{extension, IsValueOver}
use Rattle.hz_core.specs.Pattern.{AgreesAtFixedPins, IsCandidate, differs, changed_pins, ComesNoLater, IsPattern}
use Rattle.hz_core.specs.BitOrSwitch.{HasOneBit, IsSwitchedByAnyPin}
use Rattle.hz_core.proofs.Extensions.{IsExtension-extension}
use Rattle.hz_core.proofs.ListLemmas.{list_any-from_position_none}
use Rattle.hz_core.proofs.Refinements.{length-Refines, get_or-Refines, known-admits}

-- filters of a range: nothing passes, or one number passes
filter_none : (p : ℕ → Bool) (k n : ℕ) → ((q : ℕ) → k ≤ q → q < k + n → p q ≡ false) → filter p (range_with_len k n) ≡ []
filter_none p k zero none = refl
filter_none p k (suc n) none =
    let here : p k ≡ false = none k (omega arith) (omega arith) in
    rw here (filter_none p (k + 1) n (λ q low high. none q (omega arith) (omega arith)))

filter_one : (p : ℕ → Bool) (k n pin : ℕ) → k ≤ pin → pin < k + n → p pin ≡ true → ((q : ℕ) → (q ≡ pin → ⊥) → p q ≡ false) → filter p (range_with_len k n) ≡ pin ∷ []
filter_one p k zero pin low high passes others = absurd (omega arith)
filter_one p k (suc n) pin low high passes others =
    elim (cases_eq k pin) [
      | inl e ↦
          let here : p k ≡ true = rw e passes in
          let rest = filter_none p (k + 1) n (λ q more high. others q (λ same. omega arith)) in
          rw here (cc)
      | inr ne ↦
          let here : p k ≡ false = others k ne in
          let more : k + 1 ≤ pin = omega arith in
          rw here (filter_one p (k + 1) n pin more (omega arith) passes others)
    ]

filter_empty : (p : ℕ → Bool) (k n q : ℕ) → filter p (range_with_len k n) ≡ [] → k ≤ q → q < k + n → p q ≡ false
filter_empty p k zero q empty low high = absurd (omega arith)
filter_empty p k (suc n) q empty low high =
    elim (cases_Bool (p k)) [
      | inl is_so ↦ let h = rw is_so at empty in cc
      | inr is_not ↦
          elim (cases_eq k q) [
            | inl e ↦ rw (← e) is_not
            | inr ne ↦ filter_empty p (k + 1) n q (rw is_not at empty) (omega arith) (omega arith)
          ]
    ]

-- two bits that differ
differs-same : (b : Bool) → differs b b ≡ false
differs-same false = refl
differs-same true = refl

differs-not : (b : Bool) → differs b (not b) ≡ true
differs-not false = refl
differs-not true = refl

same-differs : (a b : Bool) → differs a b ≡ false → b ≡ a
same-differs false false e = refl
same-differs false true e = absurd (true≢false e)
same-differs true false e = absurd (true≢false e)
same-differs true true e = refl

-- the changed pins of a list that is not changed, and of one with one pin changed
pub changed-same : (now : List Bool) → changed_pins now now ≡ []
changed-same now =
    filter_none (λ pin. differs (get_or now pin false) (get_or now pin false)) 0 (length now) (λ q low high. differs-same (get_or now q false))

pub changed-set : (now : List Bool) (pin : ℕ) → pin < length now → changed_pins now (set now pin (not (get_or now pin false))) ≡ pin ∷ []
changed-set now pin within =
    filter_one (λ q. differs (get_or now q false) (get_or (set now pin (not (get_or now pin false))) q false)) 0 (length now) pin (omega arith) (omega arith)
    (rw get_or-set_same (differs-not (get_or now pin false)))
    (λ q other. rw get_or-set_other (differs-same (get_or now q false)))

pub same-changed : (now list : List Bool) → length list ≡ length now → changed_pins now list ≡ [] → list ≡ now
same-changed now list e none =
    ext_get_or false list now e
    (λ i within. same-differs (get_or now i false) (get_or list i false)
    (filter_empty (λ pin. differs (get_or now pin false) (get_or list pin false)) 0 (length now) i none (omega arith) (omega arith)))

-- the lexicographic order
pub ComesNoLater-same : (list : List ℕ) → ComesNoLater list list
ComesNoLater-same [] = tt
ComesNoLater-same (first ∷ list) = inr (refl, ComesNoLater-same list)

-- one number that is not greater than any that passes comes no later than a list of one number that passes
ComesNoLater-one : (p : ℕ → Bool) (pin : ℕ) (list : List ℕ) → ((q : ℕ) → p q ≡ true → pin ≤ q) → All (λ q. p q ≡ true) list → length list ≡ 1 → ComesNoLater (pin ∷ []) list
ComesNoLater-one p pin [] low passes one = absurd (omega arith)
ComesNoLater-one p pin (q ∷ list) low passes one =
    let within : pin ≤ q = low q (All-head (λ x. p x ≡ true) q list passes) in
    elim (cases_lt pin q) [ inl below ↦ inl below | inr above ↦ inr (omega arith, tt) ]

-- the present values, where they have the value themselves
pub IsPattern-now : (kind : Kind) (now free : List Bool) (want : Bool) → gate_value kind now ≡ want → IsPattern kind now free want now
IsPattern-now kind now free want value =
    record {
      candidate = record { agrees = record { same_length = refl; kept = λ pin within bound. refl }; value = value };
      fewest = λ other candidate. rw (changed-same now) (omega arith);
      least = λ other candidate one. rw (changed-same now) tt;
    }

-- the only list with the value
pub IsPattern-lone : (kind : Kind) (now free : List Bool) (want bit : Bool) → HasOneBit kind want bit → (list : List Bool) → IsCandidate kind now free want list → IsPattern kind now free want (replicate (length now) bit)
IsPattern-lone kind now free want bit alone list candidate =
    let only = λ (other : List Bool) (c : IsCandidate kind now free want other).
    alone other c.value ∙ ap (λ n. replicate n bit) c.agrees.same_length in
    record {
      candidate = subst (λ l. IsCandidate kind now free want l) (only list candidate) candidate;
      fewest = λ other c. rw (only other c) (omega arith);
      least = λ other c one. rw (only other c) (ComesNoLater-same (changed_pins now (replicate (length now) bit)));
    }

nonempty : (list : List ℕ) → (list ≡ [] → ⊥) → 1 ≤ length list
nonempty [] h = absurd (h refl)
nonempty (x ∷ list) h = omega arith

-- a place that is changed is free, so it is not below the first free one
changed_free : (now free list : List Bool) (pin q : ℕ) → AgreesAtFixedPins now free list → pin < length now → ((k : ℕ) → k < pin → get_or free k false ≡ false) → differs (get_or now q false) (get_or list q false) ≡ true → pin ≤ q
changed_free now free list pin q agrees within before differing =
    elim (cases_lt q pin) [
      | inl below ↦
          let same : get_or list q false ≡ get_or now q false = agrees.kept q (omega arith) (before q below) in
          let none : differs (get_or now q false) (get_or list q false) ≡ false = rw same (differs-same (get_or now q false)) in
          cc
      | inr above ↦ above
    ]

no_two : (b : Bool) → not b ≡ b → ⊥
no_two false e = absurd (true≢false e)
no_two true e = absurd (false≢true e)

other_bit : (a b : Bool) → (a ≡ b → ⊥) → a ≡ not b
other_bit false false h = absurd (h refl)
other_bit false true h = refl
other_bit true false h = refl
other_bit true true h = absurd (h refl)

kept_other : (now free : List Bool) (pin q : ℕ) → get_or free pin false ≡ true → get_or free q false ≡ false → get_or (set now pin (not (get_or now pin false))) q false ≡ get_or now q false
kept_other now free pin q is_free bound =
    get_or-set_other now pin q (not (get_or now pin false)) false (λ same. false≢true (sym bound ∙ ap (λ k. get_or free k false) same ∙ is_free))

-- the first free pin changed, where each pin alone gives the value
pub IsPattern-first : (kind : Kind) (now free : List Bool) (want : Bool) (pin : ℕ) → IsTrue (takes kind (length now)) → length free ≡ length now → gate_value kind now ≡ not want → IsSwitchedByAnyPin kind want → position (λ f. f) free ≡ Some pin → IsPattern kind now free want (set now pin (not (get_or now pin false)))
IsPattern-first kind now free want pin taken long value turned is =
    let first = position-Some (λ f. f) free pin false is in
    let within : pin < length now = omega (arith, first.0) in
    let one : changed_pins now (set now pin (not (get_or now pin false))) ≡ pin ∷ [] = changed-set now pin within in
    let other_value = λ (list : List Bool) (c : IsCandidate kind now free want list) (e : changed_pins now list ≡ []).
    no_two want (sym value ∙ ap (gate_value kind) (sym (same-changed now list c.agrees.same_length e)) ∙ c.value) in
    record {
      candidate = record {
        agrees = record {
          same_length = length-set now pin (not (get_or now pin false));
          kept = λ q q_within bound. kept_other now free pin q first.1 bound;
        };
        value = turned now taken value pin within;
      };
      fewest = λ other c. rw one (nonempty (changed_pins now other) (other_value other c));
      least = λ other c same.
          rw one
          (ComesNoLater-one (λ q. differs (get_or now q false) (get_or other q false)) pin (changed_pins now other)
          (λ q differing. changed_free now free other pin q c.agrees within first.2 differing)
          (filter_passes (λ q. differs (get_or now q false) (get_or other q false)) (range_with_len 0 (length now)))
          (same ∙ ap length one));
    }

none_free : (free : List Bool) → position (λ f. f) free ≡ None → (i : ℕ) → get_or free i false ≡ false
none_free free none i =
    elim (cases_lt i (length free)) [
      | inl within ↦ elim (cases_Bool (get_or free i false)) [
        | inl is_so ↦ absurd (false≢true (sym (list_any-from_position_none (λ f. f) free none) ∙ list_any_at (λ f. f) free i false within is_so))
        | inr is_not ↦ is_not
      ]
      | inr past ↦ get_or-eq_default free false past
    ]

-- without a free pin the present values are the only list that agrees
pub AgreesAtFixedPins-none : (now free list : List Bool) → AgreesAtFixedPins now free list → position (λ f. f) free ≡ None → length free ≡ length now → list ≡ now
AgreesAtFixedPins-none now free list agrees none long =
    ext_get_or false list now agrees.same_length
    (λ i within. agrees.kept i (omega (arith, agrees.same_length)) (none_free free none i))

-- a pin that a pattern changes is free
pub free-changed : (now free list : List Bool) (pin : ℕ) → AgreesAtFixedPins now free list → pin < length now → (get_or list pin false ≡ get_or now pin false → ⊥) → get_or free pin false ≡ true
free-changed now free list pin agrees within changes =
    elim (cases_Bool (get_or free pin false)) [
      | inl is_free ↦ is_free
      | inr bound ↦ absurd (changes (agrees.kept pin within bound))
    ]

-- what the change of the first free pin leaves is the pattern
pub IsPattern-changed : (kind : Kind) (now free list : List Bool) (want : Bool) (found : Option ℕ) → IsTrue (takes kind (length now)) → length free ≡ length now → (gate_value kind now ≡ want → ⊥) → IsSwitchedByAnyPin kind want → (other : List Bool) → IsCandidate kind now free want other → position (λ f. f) free ≡ found → MatchOption found (list ≡ now) (λ pin. list ≡ set now pin (not (get_or now pin false))) → IsPattern kind now free want list
IsPattern-changed kind now free list want None taken long not_yet turned other c is e =
    absurd (not_yet (ap (gate_value kind) (sym (AgreesAtFixedPins-none now free other c.agrees is long)) ∙ c.value))
IsPattern-changed kind now free list want (Some pin) taken long not_yet turned other c is e =
    subst (λ l. IsPattern kind now free want l) (sym e)
    (IsPattern-first kind now free want pin taken long (other_bit (gate_value kind now) want not_yet) turned is)

-- a bit that the join admits is in the set
taken_admits : (set : Bool → Type 0) (value : Tri) (bit : Bool) → IsJoinOf set value → IsTrue (admits value bit) → set bit
taken_admits set Zero false join admitted = join.0
taken_admits set Zero true join admitted = absurd (false≢true admitted)
taken_admits set One false join admitted = absurd (false≢true admitted)
taken_admits set One true join admitted = join.0
taken_admits set Unknown false join admitted = join.0
taken_admits set Unknown true join admitted = join.1

-- a value that is not the other bit admits this one
pub admits-other : (value : Tri) (bit : Bool) → (value ≡ tri_of (not bit) → ⊥) → IsTrue (admits value bit)
admits-other Zero false other = refl
admits-other Zero true other = absurd (other refl)
admits-other One false other = absurd (other refl)
admits-other One true other = refl
admits-other Unknown false other = refl
admits-other Unknown true other = refl

-- where the extension of a list that is known to be the present values at every pin that is not free admits the value,
-- some list that agrees with the present values gives it
pub candidate-extension : (kind : Kind) (now free : List Bool) (want : Bool) (pins : List Tri) → length pins ≡ length now → ((pin : ℕ) → pin < length now → get_or free pin false ≡ false → get_or pins pin Zero ≡ tri_of (get_or now pin false)) → IsTrue (admits (extension kind pins) want) → (list : List Bool) × IsCandidate kind now free want list
candidate-extension kind now free want pins long known admitted =
    let taken = taken_admits (IsValueOver kind pins) (extension kind pins) want (IsExtension-extension kind pins) admitted in (
      taken.0,
      record {
        agrees = record {
          same_length = length-Refines taken.0 pins taken.1 ∙ long;
          kept = λ pin within bound.
              known-admits (get_or now pin false) (get_or taken.0 pin false)
              (rw (known pin within bound) at (get_or-Refines taken.0 pins taken.1 pin));
        };
        value = taken.2;
      },
    )

-- a filter of a range keeps nothing below its start
filter_later : (p : ℕ → Bool) (k n x : ℕ) (rest : List ℕ) → filter p (range_with_len k n) ≡ x ∷ rest → k ≤ x
filter_later p k zero x rest e = cc
filter_later p k (suc n) x rest e =
    elim (cases_Bool (p k)) [
      | inl is_so ↦ let h = rw is_so at e in let same : k ≡ x = cc in omega arith
      | inr is_not ↦ let h = filter_later p (k + 1) n x rest (rw is_not at e) in omega arith
    ]

-- two tests that keep the same numbers of a range agree on it
filter_parts : (p q : ℕ → Bool) (k n : ℕ) → filter p (range_with_len k (suc n)) ≡ filter q (range_with_len k (suc n)) → (p k ≡ q k) × (filter p (range_with_len (k + 1) n) ≡ filter q (range_with_len (k + 1) n))
filter_parts p q k n e =
    elim (cases_Bool (p k)) [
      | inl p_so ↦ elim (cases_Bool (q k)) [
        | inl q_so ↦ let h = rw (p_so, q_so) at e in (p_so ∙ sym q_so, cc)
        | inr q_not ↦ let above = filter_later q (k + 1) n k _ (sym (rw (p_so, q_not) at e)) in absurd (omega arith)
      ]
      | inr p_not ↦ elim (cases_Bool (q k)) [
        | inl q_so ↦ let above = filter_later p (k + 1) n k _ (rw (p_not, q_so) at e) in absurd (omega arith)
        | inr q_not ↦ (p_not ∙ sym q_not, rw (p_not, q_not) at e)
      ]
    ]

filter_same : (p q : ℕ → Bool) (k n i : ℕ) → filter p (range_with_len k n) ≡ filter q (range_with_len k n) → k ≤ i → i < k + n → p i ≡ q i
filter_same p q k zero i e low high = absurd (omega arith)
filter_same p q k (suc n) i e low high =
    let parts = filter_parts p q k n e in
    elim (cases_eq k i) [
      | inl same ↦ rw (← same) parts.0
      | inr other ↦ filter_same p q (k + 1) n i parts.1 (omega arith) (omega arith)
    ]

-- of two bits that both differ from a third, or both do not, each is the other
same_difference : (a b c : Bool) → differs a b ≡ differs a c → b ≡ c
same_difference false false false e = refl
same_difference false false true e = absurd (false≢true e)
same_difference false true false e = absurd (true≢false e)
same_difference false true true e = refl
same_difference true false false e = refl
same_difference true false true e = absurd (true≢false e)
same_difference true true false e = absurd (false≢true e)
same_difference true true true e = refl

-- lists of numbers of which each comes no later than the other are the same
same-ComesNoLater : (firsts seconds : List ℕ) → ComesNoLater firsts seconds → ComesNoLater seconds firsts → firsts ≡ seconds
same-ComesNoLater [] [] p q = refl
same-ComesNoLater [] (y ∷ ys) p q = absurd q
same-ComesNoLater (x ∷ xs) [] p q = absurd p
same-ComesNoLater (x ∷ xs) (y ∷ ys) p q =
    elim p [
      | inl below ↦ elim q [ inl above ↦ absurd (omega arith) | inr rest ↦ let e = rest.0 in absurd (omega arith) ]
      | inr here ↦ elim q [
        | inl above ↦ let e = here.0 in absurd (omega arith)
        | inr rest ↦ let head = here.0 in let tail = same-ComesNoLater xs ys here.1 rest.1 in cc
      ]
    ]

-- there is one canonical pattern at most
pub same-IsPattern : (kind : Kind) (now free : List Bool) (want : Bool) (list other : List Bool) → IsPattern kind now free want list → IsPattern kind now free want other → list ≡ other
same-IsPattern kind now free want list other p q =
    let there = p.fewest other q.candidate in
    let back = q.fewest list p.candidate in
    let long : length (changed_pins now other) ≡ length (changed_pins now list) = omega arith in
    let pins = same-ComesNoLater (changed_pins now list) (changed_pins now other) (p.least other q.candidate long) (q.least list p.candidate (sym long)) in
    let list_long = p.candidate.agrees.same_length in
    let other_long = q.candidate.agrees.same_length in
    ext_get_or false list other (list_long ∙ sym other_long)
    (λ i within. same_difference (get_or now i false) (get_or list i false) (get_or other i false)
    (filter_same (λ pin. differs (get_or now pin false) (get_or list pin false)) (λ pin. differs (get_or now pin false) (get_or other pin false)) 0 (length now) i pins (omega arith) (omega arith)))
