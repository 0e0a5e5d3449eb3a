-- Sets of numbers: their marks by the bits of words, and their least and greatest members.
use Rattle.std.proofs.Common.{◌≡◌, ◌≢◌, ◌∙◌, ℕ, zero, suc, ◌+◌, ◌/◌, ◌<◌, ◌≤◌, Bool, true, false, List, [], ◌∷◌, length, get_or, set, replicate, nat_eq, Some, None, IsTrue, ◌↔◌, inl, inr, refl, sym, ap, arith, length-set, get_or-set_same, get_or-set_other}
use Rattle.std.specs.Option.{option_map}
use Rattle.std.proofs.lemmas.Bool.{cases_eq, cases_lt, false≢true}
use Rattle.std.proofs.lemmas.List.{get_or-replicate, length-replicate, get_or_past}
use Rattle.std.proofs.lemmas.List.FromFn.{get_or-map-range_with_len, length-map-range_with_len, fill_by_all}
use Rattle.hz_lists.specs.Bits.{slot_bit, IsTurned, Summarises}
use Rattle.hz_lists.specs.Inside.{marks_of, HoldsNumberSet}
use Rattle.hz_lists.specs.NumberSets.{least_of, greatest_of, later_or_first}
use Rattle.hz_lists.specs.Bits.{IsLowestIn, IsHighestIn}
use Rattle.hz_lists.proofs.BitLemmas.{IsFirstSlot, IsLastSlot, no-slot, no_words, no-slots, zero-at, first-below, last-below, Summarises-set, Summarises-clear, Summarises-kept}

-- the least member
least-is : (marks : List Bool) (n : ℕ) → n < length marks → get_or marks n false ≡ true → ((k : ℕ) → k < n → get_or marks k false ≡ false) → least_of marks ≡ Some n
least-is [] n inside here before = absurd (omega (arith, inside))
least-is (true ∷ marks) zero inside here before = refl
least-is (true ∷ marks) (suc n) inside here before = absurd (let no = before 0 (omega arith) in cc)
least-is (false ∷ marks) zero inside here before = absurd (cc)
least-is (false ∷ marks) (suc n) inside here before =
    ap (option_map suc) (least-is marks n (omega (arith, inside)) here (λ k less. before (suc k) (omega (arith, less))))

least-none : (marks : List Bool) → ((k : ℕ) → k < length marks → get_or marks k false ≡ false) → least_of marks ≡ None
least-none [] none = refl
least-none (true ∷ marks) none = absurd (let no = none 0 (omega arith) in cc)
least-none (false ∷ marks) none = ap (option_map suc) (least-none marks (λ k inside. none (suc k) (omega (arith, inside))))

-- the greatest member
greatest-none : (marks : List Bool) → ((k : ℕ) → k < length marks → get_or marks k false ≡ false) → greatest_of marks ≡ None
greatest-none [] none = refl
greatest-none (mark ∷ marks) none =
    let rest : greatest_of marks ≡ None = greatest-none marks (λ k inside. none (suc k) (omega (arith, inside))) in
    let here : mark ≡ false = none 0 (omega arith) in
    ap (λ last. later_or_first last mark) rest ∙ ap (later_or_first None) here

greatest-is : (marks : List Bool) (n : ℕ) → n < length marks → get_or marks n false ≡ true → ((k : ℕ) → n < k → k < length marks → get_or marks k false ≡ false) → greatest_of marks ≡ Some n
greatest-is [] n inside here after = absurd (omega (arith, inside))
greatest-is (mark ∷ marks) zero inside here after =
    let rest : greatest_of marks ≡ None = greatest-none marks (λ k less. after (suc k) (omega arith) (omega (arith, less))) in
    ap (λ last. later_or_first last mark) rest ∙ ap (later_or_first None) here
greatest-is (mark ∷ marks) (suc n) inside here after =
    ap (λ last. later_or_first last mark)
    (greatest-is marks n (omega (arith, inside)) here (λ k more less. after (suc k) (omega (arith, more)) (omega (arith, less))))

module _ (count : ℕ) (words : List ℕ) where
  mark-at : (i : ℕ) → i < count → get_or (marks_of count words) i false ≡ nat_eq (slot_bit words i) 1
  mark-at i inside = get_or-map-range_with_len (λ (number : ℕ). nat_eq (slot_bit words number) 1) 0 count i i false inside (omega arith)

  is-marked : (i : ℕ) → i < count → slot_bit words i ≡ 1 → get_or (marks_of count words) i false ≡ true
  is-marked i inside is = mark-at i inside ∙ ap (λ (bit : ℕ). nat_eq bit 1) is

  not-marked : (i : ℕ) → i < count → slot_bit words i ≡ 0 → get_or (marks_of count words) i false ≡ false
  not-marked i inside is = mark-at i inside ∙ ap (λ (bit : ℕ). nat_eq bit 1) is

  pub length-marks : length (marks_of count words) ≡ count
  length-marks = length-map-range_with_len (λ (number : ℕ). nat_eq (slot_bit words number) 1) 0 count

  pub least-slot : (place : ℕ) → place < count → IsFirstSlot words place → least_of (marks_of count words) ≡ Some place
  least-slot place inside first =
      least-is (marks_of count words) place (omega (arith, inside, length-marks)) (is-marked place inside first.set)
      (λ k less. not-marked k (omega (arith, less, inside)) (first.before k less))

  pub greatest-slot : (place : ℕ) → place < count → IsLastSlot words place → greatest_of (marks_of count words) ≡ Some place
  greatest-slot place inside last =
      greatest-is (marks_of count words) place (omega (arith, inside, length-marks)) (is-marked place inside last.set)
      (λ k more less. not-marked k (omega (arith, less, length-marks)) (last.after k more))

  module _ (none : (place : ℕ) → slot_bit words place ≡ 0) where
    pub no-least : least_of (marks_of count words) ≡ None
    no-least = least-none (marks_of count words) (λ k inside. not-marked k (omega (arith, inside, length-marks)) (none k))

    pub no-greatest : greatest_of (marks_of count words) ≡ None
    no-greatest = greatest-none (marks_of count words) (λ k inside. not-marked k (omega (arith, inside, length-marks)) (none k))

  -- no bit is set, so no number is marked
  pub no-marks : ((place : ℕ) → slot_bit words place ≡ 0) → marks_of count words ≡ replicate count false
  no-marks none =
      sym (fill_by_all (λ (number : ℕ). nat_eq (slot_bit words number) 1) (replicate count false) count false (length-replicate count false)
      (λ k inside. get_or-replicate count k false false inside ∙ sym (ap (λ (bit : ℕ). nat_eq bit 1) (none k))))

-- one bit is turned, and so is one mark
pub marks-turned : (count : ℕ) (old new : List ℕ) (place bit : ℕ) → place < count → IsTurned old new place bit → marks_of count new ≡ set (marks_of count old) place (nat_eq bit 1)
marks-turned count old new place bit inside turned =
    let marks = marks_of count old in
    sym (fill_by_all (λ (number : ℕ). nat_eq (slot_bit new number) 1) (set marks place (nat_eq bit 1)) count false
    (length-set marks place (nat_eq bit 1) ∙ length-marks count old)
    (λ k below.
    elim (cases_eq k place) [
      | inl same ↦
          rw same (get_or-set_same marks place (nat_eq bit 1) false (omega (arith, inside, length-marks count old)) ∙ sym (ap (λ (b : ℕ). nat_eq b 1) turned.here))
      | inr apart ↦
          get_or-set_other marks place k (nat_eq bit 1) false apart ∙ mark-at count old k below ∙ sym (ap (λ (b : ℕ). nat_eq b 1) (turned.others k apart))
    ]))

-- where the upper words have no bit, the lower ones have none
pub none-below : (upper lower : List ℕ) → Summarises upper lower → ((place : ℕ) → slot_bit upper place ≡ 0) → (place : ℕ) → slot_bit lower place ≡ 0
none-below upper lower sums none place = no-slot lower place ((sums (place / 64)).0 (none (place / 64)))

-- a number that has a mark is below the count
pub below-count : (count : ℕ) (low : List ℕ) (marks : List Bool) (number : ℕ) → marks_of count low ≡ marks → number < length marks → number < count
below-count count low marks number view inside = omega (arith, inside, length-marks count low, ap (length {A = Bool}) view)

-- no word has a bit
pub holds-none : (count : ℕ) (low middle top : List ℕ) → count ≤ 262144 → low ≡ no_words (count / 64 + 1) → middle ≡ no_words (count / 64 / 64 + 1) → top ≡ no_words 1
    → HoldsNumberSet count low middle top
holds-none count low middle top few low_is middle_is top_is = record {
  few = few;
  low_long = ap (length {A = ℕ}) low_is ∙ length-replicate {A = ℕ} (count / 64 + 1) 0;
  middle_long = ap (length {A = ℕ}) middle_is ∙ length-replicate {A = ℕ} (count / 64 / 64 + 1) 0;
  top_long = ap (length {A = ℕ}) top_is ∙ length-replicate {A = ℕ} 1 0;
  of_low = λ word. (λ is. rw low_is (zero-at (count / 64 + 1) word), λ is. rw middle_is (no-slots (count / 64 / 64 + 1) word));
  of_middle = λ word. (λ is. rw middle_is (zero-at (count / 64 / 64 + 1) word), λ is. rw top_is (no-slots 1 word));
  below = λ number is. absurd (omega (arith, is, rw (← low_is) at (no-slots (count / 64 + 1) number)));
}

module _ (count number : ℕ) (low middle top low_after middle_after top_after : List ℕ) (holds : HoldsNumberSet count low middle top) (inside : number < count) where
  -- a bit that is set stands for a number below the count
  below-after : (bit : ℕ) → IsTurned low low_after number bit → (other : ℕ) → slot_bit low_after other ≡ 1 → other < count
  below-after bit turned other is =
      elim (cases_eq other number) [
        | inl same ↦ rw same inside
        | inr apart ↦ holds.below other (sym (turned.others other apart) ∙ is)
      ]

  pub holds-set : IsTurned low low_after number 1 → IsTurned middle middle_after (number / 64) 1 → IsTurned top top_after (number / 64 / 64) 1 → HoldsNumberSet count low_after middle_after top_after
  holds-set in_low in_middle in_top = record {
    few = holds.few;
    low_long = in_low.long ∙ holds.low_long;
    middle_long = in_middle.long ∙ holds.middle_long;
    top_long = in_top.long ∙ holds.top_long;
    of_low = Summarises-set middle low low_after number 1 holds.of_low in_low middle_after refl in_middle;
    of_middle = Summarises-set top middle middle_after (number / 64) 1 holds.of_middle in_middle top_after refl in_top;
    below = below-after 1 in_low;
  }

  module _ (in_low : IsTurned low low_after number 0) where
    -- a word of numbers keeps a bit
    pub holds-kept : (get_or low (number / 64) 0 ≡ 0 → get_or low_after (number / 64) 0 ≡ 0) → get_or low_after (number / 64) 0 ≢ 0 → HoldsNumberSet count low_after middle top
    holds-kept stays some = record {
      few = holds.few;
      low_long = in_low.long ∙ holds.low_long;
      middle_long = holds.middle_long;
      top_long = holds.top_long;
      of_low = Summarises-kept middle low low_after number 0 holds.of_low in_low stays some;
      of_middle = holds.of_middle;
      below = below-after 0 in_low;
    }

    module _ (none : get_or low_after (number / 64) 0 ≡ 0) (in_middle : IsTurned middle middle_after (number / 64) 0) where
      -- a word of numbers loses its last bit, and the word above keeps one
      pub holds-kept-above : (get_or middle (number / 64 / 64) 0 ≡ 0 → get_or middle_after (number / 64 / 64) 0 ≡ 0) → get_or middle_after (number / 64 / 64) 0 ≢ 0 → HoldsNumberSet count low_after middle_after top
      holds-kept-above stays some = record {
        few = holds.few;
        low_long = in_low.long ∙ holds.low_long;
        middle_long = in_middle.long ∙ holds.middle_long;
        top_long = holds.top_long;
        of_low = Summarises-clear middle low low_after number 0 holds.of_low in_low middle_after none in_middle;
        of_middle = Summarises-kept top middle middle_after (number / 64) 0 holds.of_middle in_middle stays some;
        below = below-after 0 in_low;
      }

      -- both lose their last bit
      pub holds-clear : get_or middle_after (number / 64 / 64) 0 ≡ 0 → IsTurned top top_after (number / 64 / 64) 0 → HoldsNumberSet count low_after middle_after top_after
      holds-clear none_above in_top = record {
        few = holds.few;
        low_long = in_low.long ∙ holds.low_long;
        middle_long = in_middle.long ∙ holds.middle_long;
        top_long = in_top.long ∙ holds.top_long;
        of_low = Summarises-clear middle low low_after number 0 holds.of_low in_low middle_after none in_middle;
        of_middle = Summarises-clear top middle middle_after (number / 64) 0 holds.of_middle in_middle top_after none_above in_top;
        below = below-after 0 in_low;
      }

module _ (count : ℕ) (low middle top : List ℕ) (holds : HoldsNumberSet count low middle top) where
  -- the topmost word has no bit
  no-bits : get_or top 0 0 ≡ 0 → (place : ℕ) → slot_bit low place ≡ 0
  no-bits none =
      none-below middle low holds.of_low
      (none-below top middle holds.of_middle
      (λ place.
      elim (cases_lt place 64) [
        | inl first ↦ no-slot top place (let at : place / 64 ≡ 0 = omega (arith, first) in rw at none)
        | inr past ↦ no-slot top place (get_or_past top (place / 64) 0 (omega (arith, past, holds.top_long)))
      ]))

  pub none-least : get_or top 0 0 ≡ 0 → least_of (marks_of count low) ≡ None
  none-least none = no-least count low (no-bits none)

  pub none-greatest : get_or top 0 0 ≡ 0 → greatest_of (marks_of count low) ≡ None
  none-greatest none = no-greatest count low (no-bits none)

  module _ (first second place : ℕ) where
    pub found-least : IsLowestIn top 0 first → IsLowestIn middle first second → IsLowestIn low second place → least_of (marks_of count low) ≡ Some place
    found-least in_top in_middle in_low =
        let slot : IsFirstSlot top first = record { set = in_top.set; before = λ other less. in_top.lowest other (omega (arith, less, in_top.inside)) less } in
        least-slot count low place (holds.below place in_low.set)
        (first-below middle low holds.of_low second place (first-below top middle holds.of_middle first second slot in_middle) in_low)

    pub found-greatest : IsHighestIn top 0 first → IsHighestIn middle first second → IsHighestIn low second place → greatest_of (marks_of count low) ≡ Some place
    found-greatest in_top in_middle in_low =
        let slot : IsLastSlot top first = record {
          set = in_top.set;
          after = λ other more.
              elim (cases_lt other 64) [
                | inl here ↦ in_top.highest other (omega (arith, here)) more
                | inr past ↦ no-slot top other (get_or_past top (other / 64) 0 (omega (arith, past, holds.top_long)))
              ];
        } in
        greatest-slot count low place (holds.below place in_low.set)
        (last-below middle low holds.of_low second place (last-below top middle holds.of_middle first second slot in_middle) in_low)

-- what a test of a word says
pub no-word : {empty : Bool} {word : ℕ} → IsTrue empty ↔ (word ≡ 0) → empty ≡ true → word ≡ 0
no-word iff is = iff.0 is

pub some-word : {empty : Bool} {word : ℕ} → IsTrue empty ↔ (word ≡ 0) → empty ≡ false → word ≢ 0
some-word iff is none = absurd (false≢true (sym is ∙ iff.1 none))

-- the word of a bit has one
pub has-bit : (upper lower : List ℕ) (word : ℕ) → Summarises upper lower → slot_bit upper word ≡ 1 → get_or lower word 0 ≢ 0
has-bit upper lower word sums is none = omega (arith, is, (sums word).1 none)
