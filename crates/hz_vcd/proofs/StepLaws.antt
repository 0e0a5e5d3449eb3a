-- Reading the steps of a dump.
use Rattle.std.proofs.Common.{◌≡◌, ◌≢◌, ◌∙◌, ℕ, suc, ◌+◌, ◌<◌, ◌≤◌, Bool, true, false, not, cond, List, [], ◌∷◌, ◌++◌, length, map, get_or, set, refl, sym, ap, subst, arith, append_assoc, inl, inr, ◌⊎◌, ◌||◌}
use Rattle.std.specs.List.{All}
use mathlib.Core.Bool.{beq}
use Rattle.std.specs.Prelude.{nat_eq}
use Rattle.std.proofs.lemmas.Bool.{eqb-true, eq-eqb, false≢true}
use Rattle.std.proofs.lemmas.Bool.Decides.{nat_tests}
use Rattle.std.proofs.lemmas.List.{append-nil, length-append, length-set, get_or-set_same, get_or-set_other, ext_get_or}
use Rattle.std.proofs.lemmas.List.Elements.{All-nil, All-cons, All-head, All-tail, All-append}
use Rattle.hz_net.specs.Network.{bit_at}
use Rattle.hz_lists.specs.Listed.{IsRepeatFree, is_listed}
use Rattle.hz_gmw.specs.Runs.{state_after, end_of}
use Rattle.hz_lists.proofs.ListedLemmas.{listed-append}
use Rattle.hz_gmw.proofs.Flips.{length-state_after, at-state_after}
use Rattle.hz_vcd.specs.Dump.{AreFlips, value_word, time_word, steps_words}
use Rattle.hz_vcd.specs.Reading.{WordsLeft, Steps, Changes, StepGoesOn, Goes, Past, Stuck, Means, AreAt}
use Rattle.hz_vcd.proofs.LineLemmas.{end_of-append}
use Rattle.hz_vcd.proofs.ReadingLaws.{past-word, wrong-word, wrong-end}
use Rattle.hz_vcd.proofs.HeadLaws.{same-first, same-later, none-is}
use Rattle.hz_vcd.proofs.ValueLaws.{value-same}

-- a word that gives a bit is no word of a time
pub value-time : (var time : ℕ) (bit : Bool) → value_word var bit ≢ time_word time
value-time var time true e = absurd (omega (arith, same-first e))
value-time var time false e = absurd (omega (arith, same-first e))

-- changes of a step, from a state
abbrev pub change_words : List Bool → List ℕ → List (List ℕ)
change_words state flips = map (λ var. value_word var (not (bit_at state var))) flips

-- steps, all of which change something
module _ (variables : ℕ) (start : List Bool) where
  -- no step
  pub steps-end : (was : WordsLeft) → was.words ≡ [] → Means (Steps variables start) was start []
  steps-end was none = record {
    is = (refl, All-nil (AreFlips variables), none);
    alone = λ state steps comes. (comes.0, nothing steps (sym none ∙ comes.2));
  }
    where
      nothing : (steps : List (List ℕ)) → [] ≡ steps_words 1 start steps → steps ≡ []
      nothing [] e = refl
      nothing (flips ∷ steps) e = absurd (none-is e)

  steps-go : Goes (Steps variables start) []
  steps-go = ([], start, [], (refl, All-nil (AreFlips variables), refl))

  -- another word than that of the first time
  pub steps-wrong : (was : WordsLeft) (number : ℕ) (found : List ℕ) (later : List (List ℕ)) → was.words ≡ found ∷ later → number ≡ was.read + 1 → (found ≢ time_word 1) ⊎ (variables ≡ 0) → Stuck (Steps variables start) was number
  steps-wrong was number found later are place why =
      wrong-word (Steps variables start) was found later number are place steps-go (λ more state steps comes. nothing more steps comes.1 comes.2 why)
    where
      nothing : (more : List (List ℕ)) (steps : List (List ℕ)) → All (AreFlips variables) steps → found ∷ more ≡ steps_words 1 start steps → (found ≢ time_word 1) ⊎ (variables ≡ 0) → ⊥
      nothing more [] all e why = none-is (sym e)
      nothing more (flips ∷ steps) all e (inl differ) = differ (same-first e)
      nothing more ([] ∷ steps) all e (inr empty) = (All-head (AreFlips variables) [] steps all).some refl
      nothing more ((var ∷ flips) ∷ steps) all e (inr empty) =
          absurd (omega (arith, empty, All-head (λ v. v < variables) var flips (All-head (AreFlips variables) (var ∷ flips) steps all).inside))

  -- the word of the first time
  pub steps-past : (was now : WordsLeft) (found : List ℕ) → was.words ≡ found ∷ now.words → now.read ≡ was.read + 1 → found ≡ time_word 1 → Past (Steps variables start) was (Changes variables start [] []) now
  steps-past was now found are counts is =
      past-word (Steps variables start) was (Changes variables start [] []) now (time_word 1) (are ∙ ap (λ (word : List ℕ). word ∷ now.words) is) counts
      (λ more state steps comes. onward more state steps comes.0 comes.1 comes.2)
      (λ more state steps comes. (comes.begins, comes.all_flips, ap (λ (words : List (List ℕ)). time_word 1 ∷ words) comes.are ∙ ap (steps_words 1 start) (sym comes.is)))
    where
      onward : (more : List (List ℕ)) (state : List Bool) (steps : List (List ℕ)) → state ≡ start → All (AreFlips variables) steps → time_word 1 ∷ more ≡ steps_words 1 start steps → StepGoesOn variables start [] [] more state steps
      onward more state [] begins all e = absurd (none-is (sym e))
      onward more state (flips ∷ steps) begins all e = record { more = flips; later = steps; begins = begins; is = refl; all_flips = all; are = same-later e }

  -- within a step, behind others
  module _ (done : List (List ℕ)) where
    -- what the first of more words is
    pub data FirstChange (flips : List ℕ) (word : List ℕ) (rest : List (List ℕ)) (state : List Bool) (steps : List (List ℕ)) : Type 0 where
      changes : (var : ℕ) → word ≡ value_word var (not (bit_at (end_of start done) var)) → var < variables → is_listed flips var ≡ false → StepGoesOn variables start done (flips ++ var ∷ []) rest state steps → FirstChange flips word rest state steps
      onwards : word ≡ time_word (length done + 2) → flips ≢ [] → StepGoesOn variables start (done ++ flips ∷ []) [] rest state steps → FirstChange flips word rest state steps

    fresh : (flips more : List ℕ) (var : ℕ) → IsRepeatFree (flips ++ var ∷ more) → is_listed flips var ≡ false
    fresh [] more var free = refl
    fresh (first ∷ flips) more var free = rw (apart, fresh flips more var free.1) refl
      where
        swapped : (a b : ℕ) → nat_eq a b ≡ false → nat_eq b a ≡ false
        swapped a b e = grind (arith, nat_tests, e)

        parts : is_listed flips first || (nat_eq first var || is_listed more first) ≡ false
        parts = sym (listed-append flips (var ∷ more) first) ∙ free.0

        second : (a b : Bool) → a || b ≡ false → b ≡ false
        second true b e = absurd (cc)
        second false b e = e

        front : (a b : Bool) → a || b ≡ false → a ≡ false
        front true b e = absurd (cc)
        front false b e = refl

        apart : nat_eq var first ≡ false
        apart = swapped first var (front (nat_eq first var) (is_listed more first) (second (is_listed flips first) (nat_eq first var || is_listed more first) parts))

    pub first-change : (flips : List ℕ) (word : List ℕ) (rest : List (List ℕ)) (state : List Bool) (steps : List (List ℕ)) → StepGoesOn variables start done flips (word ∷ rest) state steps → FirstChange flips word rest state steps
    first-change flips word rest state steps r = by r.more r.later r.is r.are
      where
        flips-here : (more : List ℕ) (later : List (List ℕ)) → steps ≡ done ++ (flips ++ more) ∷ later → AreFlips variables (flips ++ more)
        flips-here more later is = middle done (subst (All (AreFlips variables)) is r.all_flips)
          where
            middle : (before : List (List ℕ)) → All (AreFlips variables) (before ++ (flips ++ more) ∷ later) → AreFlips variables (flips ++ more)
            middle before all = subst (AreFlips variables) (at before) (all (length before) [] (omega (arith, length-append before ((flips ++ more) ∷ later))))
              where
                at : (before : List (List ℕ)) → get_or (before ++ (flips ++ more) ∷ later) (length before) [] ≡ flips ++ more
                at [] = refl
                at (first ∷ before) = at before

        by : (more : List ℕ) (later : List (List ℕ)) → steps ≡ done ++ (flips ++ more) ∷ later → word ∷ rest ≡ change_words (end_of start done) more ++ steps_words (length done + 2) (end_of start (done ++ (flips ++ more) ∷ [])) later → FirstChange flips word rest state steps
        by (var ∷ more) later is are =
            let here = flips-here (var ∷ more) later is in
            let inside = All-append-right flips (var ∷ more) here.inside in
            let same : flips ++ var ∷ more ≡ (flips ++ var ∷ []) ++ more = sym (append_assoc flips (var ∷ []) more) in
            changes var (same-first are) (All-head (λ v. v < variables) var more inside) (fresh flips more var here.once) (record {
              more = more;
              later = later;
              begins = r.begins;
              is = is ∙ ap (λ (f : List ℕ). done ++ f ∷ later) same;
              all_flips = r.all_flips;
              are = same-later are ∙ ap (λ (f : List ℕ). change_words (end_of start done) more ++ steps_words (length done + 2) (end_of start (done ++ f ∷ [])) later) same;
            })
          where
            All-append-right : (front back : List ℕ) → All (λ v. v < variables) (front ++ back) → All (λ v. v < variables) back
            All-append-right [] back all = all
            All-append-right (x ∷ front) back all = All-append-right front back (All-tail (λ v. v < variables) x (front ++ back) all)
        by [] [] is are = absurd (none-is (sym are))
        by [] (next ∷ later) is are =
            let none : flips ++ [] ≡ flips = append-nil flips in
            let here = subst (AreFlips variables) none (flips-here [] (next ∷ later) is) in
            let long : length done + 2 + 1 ≡ length (done ++ flips ∷ []) + 2 = omega (arith, length-append done (flips ∷ [])) in
            onwards (same-first are) here.some (record {
              more = next;
              later = later;
              begins = r.begins;
              is = is ∙ ap (λ (f : List ℕ). done ++ f ∷ next ∷ later) none ∙ sym (append_assoc done (flips ∷ []) (next ∷ later));
              all_flips = r.all_flips;
              are = same-later are
                  ∙ ap (λ (f : List ℕ). change_words (end_of start (done ++ f ∷ [])) next ++ steps_words (suc (length done + 2)) (state_after next (end_of start (done ++ f ∷ []))) later) none
                  ∙ ap (λ (n : ℕ). change_words (end_of start (done ++ flips ∷ [])) next ++ steps_words n (state_after next (end_of start (done ++ flips ∷ []))) later) (omega (arith, long))
                  ∙ ap (λ (s : List Bool). change_words (end_of start (done ++ flips ∷ [])) next ++ steps_words (length (done ++ flips ∷ []) + 2) s later) (sym (end_of-append start (done ++ flips ∷ []) (next ∷ [])));
            })

    pub change-back : (flips : List ℕ) (var : ℕ) (rest : List (List ℕ)) (state : List Bool) (steps : List (List ℕ)) → StepGoesOn variables start done (flips ++ var ∷ []) rest state steps → StepGoesOn variables start done flips (value_word var (not (bit_at (end_of start done) var)) ∷ rest) state steps
    change-back flips var rest state steps r =
        let same : (flips ++ var ∷ []) ++ r.more ≡ flips ++ var ∷ r.more = append_assoc flips (var ∷ []) r.more in
        record {
          more = var ∷ r.more;
          later = r.later;
          begins = r.begins;
          is = r.is ∙ ap (λ (f : List ℕ). done ++ f ∷ r.later) same;
          all_flips = r.all_flips;
          are = ap (λ (words : List (List ℕ)). value_word var (not (bit_at (end_of start done) var)) ∷ words)
              (r.are ∙ ap (λ (f : List ℕ). change_words (end_of start done) r.more ++ steps_words (length done + 2) (end_of start (done ++ f ∷ [])) r.later) same);
        }

    pub time-back : (flips : List ℕ) (rest : List (List ℕ)) (state : List Bool) (steps : List (List ℕ)) → StepGoesOn variables start (done ++ flips ∷ []) [] rest state steps → StepGoesOn variables start done flips (time_word (length done + 2) ∷ rest) state steps
    time-back flips rest state steps r =
        let none : flips ++ [] ≡ flips = append-nil flips in
        let long : length (done ++ flips ∷ []) + 2 ≡ suc (length done + 2) = omega (arith, length-append done (flips ∷ [])) in
        record {
          more = [];
          later = r.more ∷ r.later;
          begins = r.begins;
          is = r.is ∙ append_assoc done (flips ∷ []) (r.more ∷ r.later) ∙ ap (λ (f : List ℕ). done ++ f ∷ r.more ∷ r.later) (sym none);
          all_flips = r.all_flips;
          are = ap (λ (words : List (List ℕ)). time_word (length done + 2) ∷ words)
              (r.are
              ∙ ap (λ (s : List Bool). change_words (end_of start (done ++ flips ∷ [])) r.more ++ steps_words (length (done ++ flips ∷ []) + 2) s r.later) (end_of-append start (done ++ flips ∷ []) (r.more ∷ []))
              ∙ ap (λ (n : ℕ). change_words (end_of start (done ++ flips ∷ [])) r.more ++ steps_words n (state_after r.more (end_of start (done ++ flips ∷ []))) r.later) long
              ∙ ap (λ (f : List ℕ). change_words (end_of start (done ++ f ∷ [])) r.more ++ steps_words (suc (length done + 2)) (state_after r.more (end_of start (done ++ f ∷ []))) r.later) (sym none));
        }

    -- a step that goes on: its changes so far are changes, and so were those before
    module _ (all : All (AreFlips variables) done) (some : 0 < variables) where
      pub changes-go : (flips : List ℕ) → IsRepeatFree flips → All (λ v. v < variables) flips → Goes (Changes variables start done flips) []
      changes-go [] once inside =
          let first : AreFlips variables (0 ∷ []) = record { some = λ e. none-is (sym e); once = (refl, tt); inside = All-cons (λ v. v < variables) 0 [] some (All-nil (λ v. v < variables)) } in (
            change_words (end_of start done) (0 ∷ []) ++ [],
            start,
            done ++ (0 ∷ []) ∷ [],
            record {
              more = 0 ∷ [];
              later = [];
              begins = refl;
              is = refl;
              all_flips = All-append (AreFlips variables) done ((0 ∷ []) ∷ []) all (All-cons (AreFlips variables) (0 ∷ []) [] first (All-nil (AreFlips variables)));
              are = refl;
            },
          )
      changes-go (first ∷ flips) once inside =
          let whole : AreFlips variables (first ∷ flips) = record { some = λ e. none-is (sym e); once = once; inside = inside } in (
            [],
            start,
            done ++ ((first ∷ flips) ++ []) ∷ [],
            record {
              more = [];
              later = [];
              begins = refl;
              is = refl;
              all_flips = All-append (AreFlips variables) done (((first ∷ flips) ++ []) ∷ []) all
                  (All-cons (AreFlips variables) ((first ∷ flips) ++ []) [] (subst (AreFlips variables) (sym (append-nil (first ∷ flips))) whole) (All-nil (AreFlips variables)));
              are = refl;
            },
          )

      -- a word that is none of both
      pub turn-wrong : (flips : List ℕ) (was : WordsLeft) (number : ℕ) (word : List ℕ) (later : List (List ℕ)) → IsRepeatFree flips → All (λ v. v < variables) flips → was.words ≡ word ∷ later → number ≡ was.read + 1 → ((var : ℕ) → var < variables → is_listed flips var ≡ false → value_word var (not (bit_at (end_of start done) var)) ≢ word) → (flips ≡ []) ⊎ (word ≢ time_word (length done + 2)) → Stuck (Changes variables start done flips) was number
      turn-wrong flips was number word later once inside are place differ why =
          wrong-word (Changes variables start done flips) was word later number are place (changes-go flips once inside)
          (λ more state steps comes. nothing more state steps (first-change flips word more state steps comes) why)
        where
          nothing : (more : List (List ℕ)) (state : List Bool) (steps : List (List ℕ)) → FirstChange flips word more state steps → (flips ≡ []) ⊎ (word ≢ time_word (length done + 2)) → ⊥
          nothing more state steps (changes var is below out r) why = differ var below out (sym is)
          nothing more state steps (onwards is full r) (inl empty) = full empty
          nothing more state steps (onwards is full r) (inr other) = other is

      -- no word, though the step has no change so far
      pub turn-end : (flips : List ℕ) (was : WordsLeft) (number : ℕ) → flips ≡ [] → was.words ≡ [] → number ≡ was.read + 1 → Stuck (Changes variables start done flips) was number
      turn-end flips was number empty none place =
          subst (λ (f : List ℕ). Stuck (Changes variables start done f) was number) (sym empty)
          (wrong-end (Changes variables start done []) was number none place (changes-go [] tt (All-nil (λ v. v < variables)))
          (λ state steps comes. nothing state steps comes comes.more comes.is comes.are))
        where
          at : (before : List (List ℕ)) (later : List (List ℕ)) → get_or (before ++ [] ∷ later) (length before) [] ≡ []
          at [] later = refl
          at (first ∷ before) later = at before later

          nothing : (state : List Bool) (steps : List (List ℕ)) (r : StepGoesOn variables start done [] [] state steps) (more : List ℕ) → steps ≡ done ++ more ∷ r.later → [] ≡ change_words (end_of start done) more ++ steps_words (length done + 2) (end_of start (done ++ r.more ∷ [])) r.later → ⊥
          nothing state steps r [] is are =
              let whole = subst (All (AreFlips variables)) is r.all_flips in
              let here : AreFlips variables [] = subst (AreFlips variables) (at done r.later) (whole (length done) [] (omega (arith, length-append done ([] ∷ r.later)))) in
              here.some refl
          nothing state steps r (var ∷ more) is are = none-is are

    -- a word that changes a variable
    pub turn-change : (flips : List ℕ) (was now : WordsLeft) (word : List ℕ) (var : ℕ) → variables ≤ 200000 → was.words ≡ word ∷ now.words → now.read ≡ was.read + 1 → var < variables → value_word var (not (bit_at (end_of start done) var)) ≡ word → Past (Changes variables start done flips) was (Changes variables start done (flips ++ var ∷ [])) now
    turn-change flips was now word var few are counts below is =
        past-word (Changes variables start done flips) was (Changes variables start done (flips ++ var ∷ [])) now word are counts
        (λ more state steps comes. onward more state steps (first-change flips word more state steps comes))
        (λ more state steps comes. subst (λ (w : List ℕ). StepGoesOn variables start done flips (w ∷ more) state steps) is (change-back flips var more state steps comes))
      where
        onward : (more : List (List ℕ)) (state : List Bool) (steps : List (List ℕ)) → FirstChange flips word more state steps → StepGoesOn variables start done (flips ++ var ∷ []) more state steps
        onward more state steps (changes other same within out r) =
            let equal : other ≡ var = value-same other var (not (bit_at (end_of start done) other)) (not (bit_at (end_of start done) var)) word (omega (arith, within, few)) (omega (arith, below, few)) (sym same) is in
            subst (λ (v : ℕ). StepGoesOn variables start done (flips ++ v ∷ []) more state steps) equal r
        onward more state steps (onwards same full r) = absurd (value-time var (length done + 2) (not (bit_at (end_of start done) var)) (is ∙ same))

    -- the word of the next time
    pub turn-time : (flips : List ℕ) (was now : WordsLeft) (word : List ℕ) → was.words ≡ word ∷ now.words → now.read ≡ was.read + 1 → word ≡ time_word (length done + 2) → Past (Changes variables start done flips) was (Changes variables start (done ++ flips ∷ []) []) now
    turn-time flips was now word are counts is =
        past-word (Changes variables start done flips) was (Changes variables start (done ++ flips ∷ []) []) now word are counts
        (λ more state steps comes. onward more state steps (first-change flips word more state steps comes))
        (λ more state steps comes. subst (λ (w : List ℕ). StepGoesOn variables start done flips (w ∷ more) state steps) (sym is) (time-back flips more state steps comes))
      where
        onward : (more : List (List ℕ)) (state : List Bool) (steps : List (List ℕ)) → FirstChange flips word more state steps → StepGoesOn variables start (done ++ flips ∷ []) [] more state steps
        onward more state steps (changes var same within out r) = absurd (value-time var (length done + 2) (not (bit_at (end_of start done) var)) (sym same ∙ is))
        onward more state steps (onwards same full r) = r

    -- the words end behind a change
    pub ends-there : (flips : List ℕ) (was : WordsLeft) → AreFlips variables flips → All (AreFlips variables) done → was.words ≡ [] → Means (Changes variables start done flips) was start (done ++ flips ∷ [])
    ends-there flips was here all none = record {
      is = record {
        more = [];
        later = [];
        begins = refl;
        is = ap (λ (f : List ℕ). done ++ f ∷ []) (sym (append-nil flips));
        all_flips = All-append (AreFlips variables) done (flips ∷ []) all (All-cons (AreFlips variables) flips [] here (All-nil (AreFlips variables)));
        are = none;
      };
      alone = λ state steps comes. (comes.begins, comes.is ∙ nothing comes.more comes.later (sym none ∙ comes.are));
    }
      where
        nothing : (more : List ℕ) (later : List (List ℕ)) → [] ≡ change_words (end_of start done) more ++ steps_words (length done + 2) (end_of start (done ++ (flips ++ more) ∷ [])) later → done ++ (flips ++ more) ∷ later ≡ done ++ flips ∷ []
        nothing [] [] e = ap (λ (f : List ℕ). done ++ f ∷ []) (append-nil flips)
        nothing [] (next ∷ later) e = absurd (none-is e)
        nothing (var ∷ more) later e = absurd (none-is e)

-- one more variable changes
pub push-changed : (flips : List ℕ) (var : ℕ) (state : List Bool) → var < length state → is_listed flips var ≡ false →
    state_after (flips ++ var ∷ []) state ≡ set (state_after flips state) var (not (bit_at (state_after flips state) var))
push-changed flips var state below out =
    let after = state_after flips state in
    let long = length-state_after flips state in
    ext_get_or false (state_after (flips ++ var ∷ []) state) (set after var (not (bit_at after var)))
    (omega (arith, length-state_after (flips ++ var ∷ []) state, length-set after var (not (bit_at after var)), long))
    (λ i inside. at i (omega (arith, inside, length-state_after (flips ++ var ∷ []) state)))
  where
    turned : (i : ℕ) → i < length state → (a : Bool) → is_listed flips i ≡ a → (b : Bool) → nat_eq i var ≡ b → bit_at (state_after (flips ++ var ∷ []) state) i ≡ bit_at (set (state_after flips state) var (not (bit_at (state_after flips state) var))) i
    turned i inside a listed true same =
        let is : i ≡ var = grind (arith, nat_tests, same) in
        at-state_after (flips ++ var ∷ []) state i inside
        ∙ ap (λ (b : Bool). cond b (not (bit_at state i)) (bit_at state i)) (listed-append flips (var ∷ []) i ∙ ap (λ (b : Bool). b || (nat_eq i var || false)) (ap (is_listed flips) is ∙ out) ∙ ap (λ (b : Bool). b || false) same)
        ∙ ap (λ (j : ℕ). not (bit_at state j)) is
        ∙ ap not (sym (at-state_after flips state var below ∙ ap (λ (b : Bool). cond b (not (bit_at state var)) (bit_at state var)) out))
        ∙ sym (get_or-set_same (state_after flips state) var (not (bit_at (state_after flips state) var)) false (omega (arith, below, length-state_after flips state)))
        ∙ ap (bit_at (set (state_after flips state) var (not (bit_at (state_after flips state) var)))) (sym is)
    turned i inside a listed false differ =
        let other : i ≢ var = λ e. absurd (clash (nat_eq i var) differ (same i var e)) in
        at-state_after (flips ++ var ∷ []) state i inside
        ∙ ap (λ (b : Bool). cond b (not (bit_at state i)) (bit_at state i)) (listed-append flips (var ∷ []) i ∙ ap (λ (b : Bool). is_listed flips i || (b || false)) differ ∙ none (is_listed flips i))
        ∙ sym (at-state_after flips state i inside)
        ∙ sym (get_or-set_other (state_after flips state) var i (not (bit_at (state_after flips state) var)) false other)
      where
        clash : (b : Bool) → b ≡ false → b ≡ true → ⊥
        clash true e f = absurd (cc)
        clash false e f = absurd (cc)

        same : (i var : ℕ) → i ≡ var → nat_eq i var ≡ true
        same i var e = grind (arith, nat_tests, e)

        none : (b : Bool) → b || false ≡ b
        none true = refl
        none false = refl

    at : (i : ℕ) → i < length state → bit_at (state_after (flips ++ var ∷ []) state) i ≡ bit_at (set (state_after flips state) var (not (bit_at (state_after flips state) var))) i
    at i inside = turned i inside (is_listed flips i) refl (nat_eq i var) refl

-- no bit is the other one
pub not-itself : (bit : Bool) → not bit ≡ bit → ⊥
not-itself true e = absurd (cc)
not-itself false e = absurd (cc)

-- a variable that has another time is not listed
pub out-listed : (time : ℕ) (times flips : List ℕ) (var : ℕ) → AreAt time times flips → get_or times var 0 ≢ time → is_listed flips var ≡ false
out-listed time times flips var at differ = by (is_listed flips var) refl
  where
    by : (b : Bool) → is_listed flips var ≡ b → is_listed flips var ≡ false
    by true e = absurd (differ (at.here var e))
    by false e = e

-- and one that is not listed has another time
pub listed-out : (time : ℕ) (times flips : List ℕ) (var : ℕ) → AreAt time times flips → var < length times → is_listed flips var ≡ false → get_or times var 0 ≢ time
listed-out time times flips var at below out is = clash (is_listed flips var) (at.listed var below is) out
  where
    clash : (b : Bool) → b ≡ true → b ≡ false → ⊥
    clash true e f = absurd (cc)
    clash false e f = absurd (cc)

-- one more variable has the time
pub at-push : (time : ℕ) (times flips : List ℕ) (var : ℕ) → AreAt time times flips → var < length times → AreAt time (set times var time) (flips ++ var ∷ [])
at-push time times flips var at below = record {
  listed = λ v inside is. listed v (omega (arith, inside, length-set times var time)) is (nat_eq v var) refl;
  here = λ v there. here v there (nat_eq v var) refl;
  latest = λ v. latest v (nat_eq v var) refl;
}
  where
    same : (v : ℕ) → nat_eq v var ≡ true → v ≡ var
    same v e = grind (arith, nat_tests, e)

    other : (v : ℕ) → nat_eq v var ≡ false → v ≢ var
    other v e is = grind (arith, nat_tests, e, is)

    kept : (v : ℕ) → nat_eq v var ≡ false → get_or (set times var time) v 0 ≡ get_or times v 0
    kept v e = get_or-set_other times var v time 0 (other v e)

    placed : (v : ℕ) → nat_eq v var ≡ true → get_or (set times var time) v 0 ≡ time
    placed v e = ap (λ (n : ℕ). get_or (set times var time) n 0) (same v e) ∙ get_or-set_same times var time 0 below

    right : (a : Bool) → a || (true || false) ≡ true
    right true = refl
    right false = refl

    none : (a : Bool) → a || (false || false) ≡ a
    none true = refl
    none false = refl

    listed : (v : ℕ) → v < length times → get_or (set times var time) v 0 ≡ time → (b : Bool) → nat_eq v var ≡ b → is_listed (flips ++ var ∷ []) v ≡ true
    listed v inside is true e = listed-append flips (var ∷ []) v ∙ ap (λ (b : Bool). is_listed flips v || (b || false)) e ∙ right (is_listed flips v)
    listed v inside is false e =
        listed-append flips (var ∷ []) v ∙ ap (λ (b : Bool). is_listed flips v || (b || false)) e ∙ none (is_listed flips v)
        ∙ at.listed v inside (sym (kept v e) ∙ is)

    here : (v : ℕ) → is_listed (flips ++ var ∷ []) v ≡ true → (b : Bool) → nat_eq v var ≡ b → get_or (set times var time) v 0 ≡ time
    here v there true e = placed v e
    here v there false e =
        kept v e ∙ at.here v (sym (listed-append flips (var ∷ []) v ∙ ap (λ (b : Bool). is_listed flips v || (b || false)) e ∙ none (is_listed flips v)) ∙ there)

    latest : (v : ℕ) (b : Bool) → nat_eq v var ≡ b → get_or (set times var time) v 0 ≤ time
    latest v true e = omega (arith, placed v e)
    latest v false e = omega (arith, kept v e, at.latest v)

-- no variable has the next time
pub at-next : (time : ℕ) (times flips : List ℕ) → AreAt time times flips → AreAt (time + 1) times []
at-next time times flips at = record {
  listed = λ v inside is. absurd (omega (arith, is, at.latest v));
  here = λ v there. absurd (cc);
  latest = λ v. omega (arith, at.latest v);
}

-- none has the first one
pub at-first : (times : List ℕ) → ((var : ℕ) → get_or times var 0 ≡ 0) → AreAt 1 times []
at-first times early = record {
  listed = λ v inside is. absurd (omega (arith, is, early v));
  here = λ v there. absurd (cc);
  latest = λ v. omega (arith, early v);
}

-- what a variable that is not listed has before the step
pub before-step : (flips : List ℕ) (var : ℕ) (state : List Bool) → var < length state → is_listed flips var ≡ false → bit_at (state_after flips state) var ≡ bit_at state var
before-step flips var state below out = at-state_after flips state var below ∙ ap (λ (b : Bool). cond b (not (bit_at state var)) (bit_at state var)) out

-- bits that are found the same
pub bits-same : (a b : Bool) → beq a b ≡ true → a ≡ b
bits-same true true e = refl
bits-same false false e = refl
bits-same true false e = absurd (cc)
bits-same false true e = absurd (cc)

-- a list that is found empty or not
pub empty-is : {X : Type 0} (xs : List X) (n : ℕ) → n ≡ length xs → true ≡ nat_eq n 0 → xs ≡ []
empty-is [] n long e = refl
empty-is (x ∷ xs) n long e = absurd (omega (arith, long, eqb-true n 0 (sym e)))

pub empty-not : {X : Type 0} (xs : List X) (n : ℕ) → n ≡ length xs → false ≡ nat_eq n 0 → xs ≢ []
empty-not xs n long e is = false≢true (e ∙ eq-eqb n 0 (long ∙ ap length is))
