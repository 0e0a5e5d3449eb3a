-- What a variable chooses, by its driver and by marks of the feedback-free variables.
use Rattle.std.proofs.Common.{◌≡◌, ℕ, suc, ◌+◌, ◌<◌, ◌≤◌, Bool, true, Option, Some, None, List, [], ◌∷◌, ◌++◌, length, refl, sym, ap, ◌∙◌, subst, arith, inl, inr}
use Rattle.std.specs.Prelude.{MatchOption}
use Rattle.std.proofs.lemmas.Bool.{cases_eq, both_ways}
use Rattle.std.proofs.lemmas.List.{get_or_push, get_or_append_left}
use Rattle.hz_core.specs.declared.kind.Kind.{Kind}
use Rattle.hz_net.specs.Network.{Driver, External, Function, Source, driver_at, bit_at}
use Rattle.hz_net.specs.Reads.{Reads}
use Rattle.hz_free.specs.Chains.{IsFeedbackFree}
use Rattle.hz_free.specs.Feedback.{IsChoice}
use Rattle.hz_free.specs.FreePart.{AreMarks}
use Rattle.hz_free.specs.Paths.{AreChoices, AreChoicesBelow, IsFeeding}
use Rattle.hz_free.proofs.Chains.{free-from_reads}
use Rattle.hz_free.proofs.PathLemmas.{link-inside}

-- a variable that reads what stands in a range, and nothing else
choice-range : (net : List Driver) (free : List Bool) (i first end : ℕ) → AreMarks net free → end ≤ length net → ((j : ℕ) → Reads (driver_at net i) j → (first ≤ j) × (j < end)) → ((j : ℕ) → first ≤ j → j < end → Reads (driver_at net i) j) → (found : Option ℕ) → MatchOption found ((j : ℕ) → first ≤ j → j < end → bit_at free j ≡ true) (IsFeeding free first end) → MatchOption found (IsFeedbackFree net i) (IsChoice net i)
choice-range net free i first end marks inside from to None all =
    free-from_reads net i (λ j reads. let at = from j reads in let below = at.1 in (marks.exact j (omega arith)).0 (all j at.0 at.1))
choice-range net free i first end marks inside from to (Some found) feeds =
    let before = feeds.before in
    record {
      reads = to found feeds.from feeds.before;
      feeds = λ is_free. both_ways (bit_at free found) feeds.feeds ((marks.exact found (omega arith)).1 is_free);
      first = λ other less reads. let at = from other reads in let below = at.1 in (marks.exact other (omega arith)).0 (feeds.least other at.0 less);
    }

pub choice-input : (net : List Driver) (i place : ℕ) → driver_at net i ≡ External place → IsFeedbackFree net i
choice-input net i place driven = free-from_reads net i (λ j reads. absurd (subst (λ (driver : Driver). Reads driver j) driven reads))

pub choice-gate : (net : List Driver) (free : List Bool) (i : ℕ) (kind : Kind) (first pins : ℕ) → AreMarks net free → first + pins ≤ length net → driver_at net i ≡ Function kind first pins → (found : Option ℕ) → MatchOption found ((j : ℕ) → first ≤ j → j < first + pins → bit_at free j ≡ true) (IsFeeding free first (first + pins)) → MatchOption found (IsFeedbackFree net i) (IsChoice net i)
choice-gate net free i kind first pins marks inside driven =
    choice-range net free i first (first + pins) marks inside (λ j reads. subst (λ (driver : Driver). Reads driver j) driven reads)
    (λ j from to. subst (λ (driver : Driver). Reads driver j) (sym driven) (from, to))

pub choice-wire : (net : List Driver) (free : List Bool) (i source : ℕ) → AreMarks net free → source < length net → driver_at net i ≡ Source source → (found : Option ℕ) → MatchOption found ((j : ℕ) → source ≤ j → j < source + 1 → bit_at free j ≡ true) (IsFeeding free source (source + 1)) → MatchOption found (IsFeedbackFree net i) (IsChoice net i)
choice-wire net free i source marks inside driven =
    choice-range net free i source (source + 1) marks (omega arith)
    (λ j reads. let same : source ≡ j = subst (λ (driver : Driver). Reads driver j) driven reads in (omega arith, omega arith))
    (λ j from to. let same : source ≡ j = omega arith in subst (λ (driver : Driver). Reads driver j) (sym driven) same)

pub choices-begin : (net : List Driver) → AreChoicesBelow net 0 []
choices-begin net = record { long = refl; each = λ i few. absurd (omega arith) }

pub choices-more : (net : List Driver) (below : ℕ) (choices choices' : List (Option ℕ)) (choice : Option ℕ) → AreChoicesBelow net below choices → MatchOption choice (IsFeedbackFree net below) (IsChoice net below) → choices' ≡ choices ++ choice ∷ [] → AreChoicesBelow net (below + 1) choices'
choices-more net below choices choices' choice are is same =
    subst (AreChoicesBelow net (below + 1)) (sym same)
    (
    record {
      long = let long = length-choices choices in let before = are.long in omega arith;
      each =
          λ i few.
          let before = are.long in
          elim (cases_eq i below) [
            | inl here ↦
                subst (λ (link : Option ℕ). MatchOption link (IsFeedbackFree net i) (IsChoice net i)) (sym (get_or_push choices choice None i (omega arith)))
                (subst (λ (m : ℕ). MatchOption choice (IsFeedbackFree net m) (IsChoice net m)) (sym here) is)
            | inr ne ↦
                subst (λ (link : Option ℕ). MatchOption link (IsFeedbackFree net i) (IsChoice net i)) (sym (get_or_append_left choices (choice ∷ []) None i (omega arith)))
                (are.each i (omega arith))
          ];
    }
    )
  where
    length-choices : (list : List (Option ℕ)) → length (list ++ choice ∷ []) ≡ suc (length list)
    length-choices [] = refl
    length-choices (first ∷ list) = ap suc (length-choices list)

pub choices-whole : (net : List Driver) (below : ℕ) (choices : List (Option ℕ)) → AreChoicesBelow net below choices → below ≡ length net → AreChoices net choices
choices-whole net below choices are same =
    let long = are.long in
    record {
      long = are.long ∙ same;
      some =
          λ i j leads.
          let few = link-inside choices i j leads in
          subst (λ (link : Option ℕ). MatchOption link (IsFeedbackFree net i) (IsChoice net i)) leads (are.each i (omega arith));
      none = λ i few none. subst (λ (link : Option ℕ). MatchOption link (IsFeedbackFree net i) (IsChoice net i)) none (are.each i (omega arith));
    }
