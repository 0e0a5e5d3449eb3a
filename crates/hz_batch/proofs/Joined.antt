-- Lines of patterns one after the other.
use Rattle.std.proofs.Common.{◌≡◌, ◌∙◌, refl, ap, ℕ, ◌+◌, ◌≤◌, Bool, true, false, cond, List, [], ◌∷◌, ◌++◌, length, append_assoc, arith}
use Rattle.std.specs.List.{count_by, list_any}
use Rattle.std.proofs.lemmas.List.Sums.{sum_by-append, count_by-le-length}
use Rattle.hz_core.specs.Ternary.{is_unknown}
use Rattle.hz_outside.specs.WrittenText.{Output}
use Rattle.hz_core.specs.Netlist.{Netlist}
use Rattle.hz_pattern_text.specs.PatternValue.{PatternOf}
use Rattle.hz_write.specs.declared.writer.Writer.{Writer}
use Rattle.hz_write.specs.Writer.{Writes}
use Rattle.hz_write.proofs.Writers.{writes_then, writes_nothing}
use Rattle.hz_batch.specs.declared.counts.Counts.{Counts}
use Rattle.hz_batch.specs.declared.counts.Mark.{Mark}
use Rattle.hz_batch.specs.BatchText.{ending_line, ending_lines, is_open, ends_unstable, ends_unsettled}
use Rattle.hz_batch.specs.Counts.{AddsCounts, AreWithin, IsMarkOf, with_mark, settled_mark}
use Rattle.hz_batch.specs.Each.{AreEach}
use Rattle.hz_batch.specs.PatternEnd.{PatternEnd, Open, Unstable, Settled}
use Rattle.hz_batch.specs.Written.{AreWritten}

-- patterns after patterns
pub each-append : {X : Type 0} (of : PatternOf → X → Type 0) (patterns more : List PatternOf) (things others : List X) → AreEach of patterns things → AreEach of more others → AreEach of (patterns ++ more) (things ++ others)
each-append of [] more [] others are also = also
each-append of [] more (thing ∷ things) others are also = absurd are
each-append of (pattern ∷ patterns) more [] others are also = absurd are
each-append of (pattern ∷ patterns) more (thing ∷ things) others are also = (are.0, each-append of patterns more things others are.1 also)

pub each-length : {X : Type 0} (of : PatternOf → X → Type 0) (patterns : List PatternOf) (things : List X) → AreEach of patterns things → length things ≡ length patterns
each-length of [] [] are = refl
each-length of [] (thing ∷ things) are = absurd are
each-length of (pattern ∷ patterns) [] are = absurd are
each-length of (pattern ∷ patterns) (thing ∷ things) are = omega (arith, each-length of patterns things are.1)

-- lines after lines
pub lines-append : (netlist : Netlist) (number next : ℕ) (endings others : List PatternEnd) → next ≡ number + length endings → ending_lines netlist number endings ++ ending_lines netlist next others ≡ ending_lines netlist number (endings ++ others)
lines-append netlist number next [] others is = (let same : next ≡ number = omega (arith, is) in ap (λ (n : ℕ). ending_lines netlist n others) same)
lines-append netlist number next (ending ∷ endings) others is =
    append_assoc (ending_line netlist number ending) (ending_lines netlist (number + 1) endings) (ending_lines netlist next others)
    ∙ ap (λ (list : List ℕ). ending_line netlist number ending ++ list) (lines-append netlist (number + 1) next endings others (omega (arith, is)))

count-append : (p : PatternEnd → Bool) (endings others : List PatternEnd) → count_by p (endings ++ others) ≡ count_by p endings + count_by p others
count-append p endings others = sum_by-append (λ (ending : PatternEnd). cond (p ending) 1 0) endings others

adds-append : (endings others : List PatternEnd) (a b c : Counts) → AddsCounts endings a b → AddsCounts others b c → AddsCounts (endings ++ others) a c
adds-append endings others a b c first second = record {
  open_starts = omega (arith, first.open_starts, second.open_starts, count-append is_open endings others);
  unstable_starts = omega (arith, first.unstable_starts, second.unstable_starts, count-append ends_unstable endings others);
  unsettled = omega (arith, first.unsettled, second.unsettled, count-append ends_unsettled endings others);
}

-- no line
adds-none : (a : Counts) → AddsCounts [] a a
adds-none a = record { open_starts = omega arith; unstable_starts = omega arith; unsettled = omega arith }

-- counts stay within the number of patterns
pub within-after : (comes : PatternOf → PatternEnd → Type 0) (patterns : List PatternOf) (endings : List PatternEnd) (first all : ℕ) (a b : Counts) → AreEach comes patterns endings → AddsCounts endings a b → AreWithin first a → first + length patterns ≤ all → AreWithin all b
within-after comes patterns endings first all a b are adds within few =
    let long = each-length comes patterns endings are in
    record {
      open_starts = omega (arith, adds.open_starts, within.open_starts, count_by-le-length is_open endings, long, few);
      unstable_starts = omega (arith, adds.unstable_starts, within.unstable_starts, count_by-le-length ends_unstable endings, long, few);
      unsettled = omega (arith, adds.unsettled, within.unsettled, count_by-le-length ends_unsettled endings, long, few);
    }

-- one ending is counted by its mark
adds-one : (ending : PatternEnd) (told : Mark) (a b : Counts) → IsMarkOf ending told → b ≡ with_mark a told → AddsCounts (ending ∷ []) a b
adds-one (Open gate) told a b is counted = rw (counted, is) (record { open_starts = omega arith; unstable_starts = omega arith; unsettled = omega arith })
adds-one (Unstable gate) told a b is counted = rw (counted, is) (record { open_starts = omega arith; unstable_starts = omega arith; unsettled = omega arith })
adds-one (Settled first second) told a b is counted = rw (counted, is) (by_answer (list_any is_unknown second) refl)
  where
    by_answer : (answer : Bool) → answer ≡ list_any is_unknown second → AddsCounts (Settled first second ∷ []) a (with_mark a (settled_mark answer))
    by_answer true told = record { open_starts = omega arith; unstable_starts = omega arith; unsettled = rw (← told) (omega arith) }
    by_answer false told = record { open_starts = omega arith; unstable_starts = omega arith; unsettled = rw (← told) (omega arith) }

module _ {S : Type 0} {output : S → Output} {faults : S → ℕ} where
  pub written-none : (netlist : Netlist) (comes : PatternOf → PatternEnd → Type 0) (number : ℕ) (writer : Writer S) (counts : Counts) → AreWritten output faults netlist comes [] number writer writer counts counts
  written-none netlist comes number writer counts = record { endings = []; are_endings = tt; lines = writes_nothing writer; adds = adds-none counts }

  -- patterns after patterns
  pub written-then : (netlist : Netlist) (comes : PatternOf → PatternEnd → Type 0) (patterns more : List PatternOf) (number next : ℕ) (a b c : Writer S) (was now last : Counts) → next ≡ number + length patterns →
      AreWritten output faults netlist comes patterns number a b was now → AreWritten output faults netlist comes more next b c now last → AreWritten output faults netlist comes (patterns ++ more) number a c was last
  written-then netlist comes patterns more number next a b c was now last is first second =
      let long = each-length comes patterns first.endings first.are_endings in
      record {
        endings = first.endings ++ second.endings;
        are_endings = each-append comes patterns more first.endings second.endings first.are_endings second.are_endings;
        lines = writes_then first.lines second.lines (lines-append netlist number next first.endings second.endings (omega (arith, is, long)));
        adds = adds-append first.endings second.endings was now last first.adds second.adds;
      }

  -- one pattern
  pub written-one : (netlist : Netlist) (comes : PatternOf → PatternEnd → Type 0) (pattern : PatternOf) (number : ℕ) (a b : Writer S) (was now : Counts) (told : Mark) → now ≡ with_mark was told →
      ((ending : PatternEnd) × comes pattern ending × IsMarkOf ending told × Writes output faults (ending_line netlist number ending) a b) →
      AreWritten output faults netlist comes (pattern ∷ []) number a b was now
  written-one netlist comes pattern number a b was now told counted (ending, is, marked, writes) = record {
    endings = ending ∷ [];
    are_endings = (is, tt);
    lines = writes_then writes (writes_nothing b) refl;
    adds = adds-one ending told was now marked counted;
  }
