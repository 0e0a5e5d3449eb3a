-- The text of patterns, by their endings.
use Rattle.std.proofs.Common.{◌≡◌, ◌∙◌, refl, ap, sym, ℕ, ◌+◌, Bool, cond, List, [], ◌∷◌, ◌++◌, length, Option, arith}
use Rattle.std.specs.List.{count_by, list_any}
use Rattle.std.proofs.lemmas.List.Sums.{sum_by-cons}
use Rattle.hz_core.specs.Ternary.{is_unknown}
use Rattle.hz_core.specs.Netlist.{Netlist}
use Rattle.hz_pattern_text.specs.PatternValue.{PatternOf, PatternsOf}
use Rattle.hz_batch.specs.Outputs.{outputs_line, output_values}
use Rattle.hz_batch.specs.declared.job.Job.{Job}
use Rattle.hz_batch.specs.declared.job.Job.TheVariants.{Batch, Reset}
use Rattle.hz_batch.specs.BatchText.{ending_lines, ends_unsettled}
use Rattle.hz_batch.specs.Comes.{comes_to, last_of, IsTextOf}
use Rattle.hz_batch.specs.Each.{AreEach}
use Rattle.hz_batch.specs.PatternEnd.{PatternEnd, Open, Unstable, Settled}
use Rattle.hz_batch.specs.ResetText.{BothValues, IsBroughtAbout, values_lines, leaves_unknown}

-- endings from the unknown start are values, and have the lines of these
record AreValues (netlist : Netlist) (held : List (Option Bool)) (patterns : List PatternOf) (number : ℕ) (endings : List PatternEnd) : Type 0 where
  values : List BothValues
  are : AreEach (IsBroughtAbout netlist held) patterns values
  lines : ending_lines netlist number endings ≡ values_lines netlist number values
  long : length endings ≡ length values
  unknown : count_by ends_unsettled endings ≡ count_by leaves_unknown values

as-values : (netlist : Netlist) (held : List (Option Bool)) (patterns : List PatternOf) (number : ℕ) (endings : List PatternEnd) → AreEach (comes_to Reset netlist held) patterns endings → AreValues netlist held patterns number endings
as-values netlist held [] number [] are = record { values = []; are = tt; lines = refl; long = refl; unknown = refl }
as-values netlist held [] number (ending ∷ endings) are = absurd are
as-values netlist held (pattern ∷ patterns) number [] are = absurd are
as-values netlist held (pattern ∷ patterns) number (Open gate ∷ endings) are = absurd are.0
as-values netlist held (pattern ∷ patterns) number (Unstable gate ∷ endings) are = absurd are.0
as-values netlist held (pattern ∷ patterns) number (Settled a b ∷ endings) are =
    let later = as-values netlist held patterns (number + 1) endings are.1 in
    record {
      values = record { first = a; second = b } ∷ later.values;
      are = (are.0, later.are);
      lines = ap (λ (text : List ℕ). outputs_line netlist number (output_values netlist a b) ++ text) later.lines;
      long = omega (arith, later.long);
      unknown = sum_by-cons (λ (ending : PatternEnd). cond (ends_unsettled ending) 1 0) (Settled a b) endings
          ∙ (ap (λ (n : ℕ). cond (list_any is_unknown b) 1 0 + n) later.unknown
          ∙ sym (sum_by-cons (λ (values : BothValues). cond (leaves_unknown values) 1 0) (record { first = a; second = b }) later.values));
    }

pub text-of-endings : (job : Job) (netlist : Netlist) (value : PatternsOf) (endings : List PatternEnd) → AreEach (comes_to job netlist value.held) value.patterns endings → IsTextOf job netlist value (ending_lines netlist 1 endings ++ last_of job endings)
text-of-endings Batch netlist value endings are = record { endings = endings; are_endings = are; lines = refl }
text-of-endings Reset netlist value endings are =
    let found = as-values netlist value.held value.patterns 1 endings are in
    record {
      values = found.values;
      are_values = found.are;
      lines = rw (found.lines, found.long, found.unknown) refl;
    }
