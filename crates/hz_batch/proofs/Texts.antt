-- The text of patterns, by what was given and counted.
use Rattle.std.proofs.Common.{◌≡◌, ◌∙◌, refl, sym, ap, ℕ, ◌<◌, ◌^◌, true, List, ◌++◌, length, arith}
use Rattle.std.specs.List.{count_by}
use Rattle.hz_outside.specs.WrittenText.{Output}
use Rattle.hz_outside.proofs.WrittenLemmas.{TookPrefix-nothing}
use Rattle.hz_outside.specs.declared.fault.PutFault.TheVariants.{Memory}
use Rattle.hz_core.specs.Netlist.{Netlist, IsCircuit}
use Rattle.hz_pattern_text.specs.PatternValue.{PatternsOf}
use Rattle.hz_write.specs.declared.writer.Writer.{Writer}
use Rattle.hz_write.specs.Writer.{Writes, has_failed}
use Rattle.hz_write.specs.Writes.{Stops}
use Rattle.hz_write.proofs.Writers.{writes_then, writes_failed}
use Rattle.hz_batch.specs.declared.counts.Counts.{Counts}
use Rattle.hz_batch.specs.declared.job.Job.{Job}
use Rattle.hz_batch.specs.BatchText.{ending_lines, is_open, ends_unstable, ends_unsettled}
use Rattle.hz_batch.specs.Comes.{comes_to, last_line, last_of, IsTextOf}
use Rattle.hz_batch.specs.Counts.{AddsCounts, no_counts}
use Rattle.hz_batch.specs.Each.{AreEach}
use Rattle.hz_batch.specs.PatternEnd.{PatternEnd}
use Rattle.hz_batch.proofs.Joined.{each-length}
use Rattle.hz_batch.proofs.TextOf.{text-of-endings}

-- the last line
counts-told : (job : Job) (endings : List PatternEnd) (counts : Counts) (n : ℕ) → n ≡ length endings → AddsCounts endings no_counts counts → last_line job n counts.open_starts counts.unstable_starts counts.unsettled ≡ last_of job endings
counts-told job endings counts n count adds =
    let opened : counts.open_starts ≡ count_by is_open endings = omega (arith, adds.open_starts) in
    let unstable : counts.unstable_starts ≡ count_by ends_unstable endings = omega (arith, adds.unstable_starts) in
    let unsettled : counts.unsettled ≡ count_by ends_unsettled endings = omega (arith, adds.unsettled) in
    rw (count, opened, unstable, unsettled) refl

-- numbers of nodes are few
pub few-nodes : (netlist : Netlist) (n : ℕ) → IsCircuit netlist → n ≡ length netlist.names → n < 2 ^ 32
few-nodes netlist n circuit is = omega (arith, circuit.variables, is)

module _ {S : Type 0} {output : S → Output} {faults : S → ℕ} where
  -- the lines of all patterns were given, and then that of the counts
  pub text-given : (job : Job) (netlist : Netlist) (value : PatternsOf) (endings : List PatternEnd) (counts : Counts) (n : ℕ) (a b c : Writer S) → AreEach (comes_to job netlist value.held) value.patterns endings → n ≡ length value.patterns → AddsCounts endings no_counts counts →
      Writes output faults (ending_lines netlist 1 endings) a b → Writes output faults (last_line job n counts.open_starts counts.unstable_starts counts.unsettled) b c →
      (text : List ℕ) × IsTextOf job netlist value text × Writes output faults text a c
  text-given job netlist value endings counts n a b c are count adds lines last =
      let long = each-length (comes_to job netlist value.held) value.patterns endings are in (
        ending_lines netlist 1 endings ++ last_of job endings,
        text-of-endings job netlist value endings are,
        writes_then lines last (ap (λ (line : List ℕ). ending_lines netlist 1 endings ++ line) (counts-told job endings counts n (count ∙ sym long) adds)),
      )

  -- or a put failed, and nothing more is put
  pub text-cut : (job : Job) (netlist : Netlist) (value : PatternsOf) (endings : List PatternEnd) (a b : Writer S) → AreEach (comes_to job netlist value.held) value.patterns endings → Writes output faults (ending_lines netlist 1 endings) a b → has_failed b ≡ true →
      (text : List ℕ) × IsTextOf job netlist value text × Writes output faults text a b
  text-cut job netlist value endings a b are lines failed = (
    ending_lines netlist 1 endings ++ last_of job endings,
    text-of-endings job netlist value endings are,
    writes_then lines (writes_failed (last_of job endings) failed) refl,
  )

-- nothing was written, since memory ran out
pub stops-nothing : {S : Type 0} (output : S → Output) (faults : S → ℕ) (text : List ℕ) (out : S) → Stops output faults Memory text out out
stops-nothing output faults text out = record {
  front = TookPrefix-nothing (output out) text;
  cause = λ e. absurd (cc);
  quiet = λ other. refl;
  never_fell = omega arith;
}
