-- How a job ends in which nothing is to be refused but a step or a cycle, where memory does not run out and the output is
-- taken.
use Rattle.std.proofs.Common.{◌≡◌, ℕ, ◌<◌, ◌≤◌, ◌⊎◌, inl, inr, List, length, Option, Some, IfSome, refl, subst, sym, ◌∙◌, arith}
use Rattle.hz_outside.specs.Counts.{Rose}
use Rattle.hz_outside.specs.declared.fault.Place.{Place}
use Rattle.hz_outside.specs.declared.fault.Place.TheVariants.{First, Second}
use Rattle.hz_core.specs.Netlist.{Netlist}
use Rattle.hz_line.specs.Line.{most_text_bytes}
use Rattle.hz_options.specs.declared.options.Options.{Options}
use Rattle.hz_words.specs.declared.job.Task.{Task}
use Rattle.hz_words.specs.Job.{JobOf, OnFiles, Demo}
use Rattle.hz_refusal.specs.declared.status.Status.{Status}
use Rattle.hz_refusal.specs.declared.status.Status.TheVariants as status
use Rattle.hz_refusal.specs.Answer.{Answers}
use Rattle.hz_top.specs.Faultless.{AreGoodFiles, IsFaultlessJob}
use Rattle.hz_formats.specs.Netlists.{IsLeastNetlistFault}
use Rattle.hz_top.specs.Outcome.{Observation, IsSecondFileOutcome, IsFilesOutcome, IsJobOutcome}
use Rattle.hz_top.specs.Tasks.{comes_of}
use Rattle.hz_formats.proofs.NetlistTexts.{not-both, one-netlist}
use Rattle.hz_top.proofs.TextEnds.{text-ends}

-- the bytes of a file that is told are the told ones
pub told-bytes : (told : Observation) (bytes_of : List ℕ → List ℕ) (name bytes : List ℕ) → told.held ≡ Some bytes_of → IfSome told.held (λ bytes_of. bytes ≡ bytes_of name) → bytes ≡ bytes_of name
told-bytes told bytes_of name bytes is_told is =
    subst (λ (held : Option (List ℕ → List ℕ)). IfSome held (λ bytes_of. bytes ≡ bytes_of name)) is_told is

-- the file at a place was counted as too long, and is so if it is told
abbrev pub WasTooLong : Observation → Place → List ℕ → Type 0
WasTooLong told place name = Rose (told.longs place) (told.longs_after place) × IfSome told.held (λ bytes_of. most_text_bytes < length (bytes_of name))

-- a file that is told and not too long was not counted so
pub not-too-long : (told : Observation) (bytes_of : List ℕ → List ℕ) (place : Place) (name : List ℕ) → told.held ≡ Some bytes_of → length (bytes_of name) ≤ most_text_bytes → WasTooLong told place name → ⊥
not-too-long told bytes_of place name is_told short (rose, over) =
    let long : most_text_bytes < length (bytes_of name) =
    subst (λ (held : Option (List ℕ → List ℕ)). IfSome held (λ bytes_of. most_text_bytes < length (bytes_of name))) is_told over in
    absurd (omega (arith, long, short))

-- the second file comes to its end
second-ends : (told : Observation) (options : Options) (task : Task) (first second : List ℕ) (wanted : Status) (good : AreGoodFiles told task first second wanted) → ¬ WasTooLong told Second second → (own : Status) (said : List ℕ) → IsSecondFileOutcome told (comes_of options task good.netlist) second own said → own ≡ wanted
second-ends told options task first second wanted good short own said (inl (inl (rose, says))) = absurd (good.none_failed Second rose)
second-ends told options task first second wanted good short own said (inl (inr (rose, over, says))) = absurd (short (rose, over))
second-ends told options task first second wanted good short own said (inr (bytes, (is, few), comes)) =
    text-ends options task good.netlist (good.bytes_of second) wanted own said good.text
    (subst (λ (text : List ℕ). comes_of options task good.netlist text own said) (told-bytes told good.bytes_of second bytes good.is_told is) comes)

-- the two files come to their end
pub files-end : (told : Observation) (options : Options) (task : Task) (first second : List ℕ) (wanted : Status) → AreGoodFiles told task first second wanted → ¬ WasTooLong told First first → ¬ WasTooLong told Second second → (own : Status) (said : List ℕ) → IsFilesOutcome told (comes_of options task) first second own said → own ≡ wanted
files-end told options task first second wanted good short short_too own said (inl (stay, inl (rose, says))) = absurd (good.none_failed First rose)
files-end told options task first second wanted good short short_too own said (inl (stay, inr (rose, over, says))) = absurd (short (rose, over))
files-end told options task first second wanted good short short_too own said (inr (bytes, (is, few), inl (line, (fault, least, is_line), stay, says))) =
    let here = subst (λ (text : List ℕ). IsLeastNetlistFault first text fault) (told-bytes told good.bytes_of first bytes good.is_told is) least in
    absurd (not-both first (good.bytes_of first) good.netlist fault good.is_netlist here)
files-end told options task first second wanted good short short_too own said (inr (bytes, (is, few), inr (netlist, text, comes))) =
    second-ends told options task first second wanted good short_too own said
    (subst (λ (netlist : Netlist). IsSecondFileOutcome told (comes_of options task netlist) second own said)
    (one-netlist first (good.bytes_of first) bytes good.netlist netlist (told-bytes told good.bytes_of first bytes good.is_told is) good.is_netlist text) comes)

-- a job comes to its end
job-end : (told : Observation) (job : JobOf) (wanted : Status) → IsFaultlessJob told job wanted → (own : Status) (said : List ℕ) → IsJobOutcome told (Some job) own said → own ≡ wanted
job-end told (OnFiles task options first second) wanted faultless own said comes =
    files-end told options task first second wanted faultless.good (λ long. faultless.none_long First long.0) (λ long. faultless.none_long Second long.0) own said comes
job-end told (Demo number options) wanted good own said (stay, (start, accepted, summary)) = summary.0 ∙ sym good

-- and what was asked is this job
pub asked-end : (told : Observation) (asked : Option JobOf) (job : JobOf) (wanted : Status) → asked ≡ Some job → IsFaultlessJob told job wanted → (own : Status) (said : List ℕ) → IsJobOutcome told asked own said → own ≡ wanted
asked-end told asked job wanted is good own said comes =
    job-end told job wanted good own said (subst (λ (job : Option JobOf). IsJobOutcome told job own said) is comes)

-- a call ends with the one status that comes with a text, or memory ran out
pub ends-or-memory : {S : Type 0} (written : S → Option (List ℕ)) (faults : S → ℕ) (comes : Status → List ℕ → Type 0) (was now : S) (ends : Status) → Answers written faults comes was now ends → (wanted : Status) → ((own : Status) (said : List ℕ) → comes own said → own ≡ wanted) → ¬ Rose (faults was) (faults now) → (ends ≡ wanted) ⊎ (ends ≡ status.Memory)
ends-or-memory written faults comes was now status.Done (text, says, grew) wanted only quiet = inl (only status.Done text says)
ends-or-memory written faults comes was now status.No (text, says, grew) wanted only quiet = inl (only status.No text says)
ends-or-memory written faults comes was now status.Words (text, says, grew) wanted only quiet = inl (only status.Words text says)
ends-or-memory written faults comes was now status.Netlist (text, says, grew) wanted only quiet = inl (only status.Netlist text says)
ends-or-memory written faults comes was now status.Text (text, says, grew) wanted only quiet = inl (only status.Text text says)
ends-or-memory written faults comes was now status.Start (text, says, grew) wanted only quiet = inl (only status.Start text says)
ends-or-memory written faults comes was now status.File (text, says, grew) wanted only quiet = inl (only status.File text says)
ends-or-memory written faults comes was now status.TooLong (text, says, grew) wanted only quiet = inl (only status.TooLong text says)
ends-or-memory written faults comes was now status.Sink (rose, front) wanted only quiet = absurd (quiet rose)
ends-or-memory written faults comes was now status.Memory front wanted only quiet = inr refl
