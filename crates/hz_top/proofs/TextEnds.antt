-- How a task ends on a second text of which nothing is to be refused.
use Rattle.std.proofs.Common.{◌≡◌, ◌∙◌, sym, ℕ, inl, inr, Bool, true, false, List, [], ◌∷◌, All, codes}
use Rattle.std.proofs.lemmas.List.Elements.{All-head, All-tail}
use Rattle.hz_core.specs.Netlist.{Netlist}
use Rattle.hz_gen.specs.Starts.{IsCompletable}
use Rattle.hz_options.specs.declared.options.Options.{Options}
use Rattle.hz_text.specs.declared.fault.TextFault.{TextFault}
use Rattle.hz_script.specs.ScriptFault.{HasScriptFault}
use Rattle.hz_script.specs.ScriptText.{IsValue}
use Rattle.hz_script.specs.ScriptValue.{ScriptOf}
use Rattle.hz_pattern_text.specs.PatternFault.{HasPatternFault}
use Rattle.hz_pattern_text.specs.PatternText.{IsPatternsValue}
use Rattle.hz_pattern_text.specs.PatternValue.{PatternsOf}
use Rattle.hz_run_text.specs.RunFault.{HasRunFault}
use Rattle.hz_run_text.specs.RunText.{IsRunValue}
use Rattle.hz_run_text.specs.RunValue.{RunTextOf}
use Rattle.hz_words.specs.declared.job.Task.{Task}
use Rattle.hz_words.specs.declared.job.Task.TheVariants.{Analyse, Edges, Explore, Split, Replay, Convert, Vcd, Batch, Reset}
use Rattle.hz_refusal.specs.declared.status.Status.{Status}
use Rattle.hz_refusal.specs.declared.status.Status.TheVariants as status
use Rattle.hz_batch.specs.Batches.{IsBatchOutcome}
use Rattle.hz_changes.specs.Reports.{Reports}
use Rattle.hz_edge_reports.specs.EdgeReports.{ReportsEdges}
use Rattle.hz_timing.specs.TimedValue.{TimedScriptOf}
use Rattle.hz_timing.specs.Timed.{FirstStartRefused, IsGoodTimed, OfTimed, TimedStarted}
use Rattle.hz_explore.specs.ExploreReports.{ReportsExploring}
use Rattle.hz_batch.specs.Resets.{IsResetOutcome}
use Rattle.hz_replay.specs.RunTexts.{IsConvertOutcome, EndsReplay}
use Rattle.hz_changes.specs.Splits.{SplitsChanges}
use Rattle.hz_refusal.specs.Second.{IsTextOutcome, Started, IsGoodText}
use Rattle.hz_top.specs.Tasks.{comes_of, good_of}
use Rattle.hz_replay.specs.Verdict.{Replayed, IsYes}
use Rattle.hz_replay.specs.Dumps.{IsLastWritten}
use Rattle.hz_replay.proofs.Refusals.{accepted-or-refused}

-- of any kind of text: if `ends` and the judge of a value agree on the status, so do a good text and its outcome
good-ends : {V : Type 0} (called : List ℕ) (holds : Netlist → List ℕ → TextFault → Type 0) (stands_for : Netlist → List ℕ → V → Type 0) (judge : Netlist → V → Status → List ℕ → Type 0) (ends : Netlist → V → Status → Type 0)
    → ((netlist : Netlist) (value : V) (wanted own : Status) (said : List ℕ) → ends netlist value wanted → judge netlist value own said → own ≡ wanted)
    → (netlist : Netlist) (text : List ℕ) (wanted own : Status) (said : List ℕ) → IsGoodText holds stands_for ends netlist text wanted → IsTextOutcome called holds stands_for judge netlist text own said → own ≡ wanted
good-ends called holds stands_for judge ends agree netlist text wanted own said good (inl (fault, least, says)) = absurd (good.faultless fault least.stands)
good-ends called holds stands_for judge ends agree netlist text wanted own said good (inr (value, faultless, is, comes)) = agree netlist value wanted own said (good.each value is) comes

-- a script comes to what the judge of its changes says, which has no other status
script-ends : (judge : Netlist → List Bool → List (List (ℕ × Bool)) → Status → List ℕ → Type 0)
    → ((netlist : Netlist) (start : List Bool) (changes : List (List (ℕ × Bool))) (own : Status) (said : List ℕ) → judge netlist start changes own said → own ≡ status.Done)
    → (netlist : Netlist) (value : ScriptOf) (wanted own : Status) (said : List ℕ) → IsCompletable netlist value.start × (wanted ≡ status.Done) → Started judge netlist value own said → own ≡ wanted
script-ends judge done netlist value wanted own said good (inl (own_is, inl (gate, opened, line))) = absurd (good.0.closed gate opened)
script-ends judge done netlist value wanted own said good (inl (own_is, inr (gate, unstable, line))) = absurd (good.0.stable gate unstable)
script-ends judge done netlist value wanted own said good (inr (start, accepted, says)) = done netlist start value.changes own said says ∙ sym good.1

-- no start of these scripts is refused, if all can be completed
none-refused : (netlist : Netlist) (parts : List ScriptOf) (said : List ℕ) → All (λ part. IsCompletable netlist part.start) parts → FirstStartRefused netlist parts said → ⊥
none-refused netlist [] said good refused = refused
none-refused netlist (part ∷ parts) said good (inl (inl (gate, opened, line))) = (All-head (λ (part : ScriptOf). IsCompletable netlist part.start) part parts good).closed gate opened
none-refused netlist (part ∷ parts) said good (inl (inr (gate, unstable, line))) = (All-head (λ (part : ScriptOf). IsCompletable netlist part.start) part parts good).stable gate unstable
none-refused netlist (part ∷ parts) said good (inr (start, accepted, later)) = none-refused netlist parts said (All-tail (λ (part : ScriptOf). IsCompletable netlist part.start) part parts good) later

-- a script with assumptions of time comes to what the judge says, which has no other status
timed-ends : (again : Bool) (judge : Netlist → List (List Bool) → TimedScriptOf → Status → List ℕ → Type 0)
    → ((netlist : Netlist) (starts : List (List Bool)) (script : TimedScriptOf) (own : Status) (said : List ℕ) → judge netlist starts script own said → own ≡ status.Done)
    → (netlist : Netlist) (text : List ℕ) (wanted own : Status) (said : List ℕ) → IsGoodTimed again (λ netlist script own. All (λ part. IsCompletable netlist part.start) script.parts × (own ≡ status.Done)) netlist text wanted
    → OfTimed again (TimedStarted judge) netlist text own said → own ≡ wanted
timed-ends again judge done netlist text wanted own said good (inl (fault, least, says)) = absurd (good.faultless fault least.stands)
timed-ends again judge done netlist text wanted own said good (inr (value, faultless, is, inl (own_is, refused))) = absurd (none-refused netlist value.parts said (good.each value is).0 refused)
timed-ends again judge done netlist text wanted own said good (inr (value, faultless, is, inr (starts, accepted, says))) = done netlist starts value own said says ∙ sym (good.each value is).1

-- a replay comes to the one of both ends that it has, where the judge of runs that are accepted has no other status
replay-ends : (judge : Netlist → RunTextOf → Status → List ℕ → Type 0)
    → ((netlist : Netlist) (value : RunTextOf) (own : Status) (said : List ℕ) → judge netlist value own said → own ≡ status.Done)
    → (netlist : Netlist) (value : RunTextOf) (wanted own : Status) (said : List ℕ) → EndsReplay netlist value wanted → Replayed judge netlist value own said → own ≡ wanted
replay-ends judge done netlist value wanted own said (inl (accepted, is)) (inl (also, says)) = done netlist value own said says ∙ sym is
replay-ends judge done netlist value wanted own said (inl (accepted, is)) (inr (number, why, refused, says)) = absurd (accepted-or-refused netlist value number why accepted refused)
replay-ends judge done netlist value wanted own said (inr (number, why, refused, is)) (inl (accepted, says)) = absurd (accepted-or-refused netlist value number why accepted refused)
replay-ends judge done netlist value wanted own said (inr (number, why, refused, is)) (inr (other, because, also, says)) = says.0 ∙ sym is

-- a run text comes to its conversion
convert-ends : (netlist : Netlist) (value : RunTextOf) (wanted own : Status) (said : List ℕ) → wanted ≡ status.Done → IsConvertOutcome netlist value own said → own ≡ wanted
convert-ends netlist value wanted own said is says = says.0 ∙ sym is

-- patterns come to their text
batch-ends : (netlist : Netlist) (value : PatternsOf) (wanted own : Status) (said : List ℕ) → wanted ≡ status.Done → IsBatchOutcome netlist value own said → own ≡ wanted
batch-ends netlist value wanted own said is says = says.0 ∙ sym is

-- and so they do where nobody knows the start
reset-ends : (netlist : Netlist) (value : PatternsOf) (wanted own : Status) (said : List ℕ) → wanted ≡ status.Done → IsResetOutcome netlist value own said → own ≡ wanted
reset-ends netlist value wanted own said is says = says.0 ∙ sym is

-- the second text comes to its end, by the task
pub text-ends : (options : Options) (task : Task) (netlist : Netlist) (text : List ℕ) (wanted own : Status) (said : List ℕ) → good_of task netlist text wanted → comes_of options task netlist text own said → own ≡ wanted
text-ends options Analyse =
    good-ends (codes "script") HasScriptFault IsValue (Started (Reports options)) (λ netlist script own. IsCompletable netlist script.start × (own ≡ status.Done)) (script-ends (Reports options) (λ netlist start changes own said says. says.0))
text-ends options Edges = timed-ends true (ReportsEdges options) (λ netlist starts script own said says. says.0)
text-ends options Explore = timed-ends false (ReportsExploring options) (λ netlist starts script own said says. says.0)
text-ends options Split =
    good-ends (codes "script") HasScriptFault IsValue (Started (SplitsChanges options.cap)) (λ netlist script own. IsCompletable netlist script.start × (own ≡ status.Done)) (script-ends (SplitsChanges options.cap) (λ netlist start changes own said says. says.0))
text-ends options Replay =
    good-ends (codes "runs") HasRunFault IsRunValue (Replayed IsYes) EndsReplay (replay-ends IsYes (λ netlist value own said says. says.0))
text-ends options Convert = good-ends (codes "runs") HasRunFault IsRunValue IsConvertOutcome (λ netlist runs own. own ≡ status.Done) convert-ends
text-ends options Vcd =
    good-ends (codes "runs") HasRunFault IsRunValue (Replayed IsLastWritten) EndsReplay (replay-ends IsLastWritten (λ netlist value own said says. says.0))
text-ends options Batch = good-ends (codes "patterns") HasPatternFault IsPatternsValue IsBatchOutcome (λ netlist patterns own. own ≡ status.Done) batch-ends
text-ends options Reset = good-ends (codes "patterns") HasPatternFault IsPatternsValue IsResetOutcome (λ netlist patterns own. own ≡ status.Done) reset-ends
