-- How far a call came: the file that it worked on last, and the line of its text that a refusal names.
use Rattle.std.specs.Prelude.{◌≡◌, ◌≢◌, ℕ, ◌⊎◌, true, false, List, Option, Some, None, IfSome, IsSomeAnd}
use Rattle.hz_outside.specs.declared.fault.Place.TheVariants.{First, Second}
use Rattle.hz_core.specs.Netlist.{Netlist}
use Rattle.hz_script.specs.ScriptFault.{HasScriptFault}
use Rattle.hz_pattern_text.specs.PatternFault.{HasPatternFault}
use Rattle.hz_run_text.specs.RunFault.{HasRunFault}
use Rattle.hz_refusal.specs.declared.status.Status.{Status}
use Rattle.hz_refusal.specs.declared.status.Status.TheVariants as status
use Rattle.hz_refusal.specs.Ending.{IsCutShort}
use Rattle.hz_refusal.specs.Second.{IsToldLine}
use Rattle.hz_timing.specs.TimedFault.{HasTimedFault}
use Rattle.hz_timing.specs.Timed.{IsToldTimedLine}
use Rattle.hz_formats.specs.Netlists.{IsNetlistText, IsToldNetlistLine}
use Rattle.hz_words.specs.declared.job.Task.{Task}
use Rattle.hz_words.specs.declared.job.Task.TheVariants.{Analyse, Edges, Explore, Split, Replay, Convert, Vcd, Batch, Reset}
use Rattle.hz_words.specs.Job.{JobOf, OnFiles, Demo}
use Rattle.hz_top.specs.Outcome.{Observation, CountsStay}
use Rattle.hz_top.specs.declared.reached.Reached.{Reached}

-- the line that is told of the second text of a task, by the faults that it may have
abbrev pub tells_line : Task → Netlist → List ℕ → Status → (line : ℕ) → Type 0
tells_line Analyse netlist text = IsToldLine (HasScriptFault netlist text)
tells_line Edges netlist text = IsToldTimedLine (HasTimedFault true netlist text)
tells_line Explore netlist text = IsToldTimedLine (HasTimedFault false netlist text)
tells_line Split netlist text = IsToldLine (HasScriptFault netlist text)
tells_line Replay netlist text = IsToldLine (HasRunFault netlist text)
tells_line Convert netlist text = IsToldLine (HasRunFault netlist text)
tells_line Vcd netlist text = IsToldLine (HasRunFault netlist text)
tells_line Batch netlist text = IsToldLine (HasPatternFault netlist text)
tells_line Reset netlist text = IsToldLine (HasPatternFault netlist text)

-- The line that is told of the first file: that of its text, if the files are told. If nothing is refused of its text, as if it was not
-- read, none is told.
abbrev pub IsLineOfFirst : Observation → (first : List ℕ) → Status → (line : ℕ) → Type 0
IsLineOfFirst told first own line =
    ((own ≢ status.Netlist) × (line ≡ 0))
    ⊎ IfSome told.held (λ bytes_of. IsToldNetlistLine first (bytes_of first) own line)

-- The line that is told of the second file, on a circuit: that of its text, if the files are told. If it was not read, none is told.
abbrev pub IsLineOnCircuit : Option (List ℕ → List ℕ) →
    (tells : List ℕ → Status → ℕ → Type 0) → (second : List ℕ) → Status → (line : ℕ) → Type 0
IsLineOnCircuit held tells second own line =
    ((own ≢ status.Text) × (line ≡ 0))
    ⊎ IfSome held (λ bytes_of. tells (bytes_of second) own line)

-- the same, on the circuit of the first file
abbrev pub IsLineOfSecond : Observation → Task → (first second : List ℕ) → Status → (line : ℕ) →
    Type 0
IsLineOfSecond told task first second own line =
    IfSome told.held (λ bytes_of. (netlist : Netlist)
    × IsNetlistText first (bytes_of first) netlist
    × IsLineOnCircuit told.held (tells_line task netlist) second own line)

-- a task on two files came to the first one, and no further, or to the second one
abbrev pub ComesTo : Observation → Task → (first second : List ℕ) → Status → Reached → Type 0
ComesTo told task first second own at =
    ((at.place ≡ First) × (at.name.now ≡ first) × CountsStay told Second
    × IsLineOfFirst told first own at.line)
    ⊎ ((at.place ≡ Second) × (at.name.now ≡ second)
    × IsLineOfSecond told task first second own at.line)

-- How far a call came. Without a job, and in a demo, it comes to no file; nor if it is cut short when the words are read.
abbrev pub IsReached : Observation → Option JobOf → Status → Option Reached → Type 0
IsReached told None own reached = reached ≡ None
IsReached told (Some (OnFiles task options first second)) own reached =
    (IsCutShort own × (reached ≡ None))
    ⊎ IsSomeAnd reached (ComesTo told task first second own)
IsReached told (Some (Demo number options)) own reached = reached ≡ None
