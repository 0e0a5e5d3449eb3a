-- What a pattern comes to, by what is done with it.
use Rattle.std.specs.Prelude.{ℕ, Bool, Option, List, length, count_by}
use Rattle.hz_core.specs.Netlist.{Netlist}
use Rattle.hz_pattern_text.specs.PatternValue.{PatternOf, PatternsOf}
use Rattle.hz_plane.specs.declared.stage.Stage.{Stage}
use Rattle.hz_plane.specs.declared.stage.Stage.TheVariants.{Completed, Spread}
use Rattle.hz_batch.specs.declared.job.Job.{Job}
use Rattle.hz_batch.specs.declared.job.Job.TheVariants.{Batch, Reset}
use Rattle.hz_batch.specs.PatternEnd.{PatternEnd, Open, Unstable, Settled, IsPatternEnd, listing_of}
use Rattle.hz_batch.specs.BatchText.{IsBatchText, counts_line, is_open, ends_unstable, ends_unsettled}
use Rattle.hz_batch.specs.Blocks.{no_gate}
use Rattle.hz_batch.specs.ResetText.{IsBroughtAbout, IsResetText, unknown_line}

-- what a pattern comes to: by the start that it lists, or from the unknown start, from which it always comes to values
abbrev pub comes_to : Job → Netlist → List (Option Bool) → PatternOf → PatternEnd → Type 0
comes_to Batch netlist held pattern ending =
    IsPatternEnd netlist (listing_of held pattern) pattern.to ending
comes_to Reset netlist held pattern (Open node) = ⊥
comes_to Reset netlist held pattern (Unstable gate) = ⊥
comes_to Reset netlist held pattern (Settled a b) =
    IsBroughtAbout netlist held pattern (record { first = a; second = b })

-- the gates that are held when a lane is loaded
abbrev pub held_by : Job → List (Option Bool) → List (Option Bool)
held_by Batch held = held
held_by Reset held = no_gate held

-- the patterns, as lanes are loaded with them
abbrev pub loaded_by : Job → PatternsOf → PatternsOf
loaded_by job patterns = record patterns { held = held_by job patterns.held }

-- the stage at which the first values of the outputs are kept
abbrev pub kept_at : Job → Stage
kept_at Batch = Spread
kept_at Reset = Completed

-- the last line, by what was counted
abbrev pub last_line : Job → (patterns open_ones unstable_ones unsettled_ones : ℕ) → List ℕ
last_line Batch patterns open_ones unstable_ones unsettled_ones =
    counts_line patterns open_ones unstable_ones unsettled_ones
last_line Reset patterns open_ones unstable_ones unsettled_ones =
    unknown_line patterns unsettled_ones

-- the last line of endings
abbrev pub last_of : Job → List PatternEnd → List ℕ
last_of job endings =
    last_line job (length endings) (count_by is_open endings) (count_by ends_unstable endings)
    (count_by ends_unsettled endings)

-- the text
abbrev pub IsTextOf : Job → Netlist → PatternsOf → List ℕ → Type 0
IsTextOf Batch = IsBatchText
IsTextOf Reset = IsResetText
