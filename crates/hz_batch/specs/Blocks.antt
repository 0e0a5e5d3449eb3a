-- Patterns in blocks of 512, and what is left in the planes.
use Rattle.std.specs.Prelude.{ℕ, zero, suc, ◌+◌, ◌-◌, ◌*◌, ◌/◌, ◌^◌, Bool, Option, Some, None, List, ◌++◌, length, map, take, drop, replicate, min}
use Rattle.hz_pattern_text.specs.PatternValue.{PatternOf, PatternsOf}
use Rattle.hz_plane.specs.declared.stage.Stage.TheVariants.{Settled as AllSettled}
use Rattle.hz_plane.specs.Loads.{Loaded}
use Rattle.hz_plane.specs.View.{Seen}
use Rattle.hz_batch.specs.PatternEnd.{listing_of}

-- what a lane is loaded with for a pattern: its second bits as the new input, and the start that it lists
abbrev pub load_of : List (Option Bool) → PatternOf → Option Loaded
load_of held pattern = Some (record { input = pattern.to; listed = listing_of held pattern })

-- the 512 lanes, of which the first ones hold patterns
abbrev pub lanes_with : List (Option Bool) → List PatternOf → List (Option Loaded)
lanes_with held patterns = map (load_of held) patterns ++ replicate (512 - length patterns) None

-- no gate is held
abbrev pub no_gate : List (Option Bool) → List (Option Bool)
no_gate held = replicate (length held) None

abbrev pub without_held : PatternsOf → PatternsOf
without_held patterns = record patterns { held = no_gate patterns.held }

-- how many blocks patterns fill; the last may be shorter
abbrev pub block_count : ℕ → ℕ
block_count patterns = (patterns + 511) / 512

-- the patterns of a block
abbrev pub block_of : List PatternOf → ℕ → List PatternOf
block_of patterns block = take 512 (drop (block * 512) patterns)

-- The planes after so many blocks: they were settled once for each, and hold the last one.
abbrev pub planes_after : PatternsOf → Seen → ℕ → Seen
planes_after patterns was zero = was
planes_after patterns was (suc block) =
    record was {
      stage = AllSettled;
      settles = min (was.settles + suc block) (2 ^ 64 - 1);
      lanes = lanes_with patterns.held (block_of patterns.patterns block);
    }
