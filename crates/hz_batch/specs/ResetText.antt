-- The text of what patterns bring about if nothing is known of a start but the held gates.
use Rattle.std.specs.Prelude.{◌≡◌, ℕ, ◌+◌, Bool, Option, List, [], ◌∷◌, ◌++◌, length, codes, decimal, count_by}
use Rattle.std.specs.List.{list_any}
use Rattle.hz_core.specs.Ternary.{is_unknown}
use Rattle.hz_core.specs.declared.tri.Tri.{Tri}
use Rattle.hz_core.specs.Netlist.{Netlist}
use Rattle.hz_net.specs.Network.{network_of}
use Rattle.hz_net.specs.TernaryStarts.{unknown_start}
use Rattle.hz_reset.specs.Values.{SettlesAlong}
use Rattle.hz_write.specs.Writes.{line_of}
use Rattle.hz_pattern_text.specs.PatternValue.{PatternOf, PatternsOf}
use Rattle.hz_batch.specs.Outputs.{outputs_line, output_values}
use Rattle.hz_batch.specs.Each.{AreEach}

-- the values of all variables after the first bits of a pattern, and after its second bits
pub record BothValues : Type 0 where
  pub first : List Tri
  pub second : List Tri

-- What a pattern brings about: the unknown start settles under its first bits, and what comes of that under its second bits.
pub record IsBroughtAbout (netlist : Netlist) (held : List (Option Bool)) (pattern : PatternOf)
    (values : BothValues) : Type 0 where
  pub first : SettlesAlong (network_of netlist) (unknown_start (network_of netlist) held)
      (pattern.from ∷ []) values.first
  pub second : SettlesAlong (network_of netlist) (unknown_start (network_of netlist) held)
      (pattern.from ∷ pattern.to ∷ []) values.second

-- the lines of patterns, the first of which has a number: each output with both values
abbrev pub values_lines : Netlist → ℕ → List BothValues → List ℕ
values_lines netlist number [] = []
values_lines netlist number (values ∷ later) =
    outputs_line netlist number (output_values netlist values.first values.second)
    ++ values_lines netlist (number + 1) later

-- some variable, perhaps a wire or a gate inside, is X after the second bits
abbrev pub leaves_unknown : BothValues → Bool
leaves_unknown values = list_any is_unknown values.second

-- how many patterns there are, and how many of them leave some variable X
unfoldable pub unknown_line : ℕ → ℕ → List ℕ
unknown_line patterns unknown =
    line_of (codes "patterns " ∷ decimal patterns ∷ codes " unknown " ∷ decimal unknown ∷ [])

-- The text of what patterns bring about: the line of each, counted from 1, and then how many leave some variable X.
pub record IsResetText (netlist : Netlist) (patterns : PatternsOf) (text : List ℕ) : Type 0 where
  pub values : List BothValues
  pub are_values : AreEach (IsBroughtAbout netlist patterns.held) patterns.patterns values
  pub lines : text
      ≡ values_lines netlist 1 values
      ++ unknown_line (length values) (count_by leaves_unknown values)
