-- What a pattern comes to: its start is refused, or both algorithms give their results.
use Rattle.std.specs.Prelude.{ℕ, Bool, Option, Some, List, ◌++◌, map, drop, length}
use Rattle.hz_core.specs.declared.tri.Tri.{Tri}
use Rattle.hz_core.specs.Netlist.{Netlist}
use Rattle.hz_net.specs.Network.{network_of}
use Rattle.hz_net.specs.Passes.{algorithm_a, algorithm_b, IsResult}
use Rattle.hz_net.specs.Starts.{IsAcceptedStart, IsLeastOpen, IsLeastUnstable}
use Rattle.hz_pattern_text.specs.PatternValue.{PatternOf}
use Rattle.hz_batch.specs.Each.{AreEach}

-- The start of a pattern is refused for its least open node, or if no node is open for its least unstable gate. Otherwise there
-- are the results of Algorithms A and B.
pub data PatternEnd : Type 0 where
  Open : (node : ℕ) → PatternEnd
  Unstable : (gate : ℕ) → PatternEnd
  Settled : (a b : List Tri) → PatternEnd

-- the start that a pattern lists: the first bits of all inputs, and the gates that are held
abbrev pub listing_of : List (Option Bool) → PatternOf → List (Option Bool)
listing_of held pattern = map Some pattern.from ++ drop (length pattern.from) held

-- what a listed start comes to under a new input
abbrev pub IsPatternEnd : Netlist → (listed : List (Option Bool)) → (input : List Bool) →
    PatternEnd → Type 0
IsPatternEnd netlist listed input (Open node) = IsLeastOpen netlist listed node
IsPatternEnd netlist listed input (Unstable gate) = IsLeastUnstable netlist listed gate
IsPatternEnd netlist listed input (Settled a b) =
    (start : List Bool) × IsAcceptedStart netlist listed start
    × IsResult (algorithm_a (network_of netlist) input start) a
    × IsResult (algorithm_b (network_of netlist) input a) b

-- what each pattern comes to, by the start that it lists and its second bits
abbrev pub ArePatternEnds : Netlist → (held : List (Option Bool)) → List PatternOf →
    List PatternEnd → Type 0
ArePatternEnds netlist held =
    AreEach (λ pattern. IsPatternEnd netlist (listing_of held pattern) pattern.to)
