-- Which gates have a turn in a pass, and which of their pins are free in it: those that are unsettled. Words about the inside of
-- this crate.
use Rattle.std.specs.Prelude.{ℕ, Bool, ◌&&◌, List, map}
use Rattle.hz_core.specs.declared.tri.Tri.{Tri}
use Rattle.hz_core.specs.Ternary.{is_unknown}
use Rattle.hz_core.specs.Netlist.{Netlist}
use Rattle.hz_net.specs.Network.{Driver, value_at}
use Rattle.hz_net.specs.Variables.{at_wires}
use Rattle.hz_reach.specs.Turn.{is_gate_in}

-- a variable is an unsettled gate
abbrev pub has_turn_in : List Driver → List Tri → ℕ → Bool
has_turn_in net b i = is_gate_in net i && is_unknown (value_at b i)

-- which pins of a gate are unsettled
abbrev pub unsettled_pins : Netlist → List Tri → ℕ → List Bool
unsettled_pins netlist b gate = map is_unknown (at_wires netlist gate b)
