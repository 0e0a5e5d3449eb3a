-- The law of covers: what a stable state of the circuit's network has at their outputs.
use Rattle.std.specs.Prelude.{◌≡◌, ℕ, Bool, List, map, Contains}
use Rattle.hz_core.specs.Netlist.{Netlist}
use Rattle.hz_net.specs.Network.{network_of, bit_at, IsStable, IsState}
use Rattle.hz_netlist.specs.Circuit.{number_in}
use Rattle.hz_blif.specs.Line.{lines_in}
use Rattle.hz_blif.specs.Cover.{Cover, kept_covers}
use Rattle.hz_blif.specs.Circuit.{blif_circuit}
use Rattle.hz_blif.specs.Function.{cover_value}

-- the value of the node with a name, in a state
abbrev pub node_value : Netlist → List Bool → List ℕ → Bool
node_value netlist state name = bit_at state (number_in netlist.names name)

-- a cover has the cover function of its pins at its output
abbrev pub HasCoverValue : Netlist → List Bool → Cover → Type 0
HasCoverValue netlist state cover =
    node_value netlist state cover.output
    ≡ cover_value cover (map (node_value netlist state) cover.pins)

-- in every stable state of the circuit's network, under every input, each cover that is not skipped has its cover function at its output
abbrev pub KeepsCovers : List ℕ → Type 0
KeepsCovers text =
    (input state : List Bool) → IsState (blif_circuit text) state →
    IsStable (network_of (blif_circuit text)) input state
    → (cover : Cover) → Contains (kept_covers (lines_in text)) cover →
    HasCoverValue (blif_circuit text) state cover
