-- The circuit as it is built, gate by gate, in which pins read nodes by their numbers.
use Rattle.std.specs.Prelude.{◌≡◌, ℕ, zero, suc, ◌+◌, ◌-◌, ◌*◌, ◌<◌, ◌≤◌, List, [], ◌∷◌, ◌++◌, length, map, All, None, codes}
use Rattle.std.specs.List.{range_with_len, flat_map}
use Rattle.hz_core.specs.declared.kind.Kind.{Kind}
use Rattle.hz_core.specs.declared.kind.Kind.TheVariants.{And, Or, Not, Buff}
use Rattle.hz_core.specs.Gate.{most_pins}
use Rattle.hz_core.specs.Netlist.{Gate, Netlist, IsName, empty_netlist, node_named, variable_count}
use Rattle.hz_gen.specs.Demo.{r_name, a_name, b_name, m_name}
use Rattle.hz_core.specs.Limits.{most_variables}

-- the circuit with one gate more, whose pins read these nodes
abbrev pub with_wired_gate : Netlist → List ℕ → Kind → List ℕ → Netlist
with_wired_gate netlist name kind sources =
    record netlist {
      names = netlist.names ++ name ∷ [];
      gates = netlist.gates ++ record { kind = kind; sources = sources } ∷ [];
    }

-- a gate with this name may be added, whose pins read these nodes
pub record MayAddWiredGate (netlist : Netlist) (name : List ℕ) (kind : Kind)
    (sources : List ℕ) : Type 0 where
  pub name_is : IsName name
  pub fresh : node_named netlist name ≡ None
  pub nodes : length netlist.names ≡ netlist.inputs + length netlist.gates
  pub reads : All (λ source. source < length netlist.names) sources
  pub pins : length sources ≤ most_pins kind
  pub room : variable_count netlist + 1 + length sources ≤ most_variables

-- the inputs alone
abbrev pub inputs_netlist : Netlist
inputs_netlist = record empty_netlist { names = codes "go" ∷ codes "x" ∷ []; inputs = 2 }

-- the names of the inputs, the pulse and a ring with so many buffers
abbrev pub ring_names : ℕ → List (List ℕ)
ring_names buffers =
    codes "go" ∷ codes "x" ∷ codes "n" ∷ codes "p" ∷ r_name 1
    ∷ map r_name (range_with_len 2 buffers)

-- the buffer k of the ring reads the gate before it
abbrev pub buffer_gate : ℕ → Gate
buffer_gate k = record { kind = Buff; sources = (k + 2) ∷ [] }

-- the gates of the pulse and of a ring whose first gate reads these nodes
abbrev pub ring_gates : List ℕ → ℕ → List Gate
ring_gates first buffers =
    record { kind = Not; sources = 0 ∷ [] }
    ∷ record { kind = And; sources = 0 ∷ 2 ∷ [] }
    ∷ record { kind = Or; sources = first }
    ∷ map buffer_gate (range_with_len 2 buffers)

-- the circuit of the pulse and of a ring whose first gate reads these nodes
abbrev pub ring_netlist : List ℕ → ℕ → Netlist
ring_netlist first buffers =
    record empty_netlist
    { names = ring_names buffers; inputs = 2; gates = ring_gates first buffers }

-- the names of a multiplexer's gates
abbrev pub multiplexer_names : ℕ → List (List ℕ)
multiplexer_names i = a_name i ∷ b_name i ∷ m_name i ∷ []

-- the number of the last gate of a multiplexer, if the ring has n gates; the input x stands before the first one
abbrev pub last_gate : ℕ → ℕ → ℕ
last_gate n zero = 1
last_gate n (suc i) = n + 3 * suc i + 3

-- the gates of a multiplexer
abbrev pub multiplexer_gates : ℕ → ℕ → List Gate
multiplexer_gates n i =
    record { kind = And; sources = 0 ∷ last_gate n (i - 1) ∷ [] }
    ∷ record { kind = And; sources = 2 ∷ last_gate n (i - 1) ∷ [] }
    ∷ record { kind = Or; sources = (n + 3 * i + 1) ∷ (n + 3 * i + 2) ∷ [] }
    ∷ []

-- the circuit of a ring with n gates and of so many multiplexers
abbrev pub chain_netlist : ℕ → ℕ → Netlist
chain_netlist n multiplexers =
    record empty_netlist {
      names = ring_names (n - 1) ++ flat_map multiplexer_names (range_with_len 1 multiplexers);
      inputs = 2;
      gates =
          ring_gates (3 ∷ (n + 3) ∷ []) (n - 1)
          ++ flat_map (multiplexer_gates n) (range_with_len 1 multiplexers);
    }
