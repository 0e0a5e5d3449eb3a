-- The generated circuit of a number, and its script.
use Rattle.std.specs.Prelude.{ℕ, zero, suc, ◌-◌, Bool, true, false, List, [], ◌∷◌, ◌++◌, length, map, fold, replicate, slice_set, Option, Some, None, codes, decimal}
use Rattle.std.specs.List.{range_with_len, flat_map, position_or_len}
use Rattle.std.specs.Str.{bytes_eq}
use Rattle.hz_core.specs.declared.kind.Kind.{Kind}
use Rattle.hz_core.specs.declared.kind.Kind.TheVariants.{And, Or, Not, Buff}
use Rattle.hz_core.specs.Netlist.{Gate, Netlist, empty_netlist}
use Rattle.hz_script.specs.ScriptValue.{ScriptOf}

-- a gate's line: its name, its kind, and the names of the nodes that its pins read
pub record GateLine : Type 0 where
  pub name : List ℕ
  pub kind : Kind
  pub sources : List (List ℕ)

-- the name of the gate rk of the ring
abbrev pub r_name : ℕ → List ℕ
r_name k = codes "r" ++ decimal k

-- the name of the branch ai of a multiplexer, which is open while `go` is 1
abbrev pub a_name : ℕ → List ℕ
a_name i = codes "a" ++ decimal i

-- the name of the branch bi, which is open while `go` is 0
abbrev pub b_name : ℕ → List ℕ
b_name i = codes "b" ++ decimal i

-- the name of the gate mi, where the branches meet; m0 stands for the input x
abbrev pub m_name : ℕ → List ℕ
m_name zero = codes "x"
m_name (suc i) = codes "m" ++ decimal (suc i)

-- the gates that give a pulse when `go` rises: `n = NOT(go)`, `p = AND(go, n)`
abbrev pub pulse_lines : List GateLine
pulse_lines =
    record { name = codes "n"; kind = Not; sources = codes "go" ∷ [] }
    ∷ record { name = codes "p"; kind = And; sources = codes "go" ∷ codes "n" ∷ [] }
    ∷ []

-- `rk = BUFF(r(k-1))`
abbrev pub buffer_line : ℕ → GateLine
buffer_line k = record { name = r_name k; kind = Buff; sources = r_name (k - 1) ∷ [] }

-- the ring: `r1 = OR(p, rN)`, and a buffer for each k from 2 to N
abbrev pub ring_lines : ℕ → List GateLine
ring_lines n =
    record { name = r_name 1; kind = Or; sources = codes "p" ∷ r_name n ∷ [] }
    ∷ map buffer_line (range_with_len 2 (n - 1))

-- a multiplexer: `ai = AND(go, m(i-1))`, `bi = AND(n, m(i-1))`, `mi = OR(ai, bi)`
abbrev pub multiplexer_lines : ℕ → List GateLine
multiplexer_lines i =
    record { name = a_name i; kind = And; sources = codes "go" ∷ m_name (i - 1) ∷ [] }
    ∷ record { name = b_name i; kind = And; sources = codes "n" ∷ m_name (i - 1) ∷ [] }
    ∷ record { name = m_name i; kind = Or; sources = a_name i ∷ b_name i ∷ [] }
    ∷ []

-- the gates: the pulse, the ring, and a multiplexer for each i from 1 to N
abbrev pub demo_gate_lines : ℕ → List GateLine
demo_gate_lines n = pulse_lines ++ ring_lines n ++ flat_map multiplexer_lines (range_with_len 1 n)

-- the names of the nodes: the inputs `go` and `x`, then the gates
abbrev pub names_of_lines : List GateLine → List (List ℕ)
names_of_lines lines = codes "go" ∷ codes "x" ∷ map (λ line. line.name) lines

-- the number of the node with a name
abbrev pub node_in : List (List ℕ) → List ℕ → ℕ
node_in names name = position_or_len (bytes_eq name) names

-- the gate of a line
abbrev pub gate_in : List (List ℕ) → GateLine → Gate
gate_in names line = record { kind = line.kind; sources = map (node_in names) line.sources }

-- the names of the nodes of the circuit of N
unfoldable pub demo_names : ℕ → List (List ℕ)
demo_names n = names_of_lines (demo_gate_lines n)

-- the circuit of N: its gates read nodes by their names; no node is an output
unfoldable pub demo_netlist : ℕ → Netlist
demo_netlist n =
    record empty_netlist {
      names = demo_names n;
      inputs = 2;
      gates = map (gate_in (demo_names n)) (demo_gate_lines n);
    }

-- a start that lists the node with a name, too
abbrev pub with_listed : List (List ℕ) → List (Option Bool) → List ℕ × Bool → List (Option Bool)
with_listed names start pair = slice_set start (node_in names pair.0) (Some pair.1)

-- the script of N: the start `go=0 x=1 rN=0` and the change `go=1`
unfoldable pub demo_script : ℕ → ScriptOf
demo_script n =
    record {
      start =
          fold (with_listed (demo_names n)) (replicate (length (demo_names n)) None)
          ((codes "go", false) ∷ (codes "x", true) ∷ (r_name n, false) ∷ []);
      changes = ((node_in (demo_names n) (codes "go"), true) ∷ []) ∷ [];
    }
