-- What forced values make of a start: the least open gate, the completed state, the least unstable gate.
use Rattle.std.proofs.Common.{◌≡◌, ◌≢◌, ℕ, ◌-◌, ◌<◌, ◌≤◌, Bool, true, false, Option, List, ◌++◌, length, map, take, drop, get_or, refl, sym, ap, ◌∙◌, subst, arith, inl, inr}
use Rattle.std.proofs.lemmas.Bool.{cases_lt}
use Rattle.std.proofs.lemmas.List.{length-map, get_or-map, get_or-take, get_or_append_left, get_or-append_right, same_lists, length-take, take_at, take_all, drop_all, append-nil}
use Rattle.hz_core.specs.declared.tri.Tri.{Tri}
use Rattle.hz_core.specs.declared.tri.Tri.TheVariants.{Zero, One, Unknown}
use Rattle.hz_core.specs.Ternary.{tri_of}
use Rattle.hz_core.specs.Netlist.{Netlist, IsCircuit, IsGateNumber, primary_inputs, variable_count}
use Rattle.hz_net.specs.Network.{network_of, wires_of, value_at, bit_at, excitation, driver_value, IsState}
use Rattle.hz_net.specs.Variables.{expansion_of}
use Rattle.hz_net.specs.Starts.{IsForced, ListsInputs, IsCompletedStart, IsAcceptedStart, IsLeastOpen, IsLeastUnstable}
use Rattle.hz_net.proofs.Places.{no_wire, length-network_of, length-wires_of, length-expansion_of, bit_at-expansion_of-node, bit_at-expansion_of-wire, driver_at-input, driver_at-wire}
use Rattle.hz_net.proofs.Derivations.{forced-listed}
use Rattle.hz_net.proofs.Wires.{IsWireFrom-node}
use Rattle.hz_pass.specs.Forcing.{AreForcedValues, AreDelivered}
use Rattle.hz_pass.specs.Completed.{bit_or_zero, IsLeastUnknown, IsLeastUnstableIn}

-- a slice of a whole vector, written back
pub written-back : (count : ℕ) (new items : List Tri) → length new ≡ count → length items ≤ count → take count (new ++ drop (length new) items) ≡ new
written-back count new items long few =
    ap (λ (rest : List Tri). take count (new ++ rest)) (drop_all (length new) items (omega (arith, long, few))) ∙
    (ap (take count) (append-nil new) ∙ take_all count new (omega (arith, long)))

known-value : (value : Tri) → value ≢ Unknown → (bit : Bool) × (value ≡ tri_of bit) × (bit_or_zero value ≡ bit)
known-value Zero known = (false, refl, refl)
known-value One known = (true, refl, refl)
known-value Unknown known = absurd (known refl)

-- the bits of all values are those of the nodes, and for each wire its source's
pub bits-expanded : (netlist : Netlist) (values : List Tri) → IsCircuit netlist → IsState netlist values → AreDelivered netlist values → map bit_or_zero values ≡ expansion_of netlist (map bit_or_zero (take (length netlist.names) values))
bits-expanded netlist values circuit long delivered =
    same_lists (map bit_or_zero values) (expansion_of netlist nodes) (length-map values bit_or_zero ∙ (long ∙ sym (length-expansion_of netlist nodes circuit nodes_long))) each
  where
    names : ℕ
    names = length netlist.names

    nodes : List Bool
    nodes = map bit_or_zero (take names values)

    nodes_long : length nodes ≡ names
    nodes_long = length-map (take names values) bit_or_zero ∙ (length-take names values ∙ omega (arith, long, length-network_of netlist circuit))

    node-bit : (node : ℕ) (d : Bool) → node < names → get_or nodes node d ≡ bit_or_zero (value_at values node)
    node-bit node d few =
        get_or-map bit_or_zero (take names values) node Zero d (omega (arith, few, nodes_long, length-map (take names values) bit_or_zero)) ∙
        ap bit_or_zero (get_or-take names values node Zero few)

    wire-bit : (wire : ℕ) (d : Bool) → names ≤ wire → wire < variable_count netlist → get_or (expansion_of netlist nodes) wire d ≡ bit_or_zero (value_at values wire)
    wire-bit wire d above below =
        let source = (get_or (wires_of netlist) (wire - names) no_wire).source in
        let is_node : source < names = IsWireFrom-node netlist wire source circuit (record { above = above; below = below; source = refl }) in
        get_or-append_right nodes (map (λ wire. bit_at nodes wire.source) (wires_of netlist)) names wire d nodes_long above
        ∙ (get_or-map (λ wire. bit_at nodes wire.source) (wires_of netlist) (wire - names) no_wire d (omega (arith, below, length-wires_of netlist))
        ∙ (node-bit source false is_node ∙ ap bit_or_zero (sym (delivered wire source (driver_at-wire netlist wire circuit above below)))))

    each : (k : ℕ) (d : Bool) → k < length (map bit_or_zero values) → get_or (map bit_or_zero values) k d ≡ get_or (expansion_of netlist nodes) k d
    each k d few =
        let inside : k < length values = omega (arith, few, length-map values bit_or_zero) in
        get_or-map bit_or_zero values k Zero d inside
        ∙ sym (elim (cases_lt k names) [
          | inl node ↦ get_or_append_left nodes (map (λ wire. bit_at nodes wire.source) (wires_of netlist)) d k (omega (arith, node, nodes_long)) ∙ node-bit k d node
          | inr wire ↦ wire-bit k d wire (omega (arith, inside, long, length-network_of netlist circuit))
        ])

module _ (netlist : Netlist) (listed : List (Option Bool)) (values : List Tri) (circuit : IsCircuit netlist) (inputs : ListsInputs netlist listed) (forced : AreForcedValues netlist listed values) where
  -- a primary input is known
  input-known : (input : ℕ) → input < primary_inputs netlist → value_at values input ≢ Unknown
  input-known input few unknown =
      let given = inputs input few in
      forced.opens input (omega (arith, few, circuit.nodes)) unknown given.0 (forced-listed netlist listed input given.0 given.1)

  -- a known node is forced
  node-forced : (node : ℕ) → node < length netlist.names → value_at values node ≢ Unknown → IsForced netlist listed node (bit_or_zero (value_at values node))
  node-forced node few known =
      let bit = known-value (value_at values node) known in
      subst (IsForced netlist listed node) (sym bit.2) (forced.forced node bit.0 few bit.1)

  -- the least node that is X is the least open one
  pub least-open : (node : ℕ) → IsLeastUnknown netlist values node → IsLeastOpen netlist listed node
  least-open node found =
      record {
        is_node = found.is_node;
        is_open = forced.opens node found.is_node found.is_unknown;
        least = λ other less.
            let few : other < length netlist.names = omega (arith, less, found.is_node) in (
              bit_or_zero (value_at values other),
              node-forced other few (elim (cases_lt other (primary_inputs netlist)) [
                | inl input ↦ input-known other input
                | inr beyond ↦ found.least other beyond less
              ]),
            );
      }

  -- where no node is X, each node's bit and each wire's source make the completed start
  pub completed-start : (state : List Bool) → ((node : ℕ) → primary_inputs netlist ≤ node → node < length netlist.names → value_at values node ≢ Unknown) → state ≡ expansion_of netlist (map bit_or_zero (take (length netlist.names) values)) → IsCompletedStart netlist listed state
  completed-start state known made =
      let names = length netlist.names in
      let nodes = map bit_or_zero (take names values) in
      let values_long = forced.long in
      let nodes_long : length nodes ≡ names =
      length-map (take names values) bit_or_zero ∙ (length-take names values ∙ omega (arith, values_long, length-network_of netlist circuit)) in
      let front : take names state ≡ nodes = ap (take names) made ∙ take_at nodes (map (λ wire. bit_at nodes wire.source) (wires_of netlist)) names nodes_long in
      record {
        long = ap length made ∙ length-expansion_of netlist nodes circuit nodes_long;
        forced = λ node few.
            let bit : bit_at state node ≡ bit_or_zero (value_at values node) =
            ap (λ (s : List Bool). bit_at s node) made ∙
            (bit_at-expansion_of-node netlist nodes node nodes_long few ∙
            (get_or-map bit_or_zero (take names values) node Zero false (omega (arith, few, nodes_long, length-map (take names values) bit_or_zero)) ∙
            ap bit_or_zero (get_or-take names values node Zero few))) in
            subst (IsForced netlist listed node) (sym bit) (node-forced node few (elim (cases_lt node (primary_inputs netlist)) [
              | inl input ↦ input-known node input
              | inr beyond ↦ known node beyond few
            ]));
        wires = made ∙ ap (expansion_of netlist) (sym front);
      }

-- a completed start in which each gate is stable is accepted
pub accepted-start : (netlist : Netlist) (listed : List (Option Bool)) (state : List Bool) → IsCircuit netlist → IsCompletedStart netlist listed state → ((gate : ℕ) → IsGateNumber netlist gate → bit_at state gate ≡ excitation (network_of netlist) (take netlist.inputs state) state gate) → IsAcceptedStart netlist listed state
accepted-start netlist listed state circuit completed gates =
    let names = length netlist.names in
    let nodes = take names state in
    let long = completed.long in
    let nodes_long : length nodes ≡ names = length-take names state ∙ omega (arith, long, length-network_of netlist circuit) in
    record {
      completed = completed;
      stable = λ i inside. elim (cases_lt i netlist.inputs) [
        | inl input ↦ sym (ap (driver_value (take netlist.inputs state) state) (driver_at-input netlist i circuit input) ∙ get_or-take netlist.inputs state i false input)
        | inr beyond ↦ elim (cases_lt i names) [
          | inl node ↦ gates i (beyond, node)
          | inr wire ↦ (
              let below : i < variable_count netlist = omega (arith, inside, length-network_of netlist circuit) in
              let source = (get_or (wires_of netlist) (i - names) no_wire).source in
              let is_node : source < names = IsWireFrom-node netlist i source circuit (record { above = wire; below = below; source = refl }) in
              ap (λ (s : List Bool). bit_at s i) completed.wires ∙
              (bit_at-expansion_of-wire netlist nodes i nodes_long wire below ∙
              (get_or-take names state source false is_node ∙
              sym (ap (driver_value (take netlist.inputs state) state) (driver_at-wire netlist i circuit wire below))))
              )
        ]
      ];
    }

-- the least unstable gate of the completed state
pub least-unstable : (netlist : Netlist) (listed : List (Option Bool)) (state : List Bool) (gate : ℕ) → IsCompletedStart netlist listed state → IsLeastUnstableIn netlist state gate → IsLeastUnstable netlist listed gate
least-unstable netlist listed state gate completed found =
    record {
      state = state;
      completed = completed;
      is_gate = found.is_gate;
      is_unstable = found.is_unstable;
      least = found.least;
    }
