-- An accepted start, an open node and an unstable gate exclude each other.
use Rattle.std.proofs.Common.{◌≡◌, ℕ, ◌<◌, min, Bool, false, Option, List, length, take, sym, ap, ◌∙◌, subst, arith}
use Rattle.std.proofs.lemmas.List.{ext_get_or, length-take, get_or-take}
use Rattle.hz_core.specs.Netlist.{Netlist, IsCircuit}
use Rattle.hz_net.specs.Network.{network_of, bit_at, IsUnstable}
use Rattle.hz_net.specs.Variables.{expansion_of}
use Rattle.hz_net.specs.Starts.{IsCompletedStart, IsAcceptedStart, IsLeastOpen, IsLeastUnstable}
use Rattle.hz_net.proofs.Places.{length-network_of}
use Rattle.hz_net.proofs.Derivations.{forced_once}

-- where a node is open there is no completed start
pub completed-not-open : (netlist : Netlist) (listed : List (Option Bool)) (state : List Bool) (gate : ℕ) → IsCompletedStart netlist listed state → IsLeastOpen netlist listed gate → ⊥
completed-not-open netlist listed state gate completed opened =
    opened.is_open (bit_at state gate) (completed.forced gate opened.is_node)

-- there is one completed start at most
pub completed_once : (netlist : Netlist) (listed : List (Option Bool)) (state other : List Bool) → IsCompletedStart netlist listed state → IsCompletedStart netlist listed other → state ≡ other
completed_once netlist listed state other here there =
    let nodes = length netlist.names in
    let lengths : length state ≡ length other = here.long ∙ sym there.long in
    let fronts : take nodes state ≡ take nodes other =
    ext_get_or false (take nodes state) (take nodes other) (length-take nodes state ∙ (ap (λ (n : ℕ). min nodes n) lengths ∙ sym (length-take nodes other)))
    (λ k few.
    let inside : k < nodes = omega (arith, few, length-take nodes state) in
    get_or-take nodes state k false inside ∙ (forced_once netlist listed k (bit_at state k) (bit_at other k) (here.forced k inside) (there.forced k inside) ∙ sym (get_or-take nodes other k false inside))) in
    here.wires ∙ (ap (expansion_of netlist) fronts ∙ sym there.wires)

-- an accepted start has no unstable gate
pub accepted-not-unstable : (netlist : Netlist) (listed : List (Option Bool)) (state : List Bool) (gate : ℕ) → IsCircuit netlist → IsAcceptedStart netlist listed state → IsLeastUnstable netlist listed gate → ⊥
accepted-not-unstable netlist listed state gate circuit accepted unstable =
    let same : unstable.state ≡ state = sym (completed_once netlist listed state unstable.state accepted.completed unstable.completed) in
    let inside : gate < length (network_of netlist) = omega (arith, unstable.is_gate.1, length-network_of netlist circuit) in
    let moved : IsUnstable (network_of netlist) (take netlist.inputs state) state gate =
    subst (λ (s : List Bool). IsUnstable (network_of netlist) (take netlist.inputs s) s gate) same unstable.is_unstable in
    moved (accepted.stable gate inside)

-- where a node is open no gate is named as unstable
pub open-not-unstable : (netlist : Netlist) (listed : List (Option Bool)) (open_gate gate : ℕ) → IsLeastOpen netlist listed open_gate → IsLeastUnstable netlist listed gate → ⊥
open-not-unstable netlist listed open_gate gate opened unstable =
    completed-not-open netlist listed unstable.state open_gate unstable.completed opened
