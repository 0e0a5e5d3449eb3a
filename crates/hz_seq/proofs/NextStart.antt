-- A result of Algorithm B without X is a stable start, under its own inputs, which are the new input.
use Rattle.std.proofs.Common.{◌≡◌, ℕ, zero, suc, ◌-◌, ◌<◌, ◌≤◌, Bool, false, List, length, map, take, IsTrue, sym, ap, ◌∙◌, subst, arith}
use Rattle.std.proofs.lemmas.List.{ext_get_or, get_or-take, length-map, length-take-le}
use Rattle.hz_core.specs.declared.tri.Tri.{Tri}
use Rattle.hz_core.specs.Ternary.{tri_of, admits}
use Rattle.hz_core.specs.Netlist.{Netlist, IsCircuit}
use Rattle.hz_core.proofs.Refinements.{Refines-map, known-admits}
use Rattle.hz_net.specs.Network.{Driver, driver_at, bit_at, value_at, driver_value, driver_value3, excitation, network_of, IsStable}
use Rattle.hz_net.specs.Passes.{excitations, algorithm_b, AreRounds}
use Rattle.hz_net.specs.Starts.{IsStableStart}
use Rattle.hz_net.proofs.Excitations.{admits-driver_value, at-excitations, length-excitations}
use Rattle.hz_net.proofs.Places.{driver_at-input, length-network_of}
use Rattle.hz_net.proofs.Ranks.{at-tri_of}
use Rattle.hz_desk.specs.Finding.{FindingOf, values_a, values_b}
use Rattle.hz_desk.specs.RightFinding.{IsRightFinding}
use Rattle.hz_seq.specs.Sequence.{IsSettledAt}

-- a state whose ternary excitations are its own values
record IsAtRest (net : List Driver) (input state : List Bool) : Type 0 where
  pub long : length state ≡ length net
  pub same : map tri_of state ≡ excitations net input (map tri_of state)

at-rest : (net : List Driver) (input state : List Bool) (first : List Tri) (rounds : ℕ) → AreRounds (algorithm_b net input first) rounds → algorithm_b net input first rounds ≡ map tri_of state → IsAtRest net input state
at-rest net input state first zero are settled = absurd (omega (arith, are.some))
at-rest net input state first (suc round) are settled =
    let last : suc round - 1 ≡ round = omega arith in
    let before : algorithm_b net input first round ≡ map tri_of state =
    sym (are.settled ∙ ap (algorithm_b net input first) last) ∙ settled in
    let same : map tri_of state ≡ excitations net input (map tri_of state) =
    sym settled ∙ ap (excitations net input) before in
    record {
      long = sym (length-map state tri_of) ∙ (ap length same ∙ length-excitations net input (map tri_of state));
      same = same;
    }

-- such a state is stable
rest-stable : (net : List Driver) (input state : List Bool) → IsAtRest net input state → IsStable net input state
rest-stable net input state rest i inside =
    let asked : tri_of (bit_at state i) ≡ driver_value3 input (map tri_of state) (driver_at net i) =
    sym (at-tri_of state i)
    ∙ (ap (λ (values : List Tri). value_at values i) rest.same ∙ at-excitations net input (map tri_of state) i inside) in
    sym (known-admits (bit_at state i) (excitation net input state i)
    (subst (λ (value : Tri). IsTrue (admits value (excitation net input state i))) (sym asked)
    (admits-driver_value input state (map tri_of state) (Refines-map state) (driver_at net i))))

-- and its inputs are the external input
rest-input : (netlist : Netlist) (input state : List Bool) → IsCircuit netlist → length input ≡ netlist.inputs → IsAtRest (network_of netlist) input state → take netlist.inputs state ≡ input
rest-input netlist input state circuit given rest =
    let few : netlist.inputs ≤ length state = omega (arith, rest.long, length-network_of netlist circuit, circuit.nodes) in
    let long : length (take netlist.inputs state) ≡ netlist.inputs = length-take-le netlist.inputs state few in
    ext_get_or false (take netlist.inputs state) input (long ∙ sym given) (λ i inside.
    let below : i < netlist.inputs = subst (λ (n : ℕ). i < n) long inside in
    get_or-take netlist.inputs state i false below
    ∙ (rest-stable (network_of netlist) input state rest i (omega (arith, below, few, rest.long))
    ∙ ap (driver_value input state) (driver_at-input netlist i circuit below)))

-- so the next change may start there
pub next-start : (netlist : Netlist) (input start next : List Bool) (cap : ℕ) (finding : FindingOf) → IsCircuit netlist → length input ≡ netlist.inputs → IsRightFinding (network_of netlist) input start cap finding → IsSettledAt (values_b finding.rows) next → IsStableStart netlist next
next-start netlist input start next cap finding circuit given right settled =
    let rest = at-rest (network_of netlist) input next (values_a finding.rows) finding.rounds_b right.b_rounds (sym right.b_result ∙ settled) in
    record {
      long = rest.long;
      stable = subst (λ (bits : List Bool). IsStable (network_of netlist) bits next) (sym (rest-input netlist input next circuit given rest))
          (rest-stable (network_of netlist) input next rest);
    }
