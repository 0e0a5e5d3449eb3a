-- Runs that are accepted are printed as a text that replays.
use Rattle.std.proofs.Common.{◌≡◌, ◌∙◌, sym, ap, refl, inl, inr, ℕ, suc, ◌-◌, ◌<◌, ◌≤◌, Bool, false, List, [], ◌∷◌, ◌++◌, Option, None, Some, IfSome, length, get_or, take, All, arith}
use Rattle.hz_replay.proofs.Words.{cases_lt, length-take-le, All-nil, All-cons, Netlist, Driver, network_of, bit_at, expansion_of, state_after, IsRun, end_of, IsNontransient}
use Rattle.hz_replay.proofs.Words.{IsRunTextFor, RunOf, cycle_steps, RunTextOf, all_steps, IsAcceptedRun, start_of, AreAccepted, most_steps}
use Rattle.std.proofs.lemmas.List.{get_or-take}
use Rattle.std.proofs.lemmas.List.Elements.{All-head, All-tail, All-append}
use Rattle.hz_core.specs.Netlist.{IsCircuit, variable_count}
use Rattle.hz_net.specs.Network.{wires_of, driver_value, IsStable}
use Rattle.hz_net.proofs.Places.{no_wire, All-wires_of, length-wires_of, length-network_of, driver_at-wire, length-expansion_of, bit_at-expansion_of-node, bit_at-expansion_of-wire}
use Rattle.hz_gmw.specs.RunRecord.{flip_count}
use Rattle.hz_run_text.specs.RunPrinted.{run_text_printed}
use Rattle.hz_run_text.specs.RunReadBack.{PrintedRunsAreRead}
use Rattle.hz_replay.specs.RunTexts.{ReplaysAs}
use Rattle.hz_lists.proofs.ListedLemmas.{All-each}

-- Bits of one length that are the same at each place are the same.
same-bits : (xs ys : List Bool) → length xs ≡ length ys → ((k : ℕ) → k < length xs → bit_at xs k ≡ bit_at ys k) → xs ≡ ys
same-bits [] [] long each = refl
same-bits [] (y ∷ ys) long each = cc
same-bits (x ∷ xs) [] long each = cc
same-bits (x ∷ xs) (y ∷ ys) long each =
    let head : x ≡ y = each 0 (omega arith) in
    let tail : xs ≡ ys = same-bits xs ys (omega (arith, long)) (λ k few. each (suc k) (omega (arith, few))) in
    cc

-- in a stable state each wire has its source's value, so it is the state that its nodes' values make
pub stable-expansion_of :
    (netlist : Netlist) (input state : List Bool) → IsCircuit netlist → length state ≡ length (network_of netlist) → IsStable (network_of netlist) input state →
    state ≡ expansion_of netlist (take (length netlist.names) state)
stable-expansion_of netlist input state circuit long stable =
    let nodes = take (length netlist.names) state in
    let few : length netlist.names ≤ length state = omega (arith, long, length-network_of netlist circuit) in
    let count : length nodes ≡ length netlist.names = length-take-le (length netlist.names) state few in
    same-bits state (expansion_of netlist nodes) (long ∙ sym (length-expansion_of netlist nodes circuit count)) (λ k within. elim (cases_lt k (length netlist.names)) [
      | inl node ↦ sym (bit_at-expansion_of-node netlist nodes k count node ∙ get_or-take (length netlist.names) state k false node)
      | inr from ↦ (
          let below : k < variable_count netlist = omega (arith, within, long, length-network_of netlist circuit) in
          let wire = get_or (wires_of netlist) (k - length netlist.names) no_wire in
          let there : k - length netlist.names < length (wires_of netlist) = omega (arith, from, below, length-wires_of netlist) in
          let source : wire.source < length netlist.names = All-wires_of netlist circuit (k - length netlist.names) no_wire there in
          stable k (omega (arith, within, long))
          ∙ ap (driver_value input state) (driver_at-wire netlist k circuit from below)
          ∙ sym (bit_at-expansion_of-wire netlist nodes k count from below ∙ get_or-take (length netlist.names) state wire.source false source)
          )
    ])

-- the steps of a run change variables that are there
pub run-inside : (net : List Driver) (input state : List Bool) (steps : List (List ℕ)) → IsRun net input state steps → All (All (λ (var : ℕ). var < length net)) steps
run-inside net input state [] run = All-nil (All (λ (var : ℕ). var < length net))
run-inside net input state (flips ∷ steps) run =
    All-cons (All (λ (var : ℕ). var < length net)) flips steps (All-each (λ (var : ℕ). var < length net) flips run.0.inside)
    (run-inside net input (state_after flips state) steps run.1)

-- the steps of runs that are accepted name variables of the network
accepted-inside : (net : List Driver) (input start : List Bool) (run : RunOf) → IsAcceptedRun net input start run → All (All (λ (var : ℕ). var < length net)) (run.lead ++ cycle_steps run.cycle)
accepted-inside net input start run accepted =
    All-append (All (λ (var : ℕ). var < length net)) run.lead (cycle_steps run.cycle) (run-inside net input start run.lead accepted.lead) (by_cycle run.cycle accepted.cycle)
  where
    by_cycle : (cycle : Option (List (List ℕ))) → IfSome cycle (IsNontransient net input (end_of start run.lead)) → All (All (λ (var : ℕ). var < length net)) (cycle_steps cycle)
    by_cycle None lasts = All-nil (All (λ (var : ℕ). var < length net))
    by_cycle (Some steps) lasts = run-inside net input (end_of start run.lead) steps lasts.cycle.run

all-inside : (net : List Driver) (input start : List Bool) (runs : List RunOf) → All (IsAcceptedRun net input start) runs → All (All (λ (var : ℕ). var < length net)) (all_steps runs)
all-inside net input start [] accepted = All-nil (All (λ (var : ℕ). var < length net))
all-inside net input start (run ∷ runs) accepted =
    All-append (All (λ (var : ℕ). var < length net)) (run.lead ++ cycle_steps run.cycle) (all_steps runs)
    (accepted-inside net input start run (All-head (IsAcceptedRun net input start) run runs accepted))
    (all-inside net input start runs (All-tail (IsAcceptedRun net input start) run runs accepted))

-- runs that are accepted are printed as a text that replays
pub accepted-replays :
    PrintedRunsAreRead →
    (netlist : Netlist) (value : RunTextOf) → IsCircuit netlist → length value.nodes ≡ length netlist.names → length value.input ≡ netlist.inputs →
    length (all_steps value.runs) ≤ most_steps → flip_count (all_steps value.runs) ≤ most_steps → AreAccepted netlist value →
    ReplaysAs netlist (run_text_printed netlist value) value.runs
accepted-replays read netlist value circuit nodes inputs steps flips accepted =
    let usable : IsRunTextFor netlist value = record {
      nodes = nodes;
      inputs = inputs;
      variables = all-inside (network_of netlist) value.input (start_of netlist value) value.runs accepted;
      few_steps = steps;
      few_variables = flips;
    } in
    let is = read netlist value circuit usable in
    inr (value, is.0, is.1, inl (accepted, (refl, refl)))
