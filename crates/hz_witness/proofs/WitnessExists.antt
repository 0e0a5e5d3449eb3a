-- From every stable start, under every input, there is a witness: the settle run, which begins with the spread run, with its counts.
use Rattle.std.proofs.Common.{◌≡◌, ℕ, ◌<◌, Bool, List, ◌++◌, map, length, get_or, refl, sym, arith, append_assoc}
use Rattle.std.specs.List.{range_with_len}
use Rattle.std.proofs.lemmas.List.FromFn.{get_or-map-range_with_len}
use Rattle.hz_core.specs.declared.tri.Tri.{Tri}
use Rattle.hz_core.specs.Netlist.{Netlist, IsCircuit}
use Rattle.hz_net.specs.Network.{Driver, network_of}
use Rattle.hz_net.specs.Passes.{algorithm_a, algorithm_b, IsResult, AreRanks, AreSettlingRounds}
use Rattle.hz_net.specs.PassEnds.{RanksExist, SettlingRoundsExist}
use Rattle.hz_net.specs.Starts.{IsStableStart}
use Rattle.hz_reach.specs.Existence.{SparingRunExists}
use Rattle.hz_reach.specs.Spread.{IsSparingRun, changes_in}
use Rattle.hz_reach.proofs.RanksOrderGates.{turns-of}
use Rattle.hz_reach.specs.Cycles.{IsSettleRun}
use Rattle.hz_reach.proofs.ChangeResults.{IsChange, change-fixed, fixed-and-ranked}
use Rattle.hz_reach.proofs.PassTurns.{pass-found}
use Rattle.hz_reach.proofs.RoundSteps.{rounds-found}
use Rattle.hz_reach.proofs.SettleRunExists.{before-pass, rounds-may-begin, pass-may-begin, settle-found}
use Rattle.hz_witness.specs.Witness.{AreCounts, IsWitness}
use Rattle.hz_witness.specs.Existence.{WitnessesExist}
use Rattle.hz_witness.proofs.Shown.{settle-nodes}

-- how often a run changes each variable
abbrev counts_of : List Driver → List (List ℕ) → List ℕ
counts_of net steps = map (changes_in steps) (range_with_len 0 (length net))

counts-are : (net : List Driver) (steps : List (List ℕ)) → AreCounts net steps (counts_of net steps)
counts-are net steps i few = get_or-map-range_with_len (changes_in steps) 0 (length net) i i 0 few (omega arith)

module _ {netlist : Netlist} {input start : List Bool} {a : List Tri} {ranks : List ℕ} {b : List Tri} (circuit : IsCircuit netlist) (change : IsChange (network_of netlist) input start a ranks b) where
  -- the settle run that begins with a spread run
  by-spread : {when : List ℕ} {spread : List (List ℕ)} → IsStableStart netlist start → AreSettlingRounds (algorithm_b (network_of netlist) input a) a b when → IsSparingRun (network_of netlist) input start a ranks spread
      → (steps : List (List ℕ)) × (counts : List ℕ) × IsWitness (network_of netlist) input start a b steps counts
  by-spread {when} {spread} begins rounds sparing =
      let net = network_of netlist in
      let settled = rounds-found (rounds-may-begin change rounds sparing refl) in
      let before = before-pass begins change rounds sparing refl (λ may. settled.1.1) in
      let last = pass-found circuit (change-fixed change) (fixed-and-ranked change).ranked (pass-may-begin before) in
      let steps = (spread ++ settled.0) ++ last.0 in
      let settle : IsSettleRun net input start a b steps = settle-found before last.1.1 in (
        steps,
        counts_of net steps,
        record {
          run = settle.run;
          nodes = settle-nodes net input start a ranks spread (settled.0 ++ last.0) steps sparing (append_assoc spread settled.0 last.0);
          values = settle.values;
          stable = settle.stable;
          counted = counts-are net steps;
        },
      )

pub witnesses_exist : RanksExist → SettlingRoundsExist → SparingRunExists → WitnessesExist
witnesses_exist ranks_exist rounds_exist sparing_exists netlist input start a b circuit begins a_result b_result =
    let net = network_of netlist in
    let ranks = ranks_exist (algorithm_a net input start) a a_result in
    let rounds = rounds_exist (algorithm_b net input a) a b b_result in
    let sparing = sparing_exists netlist input start a ranks.0 circuit begins a_result ranks.1 in
    by-spread circuit (record { turns = turns-of circuit begins a_result ranks.1; a_result = a_result; b_result = b_result }) begins rounds.1 sparing.1
