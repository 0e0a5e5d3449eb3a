-- Gates in an order without feedback: what one evaluation of each makes.
use Rattle.std.proofs.Common.{◌≡◌, ℕ, ◌+◌, ◌<◌, ◌≤◌, List, length, get_or, set, sym, ap, ◌∙◌, subst, arith, inl, inr}
use Rattle.std.specs.Prelude.{All, Contains}
use Rattle.std.proofs.lemmas.Bool.{cases_eq, cases_lt}
use Rattle.std.proofs.lemmas.List.{get_or-set_same, get_or-set_other, get_or_default}
use Rattle.hz_core.specs.Netlist.{Netlist, IsCircuit, IsGateNumber, gate_at}
use Rattle.hz_core.proofs.CircuitLemmas.{sources-at_gate}
use Rattle.hz_plane.specs.declared.pair.Pair.{Pair}
use Rattle.hz_plane.specs.Pairs.{no_pair, pair_at, excited_pair}
use Rattle.hz_plane.specs.Steps.{gate_pair}
use Rattle.hz_plane.specs.Sweeps.{IsOrder, IsBack, readers_at}
use Rattle.hz_plane.specs.Forward.{IsKnownPair, IsForward, AreEvaluated, AreEvaluatedBelow}
use Rattle.hz_plane.proofs.Marks.{at-contained, contains-none}
use Rattle.hz_plane.proofs.Once.{same-sources}

module _ (netlist : Netlist) (circuit : IsCircuit netlist) (order : List ℕ) (readers back : List (List ℕ)) (is_order : IsOrder netlist order readers) (is_back : IsBack netlist order back) (forward : IsForward order back) where
  -- no gate up to a place reads the gate at that place
  pub none-back : (place reader : ℕ) (P : Type 0) → place < length order → reader ≤ place → Contains (gate_at netlist (get_or order reader 0)).sources (get_or order place 0) → P
  none-back place reader P inside up reads =
      contains-none (readers_at back place) reader P (forward place inside) (is_back.reads place reader inside up reads)

  -- a gate that the gate at a place reads stands earlier
  pub source-before : (place source : ℕ) → place < length order → Contains (gate_at netlist (get_or order place 0)).sources source → IsGateNumber netlist source → (earlier : ℕ) × (earlier < place) × (get_or order earlier 0 ≡ source)
  source-before place source inside reads is_gate =
      let there = is_order.every source is_gate in
      let is : get_or order there.0 0 ≡ source = at-contained order source there in
      elim (cases_lt there.0 place) [
        | inl before ↦ (there.0, before, is)
        | inr later ↦ none-back there.0 place _ there.1 later (subst (Contains (gate_at netlist (get_or order place 0)).sources) (sym is) reads)
      ]

  -- what the gate at a place reads has known bits
  pub sources-known : (planes : List Pair) (place : ℕ) → place < length order → AreEvaluatedBelow place netlist order planes → All (λ source. IsKnownPair (pair_at planes source)) (gate_at netlist (get_or order place 0)).sources
  sources-known planes place inside below k d few =
      let gate = get_or order place 0 in
      let is_gate : IsGateNumber netlist gate = is_order.gates place 0 inside in
      let sources = (gate_at netlist gate).sources in
      let source = get_or sources k d in
      let node : source < length netlist.names = sources-at_gate netlist gate circuit is_gate k d few in
      elim (cases_lt source netlist.inputs) [
        | inl input ↦ below.inputs source input
        | inr beyond ↦ (
            let before = source-before place source inside (k, few, get_or_default sources k source d few) (beyond, node) in
            subst (λ (n : ℕ). IsKnownPair (pair_at planes n)) before.2 (below.known before.0 before.1)
            )
      ]

  -- one gate more
  pub evaluated-more : (planes : List Pair) (place : ℕ) → length planes ≡ length netlist.names → place < length order → AreEvaluatedBelow place netlist order planes → IsKnownPair (gate_pair netlist planes (get_or order place 0)) → AreEvaluatedBelow (place + 1) netlist order (set planes (get_or order place 0) (gate_pair netlist planes (get_or order place 0)))
  evaluated-more planes place long inside below known =
      let gate = get_or order place 0 in
      let is_gate : IsGateNumber netlist gate = is_order.gates place 0 inside in
      let within : gate < length planes = omega (arith, is_gate.1, long) in
      let pair = gate_pair netlist planes gate in
      let after = set planes gate pair in
      let here : pair_at after gate ≡ pair = get_or-set_same planes gate pair no_pair within in
      let pins : (reader : ℕ) → reader ≤ place → gate_pair netlist after (get_or order reader 0) ≡ gate_pair netlist planes (get_or order reader 0) =
      λ reader up. ap (excited_pair (gate_at netlist (get_or order reader 0)).kind) (same-sources planes gate pair (gate_at netlist (get_or order reader 0)).sources (none-back place reader ⊥ inside up)) in
      record {
        inputs = λ input few. subst IsKnownPair (sym (get_or-set_other planes gate input pair no_pair (omega (arith, few, is_gate.0)))) (below.inputs input few);
        known = λ other few. elim (cases_eq (get_or order other 0) gate) [
          | inl same ↦ subst IsKnownPair (sym (ap (pair_at after) same ∙ here)) known
          | inr differ ↦ subst IsKnownPair (sym (get_or-set_other planes gate (get_or order other 0) pair no_pair differ)) (elim (cases_eq other place) [
            | inl is ↦ absurd (differ (ap (λ (n : ℕ). get_or order n 0) is))
            | inr earlier ↦ below.known other (omega (arith, few, earlier))
          ])
        ];
        excited = λ other few. elim (cases_eq (get_or order other 0) gate) [
          | inl same ↦ ap (pair_at after) same ∙ (here ∙ (ap (gate_pair netlist planes) (sym same) ∙ sym (pins other (omega (arith, few)))))
          | inr differ ↦ get_or-set_other planes gate (get_or order other 0) pair no_pair differ ∙ (elim (cases_eq other place) [
            | inl is ↦ absurd (differ (ap (λ (n : ℕ). get_or order n 0) is))
            | inr earlier ↦ below.excited other (omega (arith, few, earlier))
          ] ∙ sym (pins other (omega (arith, few))))
        ];
      }

  -- all gates
  pub evaluated-all : (planes : List Pair) (end : ℕ) → length order ≤ end → AreEvaluatedBelow end netlist order planes → AreEvaluated netlist planes
  evaluated-all planes end all below = record {
    known = λ node few. elim (cases_lt node netlist.inputs) [
      | inl input ↦ below.inputs node input
      | inr beyond ↦ (
          let there = is_order.every node (beyond, few) in
          subst (λ (n : ℕ). IsKnownPair (pair_at planes n)) (at-contained order node there) (below.known there.0 (omega (arith, there.1, all)))
          )
    ];
    excited = λ gate is_gate.
        let there = is_order.every gate is_gate in
        subst (λ (n : ℕ). pair_at planes n ≡ gate_pair netlist planes n) (at-contained order gate there) (below.excited there.0 (omega (arith, there.1, all)));
  }
