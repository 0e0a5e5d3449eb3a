-- The sweep over the nodes: what holds before it, after each wire and each node, and at its end.
use Rattle.std.proofs.Common.{◌≡◌, ◌≢◌, ℕ, ◌+◌, ◌-◌, ◌<◌, ◌≤◌, Bool, Option, Some, None, List, length, take, get_or, set, slice_get, refl, sym, ap, ◌∙◌, subst, arith, add-zero, inl, inr}
use Rattle.std.specs.List.{sum_by}
use Rattle.std.proofs.lemmas.Bool.{cases_eq}
use Rattle.std.proofs.lemmas.Grind.{get_or-set_at}
use Rattle.std.proofs.lemmas.Option.{slice_get-get_or, slice_get_within}
use Rattle.std.proofs.lemmas.List.{get_or-set_other, length-set, take_all}
use Rattle.std.proofs.lemmas.List.Sums.{sum_by_more}
use Rattle.hz_core.specs.declared.tri.Tri.{Tri}
use Rattle.hz_core.specs.declared.tri.Tri.TheVariants.{Zero, Unknown}
use Rattle.hz_core.specs.Ternary.{tri_of}
use Rattle.hz_core.specs.Netlist.{Netlist, IsCircuit, IsGateNumber, gate_at}
use Rattle.hz_net.specs.Network.{network_of, Source, driver_at, value_at}
use Rattle.hz_net.specs.Variables.{first_wire, at_wires}
use Rattle.hz_net.proofs.Places.{no_gate, pins_of, length-network_of, driver_at-pin}
use Rattle.hz_net.proofs.Wires.{IsWireFrom-node, IsWireFrom-driver_at, length-at_wires, get_or-at_wires}
use Rattle.hz_net.specs.Starts.{IsForced}
use Rattle.hz_net.proofs.Derivations.{AreForced, forced-extension}
use Rattle.hz_pass.specs.Forcing.{gate_extension, ForcedSoFar, AreForcedValues, AreDelivered, only_waiting}
use Rattle.hz_pass.specs.Sweep.{IsSweptTo}
use Rattle.hz_pass.proofs.ForcingLoop.{AreForced-places, known≢unknown}

-- an entry that gives no bit
not-listed : (entry : Option Bool) → ((bit : Bool) → entry ≡ Some bit → ⊥) → entry ≡ None
not-listed None none = refl
not-listed (Some bit) none = absurd (none bit refl)

module _ (netlist : Netlist) (listed : List (Option Bool)) (circuit : IsCircuit netlist) (listed_long : length listed ≡ length netlist.names) where
  -- inputs have no wires
  pub first_wire-input : (node : ℕ) → node ≤ netlist.inputs → first_wire netlist node ≡ length netlist.names
  first_wire-input node input =
      let none : node - netlist.inputs ≡ 0 = omega (arith, input) in
      ap (λ k. length netlist.names + sum_by pins_of (take k netlist.gates)) none ∙ add-zero (length netlist.names)

  -- the wires of the next gate come behind those of a gate
  pub first_wire-next : (gate : ℕ) → IsGateNumber netlist gate → first_wire netlist (gate + 1) ≡ first_wire netlist gate + length (gate_at netlist gate).sources
  first_wire-next gate is_gate =
      let k = gate - netlist.inputs in
      let next : gate + 1 - netlist.inputs ≡ k + 1 = omega (arith, is_gate.0) in
      ap (λ n. length netlist.names + sum_by pins_of (take n netlist.gates)) next ∙
      omega (arith, sum_by_more pins_of netlist.gates k no_gate (omega (arith, is_gate.0, is_gate.1, circuit.nodes)))

  pub first_wire-end : first_wire netlist (length netlist.names) ≡ length (network_of netlist)
  first_wire-end =
      ap (λ gates. length netlist.names + sum_by pins_of gates) (take_all (length netlist.names - netlist.inputs) netlist.gates (omega (arith, circuit.nodes))) ∙
      sym (length-network_of netlist circuit)

  -- before the sweep the listed values are set
  pub swept-none : (values : List Tri) (waiting : List ℕ) → ForcedSoFar netlist listed values (only_waiting waiting) → IsSweptTo netlist listed 0 (first_wire netlist 0) values
  swept-none values waiting so_far =
      record {
        long = so_far.long;
        agrees = so_far.agrees;
        sound = so_far.sound;
        known = λ other few. absurd (omega (arith, few));
        delivered = λ wire source drives few.
            let from = IsWireFrom-driver_at netlist wire source circuit drives in
            absurd (omega (arith, few, from.above, first_wire-input 0 (omega arith)));
      }

  listed-node : (node : ℕ) (bit : Bool) (values : List Tri) → slice_get listed node ≡ Some (Some bit) → node < length netlist.names
  listed-node node bit values e = let inside : node < length listed = slice_get_within listed node (Some bit) e in omega (arith, inside, listed_long)

  -- a wire gets its source's value
  pub swept-wire :
      (values : List Tri) (gate wire source : ℕ) (value : Tri) → gate ≤ length netlist.names → length netlist.names ≤ wire →
      wire < length (network_of netlist) → driver_at (network_of netlist) wire ≡ Source source → source < length netlist.names →
      value ≡ value_at values source → value ≢ Unknown → IsSweptTo netlist listed gate wire values →
      IsSweptTo netlist listed gate (wire + 1) (set values wire value)
  swept-wire values gate wire source value low above inside from is_node read known swept =
      let same : (other : ℕ) → other < length netlist.names → value_at (set values wire value) other ≡ value_at values other =
      λ other few. get_or-set_other values wire other value Zero (λ e. omega (arith, e, few, above)) in
      record {
        long = length-set values wire value ∙ swept.long;
        agrees = λ other bit e. same other (listed-node other bit values e) ∙ swept.agrees other bit e;
        sound = λ other bit few e. swept.sound other bit few (sym (same other few) ∙ e);
        known = λ other few unknown. swept.known other few (sym (same other (omega (arith, few, low))) ∙ unknown);
        delivered = λ other node drives few.
            let few_node = IsWireFrom-node netlist other node circuit (IsWireFrom-driver_at netlist other node circuit drives) in
            elim (cases_eq other wire) [
              | inl here ↦ (
                  let again : Source node ≡ Source source = sym drives ∙ ap (driver_at (network_of netlist)) here ∙ from in
                  let one : node ≡ source = cc in
                  let same_value : value ≡ value_at values node = read ∙ ap (value_at values) (sym one) in (
                    get_or-set_at values wire other value Zero here (omega (arith, inside, swept.long)) ∙ same_value ∙ sym (same node few_node),
                    λ unknown. known (same_value ∙ sym (same node few_node) ∙ unknown),
                  )
                  )
              | inr there ↦ (
                  let before = swept.delivered other node drives (omega (arith, few, there)) in (
                    get_or-set_other values wire other value Zero there ∙ before.0 ∙ sym (same node few_node),
                    λ unknown. before.1 (sym (same node few_node) ∙ unknown),
                  )
                  )
            ];
      }

  -- the pins of a gate are forced, once its wires have their values
  pins-forced : (values : List Tri) (gate end : ℕ) → IsGateNumber netlist gate → first_wire netlist (gate + 1) ≤ end → IsSweptTo netlist listed gate end values → AreForced netlist listed (gate_at netlist gate).sources (at_wires netlist gate values)
  pins-forced values gate end is_gate all swept =
      let sources = (gate_at netlist gate).sources in
      AreForced-places netlist listed sources (at_wires netlist gate values) (length-at_wires netlist gate values circuit is_gate swept.long)
      (λ k bit few known.
      let wire = first_wire netlist gate + k in
      let drives = driver_at-pin netlist gate k circuit is_gate few in
      let few_node = IsWireFrom-node netlist wire (get_or sources k 0) circuit (IsWireFrom-driver_at netlist wire (get_or sources k 0) circuit drives) in
      let told = swept.delivered wire (get_or sources k 0) drives (omega (arith, few, all, first_wire-next gate is_gate)) in
      swept.sound (get_or sources k 0) bit few_node (sym told.0 ∙ sym (get_or-at_wires netlist gate values k Zero few) ∙ known))

  -- a gate that is X gets its extension
  pub swept-gate :
      (values : List Tri) (gate end : ℕ) (value : Tri) → IsGateNumber netlist gate → first_wire netlist (gate + 1) ≤ end →
      value_at values gate ≡ Unknown → value ≡ gate_extension netlist values gate → IsSweptTo netlist listed gate end values →
      IsSweptTo netlist listed gate end (set values gate value)
  swept-gate values gate end value is_gate all unknown extended swept =
      let inside : gate < length values = omega (arith, is_gate.1, swept.long, length-network_of netlist circuit) in
      let other-value : (other : ℕ) → other ≢ gate → value_at (set values gate value) other ≡ value_at values other =
      λ other not. get_or-set_other values gate other value Zero not in
      let entry : slice_get listed gate ≡ Some (get_or listed gate None) = slice_get-get_or listed gate None (omega (arith, is_gate.1, listed_long)) in
      let unlisted : slice_get listed gate ≡ Some None =
      entry ∙ ap Some (not-listed (get_or listed gate None) (λ bit e. known≢unknown (value_at values gate) bit (swept.agrees gate bit (entry ∙ ap Some e)) unknown)) in
      record {
        long = length-set values gate value ∙ swept.long;
        agrees = λ other bit e. other-value other (λ same. known≢unknown (value_at values gate) bit (ap (value_at values) (sym same) ∙ swept.agrees other bit e) unknown) ∙ swept.agrees other bit e;
        sound = λ other bit few e. elim (cases_eq other gate) [
          | inl same ↦ (
              let now : value ≡ tri_of bit = sym (get_or-set_at values gate other value Zero same inside) ∙ e in
              subst (λ (n : ℕ). IsForced netlist listed n bit) (sym same)
              (forced-extension netlist listed gate (at_wires netlist gate values) bit is_gate unlisted (pins-forced values gate end is_gate all swept) (sym extended ∙ now))
              )
          | inr not ↦ swept.sound other bit few (sym (other-value other not) ∙ e)
        ];
        known = λ other few now. swept.known other few (sym (other-value other (λ same. omega (arith, same, few))) ∙ now);
        delivered = λ wire source drives few.
            let from = IsWireFrom-driver_at netlist wire source circuit drives in
            let before = swept.delivered wire source drives few in
            let kept = other-value source (λ same. before.1 (ap (value_at values) same ∙ unknown)) in (
              other-value wire (λ same. omega (arith, same, from.above, is_gate.1)) ∙ before.0 ∙ sym kept,
              λ now. before.1 (sym kept ∙ now),
            );
      }

  -- a node that is known is passed
  pub swept-next : (values : List Tri) (node end end' : ℕ) → end ≡ end' → value_at values node ≢ Unknown → IsSweptTo netlist listed node end values → IsSweptTo netlist listed (node + 1) end' values
  swept-next values node end end' same known swept =
      record {
        long = swept.long;
        agrees = swept.agrees;
        sound = swept.sound;
        known = λ other few. elim (cases_eq other node) [
          | inl here ↦ (λ unknown. known (ap (value_at values) (sym here) ∙ unknown))
          | inr not ↦ swept.known other (omega (arith, few, not))
        ];
        delivered = λ wire source drives few. swept.delivered wire source drives (omega (arith, few, same));
      }

  -- at the end no node is X, so what is forced is all that there is
  pub swept-forced : (values : List Tri) (end : ℕ) → IsSweptTo netlist listed (length netlist.names) end values → AreForcedValues netlist listed values
  swept-forced values end swept =
      record { long = swept.long; forced = swept.sound; opens = λ node few unknown. absurd (swept.known node few unknown) }

  pub swept-delivered : (values : List Tri) (node : ℕ) → IsSweptTo netlist listed node (length (network_of netlist)) values → AreDelivered netlist values
  swept-delivered values node swept = λ wire source drives.
      let from = IsWireFrom-driver_at netlist wire source circuit drives in
      (swept.delivered wire source drives (omega (arith, from.below, length-network_of netlist circuit))).0
