-- A node's fan-out ascends, so the gate and those of its fan-out that pass a test may be marked one after the other.
use Rattle.std.proofs.Common.{◌≡◌, ℕ, suc, ◌<◌, Bool, true, eqb, List, [], ◌∷◌, length, get_or, take, refl, arith, inl, inr, filter}
use Rattle.hz_reach.proofs.Words.{listed-above, at-least, listed-before, cases_Bool, or_cases, or_left, or_right, false_from_ne_true, Netlist, IsCircuit}
use Rattle.hz_reach.proofs.Words.{differs, network_of, bit_at, fan_out_of, length-network_of, is_listed, turn_flips, Ascends, ascends-lower, ascends-filter}
use Rattle.hz_reach.proofs.Words.{ascends-once, filtered-is, is-filtered, Wire, wires_of, readers_from}
use Rattle.std.proofs.lemmas.Bool.{eqb-true, eq-eqb}
use Rattle.std.proofs.lemmas.Grind.{get_or_default_zero}
use Rattle.hz_net.proofs.Wires.{IsWireFrom, IsWireFrom-fan_out_of}
use Rattle.hz_gmw.proofs.DriverLemmas.{fan-driver, driver-fan}
use Rattle.hz_reach.proofs.FilteredRangeLemmas.{differs-true, true-differs}
use Rattle.hz_reach.proofs.GateTurn.{IsWithFanOut}

-- a fan-out ascends from the first wire on
ascends-readers : (first : ℕ) (wires : List Wire) (node : ℕ) → Ascends first (readers_from first wires node)
ascends-readers first [] node = tt
ascends-readers first (wire ∷ wires) node =
    elim (cases_Bool (eqb wire.source node)) [
      | inl same ↦ rw same (omega arith, ascends-readers (suc first) wires node)
      | inr other ↦ rw other (ascends-lower (suc first) first (readers_from (suc first) wires node) (omega arith) (ascends-readers (suc first) wires node))
    ]

module _ (netlist : Netlist) (node : ℕ) where
  ascends-fan_out : Ascends (length netlist.names) (fan_out_of netlist node)
  ascends-fan_out = ascends-readers (length netlist.names) (wires_of netlist) node

  -- a gate is less than its fan-out, and marks so far are less than the next wire
  pub marks-ascend : (test : ℕ → Bool) (place i : ℕ) → node < length netlist.names → place < length (fan_out_of netlist node) → is_listed (node ∷ filter test (take place (fan_out_of netlist node))) i ≡ true → i < get_or (fan_out_of netlist node) place 0
  marks-ascend test place i is_node inside there =
      elim (or_cases (eqb i node) _ there) [
        | inl same ↦ omega (arith, eqb-true i node same, is_node, at-least (length netlist.names) (fan_out_of netlist node) place ascends-fan_out inside)
        | inr later ↦ listed-before (length netlist.names) (fan_out_of netlist node) place i ascends-fan_out inside (filtered-is test (take place (fan_out_of netlist node)) i later).1
      ]

  -- a wire of a fan-out is a variable
  pub fan_out-inside : (place : ℕ) → IsCircuit netlist → place < length (fan_out_of netlist node) → get_or (fan_out_of netlist node) place 0 < length (network_of netlist)
  fan_out-inside place circuit inside =
      let from : IsWireFrom netlist (get_or (fan_out_of netlist node) place 0) node =
      IsWireFrom-fan_out_of netlist (get_or (fan_out_of netlist node) place 0) node (place, inside, get_or_default_zero (fan_out_of netlist node) place _ inside) in
      omega (arith, from.below, length-network_of netlist circuit)

  -- the marks of a gate with its fan-out
  pub marks-with-fan_out : (state : List Bool) → IsCircuit netlist → node < length netlist.names → IsWithFanOut (network_of netlist) state node (turn_flips netlist node true state)
  marks-with-fan_out state circuit is_node =
      let test : ℕ → Bool = λ wire. differs (bit_at state wire) (bit_at state node) in
      let rest = filter test (fan_out_of netlist node) in
      let ascends = ascends-filter test (length netlist.names) (fan_out_of netlist node) ascends-fan_out in
      record {
        along = record {
          once = (
            false_from_ne_true _ (λ there. omega (arith, is_node, listed-above (length netlist.names) rest node ascends there)),
            ascends-once (length netlist.names) rest ascends,
          );
          itself = or_left (eqb node node) (is_listed rest node) (eq-eqb node node refl);
          others = λ i there. elim (or_cases (eqb i node) (is_listed rest i) there) [
            | inl same ↦ inl (eqb-true i node same)
            | inr later ↦ (
                let is = filtered-is test (fan_out_of netlist node) i later in
                inr (fan-driver netlist node i circuit is.1, differs-true _ _ is.0)
                )
          ];
        };
        follows = λ i drives differ.
            or_right (eqb i node) (is_listed rest i)
            (is-filtered test (fan_out_of netlist node) i (driver-fan netlist node i circuit drives) (true-differs _ _ differ));
      }
