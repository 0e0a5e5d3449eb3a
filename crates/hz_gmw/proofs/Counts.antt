-- What is counted of a state, after one variable or one input changes.
use Rattle.std.proofs.Common.{◌≡◌, ◌≢◌, ℕ, zero, suc, ◌+◌, ◌<◌, ◌≤◌, Bool, true, false, not, cond, List, [], ◌∷◌, ◌++◌, length, get_or, set, replicate, All, refl, sym, ap, ◌∙◌, subst, arith, inl, inr}
use Rattle.std.specs.Prelude.{sum_by, count_by}
use Rattle.std.specs.Bool.{beq}
use Rattle.std.specs.List.{range_with_len}
use Rattle.std.proofs.lemmas.Bool.{cases_eq, false≢true}
use Rattle.std.proofs.lemmas.List.{append-nil, get_or-set_same, get_or-set_other}
use Rattle.std.proofs.lemmas.List.FromFn.{length-range_with_len}
use Rattle.std.proofs.lemmas.List.Sums.{sum_by-cons, count_by-le-length}
use Rattle.hz_core.specs.declared.kind.Kind.{Kind}
use Rattle.hz_core.specs.Netlist.{Netlist, IsCircuit}
use Rattle.hz_net.specs.Network.{Driver, Function, Source, network_of, driver_at, driver_value, bit_at, excitation}
use Rattle.hz_net.specs.Variables.{fan_out_of}
use Rattle.hz_net.specs.Reads.{IsWireInto, IsWired}
use Rattle.hz_net.proofs.Places.{length-network_of, length-wires_of, first_wire-bound}
use Rattle.hz_net.proofs.Wired.{is_gate_of, wired-network_of}
use Rattle.hz_lists.specs.Listed.{is_listed, IsRepeatFree}
use Rattle.hz_lists.proofs.ListedLemmas.{listed-other, listed-one, first-or-later, All-each}
use Rattle.hz_gmw.specs.Instability.{is_unstable, unstable_count, IsOtherUnstable}
use Rattle.hz_gmw.specs.CurrentState.{AreCounts, with_readers}
use Rattle.hz_gmw.proofs.GateOnes.{twice-not}
use Rattle.hz_gmw.proofs.Flips.{state_after-one}
use Rattle.hz_gmw.proofs.Counting.{weight, range-term, list-term, range-same, range-one, range-listed, list-same, list-one, list-turned, count-map}
use Rattle.hz_gmw.proofs.DriverLemmas.{fan-driver, fan-above, fan-length, driver-fan, fan-once, around-wire, around-once, around-inside}
use Rattle.hz_gmw.proofs.Unchanged.{is_unstable-state_after, is_unstable-input, excitation-node}
use Rattle.hz_gmw.proofs.SetLemmas.{unmarked}
use Rattle.hz_core.specs.Limits.{most_variables}

-- a wire is unstable where it differs from its source
pub wire-unstable : (netlist : Netlist) (input state : List Bool) (wire source : ℕ) → driver_at (network_of netlist) wire ≡ Source source → is_unstable (network_of netlist) input state wire ≡ not (beq (bit_at state wire) (bit_at state source))
wire-unstable netlist input state wire source e = ap (λ (d : Driver). not (beq (bit_at state wire) (driver_value input state d))) e

-- one of two that differ
turned-left : (a b : Bool) → not (beq (not a) b) ≡ not (not (beq a b))
turned-left true true = refl
turned-left true false = refl
turned-left false true = refl
turned-left false false = refl

turned-right : (a b : Bool) → not (beq a (not b)) ≡ not (not (beq a b))
turned-right true true = refl
turned-right true false = refl
turned-right false true = refl
turned-right false false = refl

weights : (a b : Bool) → a ≡ not b → weight b + weight a ≡ 1
weights true true e = absurd (false≢true (sym e))
weights true false e = refl
weights false true e = refl
weights false false e = absurd (false≢true e)

not-not-not : (b : Bool) → not (not (not b)) ≡ not b
not-not-not true = refl
not-not-not false = refl

-- a node changes: each wire from it is unstable either before or after
fan-turned : (netlist : Netlist) (input state : List Bool) (node : ℕ) → IsCircuit netlist → node < length netlist.names → length netlist.names ≤ length state → count_by (is_unstable (network_of netlist) input (set state node (not (bit_at state node)))) (fan_out_of netlist node) + count_by (is_unstable (network_of netlist) input state) (fan_out_of netlist node) ≡ length (fan_out_of netlist node)
fan-turned netlist input state node circuit inside more =
    let state' = set state node (not (bit_at state node)) in
    let now : bit_at state' node ≡ not (bit_at state node) = get_or-set_same state node (not (bit_at state node)) false (omega (arith, inside, more)) in
    list-turned (λ i. weight (is_unstable (network_of netlist) input state' i)) (λ i. weight (is_unstable (network_of netlist) input state i)) (fan_out_of netlist node) (λ wire there.
    let above = fan-above netlist node wire there in
    let driver = fan-driver netlist node wire circuit there in
    let kept : bit_at state' wire ≡ bit_at state wire = get_or-set_other state node wire (not (bit_at state node)) false (λ e. omega (arith, above, inside, e)) in
    let before = wire-unstable netlist input state wire node driver in
    let after : is_unstable (network_of netlist) input state' wire ≡ not (beq (bit_at state wire) (not (bit_at state node))) =
    wire-unstable netlist input state' wire node driver ∙ (ap (λ (b : Bool). not (beq b (bit_at state' node))) kept ∙ ap (λ (b : Bool). not (beq (bit_at state wire) b)) now) in
    weights (is_unstable (network_of netlist) input state wire) (is_unstable (network_of netlist) input state' wire)
    (before ∙ sym (ap not (after ∙ turned-right (bit_at state wire) (bit_at state node)) ∙ not-not-not (beq (bit_at state wire) (bit_at state node)))))

-- and so is the node itself
pub node-turned : (netlist : Netlist) (input state input' state' : List Bool) (node : ℕ) → IsCircuit netlist → node < length netlist.names → length netlist.names ≤ length state → input' ≡ input → state' ≡ set state node (not (bit_at state node)) → count_by (is_unstable (network_of netlist) input' state') (node ∷ fan_out_of netlist node) + count_by (is_unstable (network_of netlist) input state) (node ∷ fan_out_of netlist node) ≡ 1 + length (fan_out_of netlist node)
node-turned netlist input state input' state' node circuit inside more input_is state_is =
    let bit = bit_at state node in
    let next = set state node (not bit) in
    let unstable : List Bool → ℕ → Bool = is_unstable (network_of netlist) input in
    let after : unstable next node ≡ not (unstable state node) =
    ap (λ (b : Bool). not (beq b (excitation (network_of netlist) input next node))) (get_or-set_same state node (not bit) false (omega (arith, inside, more))) ∙
    (ap (λ (b : Bool). not (beq (not bit) b)) (excitation-node netlist input state node (not bit) circuit inside) ∙ turned-left bit (excitation (network_of netlist) input state node)) in
    let own : weight (unstable state node) + weight (unstable next node) ≡ 1 = weights (unstable next node) (unstable state node) after in
    let wires = fan-turned netlist input state node circuit inside more in
    let sum : count_by (unstable next) (node ∷ fan_out_of netlist node) + count_by (unstable state) (node ∷ fan_out_of netlist node) ≡ 1 + length (fan_out_of netlist node) =
    omega (arith, own, wires, sum_by-cons (λ (i : ℕ). weight (unstable next i)) node (fan_out_of netlist node), sum_by-cons (λ (i : ℕ). weight (unstable state i)) node (fan_out_of netlist node)) in
    ap (λ (values : List Bool). count_by (is_unstable (network_of netlist) input' values) (node ∷ fan_out_of netlist node) + count_by (unstable state) (node ∷ fan_out_of netlist node)) state_is ∙
    (ap (λ (given : List Bool). count_by (is_unstable (network_of netlist) given next) (node ∷ fan_out_of netlist node) + count_by (unstable state) (node ∷ fan_out_of netlist node)) input_is ∙ sum)

module _ (netlist : Netlist) (circuit : IsCircuit netlist) (input state : List Bool) (ones lagging : List ℕ) where
  net : List Driver
  net = network_of netlist

  -- the wires of a gate stand behind the nodes
  wires-above : (gate : ℕ) (kind : Kind) (first pins : ℕ) → driver_at (network_of netlist) gate ≡ Function kind first pins → length netlist.names ≤ first
  wires-above gate kind first pins driver =
      let place = (is_gate_of netlist circuit gate kind first pins driver).first_is in omega (arith, place)

  -- a node changes: its wires turn
  pub AreCounts-node : (node count : ℕ) → AreCounts netlist input state ones lagging → node < length netlist.names → length state ≡ length (network_of netlist) → length netlist.names ≤ length state → length lagging ≡ length netlist.names → count + get_or lagging node 0 ≡ length (fan_out_of netlist node) → AreCounts netlist input (set state node (not (bit_at state node))) ones (set lagging node count)
  AreCounts-node node count counts inside long more lagging_long sum =
      let state' = set state node (not (bit_at state node)) in
      let kept : (i : ℕ) → i ≢ node → bit_at state' i ≡ bit_at state i = λ i other. get_or-set_other state node i (not (bit_at state node)) false other in
      let now : bit_at state' node ≡ not (bit_at state node) = get_or-set_same state node (not (bit_at state node)) false (omega (arith, inside, more)) in
      let within : node < length lagging = omega (arith, inside, lagging_long) in
      record {
        ones = λ gate kind first pins driver.
            let above = wires-above gate kind first pins driver in
            counts.ones gate kind first pins driver ∙
            range-same (λ i. weight (bit_at state i)) (λ i. weight (bit_at state' i)) first pins (λ i from below. ap weight (sym (kept i (omega (arith, from, above, inside)))));
        wires = λ other few. elim (cases_eq other node) [
          | inl same ↦ (
              let total = fan-turned netlist input state node circuit inside more in
              let was = counts.wires node inside in
              let here : get_or (set lagging node count) other 0 ≡ count = ap (λ (n : ℕ). get_or (set lagging node count) n 0) same ∙ get_or-set_same lagging node count 0 within in
              let then : count ≡ count_by (is_unstable (network_of netlist) input state') (fan_out_of netlist node) = omega (arith, total, was, sum) in
              here ∙ (then ∙ ap (λ (n : ℕ). count_by (is_unstable (network_of netlist) input state') (fan_out_of netlist n)) (sym same))
              )
          | inr differ ↦
              get_or-set_other lagging node other count 0 differ ∙ (counts.wires other few ∙
              list-same (λ i. weight (is_unstable (network_of netlist) input state i)) (λ i. weight (is_unstable (network_of netlist) input state' i)) (fan_out_of netlist other) (λ wire there.
              let above = fan-above netlist other wire there in
              let driver = fan-driver netlist other wire circuit there in
              ap weight (wire-unstable netlist input state wire other driver ∙
              (ap (λ (b : Bool). not (beq b (bit_at state other))) (sym (kept wire (omega (arith, above, inside)))) ∙
              (ap (λ (b : Bool). not (beq (bit_at state' wire) b)) (sym (kept other differ)) ∙ sym (wire-unstable netlist input state' wire other driver))))))
        ];
      }

  -- a wire changes: one pin of its gate, and how it stands to its source
  pub AreCounts-wire : (wire gate source one lag : ℕ) → AreCounts netlist input state ones lagging → IsWireInto (network_of netlist) gate wire → driver_at (network_of netlist) wire ≡ Source source → wire < length state → length netlist.names ≤ wire → gate < length ones → source < length lagging → length lagging ≡ length netlist.names → one + weight (bit_at state wire) ≡ get_or ones gate 0 + weight (not (bit_at state wire)) → lag + weight (not (beq (bit_at state wire) (bit_at state source))) ≡ get_or lagging source 0 + weight (not (beq (not (bit_at state wire)) (bit_at state source))) → AreCounts netlist input (set state wire (not (bit_at state wire))) (set ones gate one) (set lagging source lag)
  AreCounts-wire wire gate source one lag counts into from within above gate_in source_in lagging_long ones_sum lag_sum =
      let net = network_of netlist in
      let bit = not (bit_at state wire) in
      let state' = set state wire bit in
      let wired : IsWired net = wired-network_of netlist circuit in
      let kept : (i : ℕ) → i ≢ wire → bit_at state' i ≡ bit_at state i = λ i other. get_or-set_other state wire i bit false other in
      let now : bit_at state' wire ≡ bit = get_or-set_same state wire bit false within in
      let low : source ≢ wire = λ same. omega (arith, same, source_in, lagging_long, above) in
      record {
        ones = λ other kind first pins driver. elim (cases_eq other gate) [
          | inl same ↦ (
              let is = is_gate_of netlist circuit gate kind first pins (subst (λ (g : ℕ). driver_at net g ≡ Function kind first pins) same driver) in
              let was = is_gate_of netlist circuit gate into.kind into.first into.pins into.driven in
              let begins : into.first ≡ first = sym was.first_is ∙ is.first_is in
              let many : into.pins ≡ pins = sym was.pins_are ∙ is.pins_are in
              let lowest : into.first ≤ wire = into.above in
              let highest : wire < into.first + into.pins = into.below in
              let sums = range-one (λ i. weight (bit_at state i)) (λ i. weight (bit_at state' i)) first pins wire (omega (arith, lowest, begins)) (omega (arith, highest, begins, many)) (λ i from below apart. ap weight (sym (kept i apart))) in
              let after : weight (bit_at state' wire) ≡ weight bit = ap weight now in
              let before = counts.ones gate kind first pins (subst (λ (g : ℕ). driver_at net g ≡ Function kind first pins) same driver) in
              let then : one ≡ count_by (bit_at state') (range_with_len first pins) = omega (arith, sums, after, before, ones_sum) in
              ap (λ (n : ℕ). get_or (set ones gate one) n 0) same ∙ (get_or-set_same ones gate one 0 gate_in ∙ then)
              )
          | inr differ ↦ (
              get_or-set_other ones gate other one 0 differ ∙ (counts.ones other kind first pins driver ∙
              range-same (λ i. weight (bit_at state i)) (λ i. weight (bit_at state' i)) first pins (λ i least below. ap weight (sym (kept i (λ same. differ (wired.own other gate wire (record {
                kind = kind;
                first = first;
                pins = pins;
                driven = driver;
                above = omega (arith, least, same);
                below = omega (arith, below, same);
              }) into))))))
              )
        ];
        wires = λ node few. elim (cases_eq node source) [
          | inl same ↦ (
              let before = wire-unstable netlist input state wire source from in
              let after : is_unstable net input state' wire ≡ not (beq bit (bit_at state source)) =
              wire-unstable netlist input state' wire source from ∙ (ap (λ (b : Bool). not (beq b (bit_at state' source))) now ∙ ap (λ (b : Bool). not (beq bit b)) (kept source low)) in
              let sums = list-one (λ i. weight (is_unstable net input state i)) (λ i. weight (is_unstable net input state' i)) (fan_out_of netlist source) wire (fan-once netlist source) (driver-fan netlist source wire circuit from) (λ i there apart.
              let driver = fan-driver netlist source i circuit there in
              ap weight (same-wire i source driver apart low)) in
              let was = counts.wires source (omega (arith, source_in, lagging_long)) in
              let weight_before : weight (is_unstable net input state wire) ≡ weight (not (beq (bit_at state wire) (bit_at state source))) = ap weight before in
              let weight_after : weight (is_unstable net input state' wire) ≡ weight (not (beq bit (bit_at state source))) = ap weight after in
              let then : lag ≡ count_by (is_unstable net input state') (fan_out_of netlist source) = omega (arith, sums, was, weight_before, weight_after, lag_sum) in
              ap (λ (n : ℕ). get_or (set lagging source lag) n 0) same ∙ (get_or-set_same lagging source lag 0 source_in ∙ (then ∙ ap (λ (n : ℕ). count_by (is_unstable net input state') (fan_out_of netlist n)) (sym same)))
              )
          | inr differ ↦
              get_or-set_other lagging source node lag 0 differ ∙ (counts.wires node few ∙
              list-same (λ i. weight (is_unstable net input state i)) (λ i. weight (is_unstable net input state' i)) (fan_out_of netlist node) (λ i there.
              let driver = fan-driver netlist node i circuit there in
              let apart : i ≢ wire = λ same. differ (same-source node source (sym driver ∙ (ap (driver_at net) same ∙ from))) in
              ap weight (same-wire i node driver apart (λ same. omega (arith, same, few, above)))))
        ];
      }
    where
      same-source : (a b : ℕ) → Source a ≡ Source b → a ≡ b
      same-source a b e = cc

      same-wire : (i node : ℕ) → driver_at (network_of netlist) i ≡ Source node → i ≢ wire → node ≢ wire → is_unstable (network_of netlist) input state i ≡ is_unstable (network_of netlist) input (set state wire (not (bit_at state wire))) i
      same-wire i node driver apart low =
          let bit = not (bit_at state wire) in
          wire-unstable netlist input state i node driver ∙
          (ap (λ (b : Bool). not (beq b (bit_at state node))) (sym (get_or-set_other state wire i bit false apart)) ∙
          (ap (λ (b : Bool). not (beq (bit_at (set state wire bit) i) b)) (sym (get_or-set_other state wire node bit false low)) ∙
          sym (wire-unstable netlist input (set state wire bit) i node driver)))

-- a wire into a gate stands behind the nodes
pub wire-above : (netlist : Netlist) → IsCircuit netlist → (gate wire : ℕ) → IsWireInto (network_of netlist) gate wire → length netlist.names ≤ wire
wire-above netlist circuit gate wire into =
    let place = (is_gate_of netlist circuit gate into.kind into.first into.pins into.driven).first_is in
    let lowest : into.first ≤ wire = into.above in
    omega (arith, place, lowest)

-- a wire that changes turns: it is unstable if it was not
pub wire-turned : (netlist : Netlist) (input state : List Bool) (wire source : ℕ) (bit low : Bool) → driver_at (network_of netlist) wire ≡ Source source → source < wire → wire < length state → bit ≡ bit_at state wire → low ≡ bit_at state source → (not (beq (not bit) low) ≡ is_unstable (network_of netlist) input (set state wire (not bit)) wire) × (is_unstable (network_of netlist) input state wire ≡ not (not (beq (not bit) low)))
wire-turned netlist input state wire source bit low from less inside bit_is low_is =
    let state' = set state wire (not bit) in
    let now : bit_at state' wire ≡ not bit = get_or-set_same state wire (not bit) false inside in
    let same : bit_at state' source ≡ low = get_or-set_other state wire source (not bit) false (λ e. omega (arith, less, e)) ∙ sym low_is in
    let after : is_unstable (network_of netlist) input state' wire ≡ not (beq (not bit) low) =
    wire-unstable netlist input state' wire source from ∙ (ap (λ (b : Bool). not (beq b (bit_at state' source))) now ∙ ap (λ (b : Bool). not (beq (not bit) b)) same) in
    let before : is_unstable (network_of netlist) input state wire ≡ not (beq bit low) =
    wire-unstable netlist input state wire source from ∙ (ap (λ (b : Bool). not (beq b (bit_at state source))) (sym bit_is) ∙ ap (λ (b : Bool). not (beq bit b)) (sym low_is)) in
    (sym after, before ∙ sym (ap not (turned-left bit low) ∙ not-not-not (beq bit low)))

-- how many are unstable among a wire and its gate, before the wire changes and after
pub around-changed : (netlist : Netlist) (input state input' state' : List Bool) (wire gate : ℕ) (lags value before after : Bool) → IsCircuit netlist → IsWireInto (network_of netlist) gate wire → gate < length netlist.names → wire < length (network_of netlist) → input' ≡ input → state' ≡ set state wire (not (bit_at state wire)) → lags ≡ is_unstable (network_of netlist) input' state' wire → is_unstable (network_of netlist) input state wire ≡ not lags → value ≡ bit_at state' gate → before ≡ excitation (network_of netlist) input' state gate → after ≡ excitation (network_of netlist) input' state' gate → (cond (not lags) 1 0 + cond (not (beq value before)) 1 0 ≡ count_by (is_unstable (network_of netlist) input state) (with_readers netlist wire)) × (cond lags 1 0 + cond (not (beq value after)) 1 0 ≡ count_by (is_unstable (network_of netlist) input' state') (with_readers netlist wire))
around-changed netlist input state input' state' wire gate lags value before after circuit into gate_in inside input_is state_is lags_is turned value_is before_is after_is =
    let above = wire-above netlist circuit gate wire into in
    let sum : (given values : List Bool) → count_by (is_unstable (network_of netlist) given values) (with_readers netlist wire) ≡ weight (is_unstable (network_of netlist) given values wire) + weight (is_unstable (network_of netlist) given values gate) =
    λ given values.
    let unstable : ℕ → ℕ = λ i. weight (is_unstable (network_of netlist) given values i) in
    let list : count_by (is_unstable (network_of netlist) given values) (with_readers netlist wire) ≡ count_by (is_unstable (network_of netlist) given values) (wire ∷ gate ∷ []) =
    ap (count_by (is_unstable (network_of netlist) given values)) (around-wire netlist circuit gate wire into above inside) in
    let none : sum_by unstable [] ≡ 0 = refl in
    omega (arith, list, none, sum_by-cons unstable wire (gate ∷ []), sum_by-cons unstable gate []) in
    let kept : value ≡ bit_at state gate = value_is ∙ (ap (λ (values : List Bool). bit_at values gate) state_is ∙ get_or-set_other state wire gate (not (bit_at state wire)) false (λ e. omega (arith, above, gate_in, e))) in
    let gate_before : cond (not (beq value before)) 1 0 ≡ weight (is_unstable (network_of netlist) input state gate) =
    ap (λ (b : Bool). weight (not (beq b before))) kept ∙
    (ap (λ (b : Bool). weight (not (beq (bit_at state gate) b))) before_is ∙ ap (λ (given : List Bool). weight (is_unstable (network_of netlist) given state gate)) input_is) in
    let gate_after : cond (not (beq value after)) 1 0 ≡ weight (is_unstable (network_of netlist) input' state' gate) =
    ap (λ (b : Bool). weight (not (beq b after))) value_is ∙ ap (λ (b : Bool). weight (not (beq (bit_at state' gate) b))) after_is in
    let wire_before : cond (not lags) 1 0 ≡ weight (is_unstable (network_of netlist) input state wire) = ap weight (sym turned) in
    let wire_after : cond lags 1 0 ≡ weight (is_unstable (network_of netlist) input' state' wire) = ap weight lags_is in
    (omega (arith, sum input state, gate_before, wire_before), omega (arith, sum input' state', gate_after, wire_after))

-- an input changes: the counts of nodes stay
pub AreCounts-input : (netlist : Netlist) (input input' state : List Bool) (ones lagging : List ℕ) → IsCircuit netlist → AreCounts netlist input state ones lagging → AreCounts netlist input' state ones lagging
AreCounts-input netlist input input' state ones lagging circuit counts = record {
  ones = counts.ones;
  wires = λ node few. counts.wires node few ∙
      list-same (λ i. weight (is_unstable (network_of netlist) input state i)) (λ i. weight (is_unstable (network_of netlist) input' state i)) (fan_out_of netlist node) (λ wire there.
      let driver = fan-driver netlist node wire circuit there in
      ap weight (wire-unstable netlist input state wire node driver ∙ sym (wire-unstable netlist input' state wire node driver)));
}

-- the count of unstable variables, without the list of marks
pub counted-unstable : (netlist : Netlist) (input state : List Bool) → unstable_count (network_of netlist) input state ≡ count_by (is_unstable (network_of netlist) input state) (range_with_len 0 (length (network_of netlist)))
counted-unstable netlist input state = count-map (is_unstable (network_of netlist) input state) (range_with_len 0 (length (network_of netlist)))

-- it is no more than the number of variables
pub unstable-bound : (netlist : Netlist) (input state : List Bool) → unstable_count (network_of netlist) input state ≤ length (network_of netlist)
unstable-bound netlist input state =
    omega (arith, counted-unstable netlist input state, count_by-le-length (is_unstable (network_of netlist) input state) (range_with_len 0 (length (network_of netlist))), length-range_with_len 0 (length (network_of netlist)))

abbrev pub nothing : ℕ → ℕ
nothing i = 0

pub zeros : (list : List ℕ) → sum_by nothing list ≡ 0
zeros [] = refl
zeros (x ∷ list) =
    let rest = zeros list in
    omega (arith, rest, sum_by-cons nothing x list)

-- how many of listed variables are unstable is no more than how many are unstable in all
pub listed-bound : (netlist : Netlist) (input state : List Bool) (list : List ℕ) → IsRepeatFree list → All (λ i. i < length (network_of netlist)) list → count_by (is_unstable (network_of netlist) input state) list ≤ unstable_count (network_of netlist) input state
listed-bound netlist input state list once inside =
    let f : ℕ → ℕ = λ i. weight (is_unstable (network_of netlist) input state i) in
    let g : ℕ → ℕ = λ i. cond (is_listed list i) 0 (f i) in
    let sums = range-listed f g (length (network_of netlist)) list once inside (λ i below missing. sym (ap (λ (b : Bool). cond b 0 (f i)) missing)) in
    let none = none-left f list list (λ i there. there) in
    omega (arith, sums, none, counted-unstable netlist input state)
  where
    none-left : (f : ℕ → ℕ) (whole list : List ℕ) → ((i : ℕ) → is_listed list i ≡ true → is_listed whole i ≡ true) → sum_by (λ i. cond (is_listed whole i) 0 (f i)) list ≡ 0
    none-left f whole list each = list-same (λ i. cond (is_listed whole i) 0 (f i)) nothing list (λ i there. ap (λ (b : Bool). cond b 0 (f i)) (each i there)) ∙ zeros list

-- A variable changes: only what is around it becomes stable or unstable.
pub unstable-flip : (netlist : Netlist) (input state : List Bool) (var : ℕ) → IsCircuit netlist → var < length (network_of netlist) → unstable_count (network_of netlist) input (set state var (not (bit_at state var))) + count_by (is_unstable (network_of netlist) input state) (with_readers netlist var) ≡ unstable_count (network_of netlist) input state + count_by (is_unstable (network_of netlist) input (set state var (not (bit_at state var)))) (with_readers netlist var)
unstable-flip netlist input state var circuit inside =
    let net = network_of netlist in
    let state' = set state var (not (bit_at state var)) in
    let sums = range-listed (λ i. weight (is_unstable net input state i)) (λ i. weight (is_unstable net input state' i)) (length net) (with_readers netlist var) (around-once netlist circuit var inside) (around-inside netlist circuit var inside) (λ i below apart.
    let alone : is_listed (with_readers netlist var ++ []) i ≡ false = ap (λ (list : List ℕ). is_listed list i) (append-nil (with_readers netlist var)) ∙ apart in
    ap weight (sym (is_unstable-state_after netlist input state (var ∷ []) i circuit alone) ∙ ap (λ (s : List Bool). is_unstable net input s i) (state_after-one var state))) in
    omega (arith, sums, counted-unstable netlist input state, counted-unstable netlist input state')

-- The same by what the variables around the changed one are, from the values after the change.
pub mended : (netlist : Netlist) (input state input' state' : List Bool) (var : ℕ) (list : List ℕ) → IsCircuit netlist → var < length (network_of netlist) → with_readers netlist var ≡ list → input' ≡ input → state' ≡ set state var (not (bit_at state var)) → unstable_count (network_of netlist) input' state' + count_by (is_unstable (network_of netlist) input state) list ≡ unstable_count (network_of netlist) input state + count_by (is_unstable (network_of netlist) input' state') list
mended netlist input state input' state' var list circuit inside around input_is state_is =
    let net = network_of netlist in
    let next = set state var (not (bit_at state var)) in
    subst (λ (after : List Bool). unstable_count net after state' + count_by (is_unstable net input state) list ≡ unstable_count net input state + count_by (is_unstable net after state') list) (sym input_is)
    (subst (λ (after : List Bool). unstable_count net input after + count_by (is_unstable net input state) list ≡ unstable_count net input state + count_by (is_unstable net input after) list) (sym state_is)
    (subst (λ (vars : List ℕ). unstable_count net input next + count_by (is_unstable net input state) vars ≡ unstable_count net input state + count_by (is_unstable net input next) vars) around
    (unstable-flip netlist input state var circuit inside)))

-- how many of the variables around one are unstable is no more than how many are unstable in all
pub some-around : (netlist : Netlist) (input state : List Bool) (var : ℕ) (list : List ℕ) → IsCircuit netlist → var < length (network_of netlist) → with_readers netlist var ≡ list → count_by (is_unstable (network_of netlist) input state) list ≤ unstable_count (network_of netlist) input state
some-around netlist input state var list circuit inside around =
    subst (λ (vars : List ℕ). count_by (is_unstable (network_of netlist) input state) vars ≤ unstable_count (network_of netlist) input state) around
    (listed-bound netlist input state (with_readers netlist var) (around-once netlist circuit var inside) (around-inside netlist circuit var inside))

-- two variables that are unstable
pub two-unstable : (netlist : Netlist) (input state : List Bool) (none one other : ℕ) → IsOtherUnstable netlist input state none one → IsOtherUnstable netlist input state one other → 2 ≤ unstable_count (network_of netlist) input state
two-unstable netlist input state none one other first second =
    let unstable : ℕ → Bool = is_unstable (network_of netlist) input state in
    let apart : is_listed (other ∷ []) one ≡ false = listed-other one other [] (λ same. second.other (sym same)) in
    let inside : All (λ i. i < length (network_of netlist)) (one ∷ other ∷ []) = All-each (λ i. i < length (network_of netlist)) (one ∷ other ∷ []) (λ i there. elim (first-or-later i one (other ∷ []) there) [
      | inl same ↦ omega (arith, same, first.inside)
      | inr later ↦ omega (arith, listed-one i other later, second.inside)
    ]) in
    let bound = listed-bound netlist input state (one ∷ other ∷ []) (apart, (refl, tt)) inside in
    let left : weight (unstable one) ≡ 1 = ap weight first.unstable in
    let right : weight (unstable other) ≡ 1 = ap weight second.unstable in
    let last : count_by unstable [] ≡ 0 = refl in
    omega (arith, bound, left, right, last, sum_by-cons (λ (i : ℕ). weight (unstable i)) one (other ∷ []), sum_by-cons (λ (i : ℕ). weight (unstable i)) other [])

-- the bits and counts as they are read
bit-weight : (b : Bool) → cond (not b) 0 1 ≡ weight b
bit-weight true = refl
bit-weight false = refl

lag-weight : (a b : Bool) → cond (not (beq (not a) b)) 0 1 ≡ weight (not (beq a b))
lag-weight a b = ap (λ (c : Bool). cond c 0 1) (turned-left a b) ∙ bit-weight (not (beq a b))

pub changed-wire : (netlist : Netlist) (input state : List Bool) (ones lagging : List ℕ) (wire gate source one lag was_one was_lag : ℕ) (bit low : Bool) → IsCircuit netlist → AreCounts netlist input state ones lagging → IsWireInto (network_of netlist) gate wire → driver_at (network_of netlist) wire ≡ Source source → wire < length state → gate < length ones → source < length lagging → length lagging ≡ length netlist.names → bit ≡ bit_at state wire → low ≡ bit_at state source → was_one ≡ get_or ones gate 0 → was_lag ≡ get_or lagging source 0 → one + cond (not bit) 0 1 ≡ was_one + cond (not bit) 1 0 → lag + cond (not (beq (not bit) low)) 0 1 ≡ was_lag + cond (not (beq (not bit) low)) 1 0 → AreCounts netlist input (set state wire (not bit)) (set ones gate one) (set lagging source lag)
changed-wire netlist input state ones lagging wire gate source one lag was_one was_lag bit low circuit counts into from within gate_in source_in lagging_long bit_is low_is one_is lag_is ones_sum lag_sum =
    let above = wires-above netlist circuit input state ones lagging gate into.kind into.first into.pins into.driven in
    let lowest : into.first ≤ wire = into.above in
    let bits : (b l : Bool) → bit ≡ b → low ≡ l → (one + weight b ≡ get_or ones gate 0 + weight (not b)) × (lag + weight (not (beq b l)) ≡ get_or lagging source 0 + weight (not (beq (not b) l))) =
    λ b l same_bit same_low.
    let first : cond (not bit) 0 1 ≡ weight b = bit-weight bit ∙ ap weight same_bit in
    let second : cond (not bit) 1 0 ≡ weight (not b) = ap (λ (c : Bool). weight (not c)) same_bit in
    let third : cond (not (beq (not bit) low)) 0 1 ≡ weight (not (beq b l)) = lag-weight bit low ∙ (ap (λ (c : Bool). weight (not (beq c low))) same_bit ∙ ap (λ (c : Bool). weight (not (beq b c))) same_low) in
    let fourth : cond (not (beq (not bit) low)) 1 0 ≡ weight (not (beq (not b) l)) = ap (λ (c : Bool). weight (not (beq (not c) low))) same_bit ∙ ap (λ (c : Bool). weight (not (beq (not b) c))) same_low in
    (omega (arith, ones_sum, first, second, one_is), omega (arith, lag_sum, third, fourth, lag_is)) in
    let sums = bits (bit_at state wire) (bit_at state source) bit_is low_is in
    subst (λ (b : Bool). AreCounts netlist input (set state wire (not b)) (set ones gate one) (set lagging source lag)) (sym bit_is)
    (AreCounts-wire netlist circuit input state ones lagging wire gate source one lag counts into from within (omega (arith, above, lowest)) gate_in source_in lagging_long sums.0 sums.1)

-- there are no more nodes than variables
pub nodes-among : (netlist : Netlist) → IsCircuit netlist → length netlist.names ≤ length (network_of netlist)
nodes-among netlist circuit = omega (arith, length-network_of netlist circuit)

pub inputs-among : (netlist : Netlist) → IsCircuit netlist → netlist.inputs ≤ length (network_of netlist)
inputs-among netlist circuit = omega (arith, length-network_of netlist circuit, circuit.nodes)

pub network-bound : (netlist : Netlist) → IsCircuit netlist → length (network_of netlist) ≤ most_variables
network-bound netlist circuit = omega (arith, length-network_of netlist circuit, circuit.variables)

-- the fan-out of a node is short
pub fan-bound : (netlist : Netlist) (node : ℕ) → IsCircuit netlist → length (fan_out_of netlist node) ≤ most_variables
fan-bound netlist node circuit = omega (arith, fan-length netlist node, length-wires_of netlist, circuit.variables)

-- a count of ones and one of unstable wires are small
pub ones-bound : (netlist : Netlist) (input state : List Bool) (ones lagging : List ℕ) (gate wire : ℕ) → IsCircuit netlist → AreCounts netlist input state ones lagging → IsWireInto (network_of netlist) gate wire → get_or ones gate 0 ≤ most_variables
ones-bound netlist input state ones lagging gate wire circuit counts into =
    let is = is_gate_of netlist circuit gate into.kind into.first into.pins into.driven in
    let few = count_by-le-length (bit_at state) (range_with_len into.first into.pins) in
    omega (arith, counts.ones gate into.kind into.first into.pins into.driven, few, length-range_with_len into.first into.pins, is.pins_are, first_wire-bound netlist gate circuit is.is_gate, circuit.variables)

pub lag-bound : (netlist : Netlist) (input state : List Bool) (ones lagging : List ℕ) (node : ℕ) → IsCircuit netlist → AreCounts netlist input state ones lagging → node < length netlist.names → get_or lagging node 0 ≤ most_variables
lag-bound netlist input state ones lagging node circuit counts inside =
    omega (arith, counts.wires node inside, count_by-le-length (is_unstable (network_of netlist) input state) (fan_out_of netlist node), fan-bound netlist node circuit)

-- a wire that is 1 is counted, and so is one that is unstable
pub ones-some : (netlist : Netlist) (input state : List Bool) (ones lagging : List ℕ) (gate wire : ℕ) → AreCounts netlist input state ones lagging → IsWireInto (network_of netlist) gate wire → bit_at state wire ≡ true → 1 ≤ get_or ones gate 0
ones-some netlist input state ones lagging gate wire counts into one =
    let lowest : into.first ≤ wire = into.above in
    let highest : wire < into.first + into.pins = into.below in
    let term = range-term (λ i. weight (bit_at state i)) into.first into.pins wire lowest highest in
    let counted : weight (bit_at state wire) ≡ 1 = ap weight one in
    omega (arith, term, counted, counts.ones gate into.kind into.first into.pins into.driven)

pub lag-some : (netlist : Netlist) (input state : List Bool) (ones lagging : List ℕ) (wire source : ℕ) → IsCircuit netlist → AreCounts netlist input state ones lagging → driver_at (network_of netlist) wire ≡ Source source → source < length netlist.names → not (beq (not (bit_at state wire)) (bit_at state source)) ≡ false → 1 ≤ get_or lagging source 0
lag-some netlist input state ones lagging wire source circuit counts from inside same =
    let term = list-term (λ i. weight (is_unstable (network_of netlist) input state i)) (fan_out_of netlist source) wire (driver-fan netlist source wire circuit from) in
    let unstable : is_unstable (network_of netlist) input state wire ≡ true =
    wire-unstable netlist input state wire source from ∙ twice-not (not (beq (bit_at state wire) (bit_at state source))) false (sym (turned-left (bit_at state wire) (bit_at state source)) ∙ same) in
    let counted : weight (is_unstable (network_of netlist) input state wire) ≡ 1 = ap weight unstable in
    omega (arith, term, counted, counts.wires source inside)

-- An input changes: only the input itself becomes stable or unstable.
pub unstable-input : (netlist : Netlist) (input state : List Bool) (number : ℕ) (value : Bool) → IsCircuit netlist → number < length (network_of netlist) → unstable_count (network_of netlist) (set input number value) state + weight (is_unstable (network_of netlist) input state number) ≡ unstable_count (network_of netlist) input state + weight (is_unstable (network_of netlist) (set input number value) state number)
unstable-input netlist input state number value circuit inside =
    let net = network_of netlist in
    let input' = set input number value in
    let sums = range-one (λ i. weight (is_unstable net input state i)) (λ i. weight (is_unstable net input' state i)) 0 (length net) number (omega arith) (omega (arith, inside)) (λ i from below apart.
    ap weight (sym (is_unstable-input netlist input state number i value circuit (omega (arith, below, length-network_of netlist circuit)) apart))) in
    omega (arith, sums, counted-unstable netlist input state, counted-unstable netlist input' state)

pub one-bound : (netlist : Netlist) (input state : List Bool) (var : ℕ) → var < length (network_of netlist) → weight (is_unstable (network_of netlist) input state var) ≤ unstable_count (network_of netlist) input state
one-bound netlist input state var inside =
    omega (arith, range-term (λ i. weight (is_unstable (network_of netlist) input state i)) 0 (length (network_of netlist)) var (omega arith) (omega (arith, inside)), counted-unstable netlist input state)

-- where all is 0, so are the counts of nodes
pub AreCounts-none : (netlist : Netlist) (input : List Bool) (nodes variables : ℕ) → IsCircuit netlist → AreCounts netlist input (replicate variables false) (replicate nodes 0) (replicate nodes 0)
AreCounts-none netlist input nodes variables circuit =
    let state = replicate variables false in
    record {
      ones = λ gate kind first pins driver. none-at nodes gate ∙ sym (list-same (λ i. weight (bit_at state i)) nothing (range_with_len first pins) (λ i there. ap weight (unmarked variables i)) ∙ zeros (range_with_len first pins));
      wires = λ node few. none-at nodes node ∙ sym (list-same (λ i. weight (is_unstable (network_of netlist) input state i)) nothing (fan_out_of netlist node) (λ wire there.
          ap weight (wire-unstable netlist input state wire node (fan-driver netlist node wire circuit there) ∙
          (ap (λ (b : Bool). not (beq b (bit_at state node))) (unmarked variables wire) ∙ ap (λ (b : Bool). not (beq false b)) (unmarked variables node)))) ∙ zeros (fan_out_of netlist node));
    }
  where
    none-at : (count i : ℕ) → get_or (replicate count zero) i zero ≡ zero
    none-at zero i = refl
    none-at (suc count) zero = refl
    none-at (suc count) (suc i) = none-at count i
