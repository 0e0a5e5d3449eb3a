-- The assumptions of statements without a fault are assumptions on the network.
use Rattle.std.proofs.Common.{◌≡◌, ◌∙◌, ℕ, ◌<◌, ◌≤◌, Bool, true, false, not, ◌&&◌, cond, nat_eq, nat_le, List, [], ◌∷◌, Option, Some, None, length, map, refl, ap, sym, arith, slice_get}
use Rattle.hz_timing.proofs.Words.{All, nat_tests, length-map, All-nil, All-cons, Netlist, IsCircuit, Numbered, true-false, variable_named, Ordered, Ideal, Start, Change}
use Rattle.hz_timing.proofs.Words.{ResolvedTimed, resolve_timed, names_missing, is_unpaired, assumptions_in}
use Rattle.std.specs.List.{cons_option}
use Rattle.std.specs.Option.{IfSome, is_none}
use Rattle.std.proofs.lemmas.List.Elements.{All-head, All-tail}
use Rattle.std.proofs.lemmas.Option.{same_Some, slice_get_within, slice_get_past}
use Rattle.hz_core.specs.Netlist.{IsWhole}
use Rattle.hz_net.specs.Driven.{IsWireAt}
use Rattle.hz_net.specs.Entries.{entries_of, entry_kind}
use Rattle.hz_net.specs.Network.{network_of}
use Rattle.hz_net.specs.Variables.{variable_kinds}
use Rattle.hz_net.specs.declared.variable.VarKind.{VarKind}
use Rattle.hz_net.specs.declared.variable.VarKind.TheVariants.{Input, Gate as GateVariable, Wire as WireVariable}
use Rattle.hz_net.proofs.DrivenLemmas.{driven-as}
use Rattle.hz_net.proofs.Places.{length-network_of, length-entries_of, variable_kinds-entries}
use Rattle.hz_text.specs.Decimal.{is_decimal, number_by}
use Rattle.hz_text.proofs.PassLaws.{not-false}
use Rattle.hz_text.proofs.BuildLemmas.{or_parts}
use Rattle.hz_timing.specs.declared.script.Assumption.{Assumption}
use Rattle.hz_timing.specs.declared.script.Assumption.TheVariants as assumption
use Rattle.hz_timing.specs.TimedStatement.{TimedStatement}
use Rattle.hz_timing.specs.TimedResolution.{resolve_numbered_timed, order_number}
use Rattle.hz_timing.specs.TimedFault.{gate_by, gate_into, are_same}
use Rattle.hz_timing.specs.TimedText.{assumption_of, IsAssumptionOf}
use Rattle.hz_timing.specs.Limits.{most_nth}

-- there is one kind for each variable
pub length-kinds : (netlist : Netlist) → IsCircuit netlist → length (variable_kinds netlist) ≡ length (network_of netlist)
length-kinds netlist circuit =
    let same : length (map entry_kind (entries_of netlist)) ≡ length (variable_kinds netlist) = ap length (variable_kinds-entries netlist) in
    omega (arith, same, length-map (entries_of netlist) entry_kind, length-entries_of netlist circuit, length-network_of netlist circuit)

-- a variable past the last is no wire
pub gate-none : (netlist : Netlist) (variable : ℕ) → IsCircuit netlist → length (network_of netlist) ≤ variable → gate_into netlist (Some variable) ≡ None
gate-none netlist variable circuit past = ap gate_by (slice_get_past (variable_kinds netlist) variable (omega (arith, past, length-kinds netlist circuit)))

wire-gate : (kind : Option VarKind) (gate : ℕ) → gate_by kind ≡ Some gate → (pin : ℕ) × (source : ℕ) × (kind ≡ Some (WireVariable gate pin source))
wire-gate None gate e = cc
wire-gate (Some (Input number)) gate e = cc
wire-gate (Some (GateVariable kind)) gate e = cc
wire-gate (Some (WireVariable other pin source)) gate e = (pin, source, ap (λ n. Some (WireVariable n pin source)) (same_Some other gate e))

-- a wire into a gate is one of the network
pub record IsWireOf (netlist : Netlist) (wire gate : ℕ) : Type 0 where
  pub source : ℕ
  pub at : IsWireAt netlist wire gate source
  pub within : wire < length (network_of netlist)

pub wire-at : (netlist : Netlist) (wire gate : ℕ) → IsCircuit netlist → IsWhole netlist → gate_into netlist (Some wire) ≡ Some gate → IsWireOf netlist wire gate
wire-at netlist wire gate circuit whole e = step (wire-gate (slice_get (variable_kinds netlist) wire) gate e)
  where
    step : (pin : ℕ) × (source : ℕ) × (slice_get (variable_kinds netlist) wire ≡ Some (WireVariable gate pin source)) → IsWireOf netlist wire gate
    step (pin, source, seen) =
        let within : wire < length (network_of netlist) = omega (arith, slice_get_within (variable_kinds netlist) wire (WireVariable gate pin source) seen, length-kinds netlist circuit) in
        record { source = source; at = driven-as netlist wire (WireVariable gate pin source) circuit whole within seen; within = within }

-- an order of two wires of a gate
order-fits :
    (netlist : Netlist) (first second number : ℕ) → IsCircuit netlist → IsWhole netlist → is_unpaired netlist (Ordered (Some first) (Some second) (Some number)) ≡ false → 1 ≤ number → number ≤ most_nth →
    IsAssumptionOf netlist (assumption.Order (record { first = first; second = second; nth = number }))
order-fits netlist first second number circuit whole paired some few =
    let parts = or_parts (nat_eq first second) (not (are_same (gate_into netlist (Some first)) (gate_into netlist (Some second)))) paired in
    by_gates (gate_into netlist (Some first)) (gate_into netlist (Some second)) refl refl (not-false _ parts.1) parts.0
  where
    by_gates :
        (one other : Option ℕ) → gate_into netlist (Some first) ≡ one → gate_into netlist (Some second) ≡ other → are_same one other ≡ true → nat_eq first second ≡ false →
        IsAssumptionOf netlist (assumption.Order (record { first = first; second = second; nth = number }))
    by_gates None None a b same two = cc
    by_gates None (Some other) a b same two = cc
    by_gates (Some one) None a b same two = cc
    by_gates (Some one) (Some other) a b same two =
        let gates : other ≡ one = grind (arith, nat_tests, same) in
        let left = wire-at netlist first one circuit whole a in
        let right = wire-at netlist second one circuit whole (b ∙ ap Some gates) in (
          record {
            gate = one;
            first = left.at.into;
            second = right.at.into;
            two = λ e. (let on : nat_eq first second ≡ true = grind (arith, nat_tests, e) in true-false (sym on ∙ two));
            some = some;
          },
          few,
        )

-- the number of an order is from 1 to 1000
number-bounds : (word : Option (List ℕ)) → IfSome (order_number word) (λ n. (1 ≤ n) × (n ≤ most_nth))
number-bounds None = (omega arith, omega arith)
number-bounds (Some word) = by_test (is_decimal word) (nat_le 1 (number_by word)) (nat_le (number_by word) most_nth) refl refl
  where
    by_test : (d low high : Bool) → nat_le 1 (number_by word) ≡ low → nat_le (number_by word) most_nth ≡ high → IfSome (cond d (cond (low && high) (Some (number_by word)) None) None) (λ n. (1 ≤ n) × (n ≤ most_nth))
    by_test true true true a b = (grind (arith, nat_tests, a), grind (arith, nat_tests, b))
    by_test true true false a b = tt
    by_test true false high a b = tt
    by_test false low high a b = tt

-- the assumption of a statement without a fault
assumption-fits : (netlist : Netlist) (statement : TimedStatement) → IsCircuit netlist → IsWhole netlist → names_missing netlist (resolve_timed netlist statement) ≡ false → is_unpaired netlist (resolve_timed netlist statement) ≡ false → IfSome (assumption_of (resolve_timed netlist statement)) (IsAssumptionOf netlist)
assumption-fits netlist (Start assigned) circuit whole known paired = tt
assumption-fits netlist (Change assigned) circuit whole known paired = tt
assumption-fits netlist (Ideal wire) circuit whole known paired = by_wire (variable_named netlist wire) known
  where
    by_gate : (wire : ℕ) (gate : Option ℕ) → gate_into netlist (Some wire) ≡ gate → is_none gate ≡ false → IsAssumptionOf netlist (assumption.Ideal wire)
    by_gate wire None e k = cc
    by_gate wire (Some gate) e k = let is = wire-at netlist wire gate circuit whole e in (is.at.above, is.within)

    by_wire : (variable : Option ℕ) → is_none (gate_into netlist variable) ≡ false → IfSome (assumption_of (Ideal variable)) (IsAssumptionOf netlist)
    by_wire None k = tt
    by_wire (Some wire) k = by_gate wire (gate_into netlist (Some wire)) refl k
assumption-fits netlist (Ordered first second word) circuit whole known paired = by_parts (variable_named netlist first) (variable_named netlist second) (order_number word) paired (number-bounds word)
  where
    by_parts : (one other number : Option ℕ) → is_unpaired netlist (Ordered one other number) ≡ false → IfSome number (λ n. (1 ≤ n) × (n ≤ most_nth)) → IfSome (assumption_of (Ordered one other number)) (IsAssumptionOf netlist)
    by_parts (Some one) (Some other) (Some number) p b = order-fits netlist one other number circuit whole p b.0 b.1
    by_parts (Some one) (Some other) None p b = tt
    by_parts (Some one) None number p b = tt
    by_parts None other number p b = tt

-- the assumptions of all
pub assumptions-fit :
    (netlist : Netlist) (written : List (Numbered TimedStatement)) → IsCircuit netlist → IsWhole netlist → All (λ numbered. names_missing netlist numbered.statement ≡ false) (map (resolve_numbered_timed netlist) written) →
    All (λ numbered. is_unpaired netlist numbered.statement ≡ false) (map (resolve_numbered_timed netlist) written) → All (IsAssumptionOf netlist) (assumptions_in (map (resolve_numbered_timed netlist) written))
assumptions-fit netlist [] circuit whole known paired = All-nil (IsAssumptionOf netlist)
assumptions-fit netlist (first ∷ later) circuit whole known paired =
    let K : Numbered ResolvedTimed → Type 0 = λ numbered. names_missing netlist numbered.statement ≡ false in
    let P : Numbered ResolvedTimed → Type 0 = λ numbered. is_unpaired netlist numbered.statement ≡ false in
    let head = resolve_numbered_timed netlist first in
    let tail = map (resolve_numbered_timed netlist) later in
    step (assumption_of head.statement) (assumption-fits netlist first.statement circuit whole (All-head K head tail known) (All-head P head tail paired))
    (assumptions-fit netlist later circuit whole (All-tail K head tail known) (All-tail P head tail paired))
  where
    step : (one : Option Assumption) → IfSome one (IsAssumptionOf netlist) → All (IsAssumptionOf netlist) (assumptions_in (map (resolve_numbered_timed netlist) later)) → All (IsAssumptionOf netlist) (cons_option one (assumptions_in (map (resolve_numbered_timed netlist) later)))
    step None h rest = rest
    step (Some one) h rest = All-cons (IsAssumptionOf netlist) one (assumptions_in (map (resolve_numbered_timed netlist) later)) h rest
