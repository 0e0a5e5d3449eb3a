-- What a report may write: a finding that fits its network, and a variable that is there.
use Rattle.std.proofs.Common.{◌≡◌, ◌∙◌, ℕ, ◌<◌, Bool, List, length, All, Option, IfSome, sym, ap, subst, arith, inl, inr}
use Rattle.hz_changes.proofs.Words.{Netlist, IsCircuit, network_of, IsStableStart, Row, FindingOf, values_b, SequenceState, IsFindingOfChange, IsLeftBy}
use Rattle.std.proofs.lemmas.Bool.{cases_lt}
use Rattle.std.proofs.lemmas.List.{length-map, get_or_past}
use Rattle.hz_core.specs.declared.tri.Tri.{Tri}
use Rattle.hz_core.specs.declared.tri.Tri.TheVariants.{Zero, Unknown}
use Rattle.hz_gmw.specs.Runs.{end_of}
use Rattle.hz_seq.specs.Sequence.{IsFirstUnknown}
use Rattle.hz_seq.proofs.FirstAnalyses.{input-long}
use Rattle.hz_replay.proofs.ReadBack.{run-inside}

-- inputs are nodes
pub below-names : (netlist : Netlist) (change : List (ℕ × Bool)) → IsCircuit netlist → All (λ pair. pair.0 < netlist.inputs) change → All (λ pair. pair.0 < length netlist.names) change
below-names netlist change circuit all = λ k d few. omega (arith, all k d few, circuit.nodes)

-- a finding fits a network: it has a row for each variable and a bit for each input, and its runs change variables that are there
pub record Fits (netlist : Netlist) (finding : FindingOf) : Type 0 where
  pub rows : length finding.rows ≡ length (network_of netlist)
  pub input : length finding.input ≡ netlist.inputs
  pub spread : All (All (λ (var : ℕ). var < length (network_of netlist))) finding.spread
  pub settle : All (All (λ (var : ℕ). var < length (network_of netlist))) finding.settle
  pub cycle : All (All (λ (var : ℕ). var < length (network_of netlist))) finding.cycle

-- a right one does
pub fits : (netlist was : Netlist) (cap : ℕ) (start : List Bool) (change : List (ℕ × Bool)) (finding : FindingOf) → was ≡ netlist → IsCircuit netlist → IsStableStart netlist start → IsFindingOfChange was cap start change finding → Fits netlist finding
fits netlist was cap start change finding same circuit stable found =
    let right : IsFindingOfChange netlist cap start change finding = subst (λ (n : Netlist). IsFindingOfChange n cap start change finding) same found in
    record {
      rows = sym (length-map finding.rows (λ (row : Row). row.start)) ∙ ap length right.starts ∙ stable.long;
      input = ap length right.input_is ∙ input-long netlist start change circuit stable;
      spread = run-inside (network_of netlist) _ start finding.spread right.spread.run;
      settle = run-inside (network_of netlist) _ start finding.settle right.settle.run;
      cycle = run-inside (network_of netlist) _ (end_of start finding.settle) finding.cycle right.cycle.nontransient.cycle.run;
    }

zero-known : Zero ≡ Unknown → ⊥
zero-known e = cc

-- the first variable that is X is there
pub first-inside : (values : List Tri) (var : ℕ) → IsFirstUnknown values var → var < length values
first-inside values var first =
    elim (cases_lt var (length values)) [
      | inl inside ↦ inside
      | inr beyond ↦ absurd (zero-known (sym (get_or_past values var Zero beyond) ∙ first.here))
    ]

-- the variable that stops further changes is there
abbrev pub IsStopInside : Netlist → Option ℕ → Type 0
IsStopInside netlist stopped = IfSome stopped (λ (var : ℕ). var < length (network_of netlist))

pub left-inside : (netlist : Netlist) (finding : FindingOf) (was now : SequenceState) → Fits netlist finding → IsLeftBy finding was now → IsStopInside netlist now.stopped
left-inside netlist finding was now fit left =
    elim left.2 [
      | inl settled ↦ subst (IsStopInside netlist) (sym settled.0) tt
      | inr unsettled ↦ (
          let few = first-inside (values_b finding.rows) unsettled.0 unsettled.2 in
          let long = length-map finding.rows (λ (row : Row). row.b) in
          subst (IsStopInside netlist) (sym unsettled.1) (omega (arith, few, long, fit.rows))
          )
    ]
