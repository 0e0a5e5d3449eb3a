-- A sequence that goes on by one change more.
use Rattle.std.proofs.Common.{ℕ, Bool, List, [], ◌∷◌, ◌++◌, sym, subst}
use Rattle.hz_changes.proofs.Words.{Netlist, IsCircuit, SequenceState, Analysis, Found, Stopped, AreFirstAnalyses}
use Rattle.hz_seq.specs.Analyses.{GoesOn}
use Rattle.hz_seq.proofs.FirstAnalyses.{one-found, one-stopped}
use Rattle.hz_changes.proofs.Writable.{IsStopInside, fits, left-inside}

module _ (netlist : Netlist) (cap : ℕ) (start : List Bool) (changes : List (List (ℕ × Bool))) (analyses : List Analysis) (was now : SequenceState) (circuit : IsCircuit netlist) (first : AreFirstAnalyses netlist cap start changes analyses was) (change : List (ℕ × Bool)) where
  -- its analysis comes behind those before it
  pub goes-on : (analysis : Analysis) → GoesOn cap change analysis was now → AreFirstAnalyses netlist cap start (changes ++ change ∷ []) (analyses ++ analysis ∷ []) now
  goes-on (Found finding) (going, found, left) = one-found netlist cap start changes analyses was first change finding now circuit going found left
  goes-on (Stopped var) (stopped, same) = one-stopped netlist cap start changes analyses was first change var now stopped same

  -- and the variable that stops further changes is there
  pub stop-inside : (analysis : Analysis) → IsStopInside netlist was.stopped → GoesOn cap change analysis was now → IsStopInside netlist now.stopped
  stop-inside (Found finding) inside (going, found, left) =
      left-inside netlist finding was now (fits netlist was.desk.netlist cap was.start change finding first.same circuit (first.stable going) found) left
  stop-inside (Stopped var) inside (stopped, same) = subst (λ (s : SequenceState). IsStopInside netlist s.stopped) (sym same) inside
