-- A script of one change.
use Rattle.std.proofs.Common.{◌≡◌, ℕ, Bool, List, [], ◌∷◌, length, Some, None, sym, ap, subst, arith, slice_get}
use Rattle.hz_changes.proofs.Words.{Netlist, IsCircuit, IsStableStart, FindingOf, SequenceState, IsFindingOfChange, IsLeftBy, Found, AreAnalyses, AreFirstAnalyses, no-changes}
use Rattle.hz_changes.proofs.Words.{all-analyses}
use Rattle.hz_seq.proofs.FirstAnalyses.{one-found}

some-same : {X : Type 0} (x y : X) → Some x ≡ Some y → x ≡ y
some-same x y e = cc

-- its changes are that one
pub only-change : (changes : List (List (ℕ × Bool))) (change : List (ℕ × Bool)) → length changes ≡ 1 → slice_get changes 0 ≡ Some change → changes ≡ change ∷ []
only-change [] change one at = absurd (omega (arith, one))
only-change (first ∷ []) change one at = ap (λ (c : List (ℕ × Bool)). c ∷ []) (some-same first change at)
only-change (first ∷ second ∷ changes) change one at = absurd (omega (arith, one))

-- what is found of it is its analysis
pub one-change : (netlist : Netlist) (cap : ℕ) (was : SequenceState) (start : List Bool) (change : List (ℕ × Bool)) (finding : FindingOf) → was.desk.netlist ≡ netlist → was.start ≡ start → IsStableStart netlist start → IsCircuit netlist
    → was.stopped ≡ None → IsFindingOfChange was.desk.netlist cap was.start change finding → (now : SequenceState) → IsLeftBy finding was now → AreAnalyses netlist cap start (change ∷ []) (Found finding ∷ [])
one-change netlist cap was start change finding same begins stable circuit going found now left =
    let first : AreFirstAnalyses netlist cap was.start [] [] was = no-changes netlist cap was same going (subst (IsStableStart netlist) (sym begins) stable) in
    subst (λ (s : List Bool). AreAnalyses netlist cap s (change ∷ []) (Found finding ∷ [])) begins
    (all-analyses netlist cap was.start (change ∷ []) (Found finding ∷ []) now
    (one-found netlist cap was.start [] [] was first change finding now circuit going found left))
