-- What a list of changes comes to.
use Rattle.std.specs.Prelude.{◌≡◌, ℕ, ◌⊎◌, Bool, Some, None, List, [], ◌∷◌, map}
use Rattle.hz_core.specs.Netlist.{Netlist}
use Rattle.hz_desk.specs.Finding.{FindingOf, values_b}
use Rattle.hz_seq.specs.Sequence.{SequenceState, IsFindingOfChange, IsFirstUnknown, IsLeftBy, IsSettledAt}

-- a change was made, and this was found; or it was stopped by a variable
pub data Analysis : Type 0 where
  Found : (finding : FindingOf) → Analysis
  Stopped : (var : ℕ) → Analysis

-- changes that a variable stops, all of them
abbrev pub all_stopped : ℕ → List (List (ℕ × Bool)) → List Analysis
all_stopped var changes = map (λ change. Stopped var) changes

-- The analyses of changes from a start, one after the other. The first change starts there, and what is found of it is right.
-- The next one starts at its B, if that has no X. Otherwise the first variable that is X in it stops all later changes.
abbrev pub AreAnalyses : Netlist → ℕ → List Bool → List (List (ℕ × Bool)) → List Analysis → Type 0
AreAnalyses netlist cap start [] [] = Unit {0}
AreAnalyses netlist cap start [] (analysis ∷ analyses) = ⊥
AreAnalyses netlist cap start (change ∷ changes) [] = ⊥
AreAnalyses netlist cap start (change ∷ changes) (Stopped var ∷ analyses) = ⊥
AreAnalyses netlist cap start (change ∷ changes) (Found finding ∷ analyses) =
    IsFindingOfChange netlist cap start change finding
    × (((next : List Bool) × IsSettledAt (values_b finding.rows) next
    × AreAnalyses netlist cap next changes analyses)
    ⊎ ((var : ℕ) × IsFirstUnknown (values_b finding.rows) var
    × (analyses ≡ all_stopped var changes)))

-- A sequence goes on by a change: the change is made, or the variable that stops it leaves all as it is.
abbrev pub GoesOn : ℕ → List (ℕ × Bool) → Analysis → SequenceState → SequenceState → Type 0
GoesOn cap change (Found finding) was now =
    (was.stopped ≡ None) × IsFindingOfChange was.desk.netlist cap was.start change finding
    × IsLeftBy finding was now
GoesOn cap change (Stopped var) was now = (was.stopped ≡ Some var) × (now ≡ was)
