-- A sequence of changes: where the next change starts, or which variable stops it.
use Rattle.std.specs.Prelude.{◌≡◌, ℕ, ◌⊎◌, Bool, Option, Some, None, List, map, take, fold, slice_set}
use Rattle.hz_core.specs.declared.tri.Tri.{Tri}
use Rattle.hz_core.specs.Ternary.{tri_of}
use Rattle.hz_core.specs.Netlist.{Netlist}
use Rattle.hz_net.specs.Network.{network_of, value_at}
use Rattle.hz_net.specs.Passes.{IsUnknown}
use Rattle.hz_lists.specs.Least.{IsLeast}
use Rattle.hz_desk.specs.Desk.{DeskOf}
use Rattle.hz_desk.specs.Finding.{FindingOf, values_b}
use Rattle.hz_desk.specs.RightFinding.{IsRightFinding}

-- A desk, the start of the next change, and the variable that stops every later change, if there is one.
pub record SequenceState : Type 0 where
  pub desk : DeskOf
  pub start : List Bool
  pub stopped : Option ℕ

-- the new input: the present input with the assignments of a change, made one after the other
abbrev pub changed_input : List Bool → List (ℕ × Bool) → List Bool
changed_input input change =
    fold (λ bits assignment. slice_set bits assignment.0 assignment.1) input change

-- A finding is right for a change from a start. The present input is that of the start.
abbrev pub IsFindingOfChange : Netlist → ℕ → List Bool → List (ℕ × Bool) → FindingOf → Type 0
IsFindingOfChange netlist cap start change finding =
    IsRightFinding (network_of netlist) (changed_input (take netlist.inputs start) change) start cap
    finding

-- the first variable that is X
abbrev pub IsFirstUnknown : List Tri → ℕ → Type 0
IsFirstUnknown values var = IsLeast (λ i. IsUnknown (value_at values i)) var

-- The state in which a change with this B settles: B itself, if it has no X.
abbrev pub IsSettledAt : List Tri → List Bool → Type 0
IsSettledAt values state = values ≡ map tri_of state

-- What a finding leaves of a sequence, whose desk then holds it: if its B has no X, the next change starts at B. Otherwise the
-- first variable that is X in B stops every later change.
abbrev pub IsLeftBy : FindingOf → SequenceState → SequenceState → Type 0
IsLeftBy finding was now =
    (now.desk.netlist ≡ was.desk.netlist) × (now.desk.finding ≡ finding)
    × (((now.stopped ≡ None) × IsSettledAt (values_b finding.rows) now.start)
    ⊎ ((var : ℕ) × (now.stopped ≡ Some var) × IsFirstUnknown (values_b finding.rows) var))
