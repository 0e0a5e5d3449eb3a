-- Lists of cuts by their data nodes.
use Rattle.std.specs.Prelude.{◌≡◌, ℕ, ◌<◌, Bool, Option, Some, None, List, [], length, All, Contains, slice_get}
use Rattle.std.specs.List.{slice_index_or}
use Rattle.hz_core.specs.Netlist.{Netlist, IsCutNumber, data_of}

-- the list of a node, empty if there is none
abbrev pub cuts_at : List (List ℕ) → ℕ → List ℕ
cuts_at lists node = slice_index_or lists node []

-- the node is the data node of the cut
pub record IsDataOf (netlist : Netlist) (node cut : ℕ) : Type 0 where
  pub is_cut : IsCutNumber netlist cut
  pub is_data : data_of netlist cut ≡ Some node

-- the cuts below a number stand in the lists of their data nodes, and nothing else does
pub record AreDataCutsBelow (netlist : Netlist) (lists : List (List ℕ)) (end : ℕ) : Type 0 where
  pub long : length lists ≡ length netlist.names
  pub sound : (node : ℕ) → All (IsDataOf netlist node) (cuts_at lists node)
  pub complete : (node cut : ℕ) → IsDataOf netlist node cut → cut < end →
      Contains (cuts_at lists node) cut

-- in the list of each node are cuts whose data node it is; each such cut is there, if it is not listed
pub record AreByData (netlist : Netlist) (listed : List (Option Bool))
    (lists : List (List ℕ)) : Type 0 where
  pub sound : (node : ℕ) → All (IsDataOf netlist node) (cuts_at lists node)
  pub complete : (node cut : ℕ) → IsDataOf netlist node cut → slice_get listed cut ≡ Some None →
      Contains (cuts_at lists node) cut
