-- The values of the outputs that are kept for all lanes.
use Rattle.std.specs.Prelude.{◌≡◌, Option, List, length}
use Rattle.hz_core.specs.Netlist.{Netlist}
use Rattle.hz_plane.specs.declared.stage.Stage.{Stage}
use Rattle.hz_plane.specs.declared.stage.Stage.TheVariants.{Settled as AllSettled}
use Rattle.hz_plane.specs.Loads.{Loaded}
use Rattle.hz_batch.specs.declared.columns.Columns.{Columns}
use Rattle.hz_batch.specs.Columns.{AreColumns}
use Rattle.hz_batch.specs.Keys.{HaveKeys, IsTable}

-- there are two columns for each output, room for its keys, and the values that each key says
pub record AreColumnsFor (netlist : Netlist) (columns : Columns) : Type 0 where
  pub firsts : length columns.firsts.items ≡ length netlist.outputs
  pub seconds : length columns.seconds.items ≡ length netlist.outputs
  pub keys : length columns.keys.items ≡ length netlist.outputs
  pub table : IsTable columns.table.items

-- the values of the outputs at a stage, and once the planes are settled, with their keys
pub record HoldBoth (netlist : Netlist) (stage : Stage) (lanes : List (Option Loaded))
    (columns : Columns) : Type 0 where
  pub fit : AreColumnsFor netlist columns
  pub firsts : AreColumns netlist stage lanes netlist.outputs columns.firsts.items
  pub seconds : AreColumns netlist AllSettled lanes netlist.outputs columns.seconds.items
  pub keys : HaveKeys columns.firsts.items columns.seconds.items columns.keys.items
