-- Schedules of the gates of a network.
use Rattle.std.specs.Prelude.{◌≡◌, ◌<◌, ◌^◌, true, length}
use Rattle.hz_core.specs.Netlist.{Netlist, IsCircuit, IsWhole}
use Rattle.hz_plane.specs.declared.schedule.Schedule.{Schedule}
use Rattle.hz_plane.specs.Sweeps.{IsOrder, IsBack}
use Rattle.hz_plane.specs.Forward.{IsForward, kinds_at, pins_at}

pub record IsSchedule (netlist : Netlist) (schedule : Schedule) : Type 0 where
  pub circuit : IsCircuit netlist
  pub whole : IsWhole netlist
  pub order : IsOrder netlist schedule.order.items schedule.readers
  pub back : IsBack netlist schedule.order.items schedule.back
  pub few : length schedule.order.items < 2 ^ 32
  pub forward : schedule.is_forward ≡ true → IsForward schedule.order.items schedule.back
  pub kinds : schedule.kinds.items ≡ kinds_at netlist schedule.order.items
  pub pins : schedule.pins ≡ pins_at netlist schedule.order.items
