-- When a change may be split.
use Rattle.std.specs.Prelude.{◌≡◌, ℕ, true, map}
use Rattle.hz_core.specs.Netlist.{IsCircuit}
use Rattle.hz_net.specs.Network.{network_of, IsInput}
use Rattle.hz_net.specs.Starts.{IsStableStart}
use Rattle.hz_desk.specs.Finding.{finding_of}
use Rattle.hz_desk.specs.RightFinding.{IsRightFinding}
use Rattle.hz_changes.specs.declared.splitting.Unsettled.{Unsettled}
use Rattle.hz_changes.specs.Splits.{leaves_unsettled}

-- the finding is that of a change from a stable start, and the change leaves a variable unsettled
pub record CanBeSplit (change : Unsettled) : Type 0 where
  pub circuit : IsCircuit change.net.now
  pub start : IsStableStart change.net.now (map (λ row. row.start) change.finding.now.rows)
  pub input : IsInput change.net.now change.finding.now.input
  pub right : (cap : ℕ)
      × IsRightFinding (network_of change.net.now) change.finding.now.input
      (map (λ row. row.start) change.finding.now.rows) cap (finding_of change.finding.now)
  pub unsettled : leaves_unsettled (finding_of change.finding.now) ≡ true
