-- How a room goes on from change to change. Words about the inside of hz_edge_reports.
use Rattle.std.specs.Prelude.{◌≡◌, ℕ, Bool, false, None, Some, List}
use Rattle.hz_edge_reports.specs.declared.finding.Making.{Making}
use Rattle.hz_edge_reports.specs.declared.room.ChangeRoom.{ChangeRoom}
use Rattle.hz_edge_reports.specs.EdgeChanges.{EdgeAnalysis, Found, Stopped, IsChangeFrom, IsRightChange}
use Rattle.hz_edge_reports.specs.Room.{Leads}

-- A room goes on by a change: it is made, and leads on unless something failed; or the variable that stops it leaves the room as it is.
abbrev pub GoesOn : Making → List (ℕ × Bool) → EdgeAnalysis → (failed : Bool) → ChangeRoom → ChangeRoom → Type 0
GoesOn making change (Found found) failed was now =
    (was.stopped ≡ None) × IsChangeFrom making.net.now was.start.items change found
    × IsRightChange making.net.now making.cap making.assumptions.now found
    × (failed ≡ false → Leads making.net.now found now)
GoesOn making change (Stopped var) failed was now = (was.stopped ≡ Some var) × (now ≡ was)
