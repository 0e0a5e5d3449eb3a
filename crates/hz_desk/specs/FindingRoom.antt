-- The room that a finding has. Words about the inside of hz_desk.
use Rattle.std.specs.Prelude.{◌≡◌, ℕ, ◌*◌, length}
use Rattle.hz_desk.specs.declared.finding.Finding.{Finding}
use Rattle.hz_desk.specs.Room.{HasRunRoom}

-- a row for each of so many variables, a bit for each of so many inputs, and room for the three runs
pub record HasRooms (variables inputs : ℕ) (finding : Finding) : Type 0 where
  pub variables_are : finding.variables ≡ variables
  pub rows : length finding.rows ≡ variables
  pub input : length finding.input ≡ inputs
  pub spread : HasRunRoom variables finding.spread
  pub settle : HasRunRoom (2 * variables) finding.settle
  pub cycle : HasRunRoom (4 * variables) finding.cycle
