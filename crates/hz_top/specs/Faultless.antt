-- A job in which nothing is to be refused but, in a replay, a step or a cycle.
use Rattle.std.specs.Prelude.{◌≡◌, ℕ, List, Some}
use Rattle.hz_outside.specs.Counts.{Rose}
use Rattle.hz_outside.specs.declared.fault.Place.{Place}
use Rattle.hz_core.specs.Netlist.{Netlist}
use Rattle.hz_refusal.specs.declared.status.Status.{Status}
use Rattle.hz_refusal.specs.declared.status.Status.TheVariants.{Done}
use Rattle.hz_words.specs.declared.job.Task.{Task}
use Rattle.hz_words.specs.Job.{JobOf, OnFiles, Demo}
use Rattle.hz_formats.specs.Netlists.{IsNetlistText}
use Rattle.hz_top.specs.Outcome.{Observation}
use Rattle.hz_top.specs.Tasks.{good_of}

-- Of the texts of two files nothing is to be refused in a task, and it ends with this status: the files are told, no load of them
-- fails, the first text is that of a circuit, and of the second nothing is to be refused on it. How long they are is left open.
pub record AreGoodFiles (told : Observation) (task : Task) (first second : List ℕ)
    (own : Status) : Type 0 where
  pub bytes_of : List ℕ → List ℕ
  pub is_told : told.held ≡ Some bytes_of
  pub none_failed : (place : Place) → ¬ Rose (told.faults place) (told.faults_after place)
  pub netlist : Netlist
  pub is_netlist : IsNetlistText first (bytes_of first) netlist
  pub text : good_of task netlist (bytes_of second) own

-- and no file is too long
pub record AreFaultlessFiles (told : Observation) (task : Task) (first second : List ℕ)
    (own : Status) : Type 0 where
  pub good : AreGoodFiles told task first second own
  pub none_long : (place : Place) → ¬ Rose (told.longs place) (told.longs_after place)

-- nothing is to be refused in the job, and it ends with this status
abbrev pub IsFaultlessJob : Observation → JobOf → Status → Type 0
IsFaultlessJob told (OnFiles task options first second) own =
    AreFaultlessFiles told task first second own
IsFaultlessJob told (Demo number options) own = own ≡ Done
