-- What a call of the program ensures, by its words, its files and its sink.
use Rattle.std.specs.Prelude.{◌≡◌, ℕ, ◌⊎◌, Option, Some}
use Rattle.hz_outside.specs.Counts.{Rose}
use Rattle.hz_outside.specs.WrittenText.{Output}
use Rattle.hz_refusal.specs.Answer.{Answers, CountTells}
use Rattle.hz_refusal.specs.Ends.{written_of}
use Rattle.hz_refusal.specs.declared.status.Status.{Status}
use Rattle.hz_refusal.specs.declared.status.Status.TheVariants as status
use Rattle.hz_words.specs.Job.{JobOf}
use Rattle.hz_top.specs.Faultless.{IsFaultlessJob}
use Rattle.hz_top.specs.Headline.{Headline}
use Rattle.hz_top.specs.LeftFiles.{LeavesFiles}
use Rattle.hz_top.specs.Outcome.{Observation, IsJobOutcome}

-- What a call ensures that ends with this status. The sink's `output` and `faults` come first, then what the files tell, the job that
-- the words ask for, and the sink as it was and as it is now:
-- the headline;
-- the text that was written is one that comes with the status, or a prefix of one if the output failed or memory ran out;
-- the sink's count rose if the output failed (unless it is at its last value), and else it is as it was;
-- the counts of files that were not asked for are as they were;
-- and a job in which nothing is to be refused ends with its own status, if the output is taken and memory suffices.
pub record RunsAs {S : Type 0} (output : S → Output) (faults : S → ℕ) (told : Observation)
    (asked : Option JobOf) (was now : S) (result : Status) : Type 0 where
  pub headline : Headline (written_of output) faults told asked was now result
  pub answer : Answers (written_of output) faults (IsJobOutcome told asked) was now result
  pub counted : CountTells (faults was) (faults now) result
  pub files : LeavesFiles told asked
  pub done : (job : JobOf) (own : Status) → asked ≡ Some job → IsFaultlessJob told job own →
      ¬ Rose (faults was) (faults now) → (result ≡ own) ⊎ (result ≡ status.Memory)
