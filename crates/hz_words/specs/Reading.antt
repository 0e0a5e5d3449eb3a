-- What a reading of the words may answer.
use Rattle.std.specs.Prelude.{◌≡◌, ℕ, List, Some, None, Result, Ok, Err}
use Rattle.hz_words.specs.Job.{job_of, job_model}
use Rattle.hz_words.specs.declared.job.Job.{Job}
use Rattle.hz_words.specs.declared.fault.WordsFault.{WordsFault}
use Rattle.hz_words.specs.declared.fault.WordsFault.TheVariants.{Refused, Memory}

-- the job of the words, or a refusal of words that ask for none, or memory ran out
abbrev pub IsJobOfWords : List (List ℕ) → Result Job WordsFault → Type 0
IsJobOfWords words (Ok job) = job_of words ≡ Some (job_model job)
IsJobOfWords words (Err Refused) = job_of words ≡ None
IsJobOfWords words (Err Memory) = Unit {0}
