-- The jobs that are built, and the one that the words ask for.
use Rattle.std.specs.Prelude.{ℕ, List, [], ◌∷◌, Option, Some, None, codes, find, option_map, option_and_then, if◌then◌else◌}
use Rattle.std.specs.Str.{bytes_eq}
use Rattle.hz_options.specs.Numbers.{IsDemoNumber, IsCap}
use Rattle.hz_options.specs.declared.options.Options.{Options}
use Rattle.hz_options.specs.declared.show.Show.{Show}
use Rattle.hz_words.specs.Command.{Texts, arguments_of}
use Rattle.hz_words.specs.Values.{cap_of, show_of, demo_of}
use Rattle.hz_words.specs.declared.job.Task.{Task}
use Rattle.hz_words.specs.declared.job.Task.TheVariants.{Analyse, Edges, Explore, Split, Replay, Convert, Vcd, Batch, Reset}
use Rattle.hz_words.specs.declared.job.Job.{Job}
use Rattle.hz_words.specs.declared.job.Job.TheVariants as asked

-- a task on two files, by their names; or the analysis of the circuit of a number; each with the options beside it
pub data JobOf : Type 0 where
  OnFiles : (task : Task) (options : Options) (first second : List ℕ) → JobOf
  Demo : (number : ℕ) (options : Options) → JobOf

-- a job that borrows the words, by its names
abbrev pub job_model : Job → JobOf
job_model (asked.OnFiles task options first second) = OnFiles task options first.now second.now
job_model (asked.Demo number options) = Demo number options

-- the numbers of a job are in their ranges
abbrev pub HasNumbersInRange : Job → Type 0
HasNumbersInRange (asked.OnFiles task options first second) = IsCap options.cap
HasNumbersInRange (asked.Demo number options) = IsDemoNumber number × IsCap options.cap

-- the tasks on two files, each behind its word
abbrev pub tasks : List (List ℕ × Task)
tasks =
    (codes "analyse", Analyse) ∷ (codes "edges", Edges) ∷ (codes "explore", Explore)
    ∷ (codes "split", Split) ∷ (codes "replay", Replay) ∷ (codes "convert", Convert)
    ∷ (codes "vcd", Vcd) ∷ (codes "batch", Batch) ∷ (codes "reset", Reset) ∷ []

-- the job of a word on two files; the second may not be left out
abbrev pub job_on_files : List ℕ → List ℕ → Option (List ℕ) → Options → Option JobOf
job_on_files word first None options = None
job_on_files word first (Some second) options =
    option_map (λ row. OnFiles row.1 options first second) (find (λ row. bytes_eq word row.0) tasks)

-- the job on the circuit of a number, with no second file
abbrev pub job_on_number : List ℕ → Option (List ℕ) → Options → Option JobOf
job_on_number text None options = option_map (λ number. Demo number options) (demo_of text)
job_on_number text (Some second) options = None

-- the job of a word, with what the other arguments say
abbrev pub job_named : List ℕ → List ℕ → Option (List ℕ) → Options → Option JobOf
job_named word first second options =
    if bytes_eq word (codes "demo") then job_on_number first second options
    else job_on_files word first second options

-- the options that the arguments give, if each stands for something
abbrev pub options_of : Texts → Option Options
options_of texts =
    option_and_then
    (λ cap. option_map (λ (show : Show). record { cap = cap; show = show })
    (option_and_then show_of texts.show))
    (option_and_then cap_of texts.cap)

-- the job of the word and the files that the arguments have
abbrev pub job_on : Texts → Options → Option JobOf
job_on texts options =
    option_and_then
    (λ word. option_and_then (λ first. job_named word first texts.second options) texts.first)
    texts.job

-- the job that the arguments ask for
abbrev pub job_with : Texts → Option JobOf
job_with texts = option_and_then (job_on texts) (options_of texts)

-- the job that the words ask for; none if `clap` refuses them or their arguments ask for none
unfoldable pub job_of : List (List ℕ) → Option JobOf
job_of words = option_and_then job_with (arguments_of words)
