-- The command as `clap` sees it, and the arguments that `clap` reads from the words.
use Rattle.std.specs.Prelude.{◌≡◌, true, List, [], ◌∷◌, Option, Some, None, Result, Ok, Err, codes, option_map, if◌then◌else◌}
use Rattle.clap.specs.Words.{App, Row, Rule, Text, new_app, new_rule, with_rule, matches_of, fault_of}
use Rattle.clap.specs.Walk.{first_of, is_empty}
use Rattle.clap.specs.Simple.{on_top}
use Rattle.hz_words.specs.declared.command.Arguments.{Arguments}
use Rattle.hz_words.specs.declared.fault.WordsFault.{WordsFault}
use Rattle.hz_words.specs.declared.fault.WordsFault.TheVariants.{Refused, Memory}

-- an argument that stands at its place, and must be there
abbrev pub required_argument : Text → Rule
required_argument name = record (new_rule name) { required = true }

-- an option `--name VALUE`, with its value if it is left out
abbrev pub option_rule : Text → Text → Rule
option_rule name value = record (new_rule name) { long = Some name; defaults = value ∷ [] }

-- a command of words after the program's name
abbrev pub empty_command : App
empty_command = on_top (λ top. record top { no_binary_name = true }) (new_app (codes "hazard"))

-- the command: a job, a first name, a second name that may be left out, and two options
abbrev pub hazard_app : App
hazard_app =
    with_rule (with_rule (with_rule (with_rule (with_rule empty_command
    (required_argument (codes "job")))
    (required_argument (codes "first")))
    (new_rule (codes "second")))
    (option_rule (codes "cap") (codes "1000")))
    (option_rule (codes "show") (codes "nodes"))

-- the texts of the arguments
pub record Texts : Type 0 where
  pub job : Option Text
  pub first : Option Text
  pub second : Option Text
  pub cap : Option Text
  pub show : Option Text

-- arguments that borrow the words, by their texts
abbrev pub texts_of : Arguments → Texts
texts_of arguments = record {
  job = option_map (λ text. text.now) arguments.job;
  first = option_map (λ text. text.now) arguments.first;
  second = option_map (λ text. text.now) arguments.second;
  cap = option_map (λ text. text.now) arguments.cap;
  show = option_map (λ text. text.now) arguments.show;
}

-- the arguments that stand in the rows of a parse
abbrev pub arguments_in : List Row → Texts
arguments_in rows = record {
  job = first_of (codes "job") rows;
  first = first_of (codes "first") rows;
  second = first_of (codes "second") rows;
  cap = first_of (codes "cap") rows;
  show = first_of (codes "show") rows;
}

-- the arguments that `clap` reads from the words; none if it refuses the words for another cause than memory
unfoldable pub arguments_of : List Text → Option Texts
arguments_of words =
    if is_empty (fault_of hazard_app words) then Some (arguments_in (matches_of hazard_app words))
    else None

-- the arguments that `clap` reads from the words, or a refusal of words that it refuses, or memory ran out
abbrev pub Parses : List Text → Result Arguments WordsFault → Type 0
Parses words (Ok arguments) = arguments_of words ≡ Some (texts_of arguments)
Parses words (Err Refused) = arguments_of words ≡ None
Parses words (Err Memory) = Unit {0}
