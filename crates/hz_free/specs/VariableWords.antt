-- The words of the feedback-free variables of a network, from a start under a new input, and the history of a variable.
use Rattle.std.specs.Prelude.{◌≡◌, ℕ, ◌+◌, ◌<◌, Bool, Option, Some, None, List, [], ◌∷◌, length, map, slice_range, slice_get, if◌then◌else◌}
use Rattle.std.specs.Bool.{beq}
use Rattle.std.specs.List.{slice_index_or}
use Rattle.hz_core.specs.Netlist.{Netlist, IsCircuit, IsWhole}
use Rattle.hz_net.specs.Network.{Driver, network_of, External, Function, Source, driver_at, bit_at}
use Rattle.hz_gmw.specs.Cycles.{states_of}
use Rattle.hz_word.specs.declared.word.Word.{Word}
use Rattle.hz_word.specs.Walk.{IsWordOf}
use Rattle.hz_word.specs.Capped.{capped_word}
use Rattle.hz_word.specs.Covers.{history_of}
use Rattle.hz_free.specs.Chains.{IsFeedbackFree}

-- the word of an input: its value at the start, and one change if the new input differs
abbrev pub input_word : Bool → Bool → List Bool
input_word old new = if beq old new then old ∷ [] else old ∷ new ∷ []

-- the word of a variable by what drives it: of an input as above, of a wire its source's, of a gate the word of its kind over
-- the words of its wires
abbrev pub IsDrivenWord : List Bool → List Bool → List (List Bool) → ℕ → Driver → List Bool → Type 0
IsDrivenWord input start words i (External place) word =
    word ≡ input_word (bit_at start i) (bit_at input place)
IsDrivenWord input start words i (Function kind first pins) word =
    IsWordOf kind (slice_range words first (first + pins)) word
IsDrivenWord input start words i (Source node) word = word ≡ slice_index_or words node []

-- a word for each variable, of which those of the feedback-free ones are meant
pub record AreVariableWords (net : List Driver) (input start : List Bool)
    (words : List (List Bool)) : Type 0 where
  pub long : length words ≡ length net
  pub each : (i : ℕ) → i < length net → IsFeedbackFree net i →
      IsDrivenWord input start words i (driver_at net i) (slice_index_or words i [])

-- The capped forms of the words of the feedback-free variables, and None for the others.
pub record AreCappedWords (net : List Driver) (input start : List Bool) (cap : ℕ)
    (told : List (Option Word)) : Type 0 where
  pub words : List (List Bool)
  pub are_words : AreVariableWords net input start words
  pub long : length told ≡ length net
  pub free : (i : ℕ) → i < length net → IsFeedbackFree net i →
      slice_get told i ≡ Some (Some (capped_word cap (slice_index_or words i [])))
  pub others : (i : ℕ) → i < length net → (IsFeedbackFree net i → ⊥) → slice_get told i ≡ Some None

-- the history of a variable along a run
abbrev pub variable_history : List Bool → List (List ℕ) → ℕ → List Bool
variable_history start steps i = history_of (map (λ state. bit_at state i) (states_of start steps))

-- from every start of a circuit, under every new input and every cap, the feedback-free variables have capped words
abbrev pub WordsExist : Type 0
WordsExist =
    (netlist : Netlist) (input start : List Bool) (cap : ℕ) → IsCircuit netlist → IsWhole netlist →
    (words : List (Option Word)) × AreCappedWords (network_of netlist) input start cap words
