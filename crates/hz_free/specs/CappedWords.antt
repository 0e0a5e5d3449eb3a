-- The words in the making: what a variable reads has one already, and how a variable is driven by what it is.
use Rattle.std.specs.Prelude.{◌≡◌, ℕ, ◌+◌, ◌<◌, ◌≤◌, Bool, Option, Some, None, List, [], ◌∷◌, length, map, IsTrue, slice_index_or, if◌then◌else◌}
use Rattle.hz_core.specs.declared.kind.Kind.{Kind}
use Rattle.hz_core.specs.declared.tri.Tri.{Tri}
use Rattle.hz_core.specs.Gate.{takes}
use Rattle.hz_core.specs.Netlist.{Netlist, IsCircuit, IsWhole, IsGateNumber, gate_at}
use Rattle.hz_net.specs.Network.{Driver, External, Function, Source, network_of, driver_at, IsVariable, IsInput, bit_at}
use Rattle.hz_net.specs.Starts.{IsStableStart}
use Rattle.hz_net.specs.Passes.{algorithm_a, IsResult}
use Rattle.hz_net.specs.Reads.{Reads}
use Rattle.hz_net.specs.Variables.{first_wire}
use Rattle.hz_net.specs.declared.variable.VarKind.{VarKind}
use Rattle.hz_net.specs.declared.variable.VarKind.TheVariants.{Input, Gate as GateVariable, Wire as WireVariable}
use Rattle.hz_word.specs.declared.word.Word.{Word}
use Rattle.hz_word.specs.Word.{IsWord, AreWords}
use Rattle.hz_word.specs.Walk.{IsWordOf}
use Rattle.hz_word.specs.Capped.{capped_word, greatest_cap, IsWithinCap}
use Rattle.hz_free.specs.VariableWords.{IsDrivenWord}
use Rattle.hz_free.specs.declared.free.Folding.{Folding}

-- how a variable is driven, by what it is
abbrev pub IsDrivenAs : Netlist → ℕ → VarKind → Type 0
IsDrivenAs netlist var (Input number) =
    (driver_at (network_of netlist) var ≡ External number) × (number < netlist.inputs)
IsDrivenAs netlist var (GateVariable kind) =
    IsGateNumber netlist var
    × (driver_at (network_of netlist) var
    ≡ Function kind (first_wire netlist var) (length (gate_at netlist var).sources))
    × (first_wire netlist var + length (gate_at netlist var).sources ≤ length (network_of netlist))
    × IsTrue (takes kind (length (gate_at netlist var).sources))
IsDrivenAs netlist var (WireVariable gate pin source) =
    (driver_at (network_of netlist) var ≡ Source source) × (IsVariable netlist source)

-- what a variable is told at first: if it is feedback-free, the word of one that keeps its value, else nothing
abbrev pub constant_if : Bool → Bool → Option Word
constant_if free value = if free then Some (capped_word 0 (value ∷ [])) else None

-- so it is with each variable
abbrev pub AreConstant : List Bool → List Bool → List (Option Word) → Type 0
AreConstant free start told =
    (i : ℕ) → i < length told →
    slice_index_or told i None ≡ constant_if (bit_at free i) (bit_at start i)

-- what a variable reads has words, whose capped forms are told
pub record IsReady (net : List Driver) (cap : ℕ) (told : List (Option Word)) (var : ℕ) : Type 0 where
  pub words : List (List Bool)
  pub long : length words ≡ length net
  pub told_long : length told ≡ length net
  pub is_word : (j : ℕ) → Reads (driver_at net var) j → IsWord (slice_index_or words j [])
  pub tells : (j : ℕ) → Reads (driver_at net var) j →
      slice_index_or told j None ≡ Some (capped_word cap (slice_index_or words j []))

-- for all words that what a variable reads has, it has this word
abbrev pub IsNextWord : List Driver → List Bool → List Bool → ℕ → List (Option Word) → ℕ → Word →
    Type 0
IsNextWord net input start cap told var outcome =
    (ready : IsReady net cap told var) →
    (word : List Bool) × IsWord word
    × IsDrivenWord input start ready.words var (driver_at net var) word
    × (capped_word cap word ≡ outcome)

-- words can be folded from a start of a network under an input, up to a cap
pub record CanBeFolded (folding : Folding) : Type 0 where
  pub circuit : IsCircuit folding.net.now
  pub whole : IsWhole folding.net.now
  pub start : IsStableStart folding.net.now folding.start.now
  pub input : IsInput folding.net.now folding.input.now
  pub cap_low : 1 ≤ folding.cap
  pub cap_high : folding.cap ≤ greatest_cap

-- a list has the values of the result of Algorithm A
abbrev pub IsResultOfA : Folding → List Tri → Type 0
IsResultOfA folding values =
    IsResult (algorithm_a (network_of folding.net.now) folding.input.now folding.start.now) values

-- a wire has a word, and its number is counted
abbrev pub HasCountedWord : ℕ → Option Word → Type 0
HasCountedWord cap None = ⊥
HasCountedWord cap (Some word) = IsWithinCap cap word.changes

-- for the words of the wires, the gate has this word
abbrev pub IsGateWord : Kind → List (Option Word) → ℕ → Word → Type 0
IsGateWord kind wires cap outcome =
    (words : List (List Bool)) → AreWords words →
    map (λ word. Some (capped_word cap word)) words ≡ wires →
    (word : List Bool) × IsWordOf kind words word × (capped_word cap word ≡ outcome)
