-- What words are told from, and words in the making.
use Rattle.std.specs.Prelude.{◌≡◌, ℕ, ◌<◌, ◌≤◌, Bool, Option, Some, None, List, length, IfSome}
use Rattle.std.specs.List.{slice_index_or}
use Rattle.hz_core.specs.declared.tri.Tri.{Tri}
use Rattle.hz_core.specs.declared.tri.Tri.TheVariants.{Zero, One, Unknown}
use Rattle.hz_core.specs.Netlist.{IsCircuit, IsWhole}
use Rattle.hz_net.specs.Network.{Driver, network_of, IsInput, bit_at, value_at}
use Rattle.hz_net.specs.Passes.{algorithm_a, IsResult, IsKnown}
use Rattle.hz_net.specs.Starts.{IsStableStart}
use Rattle.hz_word.specs.declared.count.Count.{Count}
use Rattle.hz_word.specs.declared.word.Word.{Word}
use Rattle.hz_word.specs.Capped.{greatest_cap}
use Rattle.hz_word.specs.Pairs.{constant_word}
use Rattle.hz_free.specs.VariableWords.{AreCappedWords}
use Rattle.hz_free.specs.Inductive.{told_at, AreCounted, IsToldEnough}
use Rattle.hz_bounds.specs.declared.telling.Telling.{Telling}

-- words can be told from a start of a network under an input, up to a cap, where the result of Algorithm A and the words of the
-- feedback-free variables are known
pub record CanBeTold (telling : Telling) : Type 0 where
  pub circuit : IsCircuit telling.net.now
  pub whole : IsWhole telling.net.now
  pub start : IsStableStart telling.net.now telling.start.now
  pub input : IsInput telling.net.now telling.input.now
  pub result : IsResult
      (algorithm_a (network_of telling.net.now) telling.input.now telling.start.now)
      telling.a.now
  pub cap_low : 1 ≤ telling.cap
  pub cap_high : telling.cap ≤ greatest_cap
  pub words :
      AreCappedWords (network_of telling.net.now) telling.input.now telling.start.now telling.cap
      telling.words.now

-- what is known of a variable: its word if it is feedback-free, else one without a change if Algorithm A keeps its value
abbrev pub known_word : Bool → Tri → Option Word → Option Word
known_word start value (Some word) = Some word
known_word start Unknown None = None
known_word start Zero None = Some (constant_word start)
known_word start One None = Some (constant_word start)

-- the word that is known of variable i, or none
abbrev pub known_at : Telling → ℕ → Option Word
known_at telling i =
    known_word (bit_at telling.start.now i) (value_at telling.a.now i)
    (slice_index_or telling.words.now i None)

-- words that are told so far: one for each variable, counted, and those that are known
pub record AreToldSoFar (telling : Telling) (told : List Word) : Type 0 where
  pub long : length told ≡ length (network_of telling.net.now)
  pub counted : AreCounted telling.cap told
  pub kept : (i : ℕ) → i < length told →
      IfSome (known_at telling i) (λ word. told_at told i ≡ word)

-- a variable of the network is told enough
abbrev pub IsEnough : Telling → List Word → ℕ → Type 0
IsEnough telling told i =
    IsToldEnough (network_of telling.net.now) telling.input.now telling.start.now telling.cap told i

-- a word that is known, or else another
abbrev pub known_or : Option Word → Word → Word
known_or (Some word) other = word
known_or None other = other

-- each word is the known one, or begins with the value at the start and has this number of changes
abbrev pub AllHave : Telling → Count → List Word → Type 0
AllHave telling changes told =
    (i : ℕ) → i < length told →
    told_at told i
    ≡ known_or (known_at telling i)
    (record { first = bit_at telling.start.now i; changes = changes })

-- what Algorithm A keeps is told no change
abbrev pub AreStill : List Driver → List Bool → List Tri → List Word → Type 0
AreStill net start a told =
    (i : ℕ) → i < length net → IsKnown (value_at a i) → told_at told i ≡ constant_word (bit_at start i)
