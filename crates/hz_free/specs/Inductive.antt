-- Words that may be told of all variables, those on feedback cycles too: each is at least what its driver gives by them.
use Rattle.std.specs.Prelude.{◌≡◌, ℕ, ◌+◌, ◌<◌, ◌≤◌, Bool, false, List, [], length, slice_range, All}
use Rattle.std.specs.List.{slice_index_or}
use Rattle.hz_net.specs.Network.{Driver, External, Function, Source, driver_at, bit_at}
use Rattle.hz_word.specs.declared.word.Word.{Word}
use Rattle.hz_word.specs.Capped.{capped_word, IsWithinCap, IsAtMost, IsFold}
use Rattle.hz_word.specs.Pairs.{constant_word}
use Rattle.hz_free.specs.Chains.{IsFeedbackFree}
use Rattle.hz_free.specs.VariableWords.{input_word, AreVariableWords}

-- the word that is told of variable i
abbrev pub told_at : List Word → ℕ → Word
told_at told i = slice_index_or told i (constant_word false)

-- the word that a driver gives variable i: an input its own word, a wire what is told of its source, a gate the word of its
-- kind over what is told of its wires
abbrev pub GivesWord : List Bool → List Bool → ℕ → List Word → ℕ → Driver → Word → Type 0
GivesWord input start cap told i (External place) word =
    word ≡ capped_word cap (input_word (bit_at start i) (bit_at input place))
GivesWord input start cap told i (Function kind first pins) word =
    IsFold kind (slice_range told first (first + pins)) cap word
GivesWord input start cap told i (Source node) word = word ≡ told_at told node

-- Variable i is told enough: the word begins with its value at the start, and has at least as many changes as the word that its
-- driver gives.
pub record IsToldEnough (net : List Driver) (input start : List Bool) (cap : ℕ)
    (told : List Word) (i : ℕ) : Type 0 where
  pub begins : (told_at told i).first ≡ bit_at start i
  pub given : Word
  pub gives : GivesWord input start cap told i (driver_at net i) given
  pub enough : IsAtMost given.changes (told_at told i).changes

-- each number of changes that is exact is at most the cap
abbrev pub AreCounted : ℕ → List Word → Type 0
AreCounted cap told = All (λ word. IsWithinCap cap word.changes) told

-- Words for all variables of a network are inductive, from a start under a new input, if each variable is told enough by them.
pub record IsInductive (net : List Driver) (input start : List Bool) (cap : ℕ)
    (told : List Word) : Type 0 where
  pub long : length told ≡ length net
  pub counted : AreCounted cap told
  pub each : (i : ℕ) → i < length net → IsToldEnough net input start cap told i

-- the feedback-free variables are told their own words
pub record AreFreeWords (net : List Driver) (input start : List Bool) (cap : ℕ)
    (told : List Word) : Type 0 where
  pub words : List (List Bool)
  pub are_words : AreVariableWords net input start words
  pub each : (i : ℕ) → i < length net → IsFeedbackFree net i →
      told_at told i ≡ capped_word cap (slice_index_or words i [])
