-- What the parts of the reader say of the words that they read.
use Rattle.std.specs.Prelude.{◌≡◌, ◌≢◌, ◌≤◌, IsTrue, slice_index_or, ℕ, ◌+◌, ◌-◌, ◌<◌, Bool, true, false, not, List, [], ◌∷◌, ◌++◌, length, map, take, codes, All, Option, Some, None, Result, Ok, Err}
use Rattle.std.specs.Borrow.{Bor}
use Rattle.std.specs.List.{flat_map, range_with_len}
use Rattle.hz_core.specs.Limits.{most_variables}
use Rattle.hz_net.specs.Network.{bit_at}
use Rattle.hz_lists.specs.Listed.{is_listed}
use Rattle.hz_gmw.specs.Runs.{end_of}
use Rattle.hz_text.specs.Printed.{letter_of}
use Rattle.hz_vcd.specs.declared.fault.VcdFault.{VcdFault}
use Rattle.hz_vcd.specs.declared.fault.VcdFault.TheVariants as fault
use Rattle.hz_vcd.specs.Code.{code_of}
use Rattle.hz_vcd.specs.Word.{words_of}
use Rattle.hz_vcd.specs.Dump.{end_word, Place, IsBlock, value_word, time_word, steps_words, AreFlips}

-- the words that are left of a text, and how many were read
pub record WordsLeft : Type 0 where
  pub words : List (List ℕ)
  pub read : ℕ

-- the first word of a text and the text behind it, if it has a word
abbrev pub IsFirstWord : List ℕ → Option (Bor (List ℕ) × Bor (List ℕ)) → Type 0
IsFirstWord text None = words_of text ≡ []
IsFirstWord text (Some found) =
    (words_of text ≡ found.0.now ∷ words_of found.1.now) × (length found.1.now < length text)

-- the next word was read, if there is one
abbrev pub ReadsNext : WordsLeft → WordsLeft → Option (Bor (List ℕ)) → Type 0
ReadsNext was now None = (was.words ≡ []) × (now ≡ was)
ReadsNext was now (Some word) = (was.words ≡ word.now ∷ now.words) × (now.read ≡ was.read + 1)

-- the digit of a byte, if it has one
abbrev pub IsDigitRead : ℕ → Option ℕ → Type 0
IsDigitRead byte None = (digit : ℕ) → digit < 94 → byte ≢ 33 + digit
IsDigitRead byte (Some digit) = (digit < 94) × (byte ≡ 33 + digit)

-- the variable of a code; none if no variable of any network has it
abbrev pub IsCodeRead : List ℕ → Option ℕ → Type 0
IsCodeRead code None = (var : ℕ) → var < most_variables → code_of var ≢ code
IsCodeRead code (Some var) = (code_of var ≡ code) × (var < 830584)

-- the bit of a letter, if it has one
abbrev pub IsBitRead : ℕ → Option Bool → Type 0
IsBitRead letter None = (bit : Bool) → letter ≢ letter_of bit
IsBitRead letter (Some bit) = letter ≡ letter_of bit

-- the variable and its bit of a word; none if it is no such word of any network
abbrev pub IsValueRead : List ℕ → Option (Bool × ℕ) → Type 0
IsValueRead word None = (var : ℕ) (bit : Bool) → var < most_variables → value_word var bit ≢ word
IsValueRead word (Some found) = (value_word found.1 found.0 ≡ word) × (found.1 < 830584)

-- What may come from some place of a dump on:
-- a word, and then the rest;
-- the rest of a block, and then the rest;
-- any number of blocks and this word, and then the rest;
-- the bits of the variables from a place on, if those before it are known, and then the steps;
-- steps from a state;
-- more changes of a step from a state, which has these so far behind these steps, and then more steps.
pub data Ending : Type 0 where
  Word : (word : List ℕ) (next : Ending) → Ending
  BlockEnd : (next : Ending) → Ending
  Blocks : (word : List ℕ) (next : Ending) → Ending
  Values : (variables place : ℕ) (known : List Bool) → Ending
  Steps : (variables : ℕ) (start : List Bool) → Ending
  Changes : (variables : ℕ) (start : List Bool) (done : List (List ℕ)) (flips : List ℕ) → Ending

-- The words after the changes of a step that came so far: more changes, and then more steps.
pub record StepGoesOn (variables : ℕ) (start : List Bool) (done : List (List ℕ)) (flips : List ℕ)
    (words : List (List ℕ)) (state : List Bool) (steps : List (List ℕ)) : Type 0 where
  pub more : List ℕ
  pub later : List (List ℕ)
  pub begins : state ≡ start
  pub is : steps ≡ done ++ (flips ++ more) ∷ later
  pub all_flips : All (AreFlips variables) steps
  pub are : words ≡ map (λ var. value_word var (not (bit_at (end_of start done) var))) more
      ++ steps_words (length done + 2) (end_of start (done ++ (flips ++ more) ∷ [])) later

-- these words come, and what they end is a dump of this state and these steps
abbrev pub Comes : Ending → List (List ℕ) → List Bool → List (List ℕ) → Type 0
Comes (Word word next) words state steps =
    (later : List (List ℕ)) × (words ≡ word ∷ later) × Comes next later state steps
Comes (BlockEnd next) words state steps =
    (inside : List (List ℕ)) × (later : List (List ℕ)) × All (λ word. word ≢ end_word) inside
    × (words ≡ inside ++ end_word ∷ later) × Comes next later state steps
Comes (Blocks word next) words state steps =
    (blocks : List (List (List ℕ))) × (later : List (List ℕ)) × All IsBlock blocks
    × (words ≡ flat_map (λ block. block) blocks ++ word ∷ later) × Comes next later state steps
Comes (Values variables place known) words state steps =
    (length state ≡ variables) × All (AreFlips variables) steps × (take place state ≡ known)
    × (words
    ≡ map (λ var. value_word var (bit_at state var)) (range_with_len place (variables - place))
    ++ end_word ∷ steps_words 1 state steps)
Comes (Steps variables start) words state steps =
    (state ≡ start) × All (AreFlips variables) steps × (words ≡ steps_words 1 start steps)
Comes (Changes variables start done flips) words state steps =
    StepGoesOn variables start done flips words state steps

-- some words may come behind these
abbrev pub Goes : Ending → List (List ℕ) → Type 0
Goes ending front =
    (more : List (List ℕ)) × (state : List Bool) × (steps : List (List ℕ))
    × Comes ending (front ++ more) state steps

-- nothing may come behind these words and the first of those after them, or nothing at all if these are all
abbrev pub Stops : Ending → List (List ℕ) → List (List ℕ) → Type 0
Stops ending front [] =
    (state : List Bool) (steps : List (List ℕ)) → Comes ending (front ++ []) state steps → ⊥
Stops ending front (word ∷ after) =
    (more : List (List ℕ)) (state : List Bool) (steps : List (List ℕ)) →
    Comes ending (front ++ word ∷ more) state steps → ⊥

-- Words were read, and behind them comes what the next ending says.
pub record Past (ending : Ending) (was : WordsLeft) (next : Ending) (now : WordsLeft) : Type 0 where
  pub front : List (List ℕ)
  pub are : was.words ≡ front ++ now.words
  pub counts : now.read ≡ was.read + length front
  pub onward : (more : List (List ℕ)) (state : List Bool) (steps : List (List ℕ)) →
      Comes ending (front ++ more) state steps → Comes next more state steps
  pub back : (more : List (List ℕ)) (state : List Bool) (steps : List (List ℕ)) →
      Comes next more state steps → Comes ending (front ++ more) state steps

-- The word with this number is the first that is wrong, or the words end too early.
pub record Stuck (ending : Ending) (was : WordsLeft) (number : ℕ) : Type 0 where
  pub front : List (List ℕ)
  pub after : List (List ℕ)
  pub are : was.words ≡ front ++ after
  pub place : number ≡ was.read + length front + 1
  pub goes : Goes ending front
  pub stops : Stops ending front after

-- a fault of what was to be read
abbrev pub Fails : Ending → WordsLeft → VcdFault → Type 0
Fails ending was (fault.Form token) = Stuck ending was token
Fails ending was fault.Memory = Unit {0}

-- what was to be read was read, or the fault is told
abbrev pub Reads : Ending → WordsLeft → Ending → WordsLeft → Result (Unit {0}) VcdFault → Type 0
Reads ending was next now (Ok done) = Past ending was next now
Reads ending was next now (Err fault) = Fails ending was fault

-- these words come, and then the rest
abbrev pub all_words : List (List ℕ) → Ending → Ending
all_words [] next = next
all_words (word ∷ words) next = Word word (all_words words next)

-- the word of a place comes, behind blocks where these may stand, and then the rest
abbrev pub place_word : Bool → List ℕ → Ending → Ending
place_word true word next = Blocks word next
place_word false word next = Word word next

-- the words of places come, and then the rest
abbrev pub all_places : List Place → Ending → Ending
all_places [] next = next
all_places (place ∷ places) next = place_word place.after_blocks place.word (all_places places next)

-- the bit of one more variable was read
abbrev pub ReadsValue : ℕ → ℕ → List Bool → WordsLeft → WordsLeft → Result Bool VcdFault → Type 0
ReadsValue variables place known was now (Ok bit) =
    Past (Values variables place known) was (Values variables (place + 1) (known ++ bit ∷ [])) now
ReadsValue variables place known was now (Err fault) =
    Fails (Values variables place known) was fault

-- the bits of all variables were read
abbrev pub AllRead : ℕ → WordsLeft → WordsLeft → List Bool → Type 0
AllRead variables was now state =
    (length state ≡ variables)
    × Past (Values variables 0 []) was (Values variables variables state) now

-- the words before the bits of a state
abbrev pub state_head : List (List ℕ)
state_head = time_word 0 ∷ codes "$dumpvars" ∷ []

-- a state was read
abbrev pub StateRead : ℕ → WordsLeft → WordsLeft → List Bool → Type 0
StateRead variables was now state =
    (length state ≡ variables)
    × Past (all_words state_head (Values variables 0 [])) was (Steps variables state) now

-- the words are those of an ending, and mean this state and these steps alone
pub record Means (ending : Ending) (was : WordsLeft) (state : List Bool)
    (steps : List (List ℕ)) : Type 0 where
  pub is : Comes ending was.words state steps
  pub alone : (other : List Bool) (others : List (List ℕ)) → Comes ending was.words other others →
      (other ≡ state) × (others ≡ steps)

-- the variable that a word changes at a time, if it does, and was not changed at this time
abbrev pub IsChangeRead : ℕ → List Bool → List ℕ → List ℕ → Option ℕ → Type 0
IsChangeRead time state times word None =
    (var : ℕ) → var < length state → slice_index_or times var 0 ≢ time →
    value_word var (not (bit_at state var)) ≢ word
IsChangeRead time state times word (Some var) =
    (var < length state) × (slice_index_or times var 0 ≢ time)
    × (value_word var (not (bit_at state var)) ≡ word)

-- the variables with this time are the listed ones, and no time is later
pub record AreAt (time : ℕ) (times flips : List ℕ) : Type 0 where
  pub listed : (var : ℕ) → var < length times → slice_index_or times var 0 ≡ time →
      IsTrue (is_listed flips var)
  pub here : (var : ℕ) → IsTrue (is_listed flips var) → slice_index_or times var 0 ≡ time
  pub latest : (var : ℕ) → slice_index_or times var 0 ≤ time

-- a step was read, and then the time of the next one, or the end of the words
abbrev pub StepRead : ℕ → List Bool → List (List ℕ) → List ℕ → WordsLeft → WordsLeft → Bool → Type 0
StepRead variables start done flips was now true =
    AreFlips variables flips
    × Past (Changes variables start done []) was
    (Changes variables start (done ++ flips ∷ []) []) now
StepRead variables start done flips was now false =
    AreFlips variables flips
    × Past (Changes variables start done []) was (Changes variables start done flips) now
    × (now.words ≡ [])
