-- A dump of the values of a network's variables, and what it means: a state, and the steps of a run from there.
--
-- It is a value change dump of IEEE 1364 with one scope, a wire of one bit for each variable, and the times 0, 1, 2, ..
use Rattle.std.specs.Prelude.{◌≡◌, ◌≢◌, ℕ, suc, ◌<◌, ◌⊎◌, Bool, true, false, not, List, [], ◌∷◌, ◌++◌, length, map, codes, decimal, All}
use Rattle.std.specs.List.{flat_map, range_with_len}
use Rattle.hz_core.specs.Netlist.{Netlist}
use Rattle.hz_net.specs.Network.{network_of, bit_at}
use Rattle.hz_lists.specs.Listed.{IsRepeatFree}
use Rattle.hz_gmw.specs.Runs.{state_after}
use Rattle.hz_text.specs.Printed.{letter_of}
use Rattle.hz_text.specs.VariableWord.{variable_word}
use Rattle.hz_vcd.specs.Code.{code_of}

-- how many variables a network has
abbrev pub variables_of : Netlist → ℕ
variables_of netlist = length (network_of netlist)

-- the word that ends a command
abbrev pub end_word : List ℕ
end_word = codes "$end"

-- the reference of a variable: a backslash before its name in run texts, so that no name is taken for a keyword
abbrev pub reference_of : Netlist → ℕ → List ℕ
reference_of netlist var = 92 ∷ variable_word netlist var

-- the command that declares a variable
abbrev pub declaration_of : Netlist → ℕ → List (List ℕ)
declaration_of netlist var =
    codes "$var" ∷ codes "wire" ∷ codes "1" ∷ code_of var ∷ reference_of netlist var ∷ end_word ∷ []

-- A word at its place in the head of a dump, and whether blocks may stand before it.
pub record Place : Type 0 where
  pub word : List ℕ
  pub after_blocks : Bool

-- a word before which nothing else stands
abbrev pub fixed : List ℕ → Place
fixed word = record { word = word; after_blocks = false }

-- a command of these words, before which blocks may stand
abbrev pub command : List ℕ → List (List ℕ) → List Place
command first later = record { word = first; after_blocks = true } ∷ map fixed later

-- The places of the head, in order: the unit of time, the scope, the declarations of all variables, and the end of both.
unfoldable pub head_places : Netlist → List Place
head_places netlist =
    command (codes "$timescale") (codes "1" ∷ codes "ns" ∷ end_word ∷ [])
    ++ command (codes "$scope") (codes "module" ∷ codes "hazard" ∷ end_word ∷ [])
    ++ map fixed (flat_map (declaration_of netlist) (range_with_len 0 (variables_of netlist)))
    ++ command (codes "$upscope") (end_word ∷ [])
    ++ command (codes "$enddefinitions") (end_word ∷ [])

-- a word that opens a block
abbrev pub OpensBlock : List ℕ → Type 0
OpensBlock word = (word ≡ codes "$date") ⊎ ((word ≡ codes "$version") ⊎ (word ≡ codes "$comment"))

-- A block, which means nothing: the word that opens it, and all words up to the next end.
pub record IsBlock (words : List (List ℕ)) : Type 0 where
  pub first : List ℕ
  pub inside : List (List ℕ)
  pub are : words ≡ first ∷ inside ++ end_word ∷ []
  pub opens : OpensBlock first
  pub no_end : All (λ word. word ≢ end_word) inside

-- any number of blocks stands where they may stand, and none elsewhere
abbrev pub MayStand : Bool → List (List (List ℕ)) → Type 0
MayStand true blocks = All IsBlock blocks
MayStand false blocks = blocks ≡ []

-- the words stand at these places, in order, each behind the blocks before it
abbrev pub StandAt : List Place → List (List ℕ) → Type 0
StandAt [] words = words ≡ []
StandAt (place ∷ places) words =
    (blocks : List (List (List ℕ))) × (later : List (List ℕ)) × MayStand place.after_blocks blocks
    × (words ≡ flat_map (λ block. block) blocks ++ place.word ∷ later) × StandAt places later

-- the word that gives a variable a bit
abbrev pub value_word : ℕ → Bool → List ℕ
value_word var bit = letter_of bit ∷ code_of var

-- the word of a time
abbrev pub time_word : ℕ → List ℕ
time_word time = 35 ∷ decimal time

-- the words of a state at the time 0: each variable has its bit
abbrev pub state_words : List Bool → List (List ℕ)
state_words state =
    time_word 0 ∷ codes "$dumpvars"
    ∷ map (λ var. value_word var (bit_at state var)) (range_with_len 0 (length state))
    ++ end_word ∷ []

-- the words of a step from a state at a time: each variable that changes has the bit that it did not have
abbrev pub dump_step : ℕ → List Bool → List ℕ → List (List ℕ)
dump_step time state flips =
    time_word time ∷ map (λ var. value_word var (not (bit_at state var))) flips

-- the words of steps, one after the other, from a state at a time on
abbrev pub steps_words : ℕ → List Bool → List (List ℕ) → List (List ℕ)
steps_words time state [] = []
steps_words time state (flips ∷ steps) =
    dump_step time state flips ++ steps_words (suc time) (state_after flips state) steps

-- what a step of a dump over so many variables changes: at least one of them, and none twice
pub record AreFlips (variables : ℕ) (flips : List ℕ) : Type 0 where
  pub some : flips ≢ []
  pub once : IsRepeatFree flips
  pub inside : All (λ var. var < variables) flips

-- The words are a dump of the network, which means this state and these steps from there: a head, the state at the time 0, and
-- each step at the time of its number.
pub record IsDump (netlist : Netlist) (words : List (List ℕ)) (state : List Bool)
    (steps : List (List ℕ)) : Type 0 where
  pub head : List (List ℕ)
  pub is_head : StandAt (head_places netlist) head
  pub long : length state ≡ variables_of netlist
  pub flips : All (AreFlips (variables_of netlist)) steps
  pub are : words ≡ head ++ state_words state ++ steps_words 1 state steps
