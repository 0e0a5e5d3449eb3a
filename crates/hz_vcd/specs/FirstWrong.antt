-- Where words stop being the beginning of a dump.
use Rattle.std.specs.Prelude.{◌≡◌, ℕ, ◌+◌, ◌⊎◌, Bool, List, [], ◌∷◌, ◌++◌, length}
use Rattle.hz_core.specs.Netlist.{Netlist}
use Rattle.hz_vcd.specs.declared.fault.VcdFault.{VcdFault}
use Rattle.hz_vcd.specs.declared.fault.VcdFault.TheVariants as fault
use Rattle.hz_vcd.specs.Dump.{IsDump}
use Rattle.hz_vcd.specs.Wave.{WaveOf}

-- the words are a dump of the network
abbrev pub MeansSome : Netlist → List (List ℕ) → Type 0
MeansSome netlist words =
    (state : List Bool) × (steps : List (List ℕ)) × IsDump netlist words state steps

-- some more words would make a dump of them
abbrev pub MayGoOn : Netlist → List (List ℕ) → Type 0
MayGoOn netlist words = (more : List (List ℕ)) × MeansSome netlist (words ++ more)

-- The word with this number, counted from 1, is the first that is wrong: a dump may begin with the words before it, and none
-- begins with these and it.
pub record IsFirstWrong (netlist : Netlist) (words : List (List ℕ)) (number : ℕ) : Type 0 where
  pub before : List (List ℕ)
  pub word : List ℕ
  pub after : List (List ℕ)
  pub are : words ≡ before ++ word ∷ after
  pub place : number ≡ length before + 1
  pub went_on : MayGoOn netlist before
  pub stops : ¬ MayGoOn netlist (before ++ word ∷ [])

-- The words are no dump: one is the first that is wrong, or none is and they end too early. Then the number is one more than there
-- are words.
abbrev pub HasFormFault : Netlist → List (List ℕ) → ℕ → Type 0
HasFormFault netlist words number =
    IsFirstWrong netlist words number
    ⊎ ((number ≡ length words + 1) × MayGoOn netlist words × (¬ MeansSome netlist words))

-- the words are a dump that means this, and nothing else
abbrev pub MeansAlone : Netlist → List (List ℕ) → WaveOf → Type 0
MeansAlone netlist words wave =
    IsDump netlist words wave.state wave.steps
    × ((state : List Bool) (steps : List (List ℕ)) → IsDump netlist words state steps →
    (state ≡ wave.state) × (steps ≡ wave.steps))

-- why words are not read; memory may always run out
abbrev pub IsFaultOf : Netlist → List (List ℕ) → VcdFault → Type 0
IsFaultOf netlist words (fault.Form token) = HasFormFault netlist words token
IsFaultOf netlist words fault.Memory = Unit {0}
