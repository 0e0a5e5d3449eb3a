-- The words of a round and of a pass, as the code has them: what each begins with, and what it makes.
use Rattle.std.specs.Prelude.{◌≡◌, ℕ, ◌<◌, ◌≤◌, true, List, length, All, Contains}
use Rattle.hz_core.specs.declared.tri.Tri.{Tri}
use Rattle.hz_net.specs.Network.{network_of, value_at, excitation3, IsState, IsInput, IsVariable}
use Rattle.hz_pass.specs.declared.round.Round.{Round}
use Rattle.hz_pass.specs.declared.rounds.Pass.{Pass}
use Rattle.hz_pass.specs.Frontier.{is_open, round_states, Falls, IsMade, IsQuiet, IsRound, IsRoundSoFar}

-- the input and the state are of the network, and the rule may go on from them
pub record CanBeMade (round : Round) : Type 0 where
  pub input : IsInput round.net.now round.input.now
  pub state : IsState round.net.now round.state.now
  pub falls : Falls round.rule (network_of round.net.now) round.input.now round.state.now

-- variable i has the value that the round makes
abbrev pub IsMadeIn : Round → List Tri → ℕ → Type 0
IsMadeIn round next i =
    IsMade round.rule (network_of round.net.now) round.input.now round.state.now next i

-- a value is the excitation of variable i
abbrev pub IsExcitedIn : Round → Tri → ℕ → Type 0
IsExcitedIn round excited i =
    excited ≡ excitation3 (network_of round.net.now) round.input.now round.state.now i

-- what was made is still made
abbrev pub KeepsMade : Round → List Tri → List Tri → Type 0
KeepsMade round before after = (i : ℕ) → IsMadeIn round before i → IsMadeIn round after i

-- the round leaves the variables from a number on as they are
abbrev pub LeavesFrom : ℕ → Round → Type 0
LeavesFrom first round =
    (i : ℕ) → first ≤ i → IsVariable round.net.now i → IsMadeIn round round.state.now i

-- the round leaves each variable as it is that reads none of the listed ones
abbrev pub IsQuietIn : Round → List ℕ → Type 0
IsQuietIn round listed =
    IsQuiet round.rule (network_of round.net.now) round.input.now round.state.now listed

-- a list has variables below a number, and each of those that may still change
pub record ListsOpen (round : Round) (end : ℕ) (listed : List ℕ) : Type 0 where
  pub few : length listed ≤ end
  pub inside : All (IsVariable round.net.now) listed
  pub every : (i : ℕ) → i < end → is_open round.rule (value_at round.state.now i) ≡ true →
      Contains listed i

-- within the round: what is known of the next state and of the variables that changed
abbrev pub MakesSoFar : Round → List Tri → List ℕ → Type 0
MakesSoFar round next changed =
    IsRoundSoFar round.rule (network_of round.net.now) round.input.now round.state.now next changed

-- the whole round makes this state and changes these variables
abbrev pub Makes : Round → List Tri → List ℕ → Type 0
Makes round next changed =
    IsRound round.rule (network_of round.net.now) round.input.now round.state.now next changed

-- the states that the rounds of a pass make from a first one
abbrev pub states_from : Pass → List Tri → ℕ → List Tri
states_from pass first = round_states pass.rule (network_of pass.net.now) pass.input.now first

-- the pass may begin with a state: it is of the network, and the first round may leave out what it leaves out
pub record CanBegin (pass : Pass) (values : List Tri) : Type 0 where
  pub input : IsInput pass.net.now pass.input.now
  pub state : IsState pass.net.now values
  pub falls : Falls pass.rule (network_of pass.net.now) pass.input.now values
  pub first : pass.first ≤ length (network_of pass.net.now)
  pub rest : (i : ℕ) → pass.first ≤ i → IsVariable pass.net.now i →
      IsMade pass.rule (network_of pass.net.now) pass.input.now values values i
