-- Feedback: what a variable that is not feedback-free chooses among the variables that it reads, the cycles of choices, and the
-- core of a variable.
use Rattle.std.specs.Prelude.{◌≡◌, ℕ, suc, ◌<◌, List, [], ◌∷◌, length, All, Contains, IsTrue, slice_index, slice_index_or}
use Rattle.hz_net.specs.Network.{Driver, driver_at}
use Rattle.hz_net.specs.Reads.{Reads}
use Rattle.hz_lists.specs.Listed.{is_listed, IsRepeatFree}
use Rattle.hz_free.specs.Chains.{IsFeedbackFree}

-- A variable chooses the first variable that it reads and that is not feedback-free: a wire its source, a gate the first of its
-- wires, which are numbered in the order of its pins.
pub record IsChoice (net : List Driver) (i choice : ℕ) : Type 0 where
  pub reads : Reads (driver_at net i) choice
  pub feeds : IsFeedbackFree net choice → ⊥
  pub first : (other : ℕ) → other < choice → Reads (driver_at net i) other →
      IsFeedbackFree net other

-- each variable behind one chose the one before it, and the first one chose the last
abbrev pub ComesAround : List Driver → ℕ → ℕ → List ℕ → Type 0
ComesAround net first last [] = IsChoice net first last
ComesAround net first last (next ∷ rest) = IsChoice net next last × ComesAround net first next rest

-- A feedback cycle: variables none of which comes twice, the least one first, each chosen by the next and the last by the first.
abbrev pub IsFeedbackCycle : List Driver → List ℕ → Type 0
IsFeedbackCycle net [] = ⊥
IsFeedbackCycle net (first ∷ rest) =
    ComesAround net first first rest × IsRepeatFree (first ∷ rest)
    × All (λ later. first < later) rest

-- all feedback cycles, in the order of their least variables
pub record AreFeedbackCycles (net : List Driver) (cycles : List (List ℕ)) : Type 0 where
  pub each : All (IsFeedbackCycle net) cycles
  pub every : (cycle : List ℕ) → IsFeedbackCycle net cycle → Contains cycles cycle
  pub ordered : (number : ℕ) → suc number < length cycles →
      slice_index (slice_index_or cycles number []) 0
      < slice_index (slice_index_or cycles (suc number) []) 0

-- going back from a variable from choice to choice
abbrev pub IsWayBack : List Driver → ℕ → List ℕ → ℕ → Type 0
IsWayBack net i [] last = i ≡ last
IsWayBack net i (choice ∷ way) last = IsChoice net i choice × IsWayBack net choice way last

-- the core of a variable: the feedback cycle in which the way back from it ends
pub record IsCore (net : List Driver) (i : ℕ) (cycle : List ℕ) : Type 0 where
  pub is_cycle : IsFeedbackCycle net cycle
  pub way : List ℕ
  pub last : ℕ
  pub leads : IsWayBack net i way last
  pub ends : IsTrue (is_listed cycle last)
