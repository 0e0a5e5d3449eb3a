-- Chains of variables, each of which reads the next one, and the variables from which no chain comes to a variable twice.
use Rattle.std.specs.Prelude.{ℕ, List, [], ◌∷◌}
use Rattle.hz_net.specs.Network.{Driver, driver_at}
use Rattle.hz_net.specs.Reads.{Reads}
use Rattle.hz_lists.specs.Listed.{IsRepeatFree}

-- a chain backwards from a variable, from a reader to what it reads
abbrev pub IsChain : List Driver → ℕ → List ℕ → Type 0
IsChain net i [] = Unit {0}
IsChain net i (next ∷ chain) = Reads (driver_at net i) next × IsChain net next chain

-- a variable is feedback-free if no chain backwards from it repeats a variable
abbrev pub IsFeedbackFree : List Driver → ℕ → Type 0
IsFeedbackFree net i = (chain : List ℕ) → IsChain net i chain → IsRepeatFree (i ∷ chain)
