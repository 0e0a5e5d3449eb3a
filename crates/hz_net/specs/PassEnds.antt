-- Both algorithms come to rest on every change, and what their sequences then have.
use Rattle.std.specs.Prelude.{◌≡◌, ℕ, ◌+◌, ◌≤◌, Bool, List, length}
use Rattle.hz_core.specs.declared.tri.Tri.{Tri}
use Rattle.hz_net.specs.Network.{Driver}
use Rattle.hz_net.specs.Passes.{algorithm_a, algorithm_b, AreRounds, IsResult, AreRanks, AreSettlingRounds}

-- Algorithm A comes to rest
abbrev pub ResultOfAExists : Type 0
ResultOfAExists =
    (net : List Driver) (input start : List Bool) → length start ≡ length net →
    (a : List Tri) × IsResult (algorithm_a net input start) a

-- and then Algorithm B does
abbrev pub ResultOfBExists : Type 0
ResultOfBExists =
    (net : List Driver) (input start : List Bool) (a : List Tri) → length start ≡ length net →
    IsResult (algorithm_a net input start) a → (b : List Tri) × IsResult (algorithm_b net input a) b

-- each has at most one round more than there are variables
abbrev pub RoundsOfAAreFew : Type 0
RoundsOfAAreFew =
    (net : List Driver) (input start : List Bool) (rounds : ℕ) → length start ≡ length net →
    AreRounds (algorithm_a net input start) rounds → rounds ≤ length net + 1

abbrev pub RoundsOfBAreFew : Type 0
RoundsOfBAreFew =
    (net : List Driver) (input start : List Bool) (a : List Tri) (rounds : ℕ) →
    length start ≡ length net →
    IsResult (algorithm_a net input start) a → AreRounds (algorithm_b net input a) rounds →
    rounds ≤ length net + 1

-- a sequence that comes to rest has ranks
abbrev pub RanksExist : Type 0
RanksExist =
    (sequence : ℕ → List Tri) (result : List Tri) → IsResult sequence result →
    (ranks : List ℕ) × AreRanks sequence result ranks

-- and settling rounds
abbrev pub SettlingRoundsExist : Type 0
SettlingRoundsExist =
    (sequence : ℕ → List Tri) (first result : List Tri) → IsResult sequence result →
    (rounds : List ℕ) × AreSettlingRounds sequence first result rounds
