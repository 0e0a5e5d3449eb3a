-- What comes in a feedback cycle is a variable of the network.
use Rattle.std.proofs.Common.{ℕ, ◌<◌, List, [], ◌∷◌, length, subst, inl, inr}
use Rattle.std.specs.List.{All}
use Rattle.std.proofs.lemmas.Bool.{cases_lt}
use Rattle.std.proofs.lemmas.List.{get_or_past}
use Rattle.std.proofs.lemmas.List.Elements.{All-nil, All-cons}
use Rattle.hz_net.specs.Network.{Driver, External, driver_at}
use Rattle.hz_net.specs.Reads.{Reads}
use Rattle.hz_free.specs.Feedback.{ComesAround, IsFeedbackCycle}

-- what reads something is a variable
reads-within : (net : List Driver) (i j : ℕ) → Reads (driver_at net i) j → i < length net
reads-within net i j reads =
    elim (cases_lt i (length net)) [
      | inl inside ↦ inside
      | inr beyond ↦ absurd (subst (λ (driver : Driver). Reads driver j) (get_or_past net i (External 0) beyond) reads)
    ]

-- what comes behind the last variable of a cycle so far
around-within : (net : List Driver) (first last : ℕ) (rest : List ℕ) → ComesAround net first last rest → (first < length net) × All (λ var. var < length net) rest
around-within net first last [] around = (reads-within net first last around.reads, All-nil (λ (var : ℕ). var < length net))
around-within net first last (next ∷ rest) around =
    let later = around-within net first next rest around.1 in
    (later.0, All-cons (λ (var : ℕ). var < length net) next rest (reads-within net next last around.0.reads) later.1)

pub cycle-within : (net : List Driver) (cycle : List ℕ) → IsFeedbackCycle net cycle → All (λ var. var < length net) cycle
cycle-within net [] is = absurd is
cycle-within net (first ∷ rest) is =
    let all = around-within net first first rest is.0 in
    All-cons (λ (var : ℕ). var < length net) first rest all.0 all.1
