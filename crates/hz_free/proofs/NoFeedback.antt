-- Where each variable is feedback-free there is no feedback cycle.
use Rattle.std.proofs.Common.{ℕ, ◌<◌, Bool, false, List, [], ◌∷◌, length, All, IsTrue, arith}
use Rattle.std.specs.Prelude.{Contains}
use Rattle.std.proofs.lemmas.List.Elements.{All-nil}
use Rattle.hz_net.specs.Network.{Driver}
use Rattle.hz_free.specs.Chains.{IsFeedbackFree}
use Rattle.hz_free.specs.Feedback.{IsFeedbackCycle}
use Rattle.hz_free.specs.FreePart.{AreMarks, AreFeedback}
use Rattle.hz_free.proofs.Chains.{reads-free}
use Rattle.hz_free.proofs.FoundCycles.{first-chooses, reader-inside}

module _ (net : List Driver) (free : List Bool) (marks : AreMarks net free) (all : All IsTrue free) where
  each-free : (i : ℕ) → i < length net → IsFeedbackFree net i
  each-free i few = (marks.exact i few).0 (all i false (omega (arith, few, marks.long)))

  -- the first variable of a cycle chooses one that is not feedback-free
  no-cycle : (cycle : List ℕ) → IsFeedbackCycle net cycle → Contains [] cycle
  no-cycle [] is = absurd is
  no-cycle (first ∷ rest) is =
      let chosen = first-chooses net first first rest is.0 in
      let inside = reader-inside net first chosen.0 chosen.1.reads in
      absurd (chosen.1.feeds (reads-free net first chosen.0 (each-free first inside) chosen.1.reads))

  pub no-feedback : AreFeedback net [] []
  no-feedback =
      record {
        are_cycles = record { each = All-nil (IsFeedbackCycle net); every = no-cycle; ordered = λ number few. omega (arith, few) };
        are_cores = λ i few not_free. absurd (not_free (each-free i few));
      }
