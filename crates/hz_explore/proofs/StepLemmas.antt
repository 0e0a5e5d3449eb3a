-- Every burst from a stable state comes to something, by the law of changes.
use Rattle.std.proofs.Common.{◌≡◌, refl, inl, inr, ℕ, Bool, List, length, take, arith}
use Rattle.hz_explore.proofs.Words.{length-take-le, IsStableStart, length-network_of, Settled, Unsettled, Transition, IsRightTransition}
use Rattle.hz_replay.proofs.ReadBack.{stable-expansion_of}
use Rattle.hz_edge_reports.specs.declared.finding.Making.{Making}
use Rattle.hz_edge_reports.specs.ChangesExist.{ChangesExist}
use Rattle.hz_edge_reports.specs.Room.{CanBeMade}
use Rattle.hz_edge_reports.proofs.FirstEdges.{one-exists}
use Rattle.hz_edge_reports.proofs.Leading.{found-leads}
use Rattle.hz_explore.proofs.ProgressLemmas.{HasSteps}

module _ (exist : ChangesExist) (making : Making) (can : CanBeMade making) where
  -- a burst has a transition
  pub transition-exists : (state : List Bool) (burst : List (ℕ × Bool)) → IsStableStart making.net.now state → (one : Transition) × (one.start ≡ state) × (one.burst ≡ burst) × IsRightTransition making.net.now making.cap making.assumptions.now one
  transition-exists state burst stable =
      let made = one-exists exist making.net.now making.cap making.assumptions.now can.circuit can.whole can.assumptions can.cap.0 can.cap.1 state burst stable in
      elim (found-leads making.net.now making.cap making.assumptions.now state burst made.0 can.circuit can.assumptions stable made.1 made.2) [
        | inl next ↦ (record { start = state; burst = burst; found = made.0; outcome = Settled next.0 }, refl, refl, record { from = made.1; right = made.2; outcome = next.1 })
        | inr last ↦ (record { start = state; burst = burst; found = made.0; outcome = Unsettled last.0 }, refl, refl, record { from = made.1; right = made.2; outcome = last.1 })
      ]

  pub has-steps : HasSteps making.net.now making.cap making.assumptions.now
  has-steps = record {
    exists = transition-exists;
    expands = λ state stable. stable-expansion_of making.net.now (take making.net.now.inputs state) state can.circuit stable.long stable.stable;
    long = λ state stable. length-take-le (length making.net.now.names) state (omega (arith, stable.long, length-network_of making.net.now can.circuit));
  }
