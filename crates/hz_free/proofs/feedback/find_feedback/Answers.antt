-- The choices are those of the network.
use Rattle.std.proofs.Common.{arith, ℕ, List, Option, sym, subst}
use Rattle.std.proofs.lemmas.List.{with_items_is}
use Rattle.hz_net.specs.Network.{network_of}
use Rattle.hz_net.proofs.Wired.{wired-network_of}
use Rattle.hz_free.specs.FreePart.{AreFeedback}
use Rattle.hz_free.proofs.Roots.{choices-AreLinks}
use Rattle.hz_free.proofs.NoFeedback.{no-feedback}
use Rattle.hz_free.proofs.feedback.find_feedback.Goals as goal

pub returns-then-are_all_free : goal.returns-then-are_all_free
returns-then-are_all_free c =
    rw (c.no_feedback.ensures.cycles, c.no_feedback.ensures.cores)
    (no-feedback (network_of c.args.net.now) c.args.free.now c.requires (c.are_all_free.ensures.0 c.if-are_all_free.true))

pub find_cycles-requires-clause-links : goal.find_cycles-requires-clause-links
find_cycles-requires-clause-links c =
    rw c.as_slice.ensures.value
    (choices-AreLinks (network_of c.args.net.now) c.in_ok-choices.choices.items (wired-network_of c.args.net.now c.keeps_shape.ensures.circuit) c.in_ok-choices.ensures)

pub returns : goal.returns
returns c =
    let choices = rw (sym c.as_slice.ensures.value) at c.in_ok-choices.ensures in
    let written = with_items_is c.in_ok-roots.roots c.find_cycles.new.roots (omega (arith, c.find_cycles.auto.roots, c.as_mut_slice-2.ensures.len)) in
    subst (λ (cores : List (Option ℕ)). AreFeedback (network_of c.args.net.now) c.in_ok-cycles.cycles cores) (sym written)
    (c.in_ok-cycles.ensures (network_of c.args.net.now) (wired-network_of c.args.net.now c.keeps_shape.ensures.circuit) choices)
