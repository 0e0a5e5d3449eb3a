-- The bits are turned, looked at and turned back; what is counted of them stays.
use Rattle.std.proofs.Common.{◌≡◌, ◌∙◌, ◌<◌, ℕ, Bool, List, length, sym, ap, subst, arith}
use Rattle.std.proofs.lemmas.List.{with_items_is}
use Rattle.std.specs.Vec.{with_items}
use Rattle.hz_net.specs.Network.{network_of}
use Rattle.hz_lists.proofs.ListedLemmas.{All-listed}
use Rattle.hz_gmw.specs.Runs.{state_after}
use Rattle.hz_gmw.specs.Instability.{unstable_count}
use Rattle.hz_gmw.specs.CurrentState.{AreCounts}
use Rattle.hz_gmw.specs.Follower.{FollowerOf, follower_at}
use Rattle.hz_gmw.proofs.Flips.{step-back}
use Rattle.hz_gmw.proofs.follower.Follower.sees_two_unstable_after.Goals.{After-make_step-2}
use Rattle.hz_gmw.proofs.follower.Follower.sees_two_unstable_after.Goals as goal

pub make_step-requires-clause-inside : goal.make_step-requires-clause-inside
make_step-requires-clause-inside c = λ i there.
    let now = c.args.self.now in
    let below : i < length (network_of now.circuit) = All-listed (λ (var : ℕ). var < length (network_of now.circuit)) c.args.flips.now i c.requires.inside there in
    let same = ap (λ (f : FollowerOf). length (network_of f.circuit)) c.self.view_is in
    omega (arith, below, same, c.self.invariant.exact.counted.fits.state, ap (length {A = Bool}) c.as_mut_slice.ensures.value)

pub make_step-requires-2-clause-inside : goal.make_step-requires-2-clause-inside
make_step-requires-2-clause-inside c = λ i there.
    let now = c.args.self.now in
    let below : i < length (network_of now.circuit) = All-listed (λ (var : ℕ). var < length (network_of now.circuit)) c.args.flips.now i c.requires.inside there in
    let same = ap (λ (f : FollowerOf). length (network_of f.circuit)) c.self.view_is in
    let state = c.self.inside.current.state in
    let turned : (with_items state c.make_step.new.state).items ≡ c.make_step.new.state = with_items_is state c.make_step.new.state (omega (arith, c.make_step.auto.state, c.as_mut_slice.ensures.len)) in
    omega (arith, below, same, c.self.invariant.exact.counted.fits.state, ap (length {A = Bool}) c.as_mut_slice.ensures.value, c.make_step.auto.state, ap (length {A = Bool}) turned, ap (length {A = Bool}) c.as_mut_slice-2.ensures.value)

-- the bits are turned back
back :
    (c : After-make_step-2) →
    (with_items (with_items c.self.inside.current.state c.make_step.new.state) c.make_step-2.new.state).items ≡ c.self.inside.current.state.items
back c =
    let current = c.self.inside.current in
    let flips = c.args.flips.now in
    let turned : (with_items current.state c.make_step.new.state).items ≡ c.make_step.new.state = with_items_is current.state c.make_step.new.state (omega (arith, c.make_step.auto.state, c.as_mut_slice.ensures.len)) in
    let once : c.make_step.new.state ≡ state_after flips current.state.items = c.make_step.ensures ∙ ap (state_after flips) c.as_mut_slice.ensures.value in
    let again : (with_items (with_items current.state c.make_step.new.state) c.make_step-2.new.state).items ≡ c.make_step-2.new.state =
    with_items_is (with_items current.state c.make_step.new.state) c.make_step-2.new.state (omega (arith, c.make_step-2.auto.state, c.as_mut_slice-2.ensures.len)) in
    again ∙ (c.make_step-2.ensures ∙ (ap (state_after flips) (c.as_mut_slice-2.ensures.value ∙ (turned ∙ once)) ∙ step-back flips current.state.items))

pub invariant_of-self : goal.invariant_of-self
invariant_of-self c =
    let netlist = c.self.inside.net.now in
    let current = c.self.inside.current in
    let back = back (goal.at.invariant_of-self c).After-make_step-2 in
    let fits = c.self.invariant.exact.counted.fits in
    record {
      exact = record {
        counted = record {
          fits = record { circuit = fits.circuit; whole = fits.whole; input = fits.input; state = ap (length {A = Bool}) back ∙ fits.state; ones = fits.ones; wires = fits.wires };
          counts = subst (λ (bits : List Bool). AreCounts netlist current.input.items bits current.ones.items current.unstable_wires.items) (sym back) c.self.invariant.exact.counted.counts;
        };
        unstable = c.self.invariant.exact.unstable ∙ ap (unstable_count (network_of netlist) current.input.items) (sym back);
      };
    }

pub returns-clause-stays : goal.returns-clause-stays
returns-clause-stays c =
    ap (follower_at c.self.inside.net.now c.self.inside.current.input.items) (back (goal.at.returns-clause-stays c).After-make_step-2) ∙ c.self.view_is
