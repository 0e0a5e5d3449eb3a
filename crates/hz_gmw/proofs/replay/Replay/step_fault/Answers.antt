use Rattle.std.proofs.Common.{◌≡◌, ◌<◌, ◌≤◌, ◌∙◌, sym, ap, subst, ℕ, Bool, not, false, None, All, IsTrue, length}
use Rattle.std.proofs.lemmas.Bool.{false≢true, eq-eqb}
use Rattle.std.proofs.lemmas.List.{length-replicate}
use Rattle.hz_net.specs.Network.{network_of, bit_at}
use Rattle.hz_lists.specs.Listed.{is_listed}
use Rattle.hz_gmw.specs.Instability.{is_unstable, unstable_variables}
use Rattle.hz_lists.specs.Least.{IsLeastOf}
use Rattle.hz_gmw.specs.LeastListed.{least_from, least_repeat}
use Rattle.hz_gmw.specs.Replayer.{Replayer}
use Rattle.hz_gmw.specs.ReplayFaults.{times_listed}
use Rattle.hz_gmw.proofs.LeastLemmas.{least-repeated}
use Rattle.hz_gmw.proofs.ReplayLemmas.{at-unstable_variables, none-marked, step-by, stable-fault, stable-listed}
use Rattle.hz_gmw.proofs.replay.Replay.step_fault.Goals.{After-least_repeated}
use Rattle.hz_gmw.proofs.replay.Replay.step_fault.Goals as goal

-- the list is of variables
inside : (c : After-least_repeated) → All (λ (var : ℕ). var < length (network_of c.self.inside.net.now)) c.args.flips.now
inside c =
    subst (λ (now : Replayer). All (λ (var : ℕ). var < length (network_of now.circuit)) c.args.flips.now) (sym c.self.view_is) c.requires

-- the least variable that is listed twice, by the marks
again : (c : After-least_repeated) → IsLeastOf (λ i. 2 ≤ times_listed c.args.flips.now i) (least_repeat None c.self.inside.named c.args.flips.now)
again c =
    let named = c.self.inside.named in
    let count = length (network_of c.self.inside.net.now) in
    let long : length named ≡ count = ap (length {A = Bool}) c.self.invariant.named ∙ length-replicate count false in
    least-repeated c.args.flips.now named (none-marked named count c.self.invariant.named) (subst (λ (n : ℕ). All (λ (var : ℕ). var < n) c.args.flips.now) (sym long) (inside c))

-- the least listed variable that is stable, in terms of the marks of all
stable :
    (c : After-least_repeated) →
    let now = c.args.self.now in
    let fields = c.self.inside in
    IsLeastOf (λ i. IsTrue (is_listed c.args.flips.now i) × IsTrue (not (bit_at (unstable_variables (network_of now.circuit) now.input now.state) i)))
    (least_from None (λ var. not (is_unstable (network_of fields.net.now) fields.current.input.items fields.current.state.items var)) c.args.flips.now)
stable c =
    let flips = c.args.flips.now in
    let fields = c.self.inside in
    subst (λ (now : Replayer). IsLeastOf (λ i. IsTrue (is_listed flips i) × IsTrue (not (bit_at (unstable_variables (network_of now.circuit) now.input now.state) i))) (least_from None (λ var. not (is_unstable (network_of fields.net.now) fields.current.input.items fields.current.state.items var)) flips)) c.self.view_is
    (stable-listed (network_of fields.net.now) fields.current.input.items fields.current.state.items flips (inside c))

pub returns-in-Some-clause-answer : goal.returns-in-Some-clause-answer
returns-in-Some-clause-answer c =
    subst (IsLeastOf (λ i. 2 ≤ times_listed c.args.flips.now i)) (sym c.in-Some.ensures.least) (again (goal.at.returns-in-Some-clause-answer c).After-least_repeated)

pub returns-in-Some-least_stable-clause-answer : goal.returns-in-Some-least_stable-clause-answer
returns-in-Some-least_stable-clause-answer c =
    let here = (goal.at.returns-in-Some-least_stable-clause-answer c).After-least_repeated in
    let flips = c.args.flips.now in
    let now = c.args.self.now in
    let net = network_of now.circuit in
    let marks = unstable_variables net now.input now.state in
    stable-fault net now.input now.state marks flips c.in-Some-least_stable.var c.requires (at-unstable_variables net now.input now.state)
    (subst (IsLeastOf (λ i. 2 ≤ times_listed flips i)) (sym c.in_default.ensures.least) (again here))
    (subst (IsLeastOf (λ i. IsTrue (is_listed flips i) × IsTrue (not (bit_at marks i)))) (sym c.in-Some-least_stable.ensures) (stable here))

pub returns-clause-answer : goal.returns-clause-answer
returns-clause-answer c =
    let here = (goal.at.returns-clause-answer c).After-least_repeated in
    let flips = c.args.flips.now in
    let now = c.args.self.now in
    let marks = unstable_variables (network_of now.circuit) now.input now.state in
    step-by (network_of now.circuit) now.input now.state marks flips c.requires (at-unstable_variables (network_of now.circuit) now.input now.state)
    (λ none. false≢true (c.if-is_empty.ensures ∙ eq-eqb (length flips) 0 (ap (length {A = ℕ}) none)))
    (subst (IsLeastOf (λ i. 2 ≤ times_listed flips i)) (sym c.in_default.ensures.least) (again here))
    (subst (IsLeastOf (λ i. IsTrue (is_listed flips i) × IsTrue (not (bit_at marks i)))) (sym c.in_default-least_stable.ensures) (stable here))
