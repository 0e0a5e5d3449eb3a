use Rattle.std.proofs.Common.{◌≡◌, ◌<◌, ◌∙◌, sym, ℕ, length, arith}
use Rattle.std.specs.Prelude.{count_by}
use Rattle.std.specs.List.{range_with_len}
use Rattle.std.proofs.lemmas.Bool.{false≢true}
use Rattle.hz_net.specs.Network.{network_of, bit_at}
use Rattle.hz_gmw.specs.Watches.{is_watched, watched_variables}
use Rattle.hz_gmw.proofs.LeastLemmas.{least-scanned, none-scanned, scanned-more}
use Rattle.hz_gmw.proofs.WatchLemmas.{at-watched_variables, none-watched}
use Rattle.hz_gmw.proofs.watch.Watch.least.Goals.{Start}
use Rattle.hz_gmw.proofs.watch.Watch.least.Goals as goal

pub returns-then-count-eq0 : goal.returns-then-count-eq0
returns-then-count-eq0 c =
    λ i h.
    let net = network_of c.args.net.now in
    let current = c.args.current.now in
    let watch = c.args.self.now in
    let none : count_by (is_watched net current.input.items current.state.items (bit_at watch.changed) (bit_at watch.been_stable)) (range_with_len 0 (length net)) ≡ 0 = omega (arith, c.if-count-eq0.true, c.count.ensures) in
    false≢true (sym (none-watched net current.input.items current.state.items (bit_at watch.changed) (bit_at watch.been_stable) i none h.0) ∙
    (sym (at-watched_variables net current.input.items current.state.items (bit_at watch.changed) (bit_at watch.been_stable) i h.0) ∙ h.1))

-- what is watched, as the bits say it, passes the test
right :
    (c : Start) (i : ℕ) → i < length (network_of c.args.net.now) →
    bit_at (watched_variables (network_of c.args.net.now) c.args.current.now.input.items c.args.current.now.state.items (bit_at c.args.self.now.changed) (bit_at c.args.self.now.been_stable)) i
    ≡ is_watched (network_of c.args.net.now) c.args.current.now.input.items c.args.current.now.state.items (bit_at c.args.self.now.changed) (bit_at c.args.self.now.been_stable) i
right c i inside =
    at-watched_variables (network_of c.args.net.now) c.args.current.now.input.items c.args.current.now.state.items (bit_at c.args.self.now.changed) (bit_at c.args.self.now.been_stable) i inside

pub returns-then-contains : goal.returns-then-contains
returns-then-contains c =
    let at = right (goal.at.returns-then-contains c).Start in
    let inside : c.loop-var.var < length (network_of c.args.net.now) = omega (arith, c.len-var-end.ensures.len) in
    least-scanned _ _ (length (network_of c.args.net.now)) c.loop-var.var inside (λ i few passes. (few, at i few ∙ passes)) (λ i h. (h.0, sym (at i h.0) ∙ h.1)) c.loop-var.invariant (sym c.contains.ensures ∙ c.if-contains.true)

pub loop-var-preserved : goal.loop-var-preserved
loop-var-preserved c =
    let net = network_of c.args.net.now in
    let current = c.args.current.now in
    let watch = c.args.self.now in
    scanned-more (is_watched net current.input.items current.state.items (bit_at watch.changed) (bit_at watch.been_stable)) c.loop-var.var c.loop-var.invariant (sym c.contains.ensures ∙ c.if-contains.false)

pub returns : goal.returns
returns c =
    let at = right (goal.at.returns c).Start in
    none-scanned _ _ (length (network_of c.args.net.now)) c.loop-var.var (omega (arith, c.len-var-end.ensures.len)) (λ i h. (h.0, sym (at i h.0) ∙ h.1)) c.loop-var.invariant
