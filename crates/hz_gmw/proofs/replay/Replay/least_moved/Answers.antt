use Rattle.std.proofs.Common.{◌≡◌, ◌≢◌, ◌∙◌, sym, ap, subst, Bool, not, List, None}
use Rattle.std.specs.Bool.{beq}
use Rattle.hz_net.specs.Network.{bit_at}
use Rattle.hz_lists.specs.Least.{IsLeastOf}
use Rattle.hz_gmw.specs.LeastListed.{least_from}
use Rattle.hz_gmw.specs.Replayer.{Replayer}
use Rattle.hz_gmw.proofs.ReplayLemmas.{least-moved}
use Rattle.hz_gmw.proofs.replay.Replay.least_moved.Goals as goal

pub returns : goal.returns
returns c =
    let state = c.self.inside.current.state.items in
    let marked = c.self.inside.marked.items in
    let list = c.members.result.now in
    let found : c.least_differing.result ≡ least_from None (λ var. not (beq (bit_at state var) (bit_at marked var))) list =
    c.least_differing.ensures ∙
    (ap (λ (left : List Bool). least_from None (λ var. not (beq (bit_at left var) (bit_at c.as_slice-2.result.now var))) list) c.as_slice.ensures.value ∙
    ap (λ (right : List Bool). least_from None (λ var. not (beq (bit_at state var) (bit_at right var))) list) c.as_slice-2.ensures.value) in
    subst (λ (now : Replayer). IsLeastOf (λ i. bit_at now.state i ≢ bit_at now.marked i) c.least_differing.result) c.self.view_is
    (subst (IsLeastOf (λ i. bit_at state i ≢ bit_at marked i)) (sym found)
    (least-moved state marked c.self.inside.watch.changed list c.members.ensures c.self.invariant.same))
