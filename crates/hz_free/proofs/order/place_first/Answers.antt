-- A variable that reads nothing comes next.
use Rattle.std.proofs.Common.{arith, ◌≡◌, ◌∙◌, length, ap}
use Rattle.hz_net.specs.Network.{network_of}
use Rattle.hz_net.specs.Reads.{readers_of}
use Rattle.hz_free.proofs.Counting.{first-more, first-same, first-ordering}
use Rattle.hz_free.proofs.order.place_first.Goals as goal
use Rattle.hz_free.proofs.order.place_first.Goals.{then-unread-var-eq0+in-Ok-push, else-unread-var-eq0}

pub loop-var-preserved : goal.loop-var-preserved
loop-var-preserved c =
    elim c.if-unread-var-eq0.branch [
      | then-unread-var-eq0+in-Ok-push w ↦
          let items = ap (λ order. order.items) w.order-is ∙ w.in-Ok-push.ensures.items in
          rw items (first-more (readers_of c.args.net.now) (length (network_of c.args.net.now)) c.args.unread.now c.loop-var.var c.loop-var.order.items c.loop-var.invariant w.if-unread-var-eq0.true)
      | else-unread-var-eq0 w ↦
          rw w.order-is (first-same (readers_of c.args.net.now) (length (network_of c.args.net.now)) c.args.unread.now c.loop-var.var c.loop-var.order.items c.loop-var.invariant w.if-unread-var-eq0.false)
    ]

pub returns : goal.returns
returns c =
    let all : c.loop-var.var ≡ length (network_of c.args.net.now) = omega arith in
    first-ordering (readers_of c.args.net.now) (length (network_of c.args.net.now)) c.args.unread.now c.loop-var.order.items c.requires
    (rw all at c.loop-var.invariant)
