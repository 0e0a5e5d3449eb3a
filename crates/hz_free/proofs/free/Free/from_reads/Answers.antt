-- The finished order, without its wires, is the feedback-free part.
use Rattle.hz_net.specs.Network.{network_of}
use Rattle.hz_free.proofs.Parts.{free-AreMarks, free-IsFreePart, held-cores}
use Rattle.hz_free.proofs.free.Free.from_reads.Goals as goal

pub find_feedback-requires : goal.find_feedback-requires
find_feedback-requires c =
    rw c.as_slice.ensures.value
    (free-AreMarks c.args.net.now c.keep_nodes.ensures.circuit c.place_all.new.unread c.in_ok-order.order.items c.in_ok-order.ensures
    c.in_ok-free.free.items c.in_ok-free.ensures)

pub invariant_of-result : goal.invariant_of-result
invariant_of-result c =
    held-cores (network_of c.args.net.now) c.in_ok-free.free.items c.in_ok-feedback.feedback.cycles c.in_ok-feedback.feedback.cores.items
    (free-AreMarks c.args.net.now c.keep_nodes.ensures.circuit c.place_all.new.unread c.in_ok-order.order.items c.in_ok-order.ensures
    c.in_ok-free.free.items c.in_ok-free.ensures)
    c.in_ok-feedback.ensures

pub returns : goal.returns
returns c =
    rw c.keep_nodes.ensures.nodes
    (free-IsFreePart c.args.net.now c.keep_nodes.ensures.circuit c.place_all.new.unread c.in_ok-order.order.items c.in_ok-order.ensures
    c.in_ok-free.free.items c.in_ok-feedback.feedback.cycles c.in_ok-feedback.feedback.cores.items c.keep_nodes.ensures.whole c.in_ok-free.ensures c.in_ok-feedback.ensures)
