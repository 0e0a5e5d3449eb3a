-- The law says which orders are used.
use Rattle.std.proofs.Common.{arith}
use Rattle.hz_edge_reports.proofs.UsedMore.{wire-inside, used-order, idle-order, not-both}
use Rattle.hz_edge_reports.proofs.using.add_order.Goals as goal

pub is_used-requires-clause-start : goal.is_used-requires-clause-start
is_used-requires-clause-start c =
    omega (arith, wire-inside c.args.known.now.net.now c.requires.order.gate c.args.order.first c.requires.known.circuit c.requires.order.first, c.requires.known.start.long)

pub is_used-requires-clause-b : goal.is_used-requires-clause-b
is_used-requires-clause-b c =
    omega (arith, wire-inside c.args.known.now.net.now c.requires.order.gate c.args.order.first c.requires.known.circuit c.requires.order.first, c.requires.known.b_long)

pub returns-then-not-is_used : goal.returns-then-not-is_used
returns-then-not-is_used c =
    let known = c.args.known.now in
    let law = c.used_by_b.ensures known.net.now known.input.now known.start.now c.requires.known.a known.b.now c.args.order c.requires.known.circuit c.requires.known.start c.requires.known.of_a c.requires.known.of_b in
    idle-order known c.args.order c.args.found.now.items (λ is. not-both c.is_used.result (c.is_used.ensures.idle (law.1 is)) c.if-not-is_used.true)

pub returns : goal.returns
returns c =
    let known = c.args.known.now in
    let law = c.used_by_b.ensures known.net.now known.input.now known.start.now c.requires.known.a known.b.now c.args.order c.requires.known.circuit c.requires.known.start c.requires.known.of_a c.requires.known.of_b in
    used-order known c.args.order c.args.found.now.items c.push.new.self.items c.in_ok-push.ensures.items (law.0 (c.is_used.ensures.used c.if-not-is_used.false))
