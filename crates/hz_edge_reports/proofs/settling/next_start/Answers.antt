-- No variable is X: either none is unstable, or one is the first.
use Rattle.hz_edge_reports.proofs.NextStart.{starts-or-stops}
use Rattle.hz_edge_reports.proofs.settling.next_start.Goals as goal

pub returns : goal.returns
returns c =
    starts-or-stops c.args.net.now c.args.input.now c.settle.new.state c.args.ends.now c.keeps_shape.ensures.circuit c.requires.input c.requires.ends
    (c.in_default.ensures) c.first_unstable.result c.first_unstable.ensures
