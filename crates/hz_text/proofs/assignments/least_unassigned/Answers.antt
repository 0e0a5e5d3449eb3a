use Rattle.std.proofs.Common.{◌<◌, length, arith}
use Rattle.hz_text.proofs.assignments.least_unassigned.Goals as goal

pub overflow_cast-result : goal.overflow_cast-result
overflow_cast-result c =
    let within : c.in-Some.node < length c.as_slice.result.now = c.in-Some.ensures.within in
    omega (arith, within, c.as_slice.ensures.len, c.in_ok-listed.ensures.len, c.ranges.nodes)
