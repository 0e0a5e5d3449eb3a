use Rattle.hz_vcd.proofs.ValueLaws.{time-parts}
use Rattle.std.proofs.Common.{arith}
use Rattle.hz_vcd.proofs.reading.is_time_by.Goals as goal

pub returns-then-first-eq35 : goal.returns-then-first-eq35
returns-then-first-eq35 c = time-parts c.args.first c.args.rest.now c.args.digits.now c.eq.result (omega arith) c.eq.ensures
