-- One number more.
use Rattle.std.proofs.Common.{◌+◌, arith}
use Rattle.hz_orders.proofs.Rows.{more-numbers}
use Rattle.hz_orders.proofs.table.behind_numbers.Goals as goal

pub loop-times-preserved : goal.loop-times-preserved
loop-times-preserved c =
    more-numbers c.loop-times.times (c.loop-times.times + 1) c.args.tails.now c.loop-times.positions c.add_behind.new.positions (omega arith) c.loop-times.invariant c.in_ok-add_behind.ensures
