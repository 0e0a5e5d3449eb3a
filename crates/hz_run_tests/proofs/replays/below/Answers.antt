use Rattle.std.proofs.Common.{◌<◌, ℕ, sym, take, arith}
use Rattle.std.proofs.lemmas.List.{take_all}
use Rattle.std.proofs.lemmas.List.Elements.{All-more, All-same}
use Rattle.hz_run_tests.proofs.replays.below.Goals as goal

pub loop-var-preserved : goal.loop-var-preserved
loop-var-preserved c =
    All-more (λ (var : ℕ). var < c.args.bound) c.args.list.now c.loop-var.var-index 0 (omega arith) c.loop-var.invariant (omega arith)

pub returns : goal.returns
returns c =
    λ is. All-same (λ (var : ℕ). var < c.args.bound) c.args.list.now (take c.loop-var.var-index c.args.list.now) (sym (take_all c.loop-var.var-index c.args.list.now (omega arith))) c.loop-var.invariant
