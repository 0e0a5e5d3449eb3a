use Rattle.hz_core.proofs.Kleene.{and-zero, and-unknown, and-one}
use Rattle.hz_core.proofs.kind.conjunction.Goals as goal

pub returns-then-not-all_admit : goal.returns-then-not-all_admit
returns-then-not-all_admit c = and-zero c.args.pins.now c.all_admit.result c.all_admit.ensures c.if-not-all_admit.true

pub returns-then-some_admits : goal.returns-then-some_admits
returns-then-some_admits c =
    and-unknown c.args.pins.now c.all_admit.result c.some_admits.result c.all_admit.ensures c.if-not-all_admit.false c.some_admits.ensures c.if-some_admits.true

pub returns-else-some_admits : goal.returns-else-some_admits
returns-else-some_admits c =
    and-one c.args.pins.now c.all_admit.result c.some_admits.result c.all_admit.ensures c.if-not-all_admit.false c.some_admits.ensures c.if-some_admits.false
