-- Letter by letter.
use Rattle.std.proofs.Common.{◌∙◌, ap, arith}
use Rattle.hz_core.specs.Gate.{gate_value}
use Rattle.hz_orders.proofs.Rows.{are-letters_at}
use Rattle.hz_orders.proofs.table.value_at.Goals as goal

pub returns-clause-value : goal.returns-clause-value
returns-clause-value c =
    let stays = c.loop-pin-test.false in
    c.eval.ensures
    ∙ ap (gate_value c.args.gate.now.kind) (are-letters_at c.args.gate.now.pins.now c.args.position.now c.loop-pin.letters c.requires.position (c.loop-pin.invariant.0 ∙ c.requires.letters) (λ i few. c.loop-pin.invariant.1 i (omega (arith, few, stays))))
