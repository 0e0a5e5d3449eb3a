use Rattle.std.proofs.Common.{◌≡◌, ◌∙◌, ◌&&◌, Bool, true, false, refl, sym}
use Rattle.hz_reach.proofs.Words.{is_unknown, is_gate_in, network_of, value_at}
use Rattle.hz_reach.proofs.passing.has_turn.Goals as goal

and-false : (x y : Bool) → y ≡ false → false ≡ (x && y)
and-false false y none = refl
and-false true y none = sym none

and-true : (x y : Bool) → y ≡ true → x ≡ (x && y)
and-true false y is = refl
and-true true y is = sym is

pub returns-then-not-is_unsettled-clause-turn : goal.returns-then-not-is_unsettled-clause-turn
returns-then-not-is_unsettled-clause-turn c =
    and-false (is_gate_in (network_of c.args.net.now) c.args.var) (is_unknown (value_at c.args.b.now c.args.var)) (sym c.is_unsettled.ensures ∙ c.if-not-is_unsettled.true)

pub returns-clause-turn : goal.returns-clause-turn
returns-clause-turn c =
    c.is_gate.ensures.gate ∙ and-true (is_gate_in (network_of c.args.net.now) c.args.var) (is_unknown (value_at c.args.b.now c.args.var)) (sym c.is_unsettled.ensures ∙ c.if-not-is_unsettled.false)
