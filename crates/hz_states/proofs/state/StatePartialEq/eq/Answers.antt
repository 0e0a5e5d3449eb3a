use Rattle.std.proofs.Common.{◌∙◌}
use Rattle.hz_states.proofs.PackingLemmas.{other-count, same-bytes}
use Rattle.hz_states.proofs.state.StatePartialEq.eq.Goals as goal

pub returns-then-self-other : goal.returns-then-self-other
returns-then-self-other c =
    rw (← c.self.view_is, ← c.other.view_is) (c.eq.ensures
    ∙ same-bytes c.self.inside.count c.other.inside.count c.self.inside.bytes.items c.other.inside.bytes.items c.self.invariant c.other.invariant c.if-self-other.true)

pub returns-else-self-other : goal.returns-else-self-other
returns-else-self-other c =
    rw (← c.self.view_is, ← c.other.view_is)
    (other-count c.self.inside.count c.other.inside.count c.self.inside.bytes.items c.other.inside.bytes.items c.self.invariant c.other.invariant c.if-self-other.false)
