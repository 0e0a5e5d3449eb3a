-- The number of the state, and its nodes.
use Rattle.std.proofs.Common.{refl, append_assoc, append-nil}
use Rattle.hz_text.specs.Printed.{statement_text}
use Rattle.hz_write.proofs.Writers.{writes_then}
use Rattle.hz_explore.specs.ExploreText.{state_line}
use Rattle.hz_explore.proofs.lines.write_nodes.Goals as goal

pub returns-clause-gave : goal.returns-clause-gave
unfolding state_line statement_text
returns-clause-gave g c = writes_then c.add.ensures (rw c.circuit.ensures.same at c.write_bits.ensures.gave) (simp (append_assoc, append-nil) refl)
