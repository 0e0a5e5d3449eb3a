-- No gate is held.
use Rattle.std.proofs.Common.{◌∙◌, sym}
use Rattle.hz_batch.proofs.HeldLemmas.{listed-no_gate}
use Rattle.hz_batch.proofs.held.held_at_start.Goals as goal

pub returns-in-Reset : goal.returns-in-Reset
returns-in-Reset c = rw c.in-Reset.is (c.new.ensures.items ∙ sym (listed-no_gate 0 c.args.held.now))
