-- What both algorithms give is as long as the network.
use Rattle.hz_reach.proofs.ChangeResults.{of-both, change-fixed}
use Rattle.hz_witness.proofs.witness.try_parts.Goals as goal

pub attempt-requires-clause-start : goal.attempt-requires-clause-start
attempt-requires-clause-start c = c.requires.change.of_a.begins.long

pub attempt-requires-clause-input : goal.attempt-requires-clause-input
attempt-requires-clause-input c = c.requires.change.of_a.input_long

pub attempt-requires-clause-a : goal.attempt-requires-clause-a
attempt-requires-clause-a c = (of-both c.keeps_shape.ensures.circuit c.requires.change).turns.long_a

pub attempt-requires-clause-b : goal.attempt-requires-clause-b
attempt-requires-clause-b c = (change-fixed (of-both c.keeps_shape.ensures.circuit c.requires.change)).long
