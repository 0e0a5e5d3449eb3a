-- What a sequence is once its finding is no longer borrowed.
use Rattle.std.specs.Prelude.{[]}
use Rattle.std.specs.Borrow.{MutBor, Fml}
use Rattle.std.specs.Io.BufRead.{Rests}
use mir.Syntax.{named}
use Rattle.hz_seq.specs.Sequence.{SequenceState}
use Rattle.hz_seq.specs.contracts.sequence.Sequence.{the_row}

-- It has this property. `named 0` is the place of the network's lifetime in the signature.
abbrev pub LeavesSequence : MutBor SequenceState → (SequenceState → Type 0) → Fml
LeavesSequence sequence holds = Rests (the_row (record { mir = named 0; lft = [] })) sequence holds
