use Rattle.std.proofs.Common.{inr}
use Rattle.hz_blif.proofs.CheckLaws.{found-again, found-construct, found-excess, found-name, found-row}
use Rattle.hz_blif.proofs.reading.check_notes.Goals as goal

pub returns-in-Some-clause-fault : goal.returns-in-Some-clause-fault
returns-in-Some-clause-fault c = λ text is. inr (found-name text c.args.draft.now c.in-Some.line is c.in-Some.is)

pub returns-in-Some-construct-clause-fault : goal.returns-in-Some-construct-clause-fault
returns-in-Some-construct-clause-fault c = λ text is. inr (found-construct text c.args.draft.now c.in-Some-construct.line is c.in_default.is c.in-Some-construct.is)

pub returns-in-Some-again-clause-fault : goal.returns-in-Some-again-clause-fault
returns-in-Some-again-clause-fault c = λ text is. inr (found-again text c.args.draft.now c.in-Some-again.again is c.in_default.is c.in_default-construct.is c.in-Some-again.is)

pub returns-in-Some-wrong_row-clause-fault : goal.returns-in-Some-wrong_row-clause-fault
returns-in-Some-wrong_row-clause-fault c = λ text is. inr (found-row text c.args.draft.now c.in-Some-wrong_row.line is c.in_default.is c.in_default-construct.is c.in_default-again.is c.in-Some-wrong_row.is)

pub returns-in-Some-excess-clause-fault : goal.returns-in-Some-excess-clause-fault
returns-in-Some-excess-clause-fault c = λ text is.
    inr (found-excess text c.args.draft.now c.in-Some-excess.excess is c.in_default.is c.in_default-construct.is c.in_default-again.is c.in_default-wrong_row.is c.in-Some-excess.is)
