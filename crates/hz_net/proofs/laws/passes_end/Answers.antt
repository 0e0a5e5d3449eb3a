-- The sequences of both algorithms come to rest; ranks and settling rounds are read off a sequence that does.
use Rattle.hz_net.proofs.RestRounds.{result_of_a, rounds_of_a, result_of_b, rounds_of_b}
use Rattle.hz_net.proofs.laws.passes_end.Goals as goal

pub returns-clause-a : goal.returns-clause-a
returns-clause-a c = result_of_a

pub returns-clause-b : goal.returns-clause-b
returns-clause-b c = result_of_b

pub returns-clause-few_of_a : goal.returns-clause-few_of_a
returns-clause-few_of_a c = rounds_of_a

pub returns-clause-few_of_b : goal.returns-clause-few_of_b
returns-clause-few_of_b c = rounds_of_b
