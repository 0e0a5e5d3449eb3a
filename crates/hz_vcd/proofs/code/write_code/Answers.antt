-- The code, by how many digits it has.
use Rattle.std.proofs.Common.{arith}
use Rattle.hz_write.proofs.Writers.{writes_same}
use Rattle.hz_vcd.proofs.CodeLemmas.{code-one, code-two, code-three}
use Rattle.hz_vcd.proofs.code.write_code.Goals as goal

pub returns-then-var-lt-BASE : goal.returns-then-var-lt-BASE
returns-then-var-lt-BASE g c = writes_same c.text.ensures (cc (code-one c.args.var (omega arith)))

pub returns-then-var-lt-BASE_SQUARED : goal.returns-then-var-lt-BASE_SQUARED
returns-then-var-lt-BASE_SQUARED g c =
    writes_same c.text-then-var-lt-BASE_SQUARED.ensures (cc (code-two c.args.var (omega arith) (omega arith)))

pub returns-else-var-lt-BASE_SQUARED : goal.returns-else-var-lt-BASE_SQUARED
returns-else-var-lt-BASE_SQUARED g c =
    writes_same c.text-else-var-lt-BASE_SQUARED.ensures (cc (code-three c.args.var (omega arith) (omega arith)))
