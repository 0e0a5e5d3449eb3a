-- No code is empty or longer.
use Rattle.std.proofs.Common.{arith}
use Rattle.hz_vcd.proofs.CodeLemmas.{other-length}
use Rattle.hz_vcd.proofs.code.read_code.Goals as goal

pub returns-in_default : goal.returns-in_default
returns-in_default c = other-length c.args.code.now (λ e. absurd (omega (arith, e))) (λ e. absurd (omega (arith, e))) (λ e. absurd (omega (arith, e)))

pub returns-in_default-2 : goal.returns-in_default-2
returns-in_default-2 c = other-length c.args.code.now (λ e. absurd (omega (arith, e))) (λ e. absurd (omega (arith, e))) (λ e. absurd (omega (arith, e)))
