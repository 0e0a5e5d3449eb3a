use Rattle.hz_vcd.proofs.CodeLemmas.{one-read}
use Rattle.hz_vcd.proofs.code.one_digit.Goals as goal

pub returns : goal.returns
returns c = one-read c.args.a c.digit_of.result c.digit_of.ensures
