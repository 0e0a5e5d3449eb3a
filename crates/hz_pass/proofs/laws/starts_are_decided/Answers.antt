use Rattle.hz_pass.proofs.Decided.{starts-decided}
use Rattle.hz_pass.proofs.laws.starts_are_decided.Goals as goal

pub returns : goal.returns
returns c = starts-decided
