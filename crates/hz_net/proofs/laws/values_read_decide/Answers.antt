use Rattle.hz_net.proofs.Readers.{driver_value-same, driver_value3-same}
use Rattle.hz_net.proofs.laws.values_read_decide.Goals as goal

pub returns-clause-binary : goal.returns-clause-binary
returns-clause-binary c = driver_value-same

pub returns-clause-ternary : goal.returns-clause-ternary
returns-clause-ternary c = driver_value3-same
