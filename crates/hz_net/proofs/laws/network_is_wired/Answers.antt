use Rattle.hz_net.proofs.Wired.{wired-network_of}
use Rattle.hz_net.proofs.Readers.{AreReaders-readers_of}
use Rattle.hz_net.proofs.laws.network_is_wired.Goals as goal

pub returns-clause-wired : goal.returns-clause-wired
returns-clause-wired c = λ netlist circuit. wired-network_of netlist circuit

pub returns-clause-readers : goal.returns-clause-readers
returns-clause-readers c = λ netlist i circuit inside. AreReaders-readers_of netlist circuit i inside
