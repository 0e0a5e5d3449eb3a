use Rattle.hz_vcd.proofs.DumpLaws.{no_fault}
use Rattle.hz_vcd.proofs.dumps_have_no_fault.Goals as goal

pub returns : goal.returns
returns c = λ netlist words state steps number dump fault. no_fault netlist words state steps number dump fault
