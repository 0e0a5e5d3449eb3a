-- The law is proved for every run text.
use Rattle.hz_run_text.proofs.RunPrintedLaws.{printed-faultless, printed-value}
use Rattle.hz_run_text.proofs.laws.printed_runs_are_read.Goals as goal

pub returns : goal.returns
returns c netlist value circuit usable = (printed-faultless netlist value circuit usable, printed-value netlist value circuit usable)
