use Rattle.hz_pattern_text.proofs.PatternBehindLaws.{moved-answer}
use Rattle.hz_pattern_text.proofs.read.read_rest.Goals as goal

pub returns-in-Err-clause-checked : goal.returns-in-Err-clause-checked
returns-in-Err-clause-checked c = moved-answer c.args.before _ c.in-Err.fault _ c.in-Err.ensures.checked c.fault_or_memory.ensures.moved
