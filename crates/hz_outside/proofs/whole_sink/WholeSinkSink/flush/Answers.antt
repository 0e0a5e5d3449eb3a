-- Nothing waits.
use Rattle.hz_outside.proofs.WrittenLemmas.{Took-nothing}
use Rattle.hz_outside.proofs.whole_sink.WholeSinkSink.flush.Goals as goal

pub returns-clause-whole : goal.returns-clause-whole
returns-clause-whole g c = Took-nothing _
