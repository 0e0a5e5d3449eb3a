-- All that the writer was given.
use Rattle.std.proofs.Common.{refl, rules}
use Rattle.hz_write.proofs.Writers.{writes_then, wrote_whole}
use Rattle.hz_run_text.specs.RunPrinted.{run_text_printed}
use Rattle.hz_run_text.proofs.print.write_run_text.Goals as goal

pub returns-clause-wrote : goal.returns-clause-wrote
unfolding run_text_printed
returns-clause-wrote g c =
    let states = rw (c.circuit.ensures.same, c.nodes.ensures, c.input.ensures) at c.write_states.ensures.gave in
    let lines = writes_then (writes_then states c.write_all.ensures.gave refl) c.write_end.ensures.gave refl in
    let wrote = wrote_whole _ _ _ _ _ _ _ _ c.new-writer.ensures.begins lines c.finish.ensures in
    search rules
