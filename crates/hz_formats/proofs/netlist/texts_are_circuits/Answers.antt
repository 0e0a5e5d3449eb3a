use Rattle.hz_formats.proofs.NetlistTexts.{texts-are-circuits}
use Rattle.hz_formats.proofs.netlist.texts_are_circuits.Goals as goal

pub returns : goal.returns
returns c = texts-are-circuits c.faultless_text_is_circuit.ensures c.faultless_text_is_circuit-2.ensures c.stable_states_keep_covers.ensures
