use Rattle.std.proofs.Common.{◌∙◌, sym}
use Rattle.hz_gen.proofs.Numbers.{demo-built}
use Rattle.hz_gen.proofs.circuit.make_circuit.Goals as goal

pub returns : goal.returns
returns c = c.in_ok-add_chain.ensures ∙ sym (demo-built c.args.n c.requires.least c.requires.most)
