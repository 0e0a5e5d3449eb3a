use Rattle.hz_netlist.proofs.Circuits.{built_circuit, whole}
use Rattle.hz_blif.specs.Circuit.{elements_of_lines}
use Rattle.hz_blif.specs.Line.{lines_in}
use Rattle.hz_blif.proofs.WiredText.{wired-text}
use Rattle.hz_blif.proofs.laws.faultless_text_is_circuit.Goals as goal

pub returns : goal.returns
returns c =
    λ text faultless.
    let wired = wired-text text faultless in
    (built_circuit (elements_of_lines (lines_in text)) wired, whole (elements_of_lines (lines_in text)) wired)
