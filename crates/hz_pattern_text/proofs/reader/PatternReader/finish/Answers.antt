-- What is read behind the first lines, for all that was received.
use Rattle.std.proofs.Common.{ap, sym, subst, List, ℕ}
use Rattle.std.specs.Prelude.{OnOk}
use Rattle.hz_pattern_text.specs.PatternFault.{IsPatternFaultless, IsLeastPatternFault}
use Rattle.hz_pattern_text.specs.PatternModel.{text_behind}
use Rattle.hz_pattern_text.specs.PatternReading.{PatternsReceived}
use Rattle.hz_pattern_text.proofs.reader.PatternReader.finish.Goals as goal

pub returns-clause-faultless : goal.returns-clause-faultless
returns-clause-faultless c =
    let was = c.self.inside in
    let of : List ℕ → List ℕ = text_behind was.circuit.now.inputs was.front.count was.front.bits.items in
    let P : List ℕ → Type 0 = λ text. OnOk c.read_behind.result (IsPatternFaultless was.circuit.now text) in
    let Q : PatternsReceived → Type 0 = λ all. OnOk c.read_behind.result (IsPatternFaultless all.netlist all.received) in
    subst Q c.self.view_is (subst P (ap of c.as_slice.ensures.value) c.read_behind.ensures.faultless)

pub returns-clause-exact : goal.returns-clause-exact
returns-clause-exact c =
    let was = c.self.inside in
    let of : List ℕ → List ℕ = text_behind was.circuit.now.inputs was.front.count was.front.bits.items in
    λ fault h. let P : List ℕ → Type 0 = λ text. IsLeastPatternFault was.circuit.now text fault in
    let Q : PatternsReceived → Type 0 = λ all. IsLeastPatternFault all.netlist all.received fault in
    c.read_behind.ensures.exact fault (subst P (sym (ap of c.as_slice.ensures.value)) (subst Q (sym c.self.view_is) h))
