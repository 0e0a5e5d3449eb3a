-- What a reader makes of the text as its one part.
use Rattle.std.proofs.Common.{◌≤◌, length, sym, subst}
use Rattle.std.specs.Prelude.{IfOk, IfErr, OnOk}
use Rattle.hz_line.specs.Line.{most_text_bytes}
use Rattle.hz_pattern_text.specs.PatternFault.{IsPatternFaultless, IsPatternRefusal, IsLeastPatternFault}
use Rattle.hz_pattern_text.specs.PatternReading.{PatternsReceived}
use Rattle.hz_pattern_text.specs.PatternText.{IsPatternsValue, ArePatternsFor}
use Rattle.hz_pattern_text.proofs.PatternModelLaws.{is_received}
use Rattle.hz_pattern_text.proofs.read.read_patterns.Goals as goal

pub finish-requires : goal.finish-requires
finish-requires c =
    let is = is_received c.args.circuit.now c.args.text.now c.in_ok-reader.reader c.take_part.new.self c.in_ok-reader.ensures c.in_ok-take_part.ensures.received c.in_ok-take_part.ensures.netlist in
    subst (λ (all : PatternsReceived). length all.received ≤ most_text_bytes) (sym is) c.requires

pub returns-clause-value : goal.returns-clause-value
returns-clause-value c =
    let is = is_received c.args.circuit.now c.args.text.now c.in_ok-reader.reader c.take_part.new.self c.in_ok-reader.ensures c.in_ok-take_part.ensures.received c.in_ok-take_part.ensures.netlist in
    subst (λ (all : PatternsReceived). IfOk c.finish.result (IsPatternsValue all.netlist all.received)) is c.finish.ensures.value

pub returns-clause-usable : goal.returns-clause-usable
returns-clause-usable c =
    let is = is_received c.args.circuit.now c.args.text.now c.in_ok-reader.reader c.take_part.new.self c.in_ok-reader.ensures c.in_ok-take_part.ensures.received c.in_ok-take_part.ensures.netlist in
    subst (λ (all : PatternsReceived). IfOk c.finish.result (ArePatternsFor all.netlist)) is c.finish.ensures.usable

pub returns-clause-faultless : goal.returns-clause-faultless
returns-clause-faultless c =
    let is = is_received c.args.circuit.now c.args.text.now c.in_ok-reader.reader c.take_part.new.self c.in_ok-reader.ensures c.in_ok-take_part.ensures.received c.in_ok-take_part.ensures.netlist in
    subst (λ (all : PatternsReceived). OnOk c.finish.result (IsPatternFaultless all.netlist all.received)) is c.finish.ensures.faultless

pub returns-clause-fault : goal.returns-clause-fault
returns-clause-fault c =
    let is = is_received c.args.circuit.now c.args.text.now c.in_ok-reader.reader c.take_part.new.self c.in_ok-reader.ensures c.in_ok-take_part.ensures.received c.in_ok-take_part.ensures.netlist in
    subst (λ (all : PatternsReceived). IfErr c.finish.result (IsPatternRefusal all.netlist all.received)) is c.finish.ensures.fault

pub returns-clause-exact : goal.returns-clause-exact
returns-clause-exact c =
    let is = is_received c.args.circuit.now c.args.text.now c.in_ok-reader.reader c.take_part.new.self c.in_ok-reader.ensures c.in_ok-take_part.ensures.received c.in_ok-take_part.ensures.netlist in
    λ fault h. c.finish.ensures.exact fault (subst (λ (all : PatternsReceived). IsLeastPatternFault all.netlist all.received fault) (sym is) h)
