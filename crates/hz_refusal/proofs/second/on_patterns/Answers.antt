-- The text has a fault, or the job does its part with the patterns.
use Rattle.std.proofs.Common.{inl, inr, refl, codes}
use Rattle.hz_pattern_text.specs.PatternFault.{HasPatternFault}
use Rattle.hz_refusal.specs.Second.{OfPatterns}
use Rattle.hz_refusal.specs.Refused.{TextPrints}
use Rattle.hz_refusal.proofs.PutEndings.{Ends-more}
use Rattle.hz_refusal.proofs.RefusedTexts.{text-refused, told-line}
use Rattle.hz_refusal.proofs.NamedNodes.{patterns-node}
use Rattle.hz_refusal.proofs.second.on_patterns.Goals as goal

pub with_patterns-requires : goal.with_patterns-requires
with_patterns-requires g c = rw c.requires.netlist at c.in-Ok.ensures.usable

pub returns-in-Ok-clause-ends : goal.returns-in-Ok-clause-ends
returns-in-Ok-clause-ends g c =
    let judges = g.J.OnPatterns.judges c.args.job.now in
    Ends-more g.K.Sink.output g.K.Sink.faults (judges c.args.net.now c.in-Ok.patterns) (OfPatterns judges c.args.net.now c.args.reader.received) c.args.out.now c.with_patterns.new.out c.with_patterns.result
    (λ own text says. inr (c.in-Ok.patterns, rw c.requires.netlist at c.in-Ok.ensures.faultless, rw c.requires.netlist at c.in-Ok.ensures.value, says)) c.with_patterns.ensures

pub refuse_text-requires : goal.refuse_text-requires
refuse_text-requires g c =
    rw c.circuit.ensures.same (patterns-node c.args.net.now c.args.reader.received c.in-Err.fault (rw c.requires.netlist at c.in-Err.ensures.fault))

pub returns-in-Err-clause-ends : goal.returns-in-Err-clause-ends
returns-in-Err-clause-ends g c =
    let judges = g.J.OnPatterns.judges c.args.job.now in
    Ends-more g.K.Sink.output g.K.Sink.faults (TextPrints (codes "patterns") c.args.net.now c.in-Err.fault) (OfPatterns judges c.args.net.now c.args.reader.received) c.args.out.now c.refuse_text.new.out c.refuse_text.result
    (λ own text says. inl (c.in-Err.fault, text-refused (HasPatternFault c.args.net.now c.args.reader.received) c.in-Err.fault (rw c.requires.netlist at c.in-Err.ensures.fault) says.0, says.1)) (rw c.circuit.ensures.same at c.refuse_text.ensures.ends)

pub returns-in-Ok-clause-line : goal.returns-in-Ok-clause-line
returns-in-Ok-clause-line g c = inr (inl (rw c.requires.netlist at c.in-Ok.ensures.faultless), refl)

pub returns-in-Err-clause-line : goal.returns-in-Err-clause-line
returns-in-Err-clause-line g c =
    told-line (HasPatternFault c.args.net.now c.args.reader.received) c.in-Err.fault c.refuse_text.result c.line.result (rw c.requires.netlist at c.in-Err.ensures.fault) c.refuse_text.ensures.memory c.line.ensures
