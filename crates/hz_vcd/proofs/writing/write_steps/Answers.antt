-- One step after the other.
use Rattle.std.proofs.Common.{◌+◌, ◌<◌, ◌∙◌, Bool, List, length, sym, ap, arith}
use Rattle.hz_write.proofs.Writers.{writes_then, writes_same}
use Rattle.hz_gmw.specs.Runs.{state_after}
use Rattle.hz_vcd.specs.Dump.{dump_step}
use Rattle.hz_vcd.specs.Printed.{word_lines}
use Rattle.hz_vcd.proofs.LineLemmas.{steps-more, end-more}
use Rattle.hz_vcd.proofs.writing.write_steps.Goals as goal

pub loop-number-preserved : goal.loop-number-preserved
loop-number-preserved g c =
    let steps = c.args.run.now.steps in
    let number = c.loop-number.number in
    let there : number < length steps = omega arith in
    let is = sym c.step-flips.ensures in
    record {
      gave = writes_then c.loop-number.invariant.gave
          (writes_same c.write_step.ensures.gave (ap (λ (state : List Bool). word_lines (dump_step (c.args.time + number) state c.step-flips.result.now)) c.loop-number.invariant.state))
          (steps-more c.args.time c.args.state.now steps number c.step-flips.result.now there is);
      state = c.flip.ensures ∙ ap (state_after c.step-flips.result.now) c.loop-number.invariant.state ∙ end-more c.args.state.now steps number c.step-flips.result.now there is;
      waits = λ _. c.write_step.ensures.none_waits;
    }
