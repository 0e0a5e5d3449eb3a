-- The lines before the bits, the bits, and the line behind them.
use Rattle.std.proofs.Common.{refl}
use Rattle.hz_write.proofs.Writers.{writes_then}
use Rattle.hz_vcd.proofs.LineLemmas.{state-lines}
use Rattle.hz_vcd.proofs.writing.write_state.Goals as goal

pub returns-clause-gave : goal.returns-clause-gave
returns-clause-gave g c =
    let front = writes_then (writes_then c.line.ensures.gave c.line-2.ensures.gave refl) c.write_values.ensures.gave refl in
    writes_then front c.line-3.ensures.gave (state-lines c.args.state.now)
