-- One bit after the other.
use Rattle.std.proofs.Common.{◌+◌, [], ◌∷◌, ◌++◌, arith, length-append}
use Rattle.hz_vcd.specs.Reading.{Values, AllRead}
use Rattle.hz_vcd.proofs.ReadingLaws.{past-past, past-fails, match-exit}
use Rattle.hz_vcd.proofs.reading.read_values.Goals as goal

pub loop-var-preserved : goal.loop-var-preserved
loop-var-preserved c =
    let variables = c.args.variables in
    let var = c.loop-var.var in
    let known = c.loop-var.state.items in
    let bit = c.in_ok-bit.bit in
    let past = past-past (Values variables 0 []) c.args.words.now (Values variables var known) c.loop-var.words (Values variables (var + 1) (known ++ bit ∷ [])) c.read_value.new.words
    c.loop-var.invariant.past (c.in_ok-bit.ensures variables known c.loop-var.invariant.long (omega arith)) in
    rw c.in-Ok.ensures.items record {
      long = omega (arith, length-append known (bit ∷ []), c.loop-var.invariant.long);
      past = past;
    }

pub returns-in_err-bit : goal.returns-in_err-bit
returns-in_err-bit c =
    let variables = c.args.variables in
    let var = c.loop-var.var in
    let known = c.loop-var.state.items in
    let why = c.in_err-bit.field-0.0 in
    match-exit why (Values variables 0 []) c.args.words.now (λ state. AllRead variables c.args.words.now c.read_value.new.words state.items) c.from_residual.result c.from_residual.ensures.1
    (past-fails (Values variables 0 []) c.args.words.now (Values variables var known) c.loop-var.words why c.loop-var.invariant.past
    (c.in_err-bit.ensures variables known c.loop-var.invariant.long (omega arith)))
