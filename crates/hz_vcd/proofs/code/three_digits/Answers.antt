-- A byte that is no digit, a zero in front, or a code.
use Rattle.std.proofs.Common.{◌/◌, ◌%◌, arith}
use Rattle.hz_vcd.proofs.CodeLemmas.{three-of, three-digits}
use Rattle.hz_vcd.proofs.code.three_digits.Goals as goal

pub returns-in_err-high : goal.returns-in_err-high
returns-in_err-high c =
    rw c.from_residual.ensures (λ var small is.
    let found = three-of c.args.a c.args.b c.args.c var small is in
    c.in_err-high.ensures (var / 94 / 94) (omega (arith, small)) found.0)

pub returns-in_err-middle : goal.returns-in_err-middle
returns-in_err-middle c =
    rw c.from_residual-in_err-middle.ensures (λ var small is.
    let found = three-of c.args.a c.args.b c.args.c var small is in
    c.in_err-middle.ensures (var / 94 % 94) (omega arith) found.1)

pub returns-in_err-low : goal.returns-in_err-low
returns-in_err-low c =
    rw c.from_residual-in_err-low.ensures (λ var small is.
    let found = three-of c.args.a c.args.b c.args.c var small is in
    c.in_err-low.ensures (var % 94) (omega arith) found.2)

pub returns-then-high-eq0 : goal.returns-then-high-eq0
returns-then-high-eq0 c = λ var small is.
    let found = three-of c.args.a c.args.b c.args.c var small is in
    absurd (omega (arith, found.0, found.3, c.in_ok-high.ensures.1))

pub returns : goal.returns
returns c =
    let high = c.in_ok-high.high in
    let middle = c.in_ok-middle.middle in
    let low = c.in_ok-low.low in (
      three-digits high middle low c.args.a c.args.b c.args.c c.in_ok-high.ensures.0 c.in_ok-middle.ensures.0 c.in_ok-low.ensures.0
          (λ e. absurd (omega (arith, e))) c.in_ok-high.ensures.1 c.in_ok-middle.ensures.1 c.in_ok-low.ensures.1,
      omega (arith, c.in_ok-high.ensures.0, c.in_ok-middle.ensures.0, c.in_ok-low.ensures.0),
    )
