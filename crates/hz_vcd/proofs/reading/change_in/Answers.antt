-- A variable that is none, one that was changed, or the bit that it has.
use Rattle.std.proofs.Common.{◌≡◌, ◌∙◌, ℕ, not, get_or, sym, ap, arith}
use Rattle.hz_net.specs.Network.{bit_at}
use Rattle.hz_vcd.proofs.ValueLaws.{value-same, value-bit}
use Rattle.hz_vcd.proofs.StepLaws.{not-itself, bits-same}
use Rattle.hz_vcd.proofs.reading.change_in.Goals as goal

pub returns-then-index-state : goal.returns-then-index-state
returns-then-index-state c = λ var below differ is.
    let same = value-same var c.in_ok-bit.var (not (bit_at c.args.state.now var)) c.in_ok-bit.bit c.args.word.now (omega (arith, below, c.requires.few)) c.in_ok-bit.ensures.1 is c.in_ok-bit.ensures.0 in
    absurd (omega (arith, same, below))

pub returns-then-times-index : goal.returns-then-times-index
returns-then-times-index c = λ var below differ is.
    let same = value-same var c.in_ok-bit.var (not (bit_at c.args.state.now var)) c.in_ok-bit.bit c.args.word.now (omega (arith, below, c.requires.few)) c.in_ok-bit.ensures.1 is c.in_ok-bit.ensures.0 in
    let there : get_or c.args.times.now c.in_ok-bit.var 0 ≡ c.args.time = omega arith in
    differ (ap (λ (v : ℕ). get_or c.args.times.now v 0) same ∙ there)

pub returns-then-state-index : goal.returns-then-state-index
returns-then-state-index c = λ var below differ is.
    let same = value-same var c.in_ok-bit.var (not (bit_at c.args.state.now var)) c.in_ok-bit.bit c.args.word.now (omega (arith, below, c.requires.few)) c.in_ok-bit.ensures.1 is c.in_ok-bit.ensures.0 in
    let bit = value-bit var c.in_ok-bit.var (not (bit_at c.args.state.now var)) c.in_ok-bit.bit c.args.word.now is c.in_ok-bit.ensures.0 in
    not-itself (bit_at c.args.state.now var) (bit ∙ sym (bits-same (bit_at c.args.state.now c.in_ok-bit.var) c.in_ok-bit.bit c.if-state-index.true) ∙ ap (bit_at c.args.state.now) (sym same))
