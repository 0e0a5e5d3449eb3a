-- The bit of the variable, another word or none.
use Rattle.std.proofs.Common.{◌≡◌, ◌∙◌, ℕ, ap, arith}
use Rattle.hz_vcd.specs.Dump.{value_word}
use Rattle.hz_vcd.proofs.ValueLaws.{value-past, value-wrong, value-end, value-same}
use Rattle.hz_vcd.proofs.reading.read_value.Goals as goal

pub returns-in_default : goal.returns-in_default
returns-in_default c = λ variables known long below.
    value-end variables c.args.var known long below c.args.words.now c.number-token.result c.in_default.ensures.0 c.number-token.ensures.number

pub returns-in_default-value_in : goal.returns-in_default-value_in
returns-in_default-value_in c = λ variables known long below.
    value-wrong variables c.args.var known long below c.args.words.now c.number-token.result c.in-Some.word.now _ c.in-Some.ensures.0 c.number-token.ensures.number
    (λ bit. c.in_default-value_in.ensures c.args.var bit c.requires)

pub returns-then-found-var : goal.returns-then-found-var
returns-then-found-var c = λ variables known long below.
    value-wrong variables c.args.var known long below c.args.words.now c.number-token.result c.in-Some.word.now _ c.in-Some.ensures.0 c.number-token.ensures.number
    (λ bit is.
    let same = value-same c.args.var c.in-Some-value_in.found bit c.in-Some-value_in.bit c.in-Some.word.now (omega (arith, c.requires)) c.in-Some-value_in.ensures.1 is c.in-Some-value_in.ensures.0 in
    absurd (omega (arith, same)))

pub returns : goal.returns
returns c = λ variables known long below.
    let same : c.args.var ≡ c.in-Some-value_in.found = omega arith in
    value-past variables c.args.var known long below c.args.words.now c.next.new.self c.in-Some.word.now c.in-Some-value_in.bit c.in-Some.ensures.0 c.in-Some.ensures.1
    (ap (λ (var : ℕ). value_word var c.in-Some-value_in.bit) same ∙ c.in-Some-value_in.ensures.0)
