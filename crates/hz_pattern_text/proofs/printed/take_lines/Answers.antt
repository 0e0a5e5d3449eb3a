-- The lines behind those of the front.
use Rattle.std.proofs.Common.{◌≡◌, ◌∙◌, ◌+◌, ◌*◌, ◌/◌, [], ap, arith, length, rules, sym}
use Rattle.std.proofs.Math.Nat.{div-mul-le_self, zero-mul}
use Rattle.std.proofs.lemmas.Nat.{mul-le}
use Rattle.hz_pattern_text.proofs.PatternModelLaws.{none_or_line, lines_taken}
use Rattle.hz_pattern_text.proofs.printed.take_lines.Goals as goal

pub overflow_mul-width : goal.overflow_mul-width
overflow_mul-width c = omega (arith, c.requires.few)

pub overflow_add-width : goal.overflow_add-width
overflow_add-width c = omega (arith, c.requires.few)

pub push_front-requires-clause-room : goal.push_front-requires-clause-room
push_front-requires-clause-room c =
    let w = 10 + 2 * c.args.inputs in
    let long = length c.args.text.now in
    omega (arith, div-mul-le_self long w, mul-le c.min-most.result w (long / w) w (omega (arith, c.min-most.ensures)) (omega arith))

pub returns-in_default-clause-counted : goal.returns-in_default-clause-counted
returns-in_default-clause-counted c =
    let none : c.clear.new.self.items ≡ [] = search rules in
    record { few = omega arith; long = ap length none ∙ sym (zero-mul (2 * c.args.inputs)) }

pub returns : goal.returns
returns c =
    let w = 10 + 2 * c.args.inputs in
    let long = length c.args.text.now in
    let count = c.in-Ok.count in
    let front = c.args.front.now in
    let is = lines_taken c.args.inputs front.count count front.bits.items c.push_front.new.bits.items c.args.text.now c.requires.counted.long c.in-Ok.ensures.added in
    record {
      counted = record { few = omega (arith, c.in-Ok.ensures.count, c.min-most.ensures, c.requires.counted.few); long = is.long };
      inside = omega (arith, div-mul-le_self long w, mul-le count w (long / w) w (omega (arith, c.in-Ok.ensures.count, c.min-most.ensures)) (omega arith));
      whole = none_or_line count w;
      behind = is.behind;
    }
