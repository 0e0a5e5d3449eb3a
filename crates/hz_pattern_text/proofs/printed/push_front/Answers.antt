-- A block of lines more.
use Rattle.std.proofs.Common.{◌≡◌, ◌∙◌, ◌++◌, ◌+◌, ◌*◌, ◌-◌, ◌≤◌, ap, arith, List, Bool, length, map, take, drop, rules, subst, sym}
use Rattle.std.proofs.lemmas.Nat.{mul-le}
use Rattle.std.proofs.lemmas.List.{length-map}
use Rattle.hz_pattern_text.specs.PatternModel.{bits_at, AreAddedBits}
use Rattle.hz_pattern_text.proofs.PatternModelLaws.{is_one, block_is, block_fits, lines_agree, added-none, added-more}
use Rattle.hz_pattern_text.proofs.printed.push_front.Goals as goal

pub overflow_mul-width : goal.overflow_mul-width
overflow_mul-width c = omega (arith, c.requires.few)

pub overflow_add-width : goal.overflow_add-width
overflow_add-width c = omega (arith, c.requires.few)

pub agree-requires-clause-fits : goal.agree-requires-clause-fits
agree-requires-clause-fits c =
    let w = 10 + 2 * c.args.inputs in
    let is = block_is c.loop-start.start (c.loop-start.start + c.min.result) w c.args.text.now (omega (arith, c.min.ensures, c.loop-start-test.true))
    (omega (arith, c.requires.room, mul-le (c.loop-start.start + c.min.result) w c.args.most w (omega (arith, c.min.ensures)) (omega arith))) in
    rw (c.as_slice.ensures.value, c.requires.zeros.model)
    (omega (arith, is.long, block_fits c.args.inputs c.loop-start.start (c.loop-start.start + c.min.result) c.args.zeros.now.lines (omega (arith, c.min.ensures))))

pub push_lines-requires : goal.push_lines-requires
push_lines-requires c =
    let w = 10 + 2 * c.args.inputs in
    let is = block_is c.loop-start.start (c.loop-start.start + c.min.result) w c.args.text.now (omega (arith, c.min.ensures, c.loop-start-test.true))
    (omega (arith, c.requires.room, mul-le (c.loop-start.start + c.min.result) w c.args.most w (omega (arith, c.min.ensures)) (omega arith))) in
    ap length (c.as_slice-in-loop-start-2.ensures.value ∙ c.in_ok-mark_ones.ensures) ∙ length-map _ is_one ∙ is.long

pub loop-start-init : goal.loop-start-init
loop-start-init c =
    let old = c.args.bits.now.items in
    let same : c.reserve.new.self.items ≡ old = search rules in
    let P : List Bool → Type 0 = λ bits. AreAddedBits c.args.inputs 0 old bits (take (0 * (10 + 2 * c.args.inputs)) c.args.text.now) in
    (omega arith, subst P (sym same) (added-none c.args.inputs old c.args.text.now))

pub loop-start-preserved : goal.loop-start-preserved
loop-start-preserved c =
    let n = c.args.inputs in
    let w = 10 + 2 * n in
    let start = c.loop-start.start in
    let end = (c.loop-start.start + c.min.result) in
    let most = c.args.most in
    let text = c.args.text.now in
    let up : start ≤ end = omega (arith, c.min.ensures, c.loop-start-test.true) in
    let below : end ≤ most = omega (arith, c.min.ensures) in
    let is = block_is start end w text up (omega (arith, c.requires.room, mul-le end w most w below (omega arith))) in
    let block = take (end * w - start * w) (drop (start * w) text) in
    let some : 1 ≤ n = c.requires.some in
    let agrees = rw (c.as_slice.ensures.value, c.requires.zeros.model) at (c.agree.ensures c.if-not-agree.false) in
    let fresh = lines_agree n (end - start) c.args.zeros.now.lines block some (omega (arith, c.min.ensures)) is.long agrees in
    let bits : c.push_lines.new.bits.items ≡ c.loop-start.bits.items ++ bits_at n (end - start) (map is_one block) =
    c.in_ok-push_lines.ensures ∙ ap (λ (ones : List Bool). c.loop-start.bits.items ++ bits_at n (end - start) ones) (c.as_slice-in-loop-start-2.ensures.value ∙ c.in_ok-mark_ones.ensures) in
    (below, rw bits (added-more n start end c.args.bits.now.items c.loop-start.bits.items (bits_at n (end - start) (map is_one block)) (take (start * w) text) block (take (end * w) text) up c.loop-start.invariant.1 fresh is.whole))
