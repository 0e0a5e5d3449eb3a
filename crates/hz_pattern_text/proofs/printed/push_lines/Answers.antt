-- The bits of one line more.
use Rattle.std.proofs.Common.{◌≡◌, ◌∙◌, ◌++◌, ◌+◌, ◌*◌, ◌-◌, ap, sym, arith, append_assoc, List, Bool, take, drop}
use Rattle.hz_pattern_text.specs.PatternModel.{bits_at}
use Rattle.hz_pattern_text.proofs.PatternModelLaws.{bits_at-more}
use Rattle.hz_pattern_text.proofs.printed.push_lines.Goals as goal

pub loop-line-preserved : goal.loop-line-preserved
loop-line-preserved c =
    let n = c.args.inputs in
    let ones = c.args.ones.now in
    let at = c.loop-line.line * (10 + 2 * n) + 5 in
    let next = at + n + 4 in
    let from : at + n - at ≡ n = omega arith in
    let to : next + n - next ≡ n = omega arith in
    let a = rw from at c.in_ok-extend_from_slice.ensures.items in
    let b = rw to at c.in_ok-extend_from_slice-2.ensures.items in
    b
    ∙ ap (λ (front : List Bool). front ++ take n (drop next ones)) (a ∙ ap (λ (front : List Bool). front ++ take n (drop at ones)) c.loop-line.invariant)
    ∙ append_assoc (c.args.bits.now.items ++ bits_at n c.loop-line.line ones) (take n (drop at ones)) (take n (drop next ones))
    ∙ append_assoc c.args.bits.now.items (bits_at n c.loop-line.line ones) (take n (drop at ones) ++ take n (drop next ones))
    ∙ ap (λ (back : List Bool). c.args.bits.now.items ++ back) (sym (bits_at-more n c.loop-line.line ones))
