-- The lines of each run.
use Rattle.std.proofs.Common.{◌≡◌, ◌∙◌, ◌<◌, ℕ, List, length, take, map, sym, ap, arith}
use Rattle.hz_changes.proofs.Words.{flat_map, take-length, writes_then, run_text, closed}
use Rattle.hz_write.proofs.Writers.{writes_same}
use Rattle.hz_changes.proofs.SplitLines.{closed-more}
use Rattle.hz_changes.proofs.splitting.write_found.Goals as goal

pub loop-number-preserved : goal.loop-number-preserved
loop-number-preserved g c =
    let found = c.args.split.now.found in
    let number = c.loop-number.number in
    let below : number < length found = omega (arith, c.loop-number-test.true, c.found-number-end.ensures) in
    let line = rw (c.run.ensures, c.requires.no_step) at c.write_run.ensures.gave in (
      writes_then c.loop-number.invariant.0 line (sym (closed-more (run_text c.args.net.now) found number below)),
      c.write_run.ensures.none_waits,
    )

pub returns-clause-gave : goal.returns-clause-gave
returns-clause-gave g c =
    let found = c.args.split.now.found in
    let end : c.loop-number.number ≡ length found = omega (arith, c.loop-number-test.false, c.loop-number.auto.number-end, c.found-number-end.ensures) in
    writes_same c.loop-number.invariant.0 (ap (λ (n : ℕ). flat_map (run_text c.args.net.now) (map closed (take n found))) end ∙ ap (λ (runs : List (List (List ℕ))). flat_map (run_text c.args.net.now) (map closed runs)) (take-length found))
