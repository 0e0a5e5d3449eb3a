use Rattle.std.proofs.Common.{take}
use Rattle.std.proofs.lemmas.List.{take_more}
use Rattle.hz_text.proofs.BuildLemmas.{pairs-push}
use Rattle.hz_text.proofs.bits.read_pairs.Goals as goal

pub loop-assigned-preserved : goal.loop-assigned-preserved
loop-assigned-preserved c =
    let all = c.args.all.now in
    let i = c.loop-assigned.assigned-index in
    let one = c.assigned-item.result in
    rw (c.in_ok-push_pair.ensures, c.loop-assigned.invariant, take_more all i one c.loop-assigned-test.true, ← c.assigned-item.is) (pairs-push (take i all) one)
