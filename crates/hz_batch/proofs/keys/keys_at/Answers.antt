use Rattle.std.proofs.Common.{◌∙◌, arith}
use Rattle.std.proofs.lemmas.List.{length-set}
use Rattle.hz_batch.proofs.KeyLemmas.{joined-next, says-joined}
use Rattle.hz_batch.proofs.keys.keys_at.Goals as goal

pub loop-word-preserved : goal.loop-word-preserved
loop-word-preserved c = (
  length-set c.loop-word.keys c.loop-word.word c.joined.result ∙ c.loop-word.invariant.0,
  joined-next c.args.first.now c.args.second.now c.args.begin c.loop-word.word c.loop-word.keys c.joined.result (omega (arith, c.loop-word.invariant.0, c.loop-word-test.true)) c.loop-word.invariant.1 c.joined.ensures,
)

pub returns : goal.returns
returns c lane inside from =
    says-joined c.args.first.now c.args.second.now c.loop-word.keys c.args.begin lane inside from
    (λ k few. c.loop-word.invariant.1 k (omega (arith, few, c.loop-word-test.false)))
