-- One more, and all of them.
use Rattle.std.proofs.Common.{None, arith}
use Rattle.std.proofs.lemmas.List.{length-map}
use Rattle.hz_net.specs.Network.{bit_at}
use Rattle.hz_free.specs.CappedWords.{constant_if}
use Rattle.hz_free.proofs.KeptWords.{told-set}
use Rattle.hz_free.proofs.free.fill_free.Goals as goal

pub loop-var-preserved : goal.loop-var-preserved
loop-var-preserved g c =
    told-set g.S.StoredWord.word_in c.loop-var.out c.loop-var.var c.constant_if.result None (λ i. constant_if (bit_at c.args.free.now i) (bit_at c.args.start.now i)) c.constant_if.ensures (omega (arith, c.loop-var-test.true)) c.loop-var.invariant

pub returns : goal.returns
returns g c =
    λ k few. c.loop-var.invariant k (omega (arith, few, length-map c.loop-var.out g.S.StoredWord.word_in))
