use Rattle.std.proofs.Common.{◌∙◌, sym, ap, fold, take}
use Rattle.hz_core.specs.NameHash.{words_of}
use Rattle.hz_core.proofs.NameLemmas.{words-more}
use Rattle.hz_core.proofs.name.write_words.Goals as goal

pub loop-rest-preserved : goal.loop-rest-preserved
loop-rest-preserved g c =
    let write = g.H.Hasher.write in
    ap (λ state. fold write state (words_of c.split_at.result.1.now)) (c.write.ensures ∙ ap (write c.loop-rest.state) c.split_at.ensures.front)
    ∙ ap (λ left. fold write (write c.loop-rest.state (take 8 c.loop-rest.rest.now)) (words_of left)) c.split_at.ensures.back
    ∙ sym (ap (fold write c.loop-rest.state) (words-more c.loop-rest.rest.now c.loop-rest-test.true))
    ∙ c.loop-rest.invariant
