use Rattle.std.proofs.Common.{sym, ◌∙◌, subst, ℕ, List}
use Rattle.std.proofs.lemmas.Simd.{length-zip2}
use Rattle.std.specs.Int.Bits.{bit_xor}
use lib.Lanes.{zip2}
use Rattle.hz_plane.specs.Pairs.{AreZero}
use Rattle.hz_plane.proofs.Words.{same-words, words-same, zero-lists, lists-zero, plane}
use Rattle.hz_plane.proofs.pair.are_same.Goals as goal

pub returns-clause-words : goal.returns-clause-words
returns-clause-words c = plane c.args.words c.fits-words

pub returns-clause-others : goal.returns-clause-others
returns-clause-others c = plane c.args.others c.fits-others

pub returns-clause-ones : goal.returns-clause-ones
returns-clause-ones c = plane c.args.ones c.fits-ones

pub returns-clause-more : goal.returns-clause-more
returns-clause-more c = plane c.args.more c.fits-more

pub returns-clause-same : goal.returns-clause-same
returns-clause-same c =
    let a = c.args.words in
    let b = c.args.others in
    let x = c.args.ones in
    let y = c.args.more in
    let long : _ = c.fits-words.0 ∙ sym c.fits-others.0 in
    let far : _ = c.fits-ones.0 ∙ sym c.fits-more.0 in (
      λ h.
          let parts = zero-lists (zip2 bit_xor a b) (zip2 bit_xor x y) (length-zip2 bit_xor a b long ∙ c.fits-words.0 ∙ sym (length-zip2 bit_xor x y far ∙ c.fits-ones.0)) (c.is_zero.ensures.0 h) in
          (same-words a b long parts.0, same-words x y far parts.1),
      λ h. c.is_zero.ensures.1 (lists-zero (zip2 bit_xor a b) (zip2 bit_xor x y)
          (subst (λ (z : List ℕ). AreZero (zip2 bit_xor a z)) h.0 (words-same a))
          (subst (λ (z : List ℕ). AreZero (zip2 bit_xor x z)) h.1 (words-same x))),
    )
