use Rattle.std.proofs.Common.{◌∙◌, ap, sym}
use Rattle.hz_core.specs.Letters.{tri_letter}
use Rattle.hz_batch.proofs.LetterLemmas.{letter-of-byte}
use Rattle.hz_batch.proofs.letter.Letter.byte.Goals as goal

pub returns : goal.returns
returns c = ap tri_letter (sym c.self.view_is) ∙ letter-of-byte c.self.inside.byte c.self.invariant
