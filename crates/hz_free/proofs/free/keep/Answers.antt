-- The word that is kept is that of the variable.
use Rattle.std.proofs.Common.{refl}
use Rattle.hz_free.proofs.KeptWords.{map-set_told}
use Rattle.hz_free.proofs.free.keep.Goals as goal

pub returns : goal.returns
returns g c =
    map-set_told g.S.StoredWord.word_in c.args.out.now c.args.var c.args.word (g.S.StoredWord.word_in c.args.word) refl
