use Rattle.std.proofs.Common.{◌≡◌, fold, length}
use Rattle.hz_core.specs.NameHash.{words_of}
use Rattle.hz_core.proofs.name.write_words.Given as goal

abbrev pub invariant-loop-rest : goal.invariant-loop-rest
invariant-loop-rest g l =
    fold g.H.Hasher.write l.state (words_of l.rest) ≡ fold g.H.Hasher.write l.fn.state (words_of l.name)

abbrev pub decreases-loop-rest : goal.decreases-loop-rest
decreases-loop-rest g l = length l.rest
