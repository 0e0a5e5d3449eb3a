-- The nodes so far have their words.
use Rattle.std.proofs.Common.{map, take}
use Rattle.hz_free.proofs.ToldWords.{AreTold}
use Rattle.hz_free.proofs.free.write_words.Given as goal

abbrev pub invariant-loop-node : goal.invariant-loop-node
invariant-loop-node g l = AreTold l.folding.net.now l.folding.input.now l.folding.start.now l.folding.cap (take l.node-index l.order) (map g.S.StoredWord.word_in l.out)
