-- The variables so far have the word.
use Rattle.std.proofs.Common.{map, take}
use Rattle.hz_free.specs.Paths.{HaveValue}
use Rattle.hz_free.proofs.free.give_all.Given as goal

abbrev pub invariant-loop-var : goal.invariant-loop-var
invariant-loop-var g l = HaveValue (take l.var-index l.variables) (g.S.StoredWord.word_in l.word) (map g.S.StoredWord.word_in l.fn.out) (map g.S.StoredWord.word_in l.out)
