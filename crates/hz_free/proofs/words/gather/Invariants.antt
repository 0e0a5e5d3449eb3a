-- The words so far.
use Rattle.std.proofs.Common.{◌≡◌, map, take, Some}
use Rattle.hz_free.proofs.words.gather.Given as goal

abbrev pub invariant-loop-pin : goal.invariant-loop-pin
invariant-loop-pin g l = map Some (take l.pin l.pins) ≡ take l.pin (map g.S.StoredWord.word_in l.wires)
