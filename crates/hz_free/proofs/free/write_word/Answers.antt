-- The word that is folded is the word that is given.
use Rattle.std.proofs.Common.{arith}
use Rattle.std.proofs.lemmas.List.{length-map}
use Rattle.hz_free.proofs.KeptWords.{counted-capped}
use Rattle.hz_free.proofs.free.write_word.Goals as goal

pub give-requires-clause-counted : goal.give-requires-clause-counted
give-requires-clause-counted g c =
    let made = c.word_of-word.ensures c.requires.ready in
    counted-capped c.args.folding.now.cap made.0 c.word_of-word.result c.requires.folding.cap_high made.3

pub give-requires-clause-out : goal.give-requires-clause-out
give-requires-clause-out g c = let long = c.requires.ready.told_long in omega (arith, long, length-map c.args.out.now g.S.StoredWord.word_in)

pub returns : goal.returns
returns g c = (c.word_of-word.result, c.word_of-word.ensures, c.give.ensures)
