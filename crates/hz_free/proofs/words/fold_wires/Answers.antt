-- The fold over the gathered words.
use Rattle.std.proofs.Common.{map}
use Rattle.hz_free.proofs.GateWords.{counted-pins, IsGateWord-from_fold}
use Rattle.hz_free.proofs.words.fold_wires.Goals as goal

pub fold-requires-clause-counted : goal.fold-requires-clause-counted
fold-requires-clause-counted g c =
    counted-pins c.args.cap c.gather.new.pins (map g.S.StoredWord.word_in c.args.wires.now) c.gather.ensures c.requires.counted

pub returns : goal.returns
returns g c =
    IsGateWord-from_fold c.args.kind c.gather.new.pins (map g.S.StoredWord.word_in c.args.wires.now) c.args.cap c.fold.result c.gather.ensures c.fold.ensures
