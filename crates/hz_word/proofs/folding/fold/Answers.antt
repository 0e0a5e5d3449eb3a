-- By what the pins come to, one after the other.
use Rattle.std.proofs.Common.{sym, subst}
use Rattle.hz_word.specs.declared.word.Word.{Word}
use Rattle.hz_word.specs.Capped.{IsFold}
use Rattle.hz_word.proofs.Folds.{IsFold-kind_word}
use Rattle.hz_word.proofs.folding.fold.Goals as goal

pub returns : goal.returns
returns c =
    subst (λ (word : Word). IsFold c.args.kind c.args.pins.now c.args.cap word) (sym c.pin_by_pin.ensures)
    (IsFold-kind_word c.args.kind c.args.pins.now c.args.cap c.requires.pins)
