-- The word of one letter has no change.
use Rattle.std.proofs.Common.{◌∙◌, sym, ap, arith, [], ◌∷◌, Some}
use Rattle.hz_free.proofs.KeptWords.{counted-capped}
use Rattle.hz_free.proofs.free.constant_if.Goals as goal

pub of-constant-requires : goal.of-constant-requires
of-constant-requires g c = counted-capped 0 (c.args.value ∷ []) c.constant_word.result (omega arith) (c.constant_word.ensures 0)

pub returns-then-free : goal.returns-then-free
returns-then-free g c = rw c.if-free.true (c.of-constant.ensures ∙ ap Some (sym (c.constant_word.ensures 0)))
