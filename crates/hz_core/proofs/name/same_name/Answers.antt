use Rattle.std.proofs.Common.{◌≡◌, ◌∙◌, sym, arith}
use Rattle.std.specs.Hash.FoldHasher.{read_u32}
use Rattle.hz_core.proofs.EndLemmas.{ends-tell}
use Rattle.hz_core.proofs.name.same_name.Goals as goal

pub returns-then-four_at : goal.returns-then-four_at
returns-then-four_at c =
    let name = c.args.name.now in
    let other = c.args.other.now in
    let front : read_u32 name 0 ≡ read_u32 other 0 = sym c.four_at.ensures.value ∙ (c.if-four_at.true ∙ c.four_at-2.ensures.value) in
    rw (c.four_at-then-four_at.ensures.value, c.four_at-then-four_at-2.ensures.value)
    (ends-tell name other c.four_at.ensures.bytes c.four_at-2.ensures.bytes (omega arith) (omega arith) (omega arith) front)
