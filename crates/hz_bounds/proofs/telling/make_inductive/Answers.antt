-- Many changes are enough.
use Rattle.std.proofs.Common.{◌∙◌}
use Rattle.hz_word.specs.declared.count.Count.TheVariants.{Many}
use Rattle.hz_bounds.proofs.Known.{many-inductive, kept-free, kept-still, has-kept}
use Rattle.hz_bounds.proofs.telling.make_inductive.Goals as goal

pub returns-then-not-are_inductive-clause-inductive : goal.returns-then-not-are_inductive-clause-inductive
returns-then-not-are_inductive-clause-inductive c =
    many-inductive c.args.telling.now c.requires.telling c.fill.new.told (c.fill.auto.told ∙ c.requires.told.long) c.fill.ensures

pub returns-then-not-are_inductive-clause-free : goal.returns-then-not-are_inductive-clause-free
returns-then-not-are_inductive-clause-free c =
    let long = c.fill.auto.told ∙ c.requires.told.long in
    kept-free c.args.telling.now c.requires.telling c.fill.new.told long (has-kept c.args.telling.now c.requires.telling Many c.fill.new.told long c.fill.ensures)

pub returns-then-not-are_inductive-clause-still : goal.returns-then-not-are_inductive-clause-still
returns-then-not-are_inductive-clause-still c =
    let long = c.fill.auto.told ∙ c.requires.told.long in
    kept-still c.args.telling.now c.requires.telling c.fill.new.told long (has-kept c.args.telling.now c.requires.telling Many c.fill.new.told long c.fill.ensures)

pub returns-else-not-are_inductive-clause-free : goal.returns-else-not-are_inductive-clause-free
returns-else-not-are_inductive-clause-free c =
    kept-free c.args.telling.now c.requires.telling c.args.told.now c.requires.told.long c.requires.told.kept

pub returns-else-not-are_inductive-clause-still : goal.returns-else-not-are_inductive-clause-still
returns-else-not-are_inductive-clause-still c =
    kept-still c.args.telling.now c.requires.telling c.args.told.now c.requires.told.long c.requires.told.kept
