-- What is known, and words without a change.
use Rattle.std.proofs.Common.{◌∙◌, arith}
use Rattle.hz_word.specs.declared.count.Count.TheVariants.{Exact}
use Rattle.hz_bounds.proofs.Known.{has-counted, has-kept}
use Rattle.hz_bounds.proofs.telling.begin.Goals as goal

pub returns : goal.returns
returns c =
    let long = c.fill.auto.told ∙ c.requires.told in
    record {
      long = long;
      counted = has-counted c.args.telling.now c.requires.telling (Exact 0) c.fill.new.told long c.fill.ensures (omega arith);
      kept = has-kept c.args.telling.now c.requires.telling (Exact 0) c.fill.new.told long c.fill.ensures;
    }
