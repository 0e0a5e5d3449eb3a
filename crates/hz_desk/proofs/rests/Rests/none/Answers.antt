-- All values are X.
use Rattle.hz_desk.proofs.RestLists.{rests-blank}
use Rattle.hz_desk.proofs.rests.Rests.none.Goals as goal

pub returns : goal.returns
returns c = rests-blank c.in_ok-vec.field-0.items c.in_ok-vec-2.field-0.items c.args.variables (c.in_ok-vec.ensures.items_if_clones_equal (λ y e. e))
