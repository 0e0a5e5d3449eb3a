-- An X takes its excitation.
use Rattle.hz_orders.proofs.Narrowed.{narrow-covers}
use Rattle.hz_orders.proofs.ends.narrow.Goals as goal

pub returns : goal.returns
returns c =
    narrow-covers c.args.change.now c.requires.change c.args.values.now c.requires.values c.args.var c.requires.var c.in-Unknown.is c.excited-excited.result c.excited-excited.ensures
