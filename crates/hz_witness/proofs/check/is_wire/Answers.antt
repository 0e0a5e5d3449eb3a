-- What is a wire has a source.
use Rattle.hz_net.specs.declared.variable.VarKind.TheVariants.{Wire}
use Rattle.hz_net.proofs.DrivenLemmas.{driven-as}
use Rattle.hz_witness.proofs.check.is_wire.Goals as goal

pub returns-in-Wire : goal.returns-in-Wire
returns-in-Wire c = λ _ node.
    node c.in-Wire.source
    (driven-as c.args.net.now c.args.var (Wire c.in-Wire.gate c.in-Wire.pin c.in-Wire.source) c.keeps_shape.ensures.circuit c.keeps_shape.ensures.whole c.requires c.in-Wire.ensures).driven
