use Rattle.hz_net.proofs.DrivenLemmas.{driven-as}
use Rattle.hz_gmw.proofs.current_state.kind_at.Goals as goal

pub returns-clause-kind : goal.returns-clause-kind
returns-clause-kind c =
    driven-as c.args.net.now c.args.var c.kind_of.result c.keeps_shape.ensures.circuit c.keeps_shape.ensures.whole c.requires c.kind_of.ensures
