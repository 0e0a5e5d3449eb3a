use Rattle.hz_blif.specs.Plain.{IsPlain}
use Rattle.hz_blif.proofs.PlainLemmas.{all-seen-or-not}
use Rattle.hz_blif.proofs.names.TextNames.sight.Goals as goal

pub invariant_of-self : goal.invariant_of-self
invariant_of-self c =
    all-seen-or-not IsPlain c.self.inside.table c.sight.new.self c.args.name.now c.sight.result c.sight.ensures.seen c.sight.ensures.err c.self.invariant c.requires
