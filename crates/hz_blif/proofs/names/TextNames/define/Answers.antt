use Rattle.std.proofs.Common.{◌<◌, length, subst, sym}
use Rattle.std.specs.List.{AllByRecursion}
use Rattle.hz_netlist.specs.Names.{Names, seen_at, seen_names}
use Rattle.hz_blif.specs.Plain.{IsPlain}
use Rattle.hz_blif.proofs.PlainLemmas.{all-at, all-defined}
use Rattle.hz_blif.proofs.names.TextNames.define.Goals as goal

pub invariant_of-self : goal.invariant_of-self
invariant_of-self c =
    let old = c.self.inside.table in
    let few = subst (λ (names : Names). c.args.number < length names) (sym c.self.view_is) c.requires in
    subst (λ (names : Names). AllByRecursion IsPlain (seen_names names)) (sym c.define.ensures.defined)
    (all-defined IsPlain old (seen_at old c.args.number).name c.args.line c.self.invariant (all-at IsPlain old c.self.invariant c.args.number few))
