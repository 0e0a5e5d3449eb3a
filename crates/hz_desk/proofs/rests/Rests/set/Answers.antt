-- What is told of one variable is written into both lists.
use Rattle.std.proofs.Common.{◌∙◌, ap, length, set, Bool, List, Option, arith}
use Rattle.hz_desk.specs.declared.finding.Rest.{Rest}
use Rattle.hz_desk.specs.RestsOf.{value_told, rests_of}
use Rattle.hz_core.specs.declared.tri.Tri.{Tri}
use Rattle.hz_desk.proofs.RestLists.{length-rests, rests-set}
use Rattle.hz_desk.proofs.rests.Rests.set.Goals as goal

pub index_mut-requires : goal.index_mut-requires
index_mut-requires c =
    let told = c.self.inside in
    omega (arith, c.requires, ap length c.self.view_is, length-rests told.values.items told.counted.items, told.values.ok.0)

pub index_mut-requires-2 : goal.index_mut-requires-2
index_mut-requires-2 c =
    let told = c.self.inside in
    omega (arith, c.requires, ap length c.self.view_is, length-rests told.values.items told.counted.items, told.counted.ok.0, c.self.invariant)

pub returns : goal.returns
returns c =
    let told = c.self.inside in
    ap (λ (v : Tri). rests_of (set told.values.items c.args.var v) (set told.counted.items c.args.var c.counted_told.result)) c.value_told.ensures
    ∙ (ap (λ (b : Bool). rests_of (set told.values.items c.args.var (value_told c.args.rest)) (set told.counted.items c.args.var b)) c.counted_told.ensures
    ∙ (rests-set told.values.items told.counted.items c.args.var c.args.rest c.self.invariant
    (omega (arith, c.requires, ap length c.self.view_is, length-rests told.values.items told.counted.items))
    ∙ ap (λ (list : List (Option Rest)). set list c.args.var c.args.rest) c.self.view_is))
