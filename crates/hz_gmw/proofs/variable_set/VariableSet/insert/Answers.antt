use Rattle.std.proofs.Common.{◌≡◌, ◌∙◌, sym, ap, subst, ◌<◌, Bool, false, true, List, ℕ, length, set, arith}
use Rattle.std.proofs.lemmas.List.{length-set}
use Rattle.hz_net.specs.Network.{bit_at}
use Rattle.hz_gmw.specs.VariableSets.{AreMembers}
use Rattle.hz_gmw.proofs.SetLemmas.{unmarked-read, room-left, AreMembers-insert, counted-insert}
use Rattle.hz_gmw.proofs.variable_set.VariableSet.insert.Goals as goal

pub push_reserved-requires : goal.push_reserved-requires
push_reserved-requires c =
    let marks = c.self.inside.marks.items in
    let inside : c.args.var < length marks = subst (λ (now : List Bool). c.args.var < length now) (sym c.self.view_is) c.requires in
    let new : bit_at marks c.args.var ≡ false = unmarked-read marks c.args.var c.index.result.now inside c.index.ensures c.if-not-index.true in
    let few = room-left marks c.self.inside.members.items c.args.var inside new c.self.invariant.counted in
    omega (arith, few, c.self.invariant.room, c.self.inside.members.ok.0)

pub invariant_of-self : goal.invariant_of-self
invariant_of-self c =
    let marks = c.self.inside.marks.items in
    let inside : c.args.var < length marks = subst (λ (now : List Bool). c.args.var < length now) (sym c.self.view_is) c.requires in
    let members = c.self.inside.members.items in
    let new : bit_at marks c.args.var ≡ false = unmarked-read marks c.args.var c.index.result.now inside c.index.ensures c.if-not-index.true in
    record {
      members = subst (AreMembers (set marks c.args.var true)) (sym c.push_reserved.ensures.items) (AreMembers-insert marks members c.args.var c.self.invariant.members inside new);
      counted = ap (length {A = ℕ}) c.push_reserved.ensures.items ∙ counted-insert marks members c.args.var inside new c.self.invariant.counted;
      room = omega (arith, length-set marks c.args.var true, c.push_reserved.ensures.capacity, c.self.invariant.room);
    }
