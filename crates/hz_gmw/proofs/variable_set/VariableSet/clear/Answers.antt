use Rattle.std.proofs.Common.{◌≡◌, ◌∙◌, ap, ℕ, false, [], length, set, replicate, arith}
use Rattle.std.proofs.lemmas.List.{length-set, nil_from_length}
use Rattle.hz_gmw.proofs.SetLemmas.{AreMembers-pop, counted-pop, marks-cleared}
use Rattle.hz_gmw.proofs.variable_set.VariableSet.clear.Goals as goal

pub loop-var-preserved : goal.loop-var-preserved
loop-var-preserved c =
    let fields = c.loop-var.self-inside in
    let holds = c.loop-var.invariant.0 in
    let same : length (set fields.marks.items c.in-Some.var false) ≡ length fields.marks.items = length-set fields.marks.items c.in-Some.var false in (
      record {
        members = AreMembers-pop fields.marks.items fields.members.items c.pop.new.self.items c.in-Some.var holds.members c.in-Some.ensures.items;
        counted = counted-pop fields.marks.items fields.members.items c.pop.new.self.items c.in-Some.var holds.members c.in-Some.ensures.items holds.counted;
        room = omega (arith, same, c.in-Some.ensures.capacity, holds.room);
      },
      same ∙ c.loop-var.invariant.1,
    )

pub returns : goal.returns
returns c =
    let fields = c.loop-var.self-inside in
    let none : fields.members.items ≡ [] = nil_from_length fields.members.items (omega (arith, c.in_default.ensures.cases.0, fields.members.ok.0)) in
    marks-cleared fields.marks.items fields.members.items c.loop-var.invariant.0.members none ∙ ap (λ (n : ℕ). replicate n false) c.loop-var.invariant.1
