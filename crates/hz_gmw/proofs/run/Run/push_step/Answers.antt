use Rattle.std.proofs.Common.{◌≡◌, ◌∙◌, ◌+◌, [], ◌++◌, ◌∷◌, ap, arith, length, length-append}
use Rattle.hz_gmw.specs.RunRecord.{RunRecord}
use Rattle.hz_lists.proofs.PartLemmas.{EndsAt-push, parts_from-push}
use Rattle.hz_gmw.proofs.run.Run.push_step.Goals as goal

pub invariant_of-self : goal.invariant_of-self
invariant_of-self c =
    let flips = c.self.inside.flips.items in
    let long : length c.append.new.list.items ≡ length flips + length c.args.flips.now = ap length c.append.ensures.items ∙ length-append flips c.args.flips.now in
    let last : c.len.result ≡ length c.append.new.list.items = c.len.ensures ∙ c.append.new.list.ok.0 in
    record {
      cut = rw (c.push_reserved.ensures.items, last) (EndsAt-push 0 c.self.inside.ends.items (length flips) (length c.append.new.list.items) c.self.invariant.cut (omega (arith, long)));
      flips_fit = omega (arith, c.append.ensures, c.self.invariant.flips_fit, ap (λ (run : RunRecord). run.spare_flips) c.self.view_is, c.requires);
      steps_fit = omega (arith, c.push_reserved.ensures.len, c.push_reserved.ensures.capacity, c.self.invariant.steps_fit, ap (λ (run : RunRecord). run.spare_steps) c.self.view_is, c.requires);
      few = omega (arith, c.append.ensures, c.self.invariant.few, ap (λ (run : RunRecord). run.spare_flips) c.self.view_is, c.requires);
    }

pub returns-clause-steps : goal.returns-clause-steps
returns-clause-steps c =
    let flips = c.self.inside.flips.items in
    let ends = c.self.inside.ends.items in
    let long : length c.append.new.list.items ≡ length flips + length c.args.flips.now = ap length c.append.ensures.items ∙ length-append flips c.args.flips.now in
    let last : c.len.result ≡ length flips + length c.args.flips.now = c.len.ensures ∙ c.append.new.list.ok.0 ∙ long in
    rw (c.push_reserved.ensures.items, last, c.append.ensures.items)
    (parts_from-push 0 ends flips c.args.flips.now c.self.invariant.cut ∙ ap (λ (run : RunRecord). run.steps ++ c.args.flips.now ∷ []) c.self.view_is)
