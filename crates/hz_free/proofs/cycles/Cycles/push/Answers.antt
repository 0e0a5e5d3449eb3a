use Rattle.std.proofs.Common.{◌≡◌, ◌∙◌, ◌+◌, ℕ, List, [], ◌++◌, ◌∷◌, ap, arith, length, length-append}
use Rattle.hz_lists.proofs.PartLemmas.{EndsAt-push, parts_from-push}
use Rattle.hz_free.proofs.cycles.Cycles.push.Goals as goal

pub invariant_of-self-2 : goal.invariant_of-self-2
invariant_of-self-2 c =
    let variables = c.self.inside.variables.items in
    let items = c.in-Ok-extend_from_slice.ensures.items in
    let long : length c.extend_from_slice.new.self.items ≡ length variables + length c.args.cycle.now = ap length items ∙ length-append variables c.args.cycle.now in
    let last : c.in-Ok-try_from.end ≡ length c.extend_from_slice.new.self.items = omega (arith, c.in-Ok-try_from.ensures, c.len.ensures, c.self.inside.variables.ok.0, long) in
    let ends = c.in-Ok.ensures.items in
    rw (c.push_reserved.ensures.items, last, ends) (EndsAt-push 0 c.self.inside.ends.items (length variables) (length c.extend_from_slice.new.self.items) c.self.invariant (omega (arith, long)))

pub returns-clause-ok : goal.returns-clause-ok
returns-clause-ok c =
    let variables = c.self.inside.variables.items in
    let ends = c.self.inside.ends.items in
    let items = c.in-Ok-extend_from_slice.ensures.items in
    let kept = c.in-Ok.ensures.items in
    let last : c.in-Ok-try_from.end ≡ length variables + length c.args.cycle.now = omega (arith, c.in-Ok-try_from.ensures, c.len.ensures, c.self.inside.variables.ok.0) in
    rw (c.push_reserved.ensures.items, last, items, kept)
    (parts_from-push 0 ends variables c.args.cycle.now c.self.invariant ∙ ap (λ (cycles : List (List ℕ)). cycles ++ c.args.cycle.now ∷ []) c.self.view_is)
