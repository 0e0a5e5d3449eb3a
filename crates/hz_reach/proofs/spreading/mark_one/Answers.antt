use Rattle.std.proofs.Common.{◌∙◌, ◌∷◌, ◌++◌, [], Bool, List, cond, ap}
use Rattle.hz_reach.specs.Turn.{is_unchanged}
use Rattle.hz_reach.proofs.spreading.mark_one.Goals as goal

pub returns-clause-marked : goal.returns-clause-marked
returns-clause-marked c =
    c.mark_if.ensures.marked
    ∙ ap (λ (b : Bool). c.args.scratch.now.marked ++ cond b (c.args.var ∷ []) [])
    (c.has_yet_to_change-changes.ensures ∙ ap (λ (s : List Bool). is_unchanged c.args.a.now c.args.start.now s c.args.var) c.state.ensures)
