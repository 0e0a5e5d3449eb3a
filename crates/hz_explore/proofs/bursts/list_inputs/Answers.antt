-- One input more.
use Rattle.std.proofs.Common.{◌∙◌, sym, ap, ℕ, Bool, true, false, List, [], ◌∷◌, ◌++◌, append_assoc}
use Rattle.hz_explore.proofs.BurstLemmas.{inputs-more}
use Rattle.hz_explore.proofs.bursts.list_inputs.Goals as goal

pub loop-input-preserved : goal.loop-input-preserved
loop-input-preserved c =
    let i = c.loop-input.input in
    c.in_ok-push-2.ensures.items
    ∙ (ap (λ (pairs : List (ℕ × Bool)). pairs ++ (i, true) ∷ []) c.in_ok-push.ensures.items
    ∙ (append_assoc c.loop-input.pairs.items ((i, false) ∷ []) ((i, true) ∷ [])
    ∙ (ap (λ (pairs : List (ℕ × Bool)). pairs ++ ((i, false) ∷ (i, true) ∷ [])) c.loop-input.invariant ∙ sym (inputs-more i))))
