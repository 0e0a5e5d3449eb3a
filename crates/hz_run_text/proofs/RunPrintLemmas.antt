-- The steps of one run among those of all, and the line of a step of one variable.
use Rattle.std.proofs.Common.{◌≡◌, ◌∙◌, ap, sym, ℕ, ◌<◌, ◌++◌, zero, suc, List, [], ◌∷◌, length, get_or, arith, codes}
use Rattle.std.specs.List.{All}
use Rattle.std.proofs.lemmas.List.{append-nil}
use Rattle.std.proofs.lemmas.List.Elements.{All-nil, All-cons, All-head, All-tail}
use Rattle.hz_core.specs.Netlist.{Netlist}
use Rattle.hz_text.specs.VariableWord.{variable_word}
use Rattle.hz_run_text.specs.RunPrinted.{step_text}
use Rattle.hz_text.specs.RunParts.{RunOf, cycle_steps}
use Rattle.hz_run_text.specs.RunValue.{all_steps}

pub All-front : {X : Type 0} (P : X → Type 0) (front back : List X) → All P (front ++ back) → All P front
All-front P [] back h = All-nil P
All-front P (x ∷ front) back h = All-cons P x front (All-head P x (front ++ back) h) (All-front P front back (All-tail P x (front ++ back) h))

pub All-back : {X : Type 0} (P : X → Type 0) (front back : List X) → All P (front ++ back) → All P back
All-back P [] back h = h
All-back P (x ∷ front) back h = All-back P front back (All-tail P x (front ++ back) h)

-- what holds of all steps holds of those of a run
pub steps_of_run : (P : List ℕ → Type 0) (runs : List RunOf) (number : ℕ) (d : RunOf) → All P (all_steps runs) → number < length runs → All P (get_or runs number d).lead × All P (cycle_steps (get_or runs number d).cycle)
steps_of_run P [] number d all below = absurd (omega arith)
steps_of_run P (run ∷ runs) zero d all below =
    let mine = All-front P (run.lead ++ cycle_steps run.cycle) (all_steps runs) all in
    (All-front P run.lead (cycle_steps run.cycle) mine, All-back P run.lead (cycle_steps run.cycle) mine)
steps_of_run P (run ∷ runs) (suc number) d all below = steps_of_run P runs number d (All-back P (run.lead ++ cycle_steps run.cycle) (all_steps runs) all) (omega (arith, below))

-- the line of a step of one variable, by the bytes behind the first word
pub single_step : (netlist : Netlist) (var : ℕ) (front back : List ℕ) → front ++ back ≡ variable_word netlist var ++ 10 ∷ [] → codes "step " ++ front ++ back ≡ step_text netlist (var ∷ [])
unfolding step_text
single_step netlist var front back same =
    ap (λ (rest : List ℕ). codes "step " ++ rest) (same ∙ ap (λ (word : List ℕ). word ++ 10 ∷ []) (sym (append-nil (variable_word netlist var))))
