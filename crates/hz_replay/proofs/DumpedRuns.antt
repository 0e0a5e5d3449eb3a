-- The last of runs that are accepted may be written as a dump: each of its steps changes variables, none of them twice.
use Rattle.std.proofs.Common.{◌≡◌, ◌∙◌, refl, sym, ap, subst, ℕ, ◌+◌, ◌-◌, ◌<◌, Bool, List, [], ◌∷◌, ◌++◌, length, get_or, Option, Some, None, IfSome, All, arith}
use Rattle.hz_replay.proofs.Words.{length-append, All-nil, All-cons, Netlist, Driver, network_of, IsStep, IsRun, state_after, IsNontransient, IsRunTextFor, RunOf, cycle_steps}
use Rattle.hz_replay.proofs.Words.{RunTextOf, steps_of, AreAccepted, no_run}
use Rattle.hz_lists.proofs.ListedLemmas.{All-each}
use Rattle.hz_vcd.specs.Dump.{AreFlips, variables_of}
use Rattle.hz_replay.specs.Dumps.{last_run}
use Rattle.hz_replay.proofs.RunSteps.{run-few}

-- a step changes variables
step-flips : (net : List Driver) (input state : List Bool) (flips : List ℕ) → IsStep net input state flips → AreFlips (length net) flips
step-flips net input state flips step =
    record { some = step.some; once = step.once; inside = All-each (λ var. var < length net) flips step.inside }

-- so does each step of a run
run-flips : (net : List Driver) (input state : List Bool) (steps : List (List ℕ)) → IsRun net input state steps → All (AreFlips (length net)) steps
run-flips net input state [] run = All-nil (AreFlips (length net))
run-flips net input state (flips ∷ steps) run =
    All-cons (AreFlips (length net)) flips steps (step-flips net input state flips run.0) (run-flips net input (state_after flips state) steps run.1)

-- and each step of a cycle, if there is one
cycle-flips : (net : List Driver) (input state : List Bool) (cycle : Option (List (List ℕ))) → IfSome cycle (IsNontransient net input state) → All (AreFlips (length net)) (cycle_steps cycle)
cycle-flips net input state None lasts = All-nil (AreFlips (length net))
cycle-flips net input state (Some steps) lasts = run-flips net input state steps lasts.cycle.run

module _ (netlist : Netlist) (text : RunTextOf) (accepted : AreAccepted netlist text) (number : ℕ) (below : number < length text.runs) where
  -- the steps of a lead
  pub lead-flips : (steps : List (List ℕ)) → steps ≡ (get_or text.runs number no_run).lead → All (AreFlips (variables_of netlist)) steps
  lead-flips steps is =
      subst (All (AreFlips (variables_of netlist))) (sym is) (run-flips (network_of netlist) text.input _ (get_or text.runs number no_run).lead (accepted number no_run below).lead)

  -- the steps of a cycle
  pub behind-flips : (cycle : Option (List (List ℕ))) → cycle ≡ (get_or text.runs number no_run).cycle → All (AreFlips (variables_of netlist)) (cycle_steps cycle)
  behind-flips cycle is =
      subst (λ (c : Option (List (List ℕ))). All (AreFlips (variables_of netlist)) (cycle_steps c)) (sym is)
      (cycle-flips (network_of netlist) text.input _ (get_or text.runs number no_run).cycle (accepted number no_run below).cycle)

-- a run of a text has few steps
pub steps-few : (netlist : Netlist) (text : RunTextOf) (number : ℕ) (lead : List (List ℕ)) (cycle : Option (List (List ℕ))) → IsRunTextFor netlist text → number < length text.runs → lead ≡ (get_or text.runs number no_run).lead → cycle ≡ (get_or text.runs number no_run).cycle → length lead + length (cycle_steps cycle) < 4294967296
steps-few netlist text number lead cycle usable below first second =
    omega (
      arith,
      ap length first,
      ap (λ (c : Option (List (List ℕ))). length (cycle_steps c)) second,
      length-append (get_or text.runs number no_run).lead (cycle_steps (get_or text.runs number no_run).cycle),
      run-few text.runs number (get_or text.runs number no_run) refl below usable.few_steps,
    )

-- the steps of the last run, by its parts
pub steps-last : (runs : List RunOf) (number : ℕ) (lead : List (List ℕ)) (cycle : Option (List (List ℕ))) → number ≡ length runs - 1 → lead ≡ (get_or runs number no_run).lead → cycle ≡ (get_or runs number no_run).cycle → lead ++ cycle_steps cycle ≡ steps_of (last_run runs)
steps-last runs number lead cycle last first second =
    ap (λ (l : List (List ℕ)). l ++ cycle_steps cycle) first
    ∙ ap (λ (c : Option (List (List ℕ))). (get_or runs number no_run).lead ++ cycle_steps c) second
    ∙ ap (λ (n : ℕ). steps_of (get_or runs n no_run)) last

-- without a run there is no step
pub steps-none : (runs : List RunOf) → length runs ≡ 0 → [] ≡ steps_of (last_run runs)
steps-none [] none = refl
steps-none (run ∷ runs) none = absurd (omega (arith, none))
