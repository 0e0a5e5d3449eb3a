-- What a right finding says of its runs: their steps change variables that are there, and each once, and they are few.
use Rattle.std.proofs.Common.{◌≡◌, ◌∙◌, ℕ, ◌<◌, ◌≤◌, Bool, List, [], ◌∷◌, length, All, sym, ap, arith}
use Rattle.hz_split.proofs.Words.{Driver, flip_count, state_after, end_of, IsRun}
use Rattle.std.proofs.lemmas.List.{length-map}
use Rattle.std.proofs.lemmas.List.Elements.{All-nil, All-cons}
use Rattle.hz_core.specs.Ternary.{unknown_count}
use Rattle.hz_net.proofs.Sequences.{unknown_count-le-length}
use Rattle.hz_lists.specs.Listed.{IsRepeatFree}
use Rattle.hz_desk.specs.declared.finding.Row.{Row}
use Rattle.hz_desk.specs.Finding.{FindingOf, values_a, values_b}
use Rattle.hz_desk.specs.RightFinding.{IsRightFinding}
use Rattle.hz_desk.proofs.RaceLoop.{step-inside}
use Rattle.hz_split.specs.FoundRuns.{HasRoomFor}

pub run-inside : (net : List Driver) (input state : List Bool) (steps : List (List ℕ)) → IsRun net input state steps → All (All (λ (var : ℕ). var < length net)) steps
run-inside net input state [] run = All-nil (All (λ (var : ℕ). var < length net))
run-inside net input state (flips ∷ steps) run =
    All-cons (All (λ (var : ℕ). var < length net)) flips steps (step-inside net input state flips run.0) (run-inside net input (state_after flips state) steps run.1)

pub run-once : (net : List Driver) (input state : List Bool) (steps : List (List ℕ)) → IsRun net input state steps → All IsRepeatFree steps
run-once net input state [] run = All-nil IsRepeatFree
run-once net input state (flips ∷ steps) run = All-cons IsRepeatFree flips steps run.0.once (run-once net input (state_after flips state) steps run.1)

module _ (net : List Driver) (input start : List Bool) (cap : ℕ) (finding : FindingOf) (right : IsRightFinding net input start cap finding) where
  pub settle-run : IsRun net input start finding.settle
  settle-run = right.settle.run

  pub cycle-run : IsRun net input (end_of start finding.settle) finding.cycle
  cycle-run = right.cycle.nontransient.cycle.run

  rows-long : length finding.rows ≡ length start
  rows-long = sym (length-map finding.rows (λ (row : Row). row.start)) ∙ ap (length {A = Bool}) right.starts

  few-a : unknown_count (values_a finding.rows) ≤ length start
  few-a = omega (arith, unknown_count-le-length (values_a finding.rows), length-map finding.rows (λ (row : Row). row.a), rows-long)

  few-b : unknown_count (values_b finding.rows) ≤ length start
  few-b = omega (arith, unknown_count-le-length (values_b finding.rows), length-map finding.rows (λ (row : Row). row.b), rows-long)

  pub room : length start ≡ length net → length finding.settle ≤ flip_count finding.settle → HasRoomFor (length net) finding.settle finding.cycle 0 []
  room long few = record {
    inside = omega arith;
    few_fronts = omega arith;
    settle_flips = omega (arith, right.settle.flips, few-a, long);
    settle_steps = omega (arith, right.settle.flips, few-a, long, few);
    cycle_flips = omega (arith, right.cycle.flips, few-b, long);
    few_turns = omega arith;
  }
