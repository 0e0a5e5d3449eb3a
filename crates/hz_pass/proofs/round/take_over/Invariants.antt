use Rattle.std.proofs.Common.{◌≡◌, ℕ, List, drop, length}
use Rattle.std.specs.Prelude.{fold, slice_set}
use Rattle.hz_pass.specs.Frontier.{with_values_of}
use Rattle.hz_pass.proofs.round.take_over.Given as goal

-- the variables that are left make the whole
abbrev pub invariant-loop-var : goal.invariant-loop-var
invariant-loop-var l =
    (length l.state ≡ length l.next) × (length l.noted ≡ length l.next)
    × (with_values_of l.next l.state (drop l.var-index l.changed) ≡ with_values_of l.next l.fn.state l.changed)
    × (fold (λ (noted : List ℕ) (var : ℕ). slice_set noted var l.round) l.noted (drop l.var-index l.changed) ≡ fold (λ (noted : List ℕ) (var : ℕ). slice_set noted var l.round) l.fn.noted l.changed)
