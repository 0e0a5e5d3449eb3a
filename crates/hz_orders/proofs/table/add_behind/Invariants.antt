-- The lists so far stand behind the number.
use Rattle.std.proofs.Common.{◌≡◌, ℕ, List, ◌∷◌, ◌++◌, map, take}
use Rattle.hz_orders.proofs.table.add_behind.Given as goal

abbrev pub invariant-loop-place : goal.invariant-loop-place
invariant-loop-place l = l.positions ≡ l.initial.positions ++ map (λ (tail : List ℕ). l.times ∷ tail) (take l.place l.tails)
