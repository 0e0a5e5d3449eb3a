-- Assignments as pairs of a node and a bit.
use Rattle.std.specs.Prelude.{◌≡◌, ℕ, ◌<◌, Bool, false, nat_eq, List, map, All, Option, None, IsSome, IsSomeAnd}
use Rattle.std.specs.List.{range_with_len, IsDistinct}
use Rattle.std.specs.Option.{option_zip}
use Rattle.hz_text.specs.declared.assignments.Allowed.{Allowed as AllowedHere}
use Rattle.hz_text.specs.declared.assignments.Allowed.TheVariants as here
use Rattle.hz_text.specs.Assignment.{Assigned, Allowed, Nodes, Inputs, Gates, any_bitless, assignment_to, assigned_bit}
use Rattle.hz_text.specs.Rules.{repeats_node, least_unassigned}

-- what may be assigned
abbrev pub allowed_by : AllowedHere → Allowed
allowed_by here.Nodes = Nodes
allowed_by here.Inputs = Inputs
allowed_by here.Gates = Gates

-- an assignment of a bit to one of so many nodes
pub record IsPair (nodes : ℕ) (assigned : Assigned) : Type 0 where
  pub node : IsSomeAnd assigned.node (λ node. node < nodes)
  pub bit : IsSome assigned.bit

-- assignments of bits to so many nodes, to each at most once
pub record ArePairs (nodes : ℕ) (all : List Assigned) : Type 0 where
  pub pairs : All (IsPair nodes) all
  pub fresh : repeats_node all ≡ false

-- assignments that give each of so many nodes a bit, and none of them twice
pub record IsWholeStart (nodes : ℕ) (all : List Assigned) : Type 0 where
  pub pairs : All (IsPair nodes) all
  pub bits : any_bitless all ≡ false
  pub fresh : repeats_node all ≡ false
  pub whole : least_unassigned nodes all ≡ None

-- the node and the bit, if there are both
abbrev pub pair_of : Assigned → Option (ℕ × Bool)
pair_of assigned = option_zip assigned.node assigned.bit

-- for each of so many nodes, the bit that is assigned to it
abbrev pub assigned_bits : List (ℕ × Bool) → ℕ → List (Option Bool)
assigned_bits pairs nodes = map (assigned_bit (map assignment_to pairs)) (range_with_len 0 nodes)

-- a change of numbers below a bound, each at most once
pub record IsChange (bound : ℕ) (change : List (ℕ × Bool)) : Type 0 where
  pub below : All (λ pair. pair.0 < bound) change
  pub distinct : IsDistinct nat_eq (map (λ pair. pair.0) change)
