-- A wire must move exactly if Algorithm B ends at its other value.
use Rattle.std.proofs.Common.{◌≡◌, ◌∙◌, ℕ, Bool, true, false, not, List, refl, sym}
use Rattle.hz_orders.proofs.Words.{false≢true, Tri, Zero, Unknown, Netlist, IsCircuit, network_of, bit_at, value_at, IsStableStart}
use Rattle.std.specs.Prelude.{◌↔◌}
use Rattle.std.proofs.lemmas.Bool.{true≢false}
use Rattle.hz_core.specs.declared.tri.Tri.TheVariants.{One}
use Rattle.hz_core.specs.Ternary.{tri_of, IsJoinOf}
use Rattle.hz_net.specs.Passes.{algorithm_a, algorithm_b, IsResult}
use Rattle.hz_gmw.specs.Runs.{JoinsTo}
use Rattle.hz_gmw.specs.Cycles.{IsOutcome}
use Rattle.hz_reach.specs.Exact.{BIsExact}
use Rattle.hz_orders.specs.Orders.{MustMove}

-- the join is a bit exactly if all members of the set are this bit
joined-each : (set : Bool → Type 0) (value : Tri) (bit : Bool) → IsJoinOf set value → value ≡ tri_of bit → (other : Bool) → set other → other ≡ bit
joined-each set Zero false joined same false member = refl
joined-each set Zero false joined same true member = absurd (joined.1 member)
joined-each set Zero true joined same other member = cc
joined-each set One true joined same true member = refl
joined-each set One true joined same false member = absurd (joined.1 member)
joined-each set One false joined same other member = cc
joined-each set Unknown true joined same other member = cc
joined-each set Unknown false joined same other member = cc

each-joined : (set : Bool → Type 0) (value : Tri) (bit : Bool) → IsJoinOf set value → ((other : Bool) → set other → other ≡ bit) → value ≡ tri_of bit
each-joined set Zero false joined each = refl
each-joined set Zero true joined each = absurd (false≢true (each false joined.0))
each-joined set One true joined each = refl
each-joined set One false joined each = absurd (true≢false (each true joined.0))
each-joined set Unknown true joined each = absurd (false≢true (each false joined.0))
each-joined set Unknown false joined each = absurd (true≢false (each true joined.1))

pub used-exactly : BIsExact → (netlist : Netlist) (input start : List Bool) (a b : List Tri) (i : ℕ) → IsCircuit netlist → IsStableStart netlist start → IsResult (algorithm_a (network_of netlist) input start) a → IsResult (algorithm_b (network_of netlist) input a) b → (value_at b i ≡ tri_of (not (bit_at start i))) ↔ MustMove (network_of netlist) input start i
used-exactly exact netlist input start a b i circuit begins result_a result_b =
    let joined : JoinsTo (IsOutcome (network_of netlist) input start) i (value_at b i) = exact netlist input start a b i circuit begins result_a result_b in (
      λ same state outcome.
          joined-each (λ bit. (state : List Bool) × IsOutcome (network_of netlist) input start state × (bit_at state i ≡ bit)) (value_at b i) (not (bit_at start i)) joined same (bit_at state i) (state, outcome, refl),
      λ moves.
          each-joined (λ bit. (state : List Bool) × IsOutcome (network_of netlist) input start state × (bit_at state i ≡ bit)) (value_at b i) (not (bit_at start i)) joined
          (λ other member. sym member.2 ∙ moves member.0 member.1),
    )
