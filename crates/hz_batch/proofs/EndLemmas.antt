-- What a lane comes to.
use Rattle.std.proofs.Common.{◌≡◌, ◌≢◌, refl, sym, ℕ, zero, suc, ◌<◌, Bool, true, false, List, [], ◌∷◌, length, arith}
use Rattle.std.specs.List.{list_any}
use Rattle.hz_core.specs.Ternary.{is_unknown}
use Rattle.hz_core.specs.declared.tri.Tri.{Tri}
use Rattle.hz_core.specs.declared.tri.Tri.TheVariants.{Zero, One, Unknown}
use Rattle.hz_core.specs.Netlist.{Netlist}
use Rattle.hz_net.specs.Network.{network_of, value_at}
use Rattle.hz_net.specs.Passes.{algorithm_a, algorithm_b, IsResult}
use Rattle.hz_net.specs.Starts.{IsAcceptedStart}
use Rattle.hz_plane.specs.Loads.{Loaded}
use Rattle.hz_plane.specs.declared.stage.Stage.TheVariants.{Spread, Settled as AllSettled}
use Rattle.hz_plane.specs.View.{HasUnknown, IsLaneValue, IsUnsettled}
use Rattle.hz_net.specs.PassEnds.{ResultOfAExists, ResultOfBExists}
use Rattle.hz_batch.specs.PatternEnd.{Settled, IsPatternEnd}

-- no value of a state is X
none-unknown : (state : List Tri) → ((var : ℕ) → var < length state → value_at state var ≢ Unknown) → list_any is_unknown state ≡ false
none-unknown [] none = refl
none-unknown (Zero ∷ state) none = none-unknown state (λ var inside. none (suc var) (omega (arith, inside)))
none-unknown (One ∷ state) none = none-unknown state (λ var inside. none (suc var) (omega (arith, inside)))
none-unknown (Unknown ∷ state) none = absurd (none 0 (omega arith) refl)

-- some value is
some-unknown : (state : List Tri) (var : ℕ) → var < length state → value_at state var ≡ Unknown → list_any is_unknown state ≡ true
some-unknown [] var inside is = absurd (omega (arith, inside))
some-unknown (Unknown ∷ state) var inside is = refl
some-unknown (Zero ∷ state) zero inside is = cc
some-unknown (One ∷ state) zero inside is = cc
some-unknown (Zero ∷ state) (suc var) inside is = some-unknown state var (omega (arith, inside)) is
some-unknown (One ∷ state) (suc var) inside is = some-unknown state var (omega (arith, inside)) is

pub unknown-told : (state : List Tri) (answer : Bool) → HasUnknown state answer → answer ≡ list_any is_unknown state
unknown-told state true (var, inside, is) = sym (some-unknown state var inside is)
unknown-told state false none = sym (none-unknown state none)

-- the values of a lane in both results, by what the planes say at both stages
pub first-of-a : (netlist : Netlist) (loaded : Loaded) (var : ℕ) (value : Tri) (a b : List Tri) → IsLaneValue Spread netlist loaded var value → IsPatternEnd netlist loaded.listed loaded.input (Settled a b) → value ≡ value_at a var
first-of-a netlist loaded var value a b says (start, accepted, (rounds, are, is), of_b) = rw is (says start rounds accepted are)

pub second-of-b : (netlist : Netlist) (loaded : Loaded) (var : ℕ) (value : Tri) (a b : List Tri) → IsLaneValue AllSettled netlist loaded var value → IsPatternEnd netlist loaded.listed loaded.input (Settled a b) → value ≡ value_at b var
second-of-b netlist loaded var value a b says (start, accepted, (rounds, are, is), (rest, are_rest, is_rest)) =
    rw is_rest (rw (← is) at (says start rounds rest accepted are (rw is at are_rest)))

-- both results from an accepted start, and whether an X is left
pub record HasResults (netlist : Netlist) (loaded : Loaded) (unsettled : Bool) : Type 0 where
  pub a : List Tri
  pub b : List Tri
  pub ending : IsPatternEnd netlist loaded.listed loaded.input (Settled a b)
  pub told : unsettled ≡ list_any is_unknown b

pub results : (netlist : Netlist) (loaded : Loaded) (unsettled : Bool) → ResultOfAExists → ResultOfBExists → ((start : List Bool) × IsAcceptedStart netlist loaded.listed start) → IsUnsettled netlist loaded unsettled → HasResults netlist loaded unsettled
results netlist loaded unsettled a_exists b_exists (start, accepted) says =
    by_a (a_exists (network_of netlist) loaded.input start accepted.completed.long)
  where
    by_b : (a : List Tri) (of_a : IsResult (algorithm_a (network_of netlist) loaded.input start) a) → ((b : List Tri) × IsResult (algorithm_b (network_of netlist) loaded.input a) b) → HasResults netlist loaded unsettled
    by_b a (rounds, are, is) (b, (rest, are_rest, is_rest)) = record {
      a = a;
      b = b;
      ending = (start, accepted, (rounds, are, is), (rest, are_rest, is_rest));
      told = unknown-told b unsettled (rw is_rest (rw (← is) at (says start rounds rest accepted are (rw is at are_rest))));
    }

    by_a : ((a : List Tri) × IsResult (algorithm_a (network_of netlist) loaded.input start) a) → HasResults netlist loaded unsettled
    by_a (a, of_a) = by_b a of_a (b_exists (network_of netlist) loaded.input start a accepted.completed.long of_a)
