-- Excitations of all variables at once: place by place, and against refinement and the order of ternary states.
use Rattle.std.proofs.Common.{◌≡◌, ℕ, zero, suc, ◌+◌, ◌<◌, Bool, List, [], ◌∷◌, length, IsTrue, refl, ap, arith}
use Rattle.std.proofs.lemmas.List.{get_or-map, length-map}
use Rattle.hz_core.specs.declared.tri.Tri.{Tri}
use Rattle.hz_core.specs.declared.tri.Tri.TheVariants.{Zero}
use Rattle.hz_core.specs.Ternary.{tri_of, admits, is_below, join_of, AllBelow, Refines}
use Rattle.hz_core.proofs.Refinements.{admits-tri_of, is_below-same, get_or-Refines, Refines-slice_range, get_or-AllBelow, AllBelow-slice_range}
use Rattle.hz_core.proofs.Extensions.{admits-extension, is_below-extension}
use Rattle.hz_net.specs.Network.{Driver, External, Function, Source, bit_at, value_at, driver_at, driver_value, driver_value3}
use Rattle.hz_net.specs.Passes.{excitations, join_each}

-- what drives a variable in a state refines what drives it in a ternary state that the state refines
pub admits-driver_value : (input state : List Bool) (values : List Tri) → Refines state values → (driver : Driver) → IsTrue (admits (driver_value3 input values driver) (driver_value input state driver))
admits-driver_value input state values h (External place) = admits-tri_of (bit_at input place)
admits-driver_value input state values h (Function kind first pins) =
    admits-extension kind _ _ (Refines-slice_range state values first (first + pins) h)
admits-driver_value input state values h (Source node) = get_or-Refines state values h node

-- in a lower ternary state what drives a variable is lower
pub is_below-driver_value3 : (input : List Bool) (small large : List Tri) → AllBelow small large → (driver : Driver) → IsTrue (is_below (driver_value3 input small driver) (driver_value3 input large driver))
is_below-driver_value3 input small large h (External place) = is_below-same (tri_of (bit_at input place))
is_below-driver_value3 input small large h (Function kind first pins) =
    is_below-extension kind _ _ (AllBelow-slice_range small large first (first + pins) h)
is_below-driver_value3 input small large h (Source node) = get_or-AllBelow small large h node

pub length-excitations : (net : List Driver) (input : List Bool) (values : List Tri) → length (excitations net input values) ≡ length net
length-excitations net input values = length-map net (driver_value3 input values)

-- the ternary excitation of a variable stands at its place among the excitations of all
pub at-excitations : (net : List Driver) (input : List Bool) (values : List Tri) (i : ℕ) → i < length net → value_at (excitations net input values) i ≡ driver_value3 input values (driver_at net i)
at-excitations net input values i inside = get_or-map (driver_value3 input values) net i (External 0) Zero inside

-- excitations are monotone
pub AllBelow-excitations : (net : List Driver) (input : List Bool) (small large : List Tri) → AllBelow small large → AllBelow (excitations net input small) (excitations net input large)
AllBelow-excitations [] input small large h = tt
AllBelow-excitations (driver ∷ net) input small large h =
    (is_below-driver_value3 input small large h driver, AllBelow-excitations net input small large h)

pub length-join_each : (values others : List Tri) → length values ≡ length others → length (join_each values others) ≡ length values
length-join_each [] others same = refl
length-join_each (value ∷ values) [] same = cc
length-join_each (value ∷ values) (other ∷ others) same = ap suc (length-join_each values others (omega (arith, same)))

pub at-join_each : (values others : List Tri) → length values ≡ length others → (i : ℕ) → value_at (join_each values others) i ≡ join_of (value_at values i) (value_at others i)
at-join_each [] [] same i = refl
at-join_each [] (other ∷ others) same i = cc
at-join_each (value ∷ values) [] same i = cc
at-join_each (value ∷ values) (other ∷ others) same zero = refl
at-join_each (value ∷ values) (other ∷ others) same (suc i) = at-join_each values others (omega (arith, same)) i
