-- Turned states: those between which the passes of a cycle go. A variable is unsettled if it is X in the result of
-- Algorithm B, else settled; a source is earlier than a gate by rank in Algorithm A and then by number.
use Rattle.std.specs.Prelude.{◌≡◌, ◌≢◌, ℕ, ◌+◌, ◌<◌, ◌⊎◌, Bool, not, List, length, map}
use Rattle.std.specs.List.{slice_range}
use Rattle.hz_core.specs.declared.tri.Tri.{Tri}
use Rattle.hz_core.specs.declared.kind.Kind.{Kind}
use Rattle.hz_core.specs.Ternary.{is_unknown, Refines}
use Rattle.hz_core.specs.Pattern.{IsPattern}
use Rattle.hz_net.specs.Network.{Driver, Function, Source, driver_at, bit_at, value_at}
use Rattle.hz_net.specs.Passes.{IsKnown, IsUnknown}
use Rattle.hz_reach.specs.Order.{IsEarlier}
use Rattle.hz_net.specs.Reads.{IsWireInto}

-- What an unsettled gate's pins show in a turned state: a settled pin the bit of its wire; an unsettled pin the
-- complement of its source's bit if the source is earlier than the gate, else its source's bit.
pub record IsShown (net : List Driver) (ranks : List ℕ) (b : List Tri) (state : List Bool)
    (gate first pins : ℕ) (shown : List Bool) : Type 0 where
  pub long : length shown ≡ pins
  pub settled : (pin : ℕ) → pin < pins → IsKnown (value_at b (first + pin)) →
      bit_at shown pin ≡ bit_at state (first + pin)
  pub earlier :
      (pin source : ℕ) → pin < pins → IsUnknown (value_at b (first + pin)) →
      driver_at net (first + pin) ≡ Source source →
      IsEarlier ranks source gate → bit_at shown pin ≡ not (bit_at state source)
  pub later :
      (pin source : ℕ) → pin < pins → IsUnknown (value_at b (first + pin)) →
      driver_at net (first + pin) ≡ Source source →
      (IsEarlier ranks source gate → ⊥) → bit_at shown pin ≡ bit_at state source

-- An unsettled gate's wires from earlier sources have their bits in the canonical pattern which gives the gate its bit, of
-- what its pins show, if the unsettled pins are free.
pub record HasPattern (net : List Driver) (ranks : List ℕ) (b : List Tri) (state : List Bool)
    (gate : ℕ) (kind : Kind) (first pins : ℕ) : Type 0 where
  pub shown : List Bool
  pub pattern : List Bool
  pub is_shown : IsShown net ranks b state gate first pins shown
  pub canonical : IsPattern kind shown (map is_unknown (slice_range b first (first + pins)))
      (bit_at state gate) pattern
  pub wires :
      (pin source : ℕ) → pin < pins → IsUnknown (value_at b (first + pin)) →
      driver_at net (first + pin) ≡ Source source →
      IsEarlier ranks source gate → bit_at state (first + pin) ≡ bit_at pattern pin

-- A turned state: each settled variable has its value; an unsettled wire whose gate is settled, or whose source is not
-- earlier than its gate, differs from its source; every other unsettled wire has its bit in its gate's pattern.
pub record IsTurned (net : List Driver) (ranks : List ℕ) (b : List Tri)
    (state : List Bool) : Type 0 where
  pub settled : Refines state b
  pub differs :
      (wire source gate : ℕ) → driver_at net wire ≡ Source source → IsWireInto net gate wire →
      IsUnknown (value_at b wire) →
      IsKnown (value_at b gate) ⊎ (IsEarlier ranks source gate → ⊥) →
      bit_at state wire ≢ bit_at state source
  pub patterns :
      (gate : ℕ) (kind : Kind) (first pins : ℕ) → driver_at net gate ≡ Function kind first pins →
      IsUnknown (value_at b gate) →
      HasPattern net ranks b state gate kind first pins
