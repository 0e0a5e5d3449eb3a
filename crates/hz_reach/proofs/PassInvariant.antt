-- What holds inside a pass, before and after each gate's turn.
use Rattle.std.proofs.Common.{◌≡◌, ◌≢◌, ℕ, ◌+◌, ◌<◌, ◌⊎◌, Bool, true, false, not, cond, List, length, map, slice_range}
use Rattle.hz_reach.proofs.Words.{Tri, Kind, is_unknown, Refines, IsPattern, Driver, Function, Source, driver_at, bit_at, value_at, IsKnown, IsUnknown}
use Rattle.hz_reach.proofs.Words.{IsEarlier, IsWireInto}

-- What the pins of a gate that has had its turn show: a settled pin the bit of its wire; an unsettled pin its source's bit
-- if the source is not earlier and has had its turn, else the complement of its source's bit.
pub record IsShownInside (net : List Driver) (ranks : List ℕ) (b : List Tri) (had : ℕ → Bool) (state : List Bool) (gate first pins : ℕ) (shown : List Bool) : Type 0 where
  pub long : length shown ≡ pins
  pub settled : (pin : ℕ) → pin < pins → IsKnown (value_at b (first + pin)) → bit_at shown pin ≡ bit_at state (first + pin)
  pub complement :
      (pin source : ℕ) → pin < pins → IsUnknown (value_at b (first + pin)) → driver_at net (first + pin) ≡ Source source →
      IsEarlier ranks source gate ⊎ (had source ≡ false) → bit_at shown pin ≡ not (bit_at state source)
  pub same :
      (pin source : ℕ) → pin < pins → IsUnknown (value_at b (first + pin)) → driver_at net (first + pin) ≡ Source source →
      (IsEarlier ranks source gate → ⊥) → had source ≡ true → bit_at shown pin ≡ bit_at state source

-- The wires of such a gate from earlier sources have their bits in the canonical pattern.
pub record HasPatternInside (net : List Driver) (ranks : List ℕ) (b : List Tri) (had : ℕ → Bool) (state : List Bool) (gate : ℕ) (kind : Kind) (first pins : ℕ) : Type 0 where
  pub shown : List Bool
  pub pattern : List Bool
  pub is_shown : IsShownInside net ranks b had state gate first pins shown
  pub canonical : IsPattern kind shown (map is_unknown (slice_range b first (first + pins))) (bit_at state gate) pattern
  pub wires :
      (pin source : ℕ) → pin < pins → IsUnknown (value_at b (first + pin)) → driver_at net (first + pin) ≡ Source source →
      IsEarlier ranks source gate → bit_at state (first + pin) ≡ bit_at pattern pin

-- Inside a pass that began in a state. `had` says of a variable whether it has had its turn.
--   settled   each settled variable has its value
--   gates     an unsettled gate has the complement of its bit at the beginning exactly if it has had its turn
--   fresh     an unsettled wire into a gate that has had no turn differs from its source if the source is not earlier
--   differs   an unsettled wire whose source has had its turn differs from it, unless its gate has had its turn and the
--             source is earlier
--   patterns  the wires of a gate that has had its turn
pub record IsInside (net : List Driver) (ranks : List ℕ) (b : List Tri) (begun : List Bool) (had : ℕ → Bool) (state : List Bool) : Type 0 where
  pub settled : Refines state b
  pub gates :
      (gate : ℕ) (kind : Kind) (first pins : ℕ) → driver_at net gate ≡ Function kind first pins → IsUnknown (value_at b gate) →
      bit_at state gate ≡ cond (had gate) (not (bit_at begun gate)) (bit_at begun gate)
  pub fresh :
      (wire source gate : ℕ) → driver_at net wire ≡ Source source → IsWireInto net gate wire → IsUnknown (value_at b wire) →
      IsUnknown (value_at b gate) → had gate ≡ false → (IsEarlier ranks source gate → ⊥) → bit_at state wire ≢ bit_at state source
  pub differs :
      (wire source gate : ℕ) → driver_at net wire ≡ Source source → IsWireInto net gate wire → IsUnknown (value_at b wire) →
      had source ≡ true → IsKnown (value_at b gate) ⊎ ((had gate ≡ false) ⊎ (IsEarlier ranks source gate → ⊥)) →
      bit_at state wire ≢ bit_at state source
  pub patterns :
      (gate : ℕ) (kind : Kind) (first pins : ℕ) → driver_at net gate ≡ Function kind first pins → IsUnknown (value_at b gate) →
      had gate ≡ true → HasPatternInside net ranks b had state gate kind first pins
