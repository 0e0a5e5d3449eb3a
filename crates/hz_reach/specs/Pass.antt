-- A pass over the unsettled gates: where it may begin, what it makes, and how often it changes each variable. Words about
-- the inside of this crate.
use Rattle.std.specs.Prelude.{◌≡◌, ◌≢◌, ℕ, ◌<◌, ◌≤◌, Bool, not, List, ◌++◌, length, sum_by, Contains}
use Rattle.std.specs.List.{range_with_len}
use Rattle.hz_core.specs.declared.tri.Tri.{Tri}
use Rattle.hz_core.specs.declared.kind.Kind.{Kind}
use Rattle.hz_core.specs.Ternary.{Refines}
use Rattle.hz_net.specs.Network.{Driver, Function, Source, driver_at, bit_at, value_at, driver_value3}
use Rattle.hz_net.specs.Passes.{IsKnown, IsUnknown}
use Rattle.hz_gmw.specs.Runs.{IsRun, end_of}
use Rattle.hz_gmw.specs.RunRecord.{RunRecord}
use Rattle.hz_gmw.specs.Cycles.{states_of}
use Rattle.hz_reach.specs.Order.{key_at, IsEarlier}
use Rattle.hz_reach.specs.Room.{HasRoomFor}
use Rattle.hz_net.specs.Reads.{IsWireInto}
use Rattle.hz_reach.specs.Spread.{changes_in}
use Rattle.hz_reach.specs.Turned.{IsTurned}

-- a ternary state that one round of Algorithm B leaves as it is
pub record IsFixed (net : List Driver) (input : List Bool) (b : List Tri) : Type 0 where
  pub long : length b ≡ length net
  pub same : (i : ℕ) → i < length net → value_at b i ≡ driver_value3 input b (driver_at net i)

-- What a pass is given of a change: values that one round of Algorithm B leaves as they are, under some input, and ranks of
-- which none is 0 if the value is X.
pub record AreFixedAndRanked (net : List Driver) (ranks : List ℕ) (b : List Tri) : Type 0 where
  pub input : List Bool
  pub fixed : IsFixed net input b
  pub long : length ranks ≡ length net
  pub ranked : (i : ℕ) → IsUnknown (value_at b i) → key_at ranks i ≢ 0

-- A state in which a pass may begin: each settled variable has its value, and an unsettled wire into an unsettled gate
-- differs from its source if the source is not earlier.
pub record MayBegin (net : List Driver) (ranks : List ℕ) (b : List Tri)
    (state : List Bool) : Type 0 where
  pub settled : Refines state b
  pub differs :
      (wire source gate : ℕ) → driver_at net wire ≡ Source source → IsWireInto net gate wire →
      IsUnknown (value_at b wire) →
      IsUnknown (value_at b gate) → (IsEarlier ranks source gate → ⊥) →
      bit_at state wire ≢ bit_at state source

-- Numbers that are no less than how often a pass from a state changes each variable: once for a gate, once for a wire, and
-- twice for a wire into an unsettled gate, unless its source is earlier and has its bit.
pub record AreEnough (net : List Driver) (ranks : List ℕ) (b : List Tri) (state : List Bool)
    (most : ℕ → ℕ) : Type 0 where
  pub gates :
      (gate : ℕ) (kind : Kind) (first pins : ℕ) → driver_at net gate ≡ Function kind first pins →
      IsUnknown (value_at b gate) →
      1 ≤ most gate
  pub wires :
      (wire source gate : ℕ) → driver_at net wire ≡ Source source → IsWireInto net gate wire →
      IsUnknown (value_at b wire) →
      1 ≤ most wire
  pub twice :
      (wire source gate : ℕ) → driver_at net wire ≡ Source source → IsWireInto net gate wire →
      IsUnknown (value_at b wire) →
      IsUnknown (value_at b gate) →
      (IsEarlier ranks source gate → bit_at state wire ≢ bit_at state source) → 2 ≤ most wire

-- a run has the room for a pass
pub record HasRoom (net : List Driver) (ranks : List ℕ) (b : List Tri) (state : List Bool)
    (run : RunRecord) : Type 0 where
  pub most : ℕ → ℕ
  pub enough : AreEnough net ranks b state most
  pub room : HasRoomFor (sum_by most (range_with_len 0 (length net))) run

-- A pass: a run from a state to a turned one, in which each unsettled gate changes once and no settled variable changes;
-- each unsettled wire has on the way the bit that its source had at the beginning.
pub record IsPass (net : List Driver) (input : List Bool) (ranks : List ℕ) (b : List Tri)
    (begun : List Bool) (made : List (List ℕ)) (state : List Bool) : Type 0 where
  pub run : IsRun net input begun made
  pub ends : end_of begun made ≡ state
  pub turned : IsTurned net ranks b state
  pub known : (i : ℕ) → IsKnown (value_at b i) → changes_in made i ≡ 0
  pub gates :
      (gate : ℕ) (kind : Kind) (first pins : ℕ) → driver_at net gate ≡ Function kind first pins →
      IsUnknown (value_at b gate) →
      bit_at state gate ≡ not (bit_at begun gate)
  pub shown :
      (wire source : ℕ) → driver_at net wire ≡ Source source → IsUnknown (value_at b wire) →
      (member : List Bool) × Contains (states_of begun made) member
      × (bit_at member wire ≡ bit_at begun source)
  pub few : (most : ℕ → ℕ) → AreEnough net ranks b begun most → (i : ℕ) → changes_in made i ≤ most i

-- the steps of a run after a pass, whatever the input under which the values are fixed
pub record IsPassMade (net : List Driver) (ranks : List ℕ) (b : List Tri) (begun : List Bool)
    (before after : List (List ℕ)) (state : List Bool) : Type 0 where
  pub made : List (List ℕ)
  pub whole : after ≡ before ++ made
  pub pass : (input : List Bool) → IsFixed net input b → IsPass net input ranks b begun made state
