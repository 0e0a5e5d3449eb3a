-- The variables that a replayer watches: those that may have waited ever since the mark.
use Rattle.std.specs.Prelude.{◌≡◌, ℕ, ◌⊎◌, Bool, true, false, not, ◌&&◌, ◌||◌, List, length, map}
use Rattle.std.specs.List.{range_with_len}
use Rattle.hz_core.specs.Netlist.{Netlist}
use Rattle.hz_net.specs.Network.{Driver, External, Function, Source, driver_at, bit_at, network_of, AreByVariable}
use Rattle.hz_net.specs.Reads.{IsWireInto}
use Rattle.hz_lists.specs.Listed.{is_listed}
use Rattle.hz_gmw.specs.Instability.{is_unstable}
use Rattle.hz_gmw.specs.declared.current_state.CurrentState.{CurrentState}
use Rattle.hz_gmw.specs.declared.watch.Watch.{Watch}

-- one mark for each variable, and one for each node
pub record WatchFits (netlist : Netlist) (watch : Watch) : Type 0 where
  pub changed : AreByVariable netlist watch.changed
  pub been_stable : length watch.been_stable ≡ length netlist.names

-- Whether variable i can't have waited since the mark, by the variables that changed since and the gates that were stable: a
-- wire if its source changed, a node if it changed or was stable. A wire that changed while its source did not is stable, so
-- of an unstable wire no more need be asked.
abbrev pub lapses : Driver → (ℕ → Bool) → (ℕ → Bool) → ℕ → Bool
lapses (External place) changed been_stable i = changed i || been_stable i
lapses (Function kind first pins) changed been_stable i = changed i || been_stable i
lapses (Source node) changed been_stable i = changed node

-- whether variable i is watched: it is unstable, and did not lapse
abbrev pub is_watched : List Driver → List Bool → List Bool → (ℕ → Bool) → (ℕ → Bool) → ℕ → Bool
is_watched net input state changed been_stable i =
    is_unstable net input state i && not (lapses (driver_at net i) changed been_stable i)

-- of each variable whether it is watched
abbrev pub watched_variables : List Driver → List Bool → List Bool → (ℕ → Bool) → (ℕ → Bool) →
    List Bool
watched_variables net input state changed been_stable =
    map (is_watched net input state changed been_stable) (range_with_len 0 (length net))

-- of each variable whether it is watched, in the current state
abbrev pub watched_in : Netlist → CurrentState → Watch → ℕ → Bool
watched_in netlist current watch =
    is_watched (network_of netlist) current.input.items current.state.items (bit_at watch.changed)
    (bit_at watch.been_stable)

-- whether variable i is unstable and did not change
abbrev pub unstable_unchanged : List Driver → List Bool → List Bool → (ℕ → Bool) → ℕ → Bool
unstable_unchanged net input state changed i = is_unstable net input state i && not (changed i)

-- The gates that were known to have been stable, before the listed variables change, and those that are known now: the
-- stable gates into which one of these variables goes are among them, and no unstable gate is new.
pub record RecordsStable (net : List Driver) (input state : List Bool) (flips : List ℕ)
    (before after : List Bool) : Type 0 where
  pub long : length after ≡ length before
  pub kept : (i : ℕ) → bit_at before i ≡ true → bit_at after i ≡ true
  pub only : (i : ℕ) → bit_at after i ≡ true →
      (bit_at before i ≡ true) ⊎ (is_unstable net input state i ≡ false)
  pub every : (gate wire : ℕ) → is_listed flips wire ≡ true → IsWireInto net gate wire →
      is_unstable net input state gate ≡ false → bit_at after gate ≡ true

-- the same before the listed variables of the current state change
abbrev pub NotesStable : Netlist → CurrentState → List ℕ → List Bool → List Bool → Type 0
NotesStable netlist current flips before after =
    RecordsStable (network_of netlist) current.input.items current.state.items flips before after
