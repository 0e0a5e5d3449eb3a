-- What a replayer's fields stand for.
use Rattle.std.specs.Prelude.{◌≡◌, ℕ, false, length, replicate}
use Rattle.hz_net.specs.Network.{network_of, bit_at, AreByVariable}
use Rattle.hz_gmw.specs.Replayer.{Replayer}
use Rattle.hz_gmw.specs.CurrentState.{IsExact}
use Rattle.hz_gmw.specs.Watches.{WatchFits, watched_variables}
use Rattle.hz_gmw.specs.declared.replay.Replay.TheInside.{Inside}

-- the replayer that the fields hold
abbrev pub replayer_of : Inside → Replayer
replayer_of fields = record {
  circuit = fields.net.now;
  input = fields.current.input.items;
  begun = fields.begun.items;
  state = fields.current.state.items;
  marked = fields.marked.items;
  stepped = fields.stepped;
  watched =
      watched_variables (network_of fields.net.now) fields.current.input.items
      fields.current.state.items (bit_at fields.watch.changed)
      (bit_at fields.watch.been_stable);
}

-- The counts are right; what did not change since the mark has the value that it had there, what did not move the value
-- that it had at the begin; and no variable is named.
pub record HoldsReplay (fields : Inside) : Type 0 where
  pub exact : IsExact fields.net.now fields.current
  pub watch : WatchFits fields.net.now fields.watch
  pub marked : AreByVariable fields.net.now fields.marked.items
  pub same : (i : ℕ) → bit_at fields.watch.changed i ≡ false →
      bit_at fields.marked.items i ≡ bit_at fields.current.state.items i
  pub begun : AreByVariable fields.net.now fields.begun.items
  pub moved : AreByVariable fields.net.now fields.moved
  pub back : (i : ℕ) → bit_at fields.moved i ≡ false →
      bit_at fields.begun.items i ≡ bit_at fields.current.state.items i
  pub named : fields.named ≡ replicate (length (network_of fields.net.now)) false
