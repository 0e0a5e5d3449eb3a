use Rattle.std.proofs.Common.{◌≡◌, ◌<◌, ◌≤◌, ℕ, length, map, All, slice_index}
use Rattle.smallvec.specs.SmallVec.{SmallVec}
use Rattle.std.specs.Prelude.{Contains}
use Rattle.hz_core.specs.Netlist.{gate_at}
use Rattle.hz_plane.specs.Sweeps.{readers_at}
use Rattle.hz_plane.proofs.readers.all_back.Given as goal

abbrev pub invariant-loop-place : goal.invariant-loop-place
invariant-loop-place l = record {
  long : length l.lists.items ≡ l.place;
  inside : (place : ℕ) → All (λ (reader : ℕ). reader < length l.order) (readers_at (map (λ (list : SmallVec ℕ). list.items) l.lists.items) place);
  reads : (place reader : ℕ) → place < l.place → reader ≤ place → Contains (gate_at l.net (slice_index l.order reader)).sources (slice_index l.order place) → Contains (readers_at (map (λ (list : SmallVec ℕ). list.items) l.lists.items) place) reader;
}
