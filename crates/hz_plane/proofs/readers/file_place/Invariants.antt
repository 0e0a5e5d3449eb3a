use Rattle.std.proofs.Common.{◌<◌, ℕ, map, All, get_or}
use Rattle.smallvec.specs.SmallVec.{SmallVec}
use Rattle.std.specs.Prelude.{Contains}
use Rattle.hz_core.specs.Netlist.{gate_at}
use Rattle.hz_plane.specs.Sweeps.{readers_at}
use Rattle.hz_plane.proofs.readers.file_place.Given as goal

abbrev pub invariant-loop-source : goal.invariant-loop-source
invariant-loop-source l = record {
  inside : (end node : ℕ) → All (λ (reader : ℕ). reader < end) (readers_at (map (λ (list : SmallVec ℕ). list.items) l.fn.lists) node) → l.place < end → All (λ (reader : ℕ). reader < end) (readers_at (map (λ (list : SmallVec ℕ). list.items) l.lists) node);
  kept : (node reader : ℕ) → Contains (readers_at (map (λ (list : SmallVec ℕ). list.items) l.fn.lists) node) reader → Contains (readers_at (map (λ (list : SmallVec ℕ). list.items) l.lists) node) reader;
  filed : (k : ℕ) → k < l.source-index → Contains (readers_at (map (λ (list : SmallVec ℕ). list.items) l.lists) (get_or (gate_at l.net l.gate).sources k 0)) l.place;
}
