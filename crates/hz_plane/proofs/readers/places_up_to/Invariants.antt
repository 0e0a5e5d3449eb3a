use Rattle.std.proofs.Common.{◌<◌, ◌≤◌, ℕ, All, get_or}
use Rattle.std.specs.Prelude.{Contains}
use Rattle.hz_plane.proofs.readers.places_up_to.Given as goal

abbrev pub invariant-loop-reader : goal.invariant-loop-reader
invariant-loop-reader l = record {
  inside : (end : ℕ) → All (λ (reader : ℕ). reader < end) l.places → All (λ (reader : ℕ). reader < end) l.list.items;
  reads : (k : ℕ) → k < l.reader-index → get_or l.places k 0 ≤ l.place → Contains l.list.items (get_or l.places k 0);
}
