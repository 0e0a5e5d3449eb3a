use Rattle.std.proofs.Common.{◌≡◌, ℕ, ◌<◌, false, length, take}
use Rattle.std.specs.Prelude.{nat_eq}
use Rattle.std.specs.List.{list_any, slice_index_or}
use Rattle.hz_blif.proofs.reading.marks.Given as goal

abbrev pub invariant-loop-number : goal.invariant-loop-number
invariant-loop-number l = record {
  long : length l.marks.items ≡ l.names;
  set : (number : ℕ) → number < l.names → slice_index_or l.marks.items number false ≡ list_any (nat_eq number) (take l.number-index l.marked);
}
