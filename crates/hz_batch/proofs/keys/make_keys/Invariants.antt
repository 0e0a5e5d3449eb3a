use Rattle.std.proofs.Common.{◌≡◌, ◌<◌, ℕ, [], length, get_or}
use Rattle.hz_batch.specs.Columns.{no_values}
use Rattle.hz_batch.specs.Keys.{AreKeys}
use Rattle.hz_batch.proofs.keys.make_keys.Given as goal

-- the keys of the variables so far
abbrev pub invariant-loop-place : goal.invariant-loop-place
invariant-loop-place l =
    (length l.keys ≡ length l.fn.keys) × ((place : ℕ) → place < l.place → AreKeys (get_or l.firsts place no_values) (get_or l.seconds place no_values) (get_or l.keys place []))
