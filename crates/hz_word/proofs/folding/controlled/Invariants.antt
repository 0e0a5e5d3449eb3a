-- The word so far, and then the pins that are left, come to the whole.
use Rattle.std.proofs.Common.{◌≡◌, not, drop}
use Rattle.std.specs.List.{fold}
use Rattle.hz_word.specs.Capped.{IsWithinCap}
use Rattle.hz_word.specs.Pairs.{constant_word, controlled_pair}
use Rattle.hz_word.proofs.folding.controlled.Given as goal

abbrev pub invariant-loop-pin : goal.invariant-loop-pin
invariant-loop-pin l =
    IsWithinCap l.cap l.so_far.changes
    × (fold (controlled_pair l.controlling l.cap) l.so_far (drop l.pin-index l.pins) ≡ fold (controlled_pair l.controlling l.cap) (constant_word (not l.controlling)) l.pins)
