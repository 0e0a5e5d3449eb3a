-- The word so far, and then the pins that are left, come to the whole.
use Rattle.std.proofs.Common.{◌≡◌, false, drop}
use Rattle.std.specs.List.{fold}
use Rattle.hz_word.specs.Capped.{IsWithinCap}
use Rattle.hz_word.specs.Pairs.{constant_word, parity_pair}
use Rattle.hz_word.proofs.folding.parity.Given as goal

abbrev pub invariant-loop-pin : goal.invariant-loop-pin
invariant-loop-pin l =
    IsWithinCap l.cap l.so_far.changes
    × (fold (parity_pair l.cap) l.so_far (drop l.pin-index l.pins) ≡ fold (parity_pair l.cap) (constant_word false) l.pins)
