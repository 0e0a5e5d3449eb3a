-- The inputs so far change.
use Rattle.std.proofs.Common.{◌≡◌, take, true}
use Rattle.std.specs.List.{list_all}
use Rattle.hz_explore.specs.Bursts.{is_changed}
use Rattle.hz_explore.proofs.bursts.change_all.Given as goal

abbrev pub invariant-loop-input : goal.invariant-loop-input
invariant-loop-input l = list_all (is_changed l.state) (take l.input-index l.burst) ≡ true
