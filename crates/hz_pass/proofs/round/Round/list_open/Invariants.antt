use Rattle.std.proofs.Common.{◌≡◌, ◌*◌}
use Rattle.std.specs.Prelude.{vec_capacity}
use Rattle.hz_pass.specs.InRound.{ListsOpen}
use Rattle.hz_pass.proofs.round.Round.list_open.Given as goal

-- the variables of the blocks so far are listed, in the room that was there
abbrev pub invariant-loop-block : goal.invariant-loop-block
invariant-loop-block l = ListsOpen l.self (l.block * 16) l.listed.items × (vec_capacity l.listed ≡ vec_capacity l.fn.listed)
