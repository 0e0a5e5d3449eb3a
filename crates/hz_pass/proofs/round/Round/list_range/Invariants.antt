use Rattle.std.proofs.Common.{◌≡◌}
use Rattle.std.specs.Prelude.{vec_capacity}
use Rattle.hz_pass.specs.InRound.{ListsOpen}
use Rattle.hz_pass.proofs.round.Round.list_range.Given as goal

-- the variables so far are listed, in the room that was there
abbrev pub invariant-loop-var : goal.invariant-loop-var
invariant-loop-var l = ListsOpen l.self l.var l.listed.items × (vec_capacity l.listed ≡ vec_capacity l.fn.listed)
