-- It begins as the variable, and has at least the changes that its driver gives.
use Rattle.hz_gmw.proofs.Bits.{beq-same}
use Rattle.hz_bounds.proofs.driven.is_enough.Goals as goal

pub returns-then-so_far-telling : goal.returns-then-so_far-telling
returns-then-so_far-telling c =
    λ yes. record {
      begins = beq-same _ _ c.if-so_far-telling.true;
      given = c.given-word.result;
      gives = c.given-word.ensures.gives;
      enough = c.is_at_most.ensures yes;
    }
