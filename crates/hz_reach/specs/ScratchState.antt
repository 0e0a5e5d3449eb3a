-- What a scratch holds: a state, a list of sorted variables, a second one of variables by settling round, and a list of marked ones.
use Rattle.std.specs.Prelude.{ℕ, Bool, false, List, [], replicate}

pub record ScratchState : Type 0 where
  pub state : List Bool
  pub sorted : List ℕ
  pub by_round : List ℕ
  pub marked : List ℕ

-- every variable is 0 and the lists are empty
abbrev pub blank_scratch : ℕ → ScratchState
blank_scratch variables =
    record { state = replicate variables false; sorted = []; by_round = []; marked = [] }
