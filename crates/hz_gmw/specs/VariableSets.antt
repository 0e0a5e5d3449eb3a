-- Sets of variables: what their fields hold, and what their members are.
use Rattle.std.specs.Prelude.{◌≡◌, ℕ, ◌<◌, ◌≤◌, Bool, true, List, length, All, count_by, vec_capacity}
use Rattle.hz_net.specs.Network.{bit_at}
use Rattle.hz_lists.specs.Listed.{is_listed, IsRepeatFree}
use Rattle.hz_gmw.specs.declared.variable_set.VariableSet.TheInside.{Inside}

-- a list has the variables that are marked, each once, and no others
pub record AreMembers (marks : List Bool) (list : List ℕ) : Type 0 where
  pub inside : All (λ var. var < length marks) list
  pub marked : All (λ var. bit_at marks var ≡ true) list
  pub every : (var : ℕ) → bit_at marks var ≡ true → is_listed list var ≡ true
  pub once : IsRepeatFree list

-- the members are those that are marked, and there is room for every variable
pub record HoldsSet (fields : Inside) : Type 0 where
  pub members : AreMembers fields.marks.items fields.members.items
  pub counted : length fields.members.items ≡ count_by (λ mark. mark) fields.marks.items
  pub room : length fields.marks.items ≤ vec_capacity fields.members
