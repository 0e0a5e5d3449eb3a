-- What a scratch's fields stand for.
use Rattle.std.specs.Prelude.{ℕ, ◌≡◌, ◌+◌, ◌<◌, ◌≤◌, ◌^◌, IsTrue, length}
use Rattle.std.specs.Vec.{vec_capacity}
use Rattle.hz_lists.specs.Listed.{is_listed, IsRepeatFree}
use Rattle.hz_reach.specs.Order.{AscendsBelow}
use Rattle.hz_reach.specs.ScratchState.{ScratchState}
use Rattle.hz_reach.specs.declared.scratch.Scratch.TheInside.{Inside}

abbrev pub scratch_state_of : Inside → ScratchState
scratch_state_of fields =
    record {
      state = fields.state.items;
      sorted = fields.sorted.items;
      by_round = fields.by_round.items;
      marked = fields.marked.items;
    }

-- there is room for every variable, those that are sorted are listed by number, and the marked ones are variables, none of them twice
pub record HoldsScratch (fields : Inside) : Type 0 where
  pub few : length fields.state.items < 2 ^ 32
  pub first_fit : length fields.state.items + 1 ≤ vec_capacity fields.first
  pub next_long : length fields.next.items ≡ length fields.state.items
  pub listed_fit : length fields.state.items ≤ vec_capacity fields.listed
  pub listed_ascends : AscendsBelow (length fields.state.items) fields.listed.items
  pub listed_covers : (i : ℕ) → IsTrue (is_listed fields.sorted.items i)
      → IsTrue (is_listed fields.listed.items i)
  pub sorted_fit : length fields.state.items ≤ vec_capacity fields.sorted
  pub by_round_fit : length fields.state.items ≤ vec_capacity fields.by_round
  pub marked_fit : length fields.state.items ≤ vec_capacity fields.marked
  pub once : IsRepeatFree fields.marked.items
  pub inside : (i : ℕ) → IsTrue (is_listed fields.marked.items i) → i < length fields.state.items
