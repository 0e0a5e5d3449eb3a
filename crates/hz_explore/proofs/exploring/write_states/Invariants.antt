-- The states so far are explored, and their lines are given.
use Rattle.std.proofs.Common.{◌≡◌, ◌*◌, ◌≤◌, Bool, false, List, length}
use Rattle.hz_explore.proofs.Words.{expansion_of, Writes, has_failed, state_at, Explored, all_transitions, all_explored_text, Extends, IsSoFar, Counts, bursts_in, changes_in}
use Rattle.hz_explore.specs.Inside.{IsExploreRoom}
use Rattle.hz_explore.proofs.exploring.write_states.Given as goal

abbrev pub invariant-loop-number : goal.invariant-loop-number
invariant-loop-number g l =
    (done : List Explored)
    × (found : List (List Bool))
    × IsSoFar l.exploring.making.net.now l.exploring.making.cap l.exploring.making.assumptions.now (bursts_in l.exploring.bursts.now) (expansion_of l.exploring.making.net.now (state_at l.fn.room.states 0)) done found
    × (length done ≡ l.number)
    × ((all : List (List Bool)) → Extends found all → Writes g.K.Sink.output g.K.Sink.faults (all_explored_text l.exploring.making.net.now l.exploring.making.assumptions.now all 1 done) l.fn.writer l.writer)
    × (has_failed l.writer ≡ false → l.room.states ≡ found)
    × (has_failed l.writer ≡ false → Counts l.exploring.making.net.now (all_transitions done) l.room)
    × IsExploreRoom l.exploring.making.net.now l.room
    × (changes_in l.room.totals ≤ l.number * 400000)
