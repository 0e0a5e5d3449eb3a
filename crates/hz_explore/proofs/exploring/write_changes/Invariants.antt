-- The transitions of the bursts so far are made, and their lines are given.
use Rattle.std.proofs.Common.{◌≡◌, ◌+◌, ◌≤◌, Bool, List, take}
use Rattle.hz_explore.proofs.Words.{flat_map, Writes, has_failed, Transition, ends_of, found_by, transition_line, Extends, Makes, bursts_in, changes_in}
use Rattle.hz_explore.specs.Inside.{IsExploreRoom}
use Rattle.hz_explore.proofs.exploring.write_changes.Given as goal

abbrev pub invariant-loop-place : goal.invariant-loop-place
invariant-loop-place g l =
    (made : List Transition)
    × Makes l.exploring.making.net.now l.exploring.making.cap l.exploring.making.assumptions.now (take l.place (bursts_in l.exploring.bursts.now)) l.fn.room.start.items made l.fn.room l.room (has_failed l.writer)
    × ((all : List (List Bool)) → Extends (found_by l.fn.room.states (ends_of l.exploring.making.net.now made)) all →
    Writes g.K.Sink.output g.K.Sink.faults (flat_map (transition_line l.exploring.making.net.now l.exploring.making.assumptions.now all l.number) made) l.fn.writer l.writer)
    × (l.room.start ≡ l.fn.room.start)
    × IsExploreRoom l.exploring.making.net.now l.room
    × (changes_in l.room.totals ≤ changes_in l.fn.room.totals + l.place)
