-- The assignments so far.
use Rattle.std.proofs.Common.{◌≡◌, take}
use Rattle.hz_seq.specs.Sequence.{changed_input}
use Rattle.hz_edge_reports.proofs.settling.assign.Given as goal

abbrev pub invariant-loop-place : goal.invariant-loop-place
invariant-loop-place l = l.input ≡ changed_input l.initial.input (take l.place-index l.change)
