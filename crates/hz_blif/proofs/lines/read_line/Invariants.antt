use Rattle.std.proofs.Common.{◌+◌, ◌≤◌, length}
use Rattle.hz_line.specs.Line.{rest_length}
use Rattle.hz_blif.specs.Reading.{bytes_of}
use Rattle.hz_blif.proofs.JoinLemmas.{IsJoining}
use Rattle.hz_blif.proofs.lines.read_line.Given as goal

abbrev pub invariant-loop-rest : goal.invariant-loop-rest
invariant-loop-rest l = record {
  counted : l.lines + rest_length l.rest ≤ length l.text + 1;
  joining : IsJoining l.text (bytes_of l.tokens.items) l.lines l.is_forbidden l.rest;
}

abbrev pub decreases-loop-rest : goal.decreases-loop-rest
decreases-loop-rest l = rest_length l.rest
