use Rattle.std.proofs.Common.{◌≡◌, drop, map}
use Rattle.hz_line.specs.Reading.{numbered_by}
use Rattle.hz_line.specs.Statement.{first_passing_line}
use Rattle.hz_text.proofs.text.first_unknown.Given as goal

abbrev pub invariant-loop-entry : goal.invariant-loop-entry
invariant-loop-entry g l =
    let test = (g.T.Text.rules (g.T.Text.context l.reader)).unknown in
    first_passing_line test (map (numbered_by g.T.Text.stated) l.entries) ≡ first_passing_line test (map (numbered_by g.T.Text.stated) (drop l.entry-index l.entries))
