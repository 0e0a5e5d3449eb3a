use Rattle.std.proofs.Common.{◌≡◌, ◌<◌, ◌≤◌, ℕ, Bool, length, drop, get_or, map}
use Rattle.hz_line.specs.Reading.{numbered_by}
use Rattle.hz_line.specs.Statement.{first_passing_line}
use Rattle.hz_text.specs.Rules.{repeats_node}
use Rattle.hz_text.proofs.text.first_twice.Given as goal

abbrev pub invariant-loop-index : goal.invariant-loop-index
invariant-loop-index g l =
    let context = g.T.Text.context l.reader in
    let test : g.T.Text.Stated → Bool = λ statement. repeats_node ((g.T.Text.rules context).assigned statement) in
    record {
      wide : length l.marks.items ≡ g.T.Text.node_count context;
      above : (k : ℕ) → k < length l.marks.items → get_or l.marks.items k 0 ≤ l.index;
      rest : first_passing_line test (map (numbered_by g.T.Text.stated) l.entries) ≡ first_passing_line test (map (numbered_by g.T.Text.stated) (drop l.index l.entries));
    }
