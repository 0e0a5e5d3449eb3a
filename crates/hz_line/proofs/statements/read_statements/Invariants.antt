use Rattle.std.proofs.Common.{◌≡◌, ◌++◌, ◌+◌, ◌≤◌, suc, length, map}
use Rattle.std.specs.List.{All}
use Rattle.hz_line.specs.Line.{lines_of, lines_of_rest, rest_length}
use Rattle.hz_line.specs.Reading.{numbered_by}
use Rattle.hz_line.specs.Statement.{numbered_statements, numbered_from, first_malformed}
use Rattle.hz_line.proofs.statements.read_statements.Given as goal

abbrev pub invariant-loop-rest : goal.invariant-loop-rest
invariant-loop-rest g l =
    let context = g.G.Grammar.context l.fn.grammar in
    let grammar = g.G.Grammar.grammar context in
    record {
      counted : l.line + rest_length l.rest ≤ suc (length l.text);
      statements :
          numbered_statements grammar l.text ≡ map (numbered_by g.G.Grammar.stated) l.entries.items ++ numbered_from grammar (suc l.line) (lines_of_rest l.rest);
      formed : first_malformed grammar 1 (lines_of l.text) ≡ first_malformed grammar (suc l.line) (lines_of_rest l.rest);
      sound : All (λ entry. g.G.Grammar.IsSound context entry.held) l.entries.items;
      same : g.G.Grammar.context l.grammar ≡ context;
    }

abbrev pub decreases-loop-rest : goal.decreases-loop-rest
decreases-loop-rest g l = rest_length l.rest
