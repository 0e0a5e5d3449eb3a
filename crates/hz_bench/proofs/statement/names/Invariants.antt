use Rattle.std.proofs.Common.{◌≡◌, ◌≤◌, ◌+◌, ◌++◌, length, map, option_map, true}
use Rattle.hz_line.specs.Token.{tokens_of}
use Rattle.hz_bench.specs.Head.{names_by, name_list_with, no_name_list}
use Rattle.hz_bench.specs.Statement.{are_punctuated, words_in}
use Rattle.hz_bench.proofs.statement.names.Given as goal

abbrev pub invariant-loop-name : goal.invariant-loop-name
invariant-loop-name l = record {
  same : option_map (name_list_with l.names) (names_by (tokens_of l.left)) ≡ option_map (name_list_with no_name_list) (names_by (tokens_of l.line));
  few : l.names.count + length l.left ≤ length l.line;
  most : length l.words.items ≤ l.names.count;
  kept : are_punctuated (tokens_of l.left) ≡ true → length l.words.items ≡ l.names.count
      → map (λ word. word.now) l.words.items ++ words_in l.left ≡ words_in l.line;
}

abbrev pub decreases-loop-name : goal.decreases-loop-name
decreases-loop-name l = length l.left
