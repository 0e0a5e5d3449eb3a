use Rattle.std.proofs.Common.{◌≡◌, ◌++◌, length, map, true}
use Rattle.hz_line.specs.Token.{tokens_of}
use Rattle.hz_bench.specs.Names.{are_names, places, source_number, told, with_uses}
use Rattle.hz_bench.specs.Statement.{are_punctuated, words_in}
use Rattle.hz_bench.proofs.parse.use_names.Given as goal

abbrev pub invariant-loop-source : goal.invariant-loop-source
invariant-loop-source l = record {
  names_rest : with_uses l.names l.line (words_in l.left) ≡ with_uses l.fn.names l.line (words_in l.part);
  numbers_rest : told (map source_number l.sources.items) ++ places (with_uses l.fn.names l.line (words_in l.part)) (words_in l.left)
      ≡ told (map source_number l.fn.sources.items) ++ places (with_uses l.fn.names l.line (words_in l.part)) (words_in l.part);
  listed : are_punctuated (tokens_of l.left) ≡ true;
  named : are_names l.fn.sources.items ≡ true → are_names l.sources.items ≡ true;
}

abbrev pub decreases-loop-source : goal.decreases-loop-source
decreases-loop-source l = length l.left
