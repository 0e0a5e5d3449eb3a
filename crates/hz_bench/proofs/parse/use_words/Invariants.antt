use Rattle.std.proofs.Common.{◌≡◌, ◌++◌, drop, map, true}
use Rattle.hz_bench.specs.Names.{are_names, places, source_number, told, with_uses}
use Rattle.hz_bench.proofs.parse.use_words.Given as goal

abbrev pub invariant-loop-word : goal.invariant-loop-word
invariant-loop-word l = record {
  names_rest : with_uses l.names l.line (map (λ word. word.now) (drop l.word-index l.words)) ≡ with_uses l.fn.names l.line (map (λ word. word.now) l.words);
  numbers_rest : told (map source_number l.sources.items) ++ places (with_uses l.fn.names l.line (map (λ word. word.now) l.words)) (map (λ word. word.now) (drop l.word-index l.words))
      ≡ told (map source_number l.fn.sources.items) ++ places (with_uses l.fn.names l.line (map (λ word. word.now) l.words)) (map (λ word. word.now) l.words);
  named : are_names l.fn.sources.items ≡ true → are_names l.sources.items ≡ true;
}
