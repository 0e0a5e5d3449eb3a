-- What words are told from, with the words that were written for it.
use Rattle.std.proofs.Common.{◌≡◌, ◌∙◌, Option, None, length, replicate, ap, sym, subst, arith, rules}
use Rattle.hz_bounds.proofs.Words.{network_of, Word}
use Rattle.std.proofs.lemmas.List.{length-replicate}
use Rattle.hz_free.specs.VariableWords.{AreCappedWords}
use Rattle.hz_bounds.proofs.Known.{written-whole}
use Rattle.hz_bounds.proofs.telling.tell.Goals as goal

pub tell_all-requires-clause-telling : goal.tell_all-requires-clause-telling
tell_all-requires-clause-telling c =
    let filled : c.in_ok-words.words.items ≡ replicate c.len.result None = search rules in
    let old : length c.in_ok-words.words.items ≡ c.len.result = ap length filled ∙ length-replicate {A = Option Word} c.len.result None in
    let new = c.words_given_a.new.out in
    let size : length new ≡ c.len.result = c.words_given_a.ensures.long ∙ sym c.len.ensures.len in
    let same : c.as_slice.result.now ≡ new = c.as_slice.ensures.value
    ∙ written-whole new c.in_ok-words.words.items c.in_ok-words.words.len (omega (arith, size, old, c.in_ok-words.words.ok.0)) (sym c.in_ok-words.words.ok.0) in
    record {
      circuit = c.requires.part.circuit;
      whole = c.requires.part.whole;
      start = c.requires.start;
      input = c.requires.input;
      result = c.requires.a;
      cap_low = c.requires.cap_low;
      cap_high = c.requires.cap_high;
      words = subst (AreCappedWords (network_of c.args.net.now) c.args.input.now c.args.start.now c.args.cap) (sym same) c.words_given_a.ensures;
    }
