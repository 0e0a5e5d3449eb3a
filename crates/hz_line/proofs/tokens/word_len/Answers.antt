use Rattle.std.proofs.Common.{length, sym, arith, ◌∙◌}
use Rattle.std.proofs.lemmas.List.Sums.{prefix_len_is}
use Rattle.hz_line.specs.Byte.{is_word_byte}
use Rattle.hz_line.proofs.tokens.word_len.Goals as goal

pub returns-then-not-is_word_byte-clause-value : goal.returns-then-not-is_word_byte-clause-value
returns-then-not-is_word_byte-clause-value c = sym (prefix_len_is is_word_byte c.args.line.now c.loop-index.index 0 (omega arith) c.loop-index.invariant (λ _. sym c.is_word_byte.ensures ∙ c.if-not-is_word_byte.true))

pub returns-clause-value : goal.returns-clause-value
returns-clause-value c = sym (prefix_len_is is_word_byte c.args.line.now (length c.args.line.now) 0 (omega arith) (λ k h. c.loop-index.invariant k (omega arith)) (λ h. absurd (omega arith)))
