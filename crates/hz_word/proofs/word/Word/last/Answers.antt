-- The last letter of all words with this capped form.
use Rattle.std.proofs.Common.{◌∙◌}
use Rattle.hz_word.proofs.Letters.{last-capped_word}
use Rattle.hz_word.proofs.word.Word.last.Goals as goal

pub returns-in-Exact-clause-letter : goal.returns-in-Exact-clause-letter
returns-in-Exact-clause-letter c =
    λ cap letters is_word same.
    c.last_after.ensures ∙ last-capped_word cap letters c.args.self c.in-Exact.changes is_word same c.in-Exact.is
