use Rattle.std.proofs.Common.{◌∙◌, ◌∷◌, ◌++◌, [], ap, sym}
use Rattle.hz_blif.proofs.LineLemmas.{piece-more, piece-end}
use Rattle.hz_blif.specs.Text.{without_comment}
use Rattle.hz_blif.proofs.lines.piece_of.Goals as goal

pub returns-then-last-eq92 : goal.returns-then-last-eq92
returns-then-last-eq92 c =
    let found = piece-more (without_comment c.args.line.now) c.in-Some.front.now
    (sym c.without_comment-bytes.ensures ∙ c.in-Some.ensures.cases.0 ∙ ap (λ last. c.in-Some.front.now ++ last ∷ []) c.if-last-eq92.true) in
    record { joins = found.0; front = found.1 }

pub returns-else-last-eq92 : goal.returns-else-last-eq92
returns-else-last-eq92 c =
    let found = piece-end (without_comment c.args.line.now) c.in-Some.front.now c.in-Some.last.now
    (sym c.without_comment-bytes.ensures ∙ c.in-Some.ensures.cases.0) c.if-last-eq92.false in
    record { joins = found.0; front = c.without_comment-bytes.ensures ∙ found.1 }
