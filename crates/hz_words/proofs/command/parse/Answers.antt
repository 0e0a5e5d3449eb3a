use Rattle.std.proofs.Common.{◌∙◌, Some, ap, sym}
use Rattle.hz_words.specs.Command.{Texts}
use Rattle.hz_words.proofs.Parsing.{taken, refused}
use Rattle.hz_words.proofs.command.parse.Goals as goal

pub returns-in-Ok-try_get_matches_from : goal.returns-in-Ok-try_get_matches_from
returns-in-Ok-try_get_matches_from c =
    let told = c.in-Ok-try_get_matches_from.ensures in
    taken _ _ _ c.in-Ok.ensures told.matches told.kinds ∙ ap (λ (t : Texts). Some t) (sym c.arguments_of.ensures)

pub returns : goal.returns
returns c =
    refused _ _ c.in-Err.error c.in-Ok.ensures c.in-Err.ensures.kinds (λ e. c.in_default-kind.not-OutOfMemory (c.kind.ensures ∙ e))
