use Rattle.std.proofs.Common.{◌∙◌, ap, sym, List, ℕ}
use Rattle.std.specs.Borrow.{Bor}
use Rattle.std.proofs.lemmas.List.{map_push}
use Rattle.hz_blif.specs.Cover.{last_token}
use Rattle.hz_blif.specs.Reading.{bytes_of}
use Rattle.hz_blif.proofs.RowLemmas.{last_token_last}
use Rattle.hz_blif.proofs.cover.last_token.Goals as goal

pub returns-in-Some : goal.returns-in-Some
returns-in-Some c =
    let front = c.in-Some.field-0-1.now in
    let last = c.in-Some.last.now in
    sym (ap (λ (words : List (Bor (List ℕ))). last_token (bytes_of words)) c.in-Some.ensures.cases.0
    ∙ (ap last_token (map_push (λ (word : Bor (List ℕ)). word.now) front last) ∙ last_token_last (bytes_of front) last.now))
