-- A list that is cut at ends: one part more.
use Rattle.std.proofs.Common.{◌≡◌, ℕ, List, [], ◌∷◌, ◌++◌, length, length-append}
use Rattle.hz_lists.specs.Parts.{parts_from, EndsAt}
use Rattle.hz_lists.proofs.PartLemmas.{parts_from-push}

-- one part more, where its end is the length of the longer list
pub parts-grown : {X : Type 0} (ends ends' : List ℕ) (items items' more : List X) → items' ≡ items ++ more → ends' ≡ ends ++ length items' ∷ [] → EndsAt 0 ends (length items) → parts_from 0 ends' items' ≡ parts_from 0 ends items ++ more ∷ []
parts-grown ends ends' items items' more i e h = rw (e, i, length-append) (parts_from-push 0 ends items more h)
