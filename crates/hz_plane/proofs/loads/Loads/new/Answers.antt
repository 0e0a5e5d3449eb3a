use Rattle.std.proofs.Common.{◌≡◌, ◌∙◌, ℕ, List, [], ◌∷◌, Bool, Option, None, length, sym, ap, refl, rules}
use Rattle.std.proofs.lemmas.List.{length-map, length-replicate}
use Rattle.hz_plane.specs.declared.listing.Listing.{Listing}
use Rattle.hz_plane.specs.Loads.{listed_in}
use Rattle.hz_plane.proofs.LoadLemmas.{same-loads, no-loads, no-lane}
use Rattle.hz_plane.proofs.loads.Loads.new.Goals as goal

pub returns : goal.returns
returns c =
    let nothing : Option Bool = None in
    let none : List ℕ = 0 ∷ 0 ∷ 0 ∷ 0 ∷ 0 ∷ 0 ∷ 0 ∷ 0 ∷ [] in
    let listings = c.in_ok-no_listings.field-0.items in
    let inputs = c.in_ok-planes.planes.items in
    let size : length listings ≡ c.args.nodes = sym (length-map listings (λ (listing : Listing). listed_in listing 0)) ∙ (ap (length {A = Option Bool}) (c.in_ok-no_listings.ensures 0) ∙ length-replicate c.args.nodes nothing) in
    let count : length inputs ≡ c.args.inputs = search (rules, c.in_ok-planes.ensures.len) in
    same-loads none inputs inputs listings listings c.args.inputs c.args.nodes _ refl refl count size (no-loads none inputs listings no-lane)
