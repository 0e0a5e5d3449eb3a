use Rattle.std.proofs.Common.{rules, ◌≡◌, ◌<◌, ◌++◌, ◌∙◌, ap, take, drop, ℕ, List, Bool, Option, None, length, replicate, sym, arith}
use Rattle.std.proofs.lemmas.List.{length-map, length-replicate, get_or-replicate}
use Rattle.hz_plane.specs.declared.listing.Listing.{Listing}
use Rattle.hz_plane.specs.Loads.{listed_in, lane_listed}
use Rattle.hz_plane.proofs.LoadLemmas.{written, unlisted-whole}
use Rattle.hz_plane.proofs.loads.unlist_first.Goals as goal

pub loop-node-preserved : goal.loop-node-preserved
loop-node-preserved c lane =
    let nothing : Option Bool = None in
    let node = c.loop-node.node in
    let count = length c.args.listings.now in
    let inside : node < count = omega (arith, c.loop-node-test.true, c.requires.few) in
    let target : List (Option Bool) = replicate count nothing in
    written (λ (listing : Listing). listed_in listing lane) target c.args.listings.now c.loop-node.listings node c.none.result None (omega (arith, inside, length-replicate count nothing)) (omega (arith, length-replicate count nothing)) (c.loop-node.invariant lane)
    (c.none.ensures lane ∙ sym (get_or-replicate count node nothing nothing inside))

pub returns : goal.returns
returns c lane below =
    let nothing : Option Bool = None in
    let all : List (Option Bool) = replicate (length c.args.listings.now) nothing in
    let was = lane_listed c.args.listings.now lane in
    let last : c.loop-node.node ≡ c.args.count = search (rules, arith) in
    c.loop-node.invariant lane ∙ (ap (λ (n : ℕ). take n all ++ drop n was) last
    ∙ unlisted-whole c.args.count (length c.args.listings.now) was (length-map c.args.listings.now (λ (listing : Listing). listed_in listing lane)) c.requires.few (λ node past inside. c.requires.rest lane node below past inside))
