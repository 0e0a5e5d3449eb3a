use Rattle.std.proofs.Common.{◌<◌, ◌≤◌, ◌∙◌, List, Bool, Option, None, length, arith}
use Rattle.hz_plane.specs.declared.listing.Listing.{Listing}
use Rattle.hz_plane.specs.Loads.{listed_in}
use Rattle.hz_plane.proofs.LoadLemmas.{written, unwritten}
use Rattle.hz_plane.proofs.loads.put_listed.Goals as goal

pub loop-node-preserved : goal.loop-node-preserved
loop-node-preserved c =
    let node = c.loop-node.node in
    let target : List (Option Bool) = c.args.listed.now in
    let few : length target ≤ length c.args.listings.now = omega (arith, c.requires.listed) in
    let next : node < length target = c.loop-node-test.true in
    let inside : node < length c.loop-node.listings = omega (arith, next, few, c.loop-node.auto.listings) in
    record {
      here = written (λ (listing : Listing). listed_in listing c.args.lane) target c.args.listings.now c.loop-node.listings node c.put.new.self _ next few c.loop-node.invariant.here (c.put.ensures.here);
      others = λ other below differ. unwritten (λ (listing : Listing). listed_in listing other) c.loop-node.listings node c.put.new.self _ None inside (c.put.ensures.others other below differ) ∙ c.loop-node.invariant.others other below differ;
    }
