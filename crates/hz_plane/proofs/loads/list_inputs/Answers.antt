use Rattle.std.proofs.Common.{◌≡◌, ◌<◌, ◌≤◌, ◌+◌, ◌-◌, ◌∙◌, ℕ, List, Bool, Option, Some, None, false, length, map, take, drop, get_or, ap, sym, arith}
use Rattle.std.proofs.lemmas.List.{length-map, length-take-le, get_or-map, get_or-drop, get_or-append_right, get_or-replicate}
use Rattle.hz_plane.specs.declared.listing.Listing.{Listing}
use Rattle.hz_plane.specs.Loads.{listed_in, lane_listed}
use Rattle.hz_plane.proofs.LoadLemmas.{written, unwritten}
use Rattle.hz_plane.proofs.loads.list_inputs.Goals as goal

pub list-requires-clause-none : goal.list-requires-clause-none
list-requires-clause-none c =
    let node = c.loop-node.node in
    let lane = c.args.lane in
    let nothing : Option Bool = None in
    let target : List (Option Bool) = map Some c.args.first.now in
    let was = lane_listed c.args.listings.now lane in
    let long : length target ≡ length c.args.first.now = length-map c.args.first.now (λ (b : Bool). Some b) in
    let front : length (take node target) ≡ node = length-take-le node target (omega (arith, c.loop-node-test.true, long)) in
    let inside : node < length c.loop-node.listings = omega (arith, c.loop-node-test.true, c.requires.first, c.loop-node.auto.listings) in
    let zero : node + (node - node) ≡ node = omega arith in
    sym (get_or-map (λ (listing : Listing). listed_in listing lane) c.loop-node.listings node _ nothing inside)
    ∙ (ap (λ (list : List (Option Bool)). get_or list node nothing) c.loop-node.invariant.here
    ∙ (get_or-append_right (take node target) (drop node was) node node nothing front (omega arith)
    ∙ (get_or-drop node was (node - node) nothing ∙ (ap (λ (n : ℕ). get_or was n nothing) zero
    ∙ (ap (λ (list : List (Option Bool)). get_or list node nothing) c.requires.none ∙ get_or-replicate (length c.args.listings.now) node nothing nothing (omega (arith, c.loop-node-test.true, c.requires.first)))))))

pub loop-node-preserved : goal.loop-node-preserved
loop-node-preserved c =
    let node = c.loop-node.node in
    let target : List (Option Bool) = map Some c.args.first.now in
    let few : length target ≤ length c.args.listings.now = omega (arith, c.requires.first, length-map c.args.first.now (λ (b : Bool). Some b)) in
    let next : node < length target = omega (arith, c.loop-node-test.true, length-map c.args.first.now (λ (b : Bool). Some b)) in
    let inside : node < length c.loop-node.listings = omega (arith, next, few, c.loop-node.auto.listings) in
    record {
      here = written (λ (listing : Listing). listed_in listing c.args.lane) target c.args.listings.now c.loop-node.listings node c.list.new.self _ next few c.loop-node.invariant.here (c.list.ensures.here ∙ sym (get_or-map Some c.args.first.now node false None c.loop-node-test.true));
      others = λ other below differ. unwritten (λ (listing : Listing). listed_in listing other) c.loop-node.listings node c.list.new.self _ None inside (c.list.ensures.others other below differ) ∙ c.loop-node.invariant.others other below differ;
    }
