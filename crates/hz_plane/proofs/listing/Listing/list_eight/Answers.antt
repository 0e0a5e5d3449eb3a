use Rattle.std.proofs.Common.{arith, ap, ◌∙◌, Bool}
use Rattle.hz_plane.specs.Bits.{has_lane}
use Rattle.hz_plane.specs.Loads.{listed_by}
use Rattle.hz_plane.proofs.ByteLemmas.{in-neither, listed-eight}
use Rattle.hz_plane.proofs.listing.Listing.list_eight.Goals as goal

pub join_eight-requires-clause-out : goal.join_eight-requires-clause-out
join_eight-requires-clause-out c lane same = (in-neither _ _ (c.requires.none lane same)).0

pub join_eight-requires-2-clause-out : goal.join_eight-requires-2-clause-out
join_eight-requires-2-clause-out c lane same = (in-neither _ _ (c.requires.none lane same)).1

pub returns-clause-here : goal.returns-clause-here
returns-clause-here c lane same =
    listed-eight (record { zeros = c.join_eight.new.set; ones = c.join_eight-2.new.set }) lane _ c.args.bits c.ranges.bits.fits (omega arith) (c.join_eight.ensures.here lane same) (c.join_eight-2.ensures.here lane same)

pub returns-clause-others : goal.returns-clause-others
returns-clause-others c other inside apart =
    ap (λ (b : Bool). listed_by b (has_lane c.join_eight-2.new.set other)) (c.join_eight.ensures.others other inside apart)
    ∙ ap (listed_by (has_lane c.args.self.now.zeros other)) (c.join_eight-2.ensures.others other inside apart)
