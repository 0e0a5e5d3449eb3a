use Rattle.hz_plane.proofs.LaneSets.{listed-none}
use Rattle.hz_plane.proofs.listing.Listing.is_empty.Goals as goal

pub returns : goal.returns
returns c empty lane inside = listed-none c.args.self.now lane c.is_plane.ensures c.is_plane-2.ensures (c.is_zero.ensures.0 empty)
