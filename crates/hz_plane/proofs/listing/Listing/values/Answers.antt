use Rattle.hz_plane.proofs.LaneSets.{begin-value}
use Rattle.hz_plane.proofs.listing.Listing.values.Goals as goal

pub returns-clause-lanes : goal.returns-clause-lanes
returns-clause-lanes c lane inside = begin-value c.args.self.now.zeros c.args.self.now.ones lane inside c.is_plane.ensures c.is_plane-2.ensures
