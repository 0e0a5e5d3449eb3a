use Rattle.hz_plane.proofs.ListedBits.{bits-known, bits-value}
use Rattle.hz_plane.proofs.listing.Listing.bits.Goals as goal

pub returns-clause-known : goal.returns-clause-known
returns-clause-known c = bits-known c.args.self.now.zeros c.args.self.now.ones c.is_plane.ensures c.is_plane-2.ensures

pub returns-clause-lanes : goal.returns-clause-lanes
returns-clause-lanes c lane bit inside is = bits-value c.args.self.now.zeros c.args.self.now.ones lane bit inside c.is_plane.ensures c.is_plane-2.ensures is
