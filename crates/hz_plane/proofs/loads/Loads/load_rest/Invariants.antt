use Rattle.std.proofs.Common.{◌≡◌, []}
use Rattle.hz_plane.specs.Loads.{block_loads}
use Rattle.hz_plane.proofs.loads.Loads.load_rest.Given as goal

abbrev pub invariant-loop-lane : goal.invariant-loop-lane
invariant-loop-lane l = l.self ≡ record l.fn.self { lanes = block_loads l.fn.self.nodes l.fn.self.inputs [] l.lane l.bits }
