use Rattle.std.proofs.Common.{◌≡◌, [], ◌*◌}
use Rattle.hz_plane.specs.Loads.{block_loads}
use Rattle.hz_plane.proofs.loads.Loads.load_eights.Given as goal

abbrev pub invariant-loop-eight : goal.invariant-loop-eight
invariant-loop-eight l = l.self ≡ record l.fn.self { lanes = block_loads l.fn.self.nodes l.fn.self.inputs [] (8 * l.eight) l.bits }
