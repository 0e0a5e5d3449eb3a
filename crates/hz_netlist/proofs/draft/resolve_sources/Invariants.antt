use Rattle.std.proofs.Common.{◌≡◌, ◌++◌, drop, map}
use Rattle.hz_netlist.specs.Draft.{source_node}
use Rattle.hz_netlist.proofs.draft.resolve_sources.Given as goal

abbrev pub invariant-loop-source : goal.invariant-loop-source
invariant-loop-source l = l.pins.items ++ map (source_node l.nodes l.inputs) (drop l.source-index l.sources) ≡ map (source_node l.nodes l.inputs) l.sources
