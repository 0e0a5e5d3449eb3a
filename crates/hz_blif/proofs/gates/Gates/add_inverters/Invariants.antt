use Rattle.std.proofs.Common.{map, take}
use Rattle.hz_blif.specs.Entries.{GrowBy, ReadAs, inverted_from, planes_by}
use Rattle.hz_blif.specs.Gates.{inverters_from}
use Rattle.hz_blif.proofs.gates.Gates.add_inverters.Given as goal

abbrev pub invariant-loop-pin : goal.invariant-loop-pin
invariant-loop-pin l = record {
  grown : GrowBy l.cover (λ name. inverters_from (name l.cover.output) (planes_by l.cover) 0 (map name (take l.pin l.cover.pins.items))) l.fn.self l.self;
  inverted : ReadAs l.cover l.self.gates.items l.self.inverted.items
      (λ name. inverted_from (name l.cover.output) (planes_by l.cover) 0 (map name (take l.pin l.cover.pins.items)));
}
