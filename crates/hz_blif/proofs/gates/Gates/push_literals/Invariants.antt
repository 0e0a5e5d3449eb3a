use Rattle.std.proofs.Common.{◌≡◌, ◌++◌, drop}
use Rattle.hz_blif.specs.Entries.{literal_sources}
use Rattle.hz_blif.proofs.gates.Gates.push_literals.Given as goal

abbrev pub invariant-loop-pin : goal.invariant-loop-pin
invariant-loop-pin l = record {
  sources : l.self.sources.items ++ literal_sources (drop l.pin l.cover.pins.items) (drop l.pin l.self.inverted.items) (drop l.pin l.plane)
      ≡ l.fn.self.sources.items ++ literal_sources l.cover.pins.items l.fn.self.inverted.items l.plane;
  gates : l.self.gates ≡ l.fn.self.gates;
  inverted : l.self.inverted ≡ l.fn.self.inverted;
  terms : l.self.terms ≡ l.fn.self.terms;
}
