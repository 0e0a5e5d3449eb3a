use Rattle.std.proofs.Common.{◌≡◌, take}
use Rattle.hz_blif.specs.Entries.{GrowBy, ReadAs, inverted_by, row_gates_by, terms_by}
use Rattle.hz_blif.specs.Reading.{bytes_of}
use Rattle.hz_blif.proofs.gates.Gates.add_terms.Given as goal

abbrev pub invariant-loop-plane : goal.invariant-loop-plane
invariant-loop-plane l = record {
  row : l.row ≡ l.plane-index;
  grown : GrowBy l.cover (λ name. row_gates_by name l.cover (take l.plane-index (bytes_of l.planes))) l.fn.self l.self;
  terms : ReadAs l.cover l.self.gates.items l.self.terms.items (λ name. terms_by name l.cover (take l.plane-index (bytes_of l.planes)));
  inverted : ReadAs l.cover l.self.gates.items l.self.inverted.items (λ name. inverted_by name l.cover);
}
