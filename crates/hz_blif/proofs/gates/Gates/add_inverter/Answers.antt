use Rattle.std.proofs.Common.{◌≡◌, ◌∙◌, ◌∷◌, [], ap, refl, sym, true}
use Rattle.hz_blif.specs.Entries.{planes_by}
use Rattle.hz_blif.specs.Gates.{has_zero}
use Rattle.hz_blif.specs.Reading.{bytes_of}
use Rattle.hz_blif.proofs.CoverEntries.{inverters-one}
use Rattle.hz_blif.proofs.EntryLemmas.{grow-as, grow-gate, reads-pin}
use Rattle.hz_blif.proofs.gates.Gates.add_inverter.Goals as goal

pub returns-clause-grown : goal.returns-clause-grown
returns-clause-grown c =
    let zero : has_zero (planes_by c.args.cover.now) c.args.pin ≡ true =
    ap (λ planes. has_zero (bytes_of planes) c.args.pin) (sym c.planes.ensures) ∙ (sym c.has_zero.ensures ∙ c.if-not-has_zero.false) in
    grow-as c.args.cover.now c.args.self.now c.add_gate.new.self _ _
    (grow-gate c.args.cover.now c.args.self.now c.add_gate.new.self _ _ (λ names. names c.args.name ∷ []) c.requires.holds refl refl
    (reads-pin c.args.cover.now c.args.self.now.gates.items c.args.name c.requires.name)
    c.in_ok-add_gate.ensures.gates (ap (λ sources. sources.items) c.in_ok-add_gate.ensures.sources ∙ c.in_ok-push.ensures))
    (λ names. inverters-one (names c.args.cover.now.output) (planes_by c.args.cover.now) c.args.pin (names c.args.name) zero)
