use Rattle.std.proofs.Common.{[], ◌∷◌, ◌++◌, ◌∙◌, ap, refl, subst, sym, List}
use Rattle.std.proofs.lemmas.Result.{on_ok_weaker}
use Rattle.hz_netlist.specs.declared.draft.Source.{Source}
use Rattle.hz_blif.specs.Entries.{ReadAs, inverted_from, planes_by}
use Rattle.hz_blif.proofs.EntryLemmas.{grow-kept, reads-append, reads-later}
use Rattle.hz_blif.proofs.gates.Gates.invert_pin.Goals as goal

pub returns-clause-grown : goal.returns-clause-grown
returns-clause-grown c =
    on_ok_weaker c.push.result
    (λ pushed. grow-kept c.args.cover.now c.args.self.now c.add_inverter.new.self _ _ c.in_ok-source.ensures.grown refl refl)
    c.push.ensures

pub returns-clause-inverted : goal.returns-clause-inverted
returns-clause-inverted c =
    let gates = c.add_inverter.new.self.gates.items in
    let source = c.in_ok-source.source in
    on_ok_weaker c.push.result
    (λ pushed before was.
    subst (λ (sources : List Source). ReadAs c.args.cover.now gates sources
    (λ names. before names ++ inverted_from (names c.args.cover.now.output) (planes_by c.args.cover.now) c.args.pin (names c.args.name ∷ [])))
    (sym (pushed ∙ ap (λ inverted. inverted.items ++ source ∷ []) c.in_ok-source.ensures.inverted))
    (reads-append c.args.cover.now gates c.args.self.now.inverted.items (source ∷ []) before _
    (reads-later c.args.cover.now c.args.self.now.gates.items gates c.args.self.now.inverted.items before c.in_ok-source.ensures.gates was)
    c.in_ok-source.ensures.source))
    c.push.ensures
