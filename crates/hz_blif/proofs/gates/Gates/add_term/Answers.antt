use Rattle.std.proofs.Common.{[], ◌∷◌, ◌++◌, ◌∙◌, ap, refl, subst, sym, List}
use Rattle.std.proofs.lemmas.Result.{on_ok_weaker}
use Rattle.hz_netlist.specs.declared.draft.Source.{Source}
use Rattle.hz_blif.specs.Entries.{ReadAs, inverted_by, term_by}
use Rattle.hz_blif.proofs.EntryLemmas.{grow-kept, reads-append, reads-later}
use Rattle.hz_blif.proofs.gates.Gates.add_term.Goals as goal

pub returns-clause-grown : goal.returns-clause-grown
returns-clause-grown c =
    on_ok_weaker c.push.result
    (λ pushed. grow-kept c.args.cover.now c.args.self.now c.add_row.new.self _ _ c.in_ok-term.ensures.grown refl refl)
    c.push.ensures

pub returns-clause-terms : goal.returns-clause-terms
returns-clause-terms c =
    let gates = c.add_row.new.self.gates.items in
    let term = c.in_ok-term.term in
    on_ok_weaker c.push.result
    (λ pushed before was.
    subst (λ (sources : List Source). ReadAs c.args.cover.now gates sources
    (λ name. before name ++ term_by name c.args.cover.now c.args.row c.args.plane.now ∷ []))
    (sym (pushed ∙ ap (λ terms. terms.items ++ term ∷ []) c.in_ok-term.ensures.terms))
    (reads-append c.args.cover.now gates c.args.self.now.terms.items (term ∷ []) before _
    (reads-later c.args.cover.now c.args.self.now.gates.items gates c.args.self.now.terms.items before c.in_ok-term.ensures.gates was)
    c.in_ok-term.ensures.term))
    c.push.ensures

pub returns-clause-inverted : goal.returns-clause-inverted
returns-clause-inverted c =
    let gates = c.add_row.new.self.gates.items in
    on_ok_weaker c.push.result
    (λ pushed.
    subst (λ (sources : List Source). ReadAs c.args.cover.now gates sources (λ name. inverted_by name c.args.cover.now))
    (sym (ap (λ inverted. inverted.items) c.in_ok-term.ensures.inverted))
    (reads-later c.args.cover.now c.args.self.now.gates.items gates c.args.self.now.inverted.items _ c.in_ok-term.ensures.gates c.requires.inverted))
    c.push.ensures
