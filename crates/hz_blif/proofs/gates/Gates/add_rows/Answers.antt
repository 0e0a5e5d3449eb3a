use Rattle.std.proofs.Common.{◌∙◌, ◌∷◌, ◌++◌, ◌<◌, [], Bool, List, ℕ, ap, length, refl, if◌then◌else◌, arith}
use Rattle.std.specs.Borrow.{Bor}
use Rattle.std.proofs.lemmas.List.{length-map}
use Rattle.std.proofs.lemmas.Result.{on_ok_weaker}
use Rattle.hz_core.specs.declared.kind.Kind.{Kind}
use Rattle.hz_core.specs.declared.kind.Kind.TheVariants.{Or, Nor}
use Rattle.hz_netlist.specs.Element.{Gate}
use Rattle.hz_netlist.specs.declared.draft.Gate.{Gate as GateEntry}
use Rattle.hz_netlist.specs.declared.draft.Role.TheVariants.{Output}
use Rattle.hz_blif.specs.Entries.{column_by, inverters_by, planes_by, row_gates_by, terms_by}
use Rattle.hz_blif.specs.Reading.{bytes_of}
use Rattle.hz_blif.proofs.CoverEntries.{gates-rows, terms-long}
use Rattle.hz_blif.proofs.EntryLemmas.{grow-as, grow-gate, grow-twice}
use Rattle.hz_blif.proofs.gates.Gates.add_rows.Goals as goal

pub returns : goal.returns
returns c =
    let cover = c.args.cover.now in
    let words = c.args.planes.now in
    let now = c.add_terms.new.self in
    let kind : Kind = c.rows_kind-kind.result in
    let gate : GateEntry = record { role = Output; kind = kind; output = cover.output; pins = length words } in
    let kind_is = c.rows_kind-kind.ensures ∙ ap (λ (column : Bool). if column then Or else Nor) c.column.ensures in
    let several : 1 < length (planes_by cover) =
    omega (arith, c.requires.several, ap (λ (words : List (Bor (List ℕ))). length words) c.requires.planes, length-map cover.rows.planes.items (λ (word : Bor (List ℕ)). word.now)) in
    let long = terms-long cover now.gates.items now.terms.items words c.in_ok-add_terms.ensures.terms in
    on_ok_weaker c.add_gate.result
    (λ added. grow-as cover c.args.self.now c.add_gate.new.self
    (λ name. inverters_by name cover ++ (row_gates_by name cover (bytes_of words) ++ Gate (name cover.output) kind (terms_by name cover (bytes_of words)) ∷ [])) _
    (grow-twice cover c.args.self.now c.add_inverters.new.self c.add_gate.new.self _ _ c.in_ok-add_inverters.ensures.grown
    (grow-twice cover c.add_inverters.new.self now c.add_gate.new.self _ _ c.in_ok-add_terms.ensures.grown
    (grow-gate cover now c.add_gate.new.self gate now.terms.items (λ name. terms_by name cover (bytes_of words))
    c.in_ok-add_terms.ensures.grown.holds refl long c.in_ok-add_terms.ensures.terms added
    (ap (λ sources. sources.items) c.add_gate.ensures.sources ∙ (c.in_ok-extend.ensures ∙ ap (λ (terms : List _). now.sources.items ++ terms) c.as_slice-terms.ensures.value)))))
    (λ name.
    ap (λ (kind : Kind). inverters_by name cover ++ (row_gates_by name cover (bytes_of words) ++ Gate (name cover.output) kind (terms_by name cover (bytes_of words)) ∷ [])) kind_is
    ∙ (ap (λ (words : List (Bor (List ℕ))). inverters_by name cover
    ++ (row_gates_by name cover (bytes_of words) ++ Gate (name cover.output) (if column_by cover then Or else Nor) (terms_by name cover (bytes_of words)) ∷ [])) c.requires.planes
    ∙ gates-rows name cover several)))
    c.add_gate.ensures.gates
