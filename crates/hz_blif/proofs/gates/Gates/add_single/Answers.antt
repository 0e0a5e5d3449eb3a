use Rattle.std.proofs.Common.{◌∙◌, ◌∷◌, ◌++◌, [], Bool, List, ℕ, ap, map, refl, if◌then◌else◌, arith}
use Rattle.std.proofs.lemmas.List.{length-map}
use Rattle.std.proofs.lemmas.Result.{on_ok_weaker}
use Rattle.hz_core.specs.declared.kind.Kind.{Kind}
use Rattle.hz_core.specs.declared.kind.Kind.TheVariants.{And, Nand}
use Rattle.hz_netlist.specs.Element.{Gate}
use Rattle.hz_netlist.specs.declared.draft.Gate.{Gate as GateEntry}
use Rattle.hz_netlist.specs.declared.draft.Role.TheVariants.{Output}
use Rattle.hz_blif.specs.Entries.{inverters_by, literal_sources, literals_by}
use Rattle.hz_blif.specs.Gates.{literal_names}
use Rattle.hz_blif.proofs.CoverEntries.{gates-literal, gates-several, literals-read, plane-long, plane-some, reads-long, single-plane}
use Rattle.hz_blif.proofs.EntryLemmas.{grow-as, grow-gate, grow-twice}
use Rattle.hz_blif.proofs.gates.Gates.add_single.Goals as goal

pub add_literal-requires-clause-pin : goal.add_literal-requires-clause-pin
add_literal-requires-clause-pin c =
    let cover = c.args.cover.now in
    let name : ℕ → List ℕ = λ number. [] in
    let is = single-plane cover c.args.plane.now c.requires.whole c.requires.plane in
    let found = c.in-Some.ensures (map name cover.pins.items) (plane-long name cover c.args.plane.now is) in
    omega (arith, found.0, length-map cover.pins.items name)

pub returns-in-Some : goal.returns-in-Some
returns-in-Some c =
    let cover = c.args.cover.now in
    let plane = c.args.plane.now in
    let is = single-plane cover plane c.requires.whole c.requires.plane in
    on_ok_weaker c.add_literal.result
    (λ grown. grow-as cover c.args.self.now c.add_literal.new.self _ _ grown
    (λ name. gates-literal name cover plane c.in-Some.literal c.requires.plane (c.in-Some.ensures (map name cover.pins.items) (plane-long name cover plane is)).1))
    c.add_literal.ensures

pub push_literals-requires-clause-plane : goal.push_literals-requires-clause-plane
push_literals-requires-clause-plane c = (single-plane c.args.cover.now c.args.plane.now c.requires.whole c.requires.plane).long

pub push_literals-requires-clause-inverted : goal.push_literals-requires-clause-inverted
push_literals-requires-clause-inverted c =
    reads-long c.args.cover.now c.add_inverters.new.self.gates.items c.add_inverters.new.self.inverted.items c.in_ok-add_inverters.ensures.inverted

pub returns : goal.returns
returns c =
    let cover = c.args.cover.now in
    let plane = c.args.plane.now in
    let now = c.add_inverters.new.self in
    let is = single-plane cover plane c.requires.whole c.requires.plane in
    let sources = literal_sources cover.pins.items now.inverted.items plane in
    let read = literals-read cover now.gates.items now.inverted.items plane c.in_ok-add_inverters.ensures.inverted is in
    let kind : Kind = c.row_kind-kind.result in
    let gate : GateEntry = record { role = Output; kind = kind; output = cover.output; pins = c.in_ok-pins.pins } in
    let kind_is = c.row_kind-kind.ensures ∙ ap (λ (column : Bool). if column then And else Nand) c.column.ensures in
    on_ok_weaker c.add_gate.result
    (λ added. grow-as cover c.args.self.now c.add_gate.new.self
    (λ name. inverters_by name cover ++ Gate (name cover.output) kind (literal_names (name cover.output) (literals_by name cover plane)) ∷ []) _
    (grow-twice cover c.args.self.now now c.add_gate.new.self _ _ c.in_ok-add_inverters.ensures.grown
    (grow-gate cover now c.add_gate.new.self gate sources (λ name. literal_names (name cover.output) (literals_by name cover plane))
    c.in_ok-add_inverters.ensures.grown.holds refl c.in_ok-pins.ensures.count read
    (added ∙ ap (λ gates. gates.items ++ gate ∷ []) c.in_ok-pins.ensures.gates)
    (ap (λ sources. sources.items) c.add_gate.ensures.sources ∙ c.in_ok-pins.ensures.sources)))
    (λ name.
    ap (λ (kind : Kind). inverters_by name cover ++ Gate (name cover.output) kind (literal_names (name cover.output) (literals_by name cover plane)) ∷ []) kind_is
    ∙ gates-several name cover plane c.requires.plane (plane-some name cover plane is)
    (c.in_default.ensures (map name cover.pins.items) (plane-long name cover plane is))))
    c.add_gate.ensures.gates
