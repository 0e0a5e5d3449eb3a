use Rattle.std.proofs.Common.{◌≡◌, ◌∙◌, [], ◌∷◌, ◌++◌, ◌<◌, ℕ, List, ap, get_or, length, map, refl, subst, sym, take, arith}
use Rattle.std.proofs.lemmas.List.{length-map, take_at}
use Rattle.hz_core.specs.declared.kind.Kind.TheVariants.{And}
use Rattle.hz_netlist.specs.declared.draft.Gate.{Gate as GateEntry}
use Rattle.hz_netlist.specs.declared.draft.Role.TheVariants.{Row}
use Rattle.hz_netlist.specs.declared.draft.Source.{Source}
use Rattle.hz_netlist.specs.declared.draft.Source.TheVariants as source
use Rattle.hz_blif.specs.Entries.{ReadAs, literal_sources, literals_by, term_by}
use Rattle.hz_blif.specs.Gates.{literal_names}
use Rattle.hz_blif.proofs.CoverEntries.{literals-read, one-source, reads-long, row-several, row-single, some-literal, sources-long}
use Rattle.hz_blif.proofs.EntryLemmas.{grow-as, grow-gate, grow-none, reads-as, reads-last}
use Rattle.hz_blif.proofs.gates.Gates.add_row.Goals as goal

pub push_literals-requires-clause-inverted : goal.push_literals-requires-clause-inverted
push_literals-requires-clause-inverted c = reads-long c.args.cover.now c.args.self.now.gates.items c.args.self.now.inverted.items c.requires.inverted

pub returns-then-pins-eq1-clause-grown : goal.returns-then-pins-eq1-clause-grown
returns-then-pins-eq1-clause-grown c =
    let cover = c.args.cover.now in
    let plane = c.args.plane.now in
    let gates = c.args.self.now.gates.items in
    let before = c.args.self.now.sources.items in
    let sources = literal_sources cover.pins.items c.args.self.now.inverted.items plane in
    let read = literals-read cover gates c.args.self.now.inverted.items plane c.requires.inverted c.requires.plane in
    grow-as cover c.args.self.now _ (λ name. []) _
    (grow-none cover c.args.self.now _ c.requires.holds (ap (λ gates. gates.items) c.in_ok-pins.ensures.gates)
    (c.truncate.ensures.items ∙ (ap (take c.len-before.result) c.in_ok-pins.ensures.sources ∙ take_at before sources c.len-before.result (omega arith))))
    (λ name.
    let long = sources-long cover gates sources plane name read in
    let single : length (literals_by name cover plane) ≡ 1 = omega (arith, long, c.in_ok-pins.ensures.count) in
    (row-single (name cover.output) c.args.row (literals_by name cover plane) single).0)

pub returns-then-pins-eq1-clause-term : goal.returns-then-pins-eq1-clause-term
returns-then-pins-eq1-clause-term c =
    let cover = c.args.cover.now in
    let plane = c.args.plane.now in
    let gates = c.args.self.now.gates.items in
    let before = c.args.self.now.sources.items in
    let literal = c.index-literal.result.now in
    let sources = literal_sources cover.pins.items c.args.self.now.inverted.items plane in
    let read = literals-read cover gates c.args.self.now.inverted.items plane c.requires.inverted c.requires.plane in
    let one = one-source before sources literal (omega (arith, c.in_ok-pins.ensures.count))
    (c.index-literal.ensures ∙ (ap (λ (all : List Source). get_or all c.len-before.result literal) c.in_ok-pins.ensures.sources
    ∙ ap (λ (n : ℕ). get_or (before ++ sources) n literal) (omega arith))) in
    subst (λ (gates : List GateEntry). ReadAs cover gates (literal ∷ []) (λ name. term_by name cover c.args.row plane ∷ []))
    (sym (ap (λ gates. gates.items) c.in_ok-pins.ensures.gates))
    (reads-as cover gates (literal ∷ []) (λ name. literal_names (name cover.output) (literals_by name cover plane)) _
    (subst (λ (sources : List Source). ReadAs cover gates sources (λ name. literal_names (name cover.output) (literals_by name cover plane))) one read)
    (λ name.
    let long = sources-long cover gates sources plane name read in
    let single : length (literals_by name cover plane) ≡ 1 = omega (arith, long, c.in_ok-pins.ensures.count) in
    (row-single (name cover.output) c.args.row (literals_by name cover plane) single).1))

pub returns-clause-grown : goal.returns-clause-grown
returns-clause-grown c =
    let cover = c.args.cover.now in
    let plane = c.args.plane.now in
    let gates = c.args.self.now.gates.items in
    let sources = literal_sources cover.pins.items c.args.self.now.inverted.items plane in
    let read = literals-read cover gates c.args.self.now.inverted.items plane c.requires.inverted c.requires.plane in
    let gate : GateEntry = record { role = Row c.args.row; kind = And; output = cover.output; pins = c.in_ok-pins.pins } in
    grow-as cover c.args.self.now c.add_gate.new.self _ _
    (grow-gate cover c.args.self.now c.add_gate.new.self gate sources (λ name. literal_names (name cover.output) (literals_by name cover plane)) c.requires.holds refl
    c.in_ok-pins.ensures.count read
    (c.in_ok-add_gate.ensures.gates ∙ ap (λ gates. gates.items ++ gate ∷ []) c.in_ok-pins.ensures.gates)
    (ap (λ sources. sources.items) c.in_ok-add_gate.ensures.sources ∙ c.in_ok-pins.ensures.sources))
    (λ name.
    let long = sources-long cover gates sources plane name read in
    let some = some-literal 1 (map name cover.pins.items) plane (omega (arith, c.requires.plane.long, length-map cover.pins.items name)) c.requires.plane.literal in
    let several : 1 < length (literals_by name cover plane) = omega (arith, long, some, c.in_ok-pins.ensures.count) in
    (row-several (name cover.output) c.args.row (literals_by name cover plane) several).0)

pub returns-clause-term : goal.returns-clause-term
returns-clause-term c =
    let cover = c.args.cover.now in
    let plane = c.args.plane.now in
    let gates = c.args.self.now.gates.items in
    let now = c.push_literals.new.self.gates.items in
    let sources = literal_sources cover.pins.items c.args.self.now.inverted.items plane in
    let read = literals-read cover gates c.args.self.now.inverted.items plane c.requires.inverted c.requires.plane in
    let gate : GateEntry = record { role = Row c.args.row; kind = And; output = cover.output; pins = c.in_ok-pins.pins } in
    subst (λ (all : List GateEntry). ReadAs cover all (source.Gate c.len.result ∷ []) (λ name. term_by name cover c.args.row plane ∷ []))
    (sym c.in_ok-add_gate.ensures.gates)
    (subst (λ (n : ℕ). ReadAs cover (now ++ gate ∷ []) (source.Gate n ∷ []) (λ name. term_by name cover c.args.row plane ∷ [])) (omega arith)
    (reads-as cover (now ++ gate ∷ []) (source.Gate (length now) ∷ []) _ _ (reads-last cover now gate)
    (λ name.
    let long = sources-long cover gates sources plane name read in
    let some = some-literal 1 (map name cover.pins.items) plane (omega (arith, c.requires.plane.long, length-map cover.pins.items name)) c.requires.plane.literal in
    let several : 1 < length (literals_by name cover plane) = omega (arith, long, some, c.in_ok-pins.ensures.count) in
    ap (λ (one : List ℕ). one ∷ []) (row-several (name cover.output) c.args.row (literals_by name cover plane) several).1)))
