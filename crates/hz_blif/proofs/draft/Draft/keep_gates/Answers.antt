use Rattle.std.proofs.Common.{◌++◌, ◌+◌, ◌-◌, ap, arith, length, refl, sym, subst, List, ℕ}
use Rattle.hz_netlist.specs.Element.{variable_total}
use Rattle.hz_blif.specs.Draft.{Holds}
use Rattle.hz_blif.proofs.Closing.{counts-told, held-cover, held-current, not-too-large}
use Rattle.hz_blif.proofs.EntryLemmas.{named-none}
use Rattle.hz_blif.proofs.Growing.{counts-fit, cover-names, gates-told, holds-gates, whole-cover}
use Rattle.hz_netlist.specs.Names.{on_line, AreNumbers, names_at, name_at}
use Rattle.hz_blif.proofs.draft.Draft.keep_gates.Goals as goal

pub note_uses-requires : goal.note_uses-requires
note_uses-requires c =
    let going = c.requires.going in
    let at = held-current going.read c.args.self.now c.requires.reading going.holds in
    subst (AreNumbers c.args.self.now.names) (sym c.as_slice-pins.ensures.value) (held-cover going.read at.0 c.args.self.now at.1 c.requires.right going.holds).pin_numbers

pub add_cover-requires-clause-whole : goal.add_cover-requires-clause-whole
add_cover-requires-clause-whole c =
    let going = c.requires.going in
    let at = held-current going.read c.args.self.now c.requires.reading going.holds in
    let told = counts-told going.read at.0 c.args.self.now at.1 c.requires.right going.holds in
    whole-cover going.read at.0 c.args.self.now at.1 c.requires.right (not-too-large at.0 _ _ told.0 told.1 c.requires.few) (c.requires.varies going.read at.0 at.1 going.holds) going.holds

pub add_cover-requires-clause-holds : goal.add_cover-requires-clause-holds
add_cover-requires-clause-holds c = (c.requires.going.holds.covers c.requires.right c.requires.small).holds

pub overflow_add-self : goal.overflow_add-self
overflow_add-self c =
    let going = c.requires.going in
    let held = going.holds in
    let names = c.args.self.now.names in
    let at = held-current going.read c.args.self.now c.requires.reading held in
    let told = counts-told going.read at.0 c.args.self.now at.1 c.requires.right held in
    let is = held-cover going.read at.0 c.args.self.now at.1 c.requires.right held in
    let few = counts-fit going.read at.0 c.args.self.now held at.1 going.short in
    let grown = c.in_ok-add_cover.ensures.counted (name_at names) in
    let same = ap variable_total (gates-told names at.0 c.args.self.now.cover is (not-too-large at.0 _ _ told.0 told.1 c.requires.few)) in
    omega (arith, few, grown, same, c.variables.ensures, c.variables-before.ensures)

pub returns-then-self : goal.returns-then-self
returns-then-self c = λ read cover current held.
    (let names = c.note_uses.new.names in
    let told = counts-told read cover c.args.self.now current c.requires.right held in
    let grown = c.in_ok-add_cover.ensures.counted (name_at names) in
    let used = subst (λ (pins : List ℕ). Holds (record read { used = read.used ++ on_line c.args.self.now.cover.line (names_at c.args.self.now.names pins) }) (record c.args.self.now { names = names }))
    c.as_slice-pins.ensures.value (c.note_uses.ensures.used read c.args.self.now refl held) in
    holds-gates read cover c.args.self.now names c.clear.new.self (c.args.self.now.variables + (c.variables.result - c.variables-before.result)) current c.requires.right c.requires.small
    (not-too-large cover _ _ told.0 told.1 c.requires.few) (c.requires.varies read cover current held) held used
    (omega (arith, grown, c.variables.ensures, c.variables-before.ensures)) c.clear.ensures.holds (named-none (length names) c.clear.new.self c.clear.ensures.gates c.clear.ensures.sources)
    (λ few. absurd (omega (arith, few, c.if-self.true))))

pub returns : goal.returns
returns c = λ read cover current held.
    (let names = c.note_uses.new.names in
    let told = counts-told read cover c.args.self.now current c.requires.right held in
    let grown = c.in_ok-add_cover.ensures.counted (name_at names) in
    let used = subst (λ (pins : List ℕ). Holds (record read { used = read.used ++ on_line c.args.self.now.cover.line (names_at c.args.self.now.names pins) }) (record c.args.self.now { names = names }))
    c.as_slice-pins.ensures.value (c.note_uses.ensures.used read c.args.self.now refl held) in
    holds-gates read cover c.args.self.now names c.add_cover.new.self (c.args.self.now.variables + (c.variables.result - c.variables-before.result)) current c.requires.right c.requires.small
    (not-too-large cover _ _ told.0 told.1 c.requires.few) (c.requires.varies read cover current held) held used
    (omega (arith, grown, c.variables.ensures, c.variables-before.ensures)) c.in_ok-add_cover.ensures.holds
    (c.in_ok-add_cover.ensures.named (length names) (used.covers c.requires.right c.requires.small).gate_numbers (cover-names read cover c.args.self.now names _ current c.requires.right used))
    (λ few. c.in_ok-add_cover.ensures.elements (name_at names)))
