use Rattle.std.proofs.Common.{List, ℕ, refl, subst}
use Rattle.hz_blif.specs.Draft.{Holds, with_begun}
use Rattle.std.proofs.Common.{Some, []}
use Rattle.hz_blif.proofs.CoverSteps.{holds-begun}
use Rattle.hz_netlist.specs.Names.{name_at}
use Rattle.hz_blif.proofs.draft.Draft.begin_cover.Goals as goal

pub returns : goal.returns
returns c = λ read none held.
    (let number = c.in_ok-number.number in
    let names = c.sight.new.self.names in
    let begun = holds-begun read c.sight.new.self (record c.begin.new.self { output = number }) number c.args.line none c.begin.ensures.line c.begin.ensures.pins refl c.begin.ensures.rows
    c.in_ok-number.ensures.number (c.in_ok-number.ensures.holds read held) in
    subst (λ (name : List ℕ). Holds (with_begun c.args.line [] name read) c.define.new.self) c.in_ok-number.ensures.name
    (c.define.ensures (record read { current = Some (record { line = c.args.line; pins = []; output = name_at names number; rows = [] }) }) begun))
