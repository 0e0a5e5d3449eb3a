use Rattle.std.proofs.Common.{◌∷◌, ◌++◌, [], List, ℕ, refl, subst}
use Rattle.hz_blif.specs.Draft.{Holds, with_inputs}
use Rattle.hz_blif.proofs.DraftSteps.{holds-input}
use Rattle.hz_netlist.specs.Names.{name_at}
use Rattle.hz_blif.proofs.draft.Draft.add_input.Goals as goal

pub returns : goal.returns
returns c = λ read held.
    (let number = c.in_ok-number.number in
    let names = c.sight.new.self.names in
    let pushed = holds-input read c.sight.new.self (record c.sight.new.self { inputs = c.push.new.items }) number refl c.in_ok-push.ensures c.in_ok-number.ensures.number (c.in_ok-number.ensures.holds read held) in
    subst (λ (name : List ℕ). Holds (with_inputs c.args.line (name ∷ []) read) c.define.new.self) c.in_ok-number.ensures.name
    (c.define.ensures (record read { inputs = read.inputs ++ name_at names number ∷ [] }) pushed))
