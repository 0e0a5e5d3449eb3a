use Rattle.std.proofs.Common.{◌∷◌, ◌++◌, [], List, ℕ, refl, subst}
use Rattle.hz_blif.specs.Draft.{Holds, with_outputs}
use Rattle.hz_blif.proofs.DraftSteps.{holds-output, holds-used}
use Rattle.hz_netlist.specs.Names.{name_at}
use Rattle.hz_blif.proofs.draft.Draft.add_output.Goals as goal

pub returns : goal.returns
returns c = λ read held.
    (let number = c.in_ok-number.number in
    let names = c.sight.new.self.names in
    let drafted = record c.sight.new.self { outputs = c.push.new.items } in
    let pushed = holds-output read c.sight.new.self drafted number refl c.in_ok-push.ensures c.in_ok-number.ensures.number (c.in_ok-number.ensures.holds read held) in
    subst (λ (name : List ℕ). Holds (with_outputs c.args.line (name ∷ []) read) (record drafted { names = c.note_use.new.self })) c.in_ok-number.ensures.name
    (holds-used (record read { outputs = read.outputs ++ name_at names number ∷ [] }) drafted number c.args.line c.note_use.new.self c.in_ok-number.ensures.number c.note_use.ensures pushed))
