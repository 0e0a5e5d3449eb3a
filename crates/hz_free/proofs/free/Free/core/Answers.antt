-- The cycle with the number of the core.
use Rattle.std.proofs.Common.{◌≡◌, ◌<◌, ◌∙◌, ap, sym, subst, length, get_or, [], None, Some, false, List, ℕ}
use Rattle.hz_net.specs.Network.{network_of}
use Rattle.hz_free.specs.FreePart.{FreePart}
use Rattle.hz_free.specs.Feedback.{IsCore}
use Rattle.hz_free.proofs.Parts.{core-numbered, core-read}
use Rattle.hz_free.proofs.free.Free.core.Goals as goal

pub returns-clause-core : goal.returns-clause-core
returns-clause-core c =
    let view = c.self.view_is in
    let cores = c.self.inside.feedback.cores.items in
    let few = subst (λ (part : FreePart). c.args.var < length part.free) (sym view) c.requires.var in
    let out = subst (λ (part : FreePart). get_or part.free c.args.var false ≡ false) (sym view) c.requires.not_free in
    let read : get_or cores c.args.var None ≡ Some c.unwrap-number.result =
    core-read c.self.inside.free.items c.self.inside.feedback.cycles cores c.args.var c.index.result.now c.self.invariant few out c.index.ensures ∙ (sym c.get.ensures ∙ c.unwrap-number.ensures) in
    λ netlist is.
    let core = core-numbered netlist c.args.self.now c.args.var c.unwrap-number.result is c.requires.var c.requires.not_free
    (subst (λ (part : FreePart). get_or part.cores c.args.var None ≡ Some c.unwrap-number.result) view read) in
    let same = c.cycle.ensures ∙ ap (λ (part : FreePart). get_or part.cycles c.unwrap-number.result []) view in
    subst (λ (cycle : List ℕ). IsCore (network_of netlist) c.args.var cycle) (sym same) core
