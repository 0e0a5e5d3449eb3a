-- There are not too many bursts, and they name inputs.
use Rattle.std.proofs.Common.{◌≡◌, ◌∙◌, sym, ap, subst, ℕ, ◌*◌, ◌<◌, ◌≤◌, Bool, List, length, All, arith}
use Rattle.hz_core.specs.Netlist.{Netlist}
use Rattle.hz_explore.specs.Bursts.{bursts_or, each_alone, each_input}
use Rattle.hz_explore.proofs.BurstLemmas.{bursts-few, bursts-inside}
use Rattle.hz_explore.proofs.bursts.Bursts.new.Goals as goal

pub returns-clause-few : goal.returns-clause-few
returns-clause-few c =
    let netlist = c.args.net.now in
    let changes = c.args.script.now.changes in
    let same : c.in_ok-alone.alone.items ≡ each_input netlist.inputs = c.in_ok-alone.ensures ∙ ap each_input (c.inputs.ensures.inputs ∙ ap (λ (n : Netlist). n.inputs) c.circuit.ensures.same) in
    let inputs : 2 * netlist.inputs ≤ 400000 = omega (arith, c.requires.circuit.nodes, c.requires.circuit.variables) in
    let short : length changes ≤ 400000 = omega (arith, c.requires.script.few) in
    subst (λ (pairs : List (ℕ × Bool)). length (bursts_or changes (each_alone pairs)) ≤ 400000) (sym same) (bursts-few netlist.inputs 400000 changes inputs short)

pub returns-clause-inputs : goal.returns-clause-inputs
returns-clause-inputs c =
    let netlist = c.args.net.now in
    let changes = c.args.script.now.changes in
    let same : c.in_ok-alone.alone.items ≡ each_input netlist.inputs = c.in_ok-alone.ensures ∙ ap each_input (c.inputs.ensures.inputs ∙ ap (λ (n : Netlist). n.inputs) c.circuit.ensures.same) in
    subst (λ (pairs : List (ℕ × Bool)). All (All (λ pair. pair.0 < netlist.inputs)) (bursts_or changes (each_alone pairs))) (sym same)
    (bursts-inside netlist.inputs changes (λ k d few. (c.requires.script.changes k d few).below))
