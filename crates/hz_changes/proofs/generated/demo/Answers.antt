-- The start of a generated script is accepted.
use Rattle.std.proofs.Common.{◌≡◌, ◌∙◌, ap, sym, subst, length, List, Bool, Option, arith}
use Rattle.hz_changes.proofs.Words.{Netlist, IsCircuit, IsStartFault, StartPrints, Ends-more}
use Rattle.hz_script.specs.ScriptValue.{ScriptOf}
use Rattle.hz_script.specs.ScriptText.{IsScriptFor}
use Rattle.hz_gen.specs.Demo.{demo_netlist, demo_script}
use Rattle.hz_refusal.specs.Ends.{Ends}
use Rattle.hz_changes.specs.Demos.{IsDemoOutcome}
use Rattle.hz_changes.proofs.AcceptedStarts.{ListsInputs-front, start-not-refused}
use Rattle.hz_changes.proofs.generated.demo.Goals as goal

pub complete-requires-clause-inputs : goal.complete-requires-clause-inputs
complete-requires-clause-inputs g c =
    let fits : IsScriptFor c.in-Ok-build.net c.in-Ok.made.1 = subst (λ (n : Netlist). IsScriptFor n c.in-Ok.made.1) (sym c.in-Ok-build.ensures.ok) c.in-Ok.ensures.fits in
    let circuit : IsCircuit c.in-Ok-build.net = subst IsCircuit (sym c.in-Ok-build.ensures.ok) c.in-Ok.ensures.is_circuit in
    rw c.start.ensures.start (ListsInputs-front c.in-Ok-build.net c.in-Ok.made.1.start (omega (arith, circuit.nodes, fits.nodes)) fits.inputs)

pub summarise-requires-clause-one : goal.summarise-requires-clause-one
unfolding demo_script
summarise-requires-clause-one g c = ap (λ (s : ScriptOf). length s.changes) c.in-Ok.ensures.script

-- a start that is a fault is none
pub returns : goal.returns
returns g c =
    let net : c.in-Ok-build.net ≡ demo_netlist c.args.number = c.in-Ok-build.ensures.ok ∙ c.in-Ok.ensures.circuit in
    let listed : c.start.result.now ≡ (demo_script c.args.number).start = c.start.ensures.start ∙ ap (λ (s : ScriptOf). s.start) c.in-Ok.ensures.script in
    let circuit : IsCircuit (demo_netlist c.args.number) = subst IsCircuit c.in-Ok.ensures.circuit c.in-Ok.ensures.is_circuit in
    let why : IsStartFault (demo_netlist c.args.number) (demo_script c.args.number).start c.in-Err.fault =
    subst (λ (start : List (Option Bool)). IsStartFault (demo_netlist c.args.number) start c.in-Err.fault) listed
    (subst (λ (n : Netlist). IsStartFault n c.start.result.now c.in-Err.fault) net c.in-Err.ensures.start) in
    let completable = c.demo_starts.ensures c.args.number c.requires.number circuit in
    let said = subst (λ (n : Netlist). Ends g.K.Sink.output g.K.Sink.faults (StartPrints n c.in-Err.fault) c.args.out.now c.refuse_start.new.out c.refuse_start.result) (c.circuit.ensures.same ∙ net) c.refuse_start.ensures in
    Ends-more g.K.Sink.output g.K.Sink.faults (StartPrints (demo_netlist c.args.number) c.in-Err.fault) (IsDemoOutcome c.args.number c.args.cap) c.args.out.now c.refuse_start.new.out c.refuse_start.result
    (λ own text says. absurd (start-not-refused (demo_netlist c.args.number) (demo_script c.args.number).start c.in-Err.fault completable why own text says)) said
