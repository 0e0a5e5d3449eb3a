-- The state is that of the nodes; what is given is a dump.
use Rattle.std.proofs.Common.{◌∙◌, ℕ, ◌<◌, Bool, List, length, ◌++◌, sym, ap, subst, arith, append_assoc, length-append}
use Rattle.std.specs.List.{All}
use Rattle.std.proofs.lemmas.List.Elements.{All-append}
use Rattle.hz_net.specs.Variables.{expansion_of}
use Rattle.hz_net.proofs.Places.{length-expansion_of}
use Rattle.hz_write.proofs.Writers.{writes_then, writes_same}
use Rattle.hz_vcd.specs.Dump.{AreFlips, variables_of, state_words, steps_words}
use Rattle.hz_vcd.specs.Printed.{word_lines, dump_head, dump_text}
use Rattle.hz_vcd.specs.Steps.{steps_of_cycle}
use Rattle.hz_vcd.proofs.WrittenLaws.{written_is_dump}
use Rattle.hz_vcd.proofs.writing.write_within.Goals as goal

pub write_run-requires-clause-state : goal.write_run-requires-clause-state
write_run-requires-clause-state g c =
    let long = length-expansion_of c.args.net.now c.args.nodes.now c.len.ensures.circuit c.requires.nodes in
    omega (arith, ap length c.expand.ensures, long, c.len.ensures.len, c.len.ensures.bound)

pub write_run-requires-clause-lead : goal.write_run-requires-clause-lead
write_run-requires-clause-lead g c =
    let long = length-expansion_of c.args.net.now c.args.nodes.now c.len.ensures.circuit c.requires.nodes in
    let P : ℕ → Type 0 = λ n. All (AreFlips n) c.args.lead.now.steps in
    subst P (sym (ap length c.expand.ensures ∙ long)) c.requires.lead

pub write_run-requires-clause-cycle : goal.write_run-requires-clause-cycle
write_run-requires-clause-cycle g c =
    let long = length-expansion_of c.args.net.now c.args.nodes.now c.len.ensures.circuit c.requires.nodes in
    let P : ℕ → Type 0 = λ n. All (AreFlips n) (steps_of_cycle c.args.cycle) in
    subst P (sym (ap length c.expand.ensures ∙ long)) c.requires.cycle

pub returns-clause-gave : goal.returns-clause-gave
unfolding dump_text
returns-clause-gave g c =
    let netlist = c.args.net.now in
    let state = expansion_of netlist c.args.nodes.now in
    let steps = c.args.lead.now.steps ++ steps_of_cycle c.args.cycle in
    let run = writes_same c.write_run.ensures.gave
    (ap (λ (bits : List Bool). word_lines (state_words bits) ++ word_lines (steps_words 1 bits steps)) c.expand.ensures) in
    writes_then c.write_head.ensures.gave run
    (sym (append_assoc (dump_head netlist) (word_lines (state_words state)) (word_lines (steps_words 1 state steps))))

pub returns-clause-dump : goal.returns-clause-dump
returns-clause-dump g c =
    let netlist = c.args.net.now in
    let lead = c.args.lead.now.steps in
    let cycle = steps_of_cycle c.args.cycle in
    let P : List ℕ → Type 0 = AreFlips (variables_of netlist) in
    let few : length (lead ++ cycle) < 4294967296 = omega (arith, length-append lead cycle, c.requires.few) in
    written_is_dump netlist (expansion_of netlist c.args.nodes.now) (lead ++ cycle) c.len.ensures.circuit
    (length-expansion_of netlist c.args.nodes.now c.len.ensures.circuit c.requires.nodes)
    (All-append P lead cycle c.requires.lead c.requires.cycle) few
