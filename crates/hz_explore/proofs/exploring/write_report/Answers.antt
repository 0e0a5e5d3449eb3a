-- All that the writer was given.
use Rattle.std.proofs.Common.{◌≡◌, ◌∙◌, ◌++◌, List, Bool, refl, sym, ap, subst, length, take, append_assoc, arith, rules}
use Rattle.hz_explore.proofs.Words.{length-take-le, IsStableStart, expansion_of, length-network_of, writes_then, state_at, nodes_of, all_nodes, all_explored_text, bursts_in}
use Rattle.hz_write.proofs.Writers.{wrote_whole}
use Rattle.hz_replay.proofs.ReadBack.{stable-expansion_of}
use Rattle.hz_report.specs.Report.{head_text}
use Rattle.hz_explore.specs.Exploration.{IsExploration}
use Rattle.hz_explore.specs.ExploreText.{exploration_text, totals_line}
use Rattle.hz_explore.proofs.exploring.write_report.Goals as goal

pub write_states-requires-clause-long : goal.write_states-requires-clause-long
write_states-requires-clause-long g c =
    let netlist = c.args.exploring.now.making.net.now in
    let first : state_at c.args.room.now.states 0 ≡ nodes_of netlist c.args.start.now = ap (λ (states : List (List Bool)). state_at states 0) c.requires.states in
    ap (length {A = Bool}) first
    ∙ length-take-le (length netlist.names) c.args.start.now (omega (arith, c.requires.start.long, length-network_of netlist c.requires.exploring.making.circuit))

pub write_states-requires-clause-stable : goal.write_states-requires-clause-stable
write_states-requires-clause-stable g c =
    let netlist = c.args.exploring.now.making.net.now in
    let start = c.args.start.now in
    let first : state_at c.args.room.now.states 0 ≡ nodes_of netlist start = ap (λ (states : List (List Bool)). state_at states 0) c.requires.states in
    subst (IsStableStart netlist) (stable-expansion_of netlist (take netlist.inputs start) start c.requires.exploring.making.circuit c.requires.start.long c.requires.start.stable ∙ ap (expansion_of netlist) (sym first)) c.requires.start

pub returns : goal.returns
unfolding exploration_text
returns g c =
    let netlist = c.args.exploring.now.making.net.now in
    let cap = c.args.exploring.now.making.cap in
    let assumptions = c.args.exploring.now.making.assumptions.now in
    let bursts = bursts_in c.args.exploring.now.bursts.now in
    let start = c.args.start.now in
    let first : state_at c.args.room.now.states 0 ≡ nodes_of netlist start = ap (λ (states : List (List Bool)). state_at states 0) c.requires.states in
    let same : expansion_of netlist (state_at c.args.room.now.states 0) ≡ start =
    ap (expansion_of netlist) first ∙ sym (stable-expansion_of netlist (take netlist.inputs start) start c.requires.exploring.making.circuit c.requires.start.long c.requires.start.stable) in
    let made = c.write_states.ensures.gave in
    let explored = made.0 in
    let cycles = c.args.exploring.now.making.free.now.cycles in
    let head = head_text netlist cycles start in
    let whole : (head ++ all_explored_text netlist assumptions (all_nodes explored) 1 explored) ++ totals_line netlist explored ≡ head ++ exploration_text netlist assumptions explored =
    append_assoc head (all_explored_text netlist assumptions (all_nodes explored) 1 explored) (totals_line netlist explored) in
    let lines = writes_then (writes_then c.write_head.ensures.gave made.2 refl) (c.write_last.ensures netlist explored made.3) whole in
    let wrote = wrote_whole _ _ _ _ _ _ _ _ c.new-writer.ensures.begins lines c.finish.ensures in (
      cycles,
      explored,
      c.requires.exploring.making.free.feedback.are_cycles,
      subst (λ (from : List Bool). IsExploration netlist cap assumptions bursts from explored) same made.1,
      search rules,
    )
