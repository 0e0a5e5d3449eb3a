-- A state's own line, and those of its transitions.
use Rattle.std.proofs.Common.{◌∙◌, refl, sym, subst, Bool, List}
use Rattle.hz_explore.proofs.Words.{writes_then, expansion_of, IsStableStart, state_at, has_failed, found_by, ends_of, Extends, Makes, bursts_in}
use Rattle.hz_explore.proofs.MakesLemmas.{makes-from}
use Rattle.hz_explore.proofs.exploring.write_state.Goals as goal

pub write_changes-requires-clause-start : goal.write_changes-requires-clause-start
write_changes-requires-clause-start g c =
    subst (IsStableStart c.args.exploring.now.making.net.now) (sym c.go_to.ensures.start) c.requires.stable

pub returns-clause-gave : goal.returns-clause-gave
returns-clause-gave g c =
    let netlist = c.args.exploring.now.making.net.now in
    let cap = c.args.exploring.now.making.cap in
    let assumptions = c.args.exploring.now.making.assumptions.now in
    let bursts = bursts_in c.args.exploring.now.bursts.now in
    let was = c.args.room.now in
    let there = c.go_to.new.self in
    let now = c.write_changes.new.room in
    let state = expansion_of netlist (state_at was.states c.args.number) in
    let failed = has_failed c.write_changes.new.writer in
    let made = c.write_changes.ensures.gave in
    let from : Makes netlist cap assumptions bursts state made.0 there now failed = subst (λ (s : List Bool). Makes netlist cap assumptions bursts s made.0 there now failed) c.go_to.ensures.start made.1 in (
      made.0,
      makes-from netlist cap assumptions state bursts made.0 there was now failed (sym c.go_to.ensures.states) (sym c.go_to.ensures.totals) from,
      λ all ext.
          writes_then (rw (c.as_slice.ensures.value ∙ c.go_to.ensures.nodes) at c.write_nodes.ensures.gave)
          (made.2 all (subst (λ (states : List (List Bool)). Extends (found_by states (ends_of netlist made.0)) all) (sym c.go_to.ensures.states) ext)) refl,
    )
