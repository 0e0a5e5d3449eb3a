-- One state after the other.
use Rattle.std.proofs.Common.{◌≡◌, ◌∙◌, refl, sym, ap, subst, ℕ, ◌+◌, ◌<◌, ◌≤◌, Bool, true, false, List, [], ◌∷◌, ◌++◌, length, append-nil, length-append, arith}
use Rattle.hz_explore.proofs.Words.{true≢false, length-map, flat_map-append, Netlist, IsStableStart, expansion_of, Writes, has_failed, writes_nothing, writes_then, writes_failed}
use Rattle.hz_explore.proofs.Words.{state_at, Assumption, ExploreRoom, nodes_of, Transition, ends_of, Explored, all_nodes, all_transitions, found_by, all_explored_text, Extends}
use Rattle.hz_explore.proofs.Words.{IsSoFar, Counts, bursts_in}
use Rattle.hz_explore.specs.ExploreText.{explored_text}
use Rattle.hz_explore.specs.Inside.{IsCounted}
use Rattle.hz_explore.proofs.FoundLemmas.{extends-by, extends-self}
use Rattle.hz_explore.proofs.FrontLemmas.{front-at, nodes-expansion, none-behind, single-state}
use Rattle.hz_explore.proofs.ProgressLemmas.{rest-exists, so-far-first, so-far-next}
use Rattle.hz_explore.proofs.ExplorationLemmas.{is-exploration}
use Rattle.hz_explore.proofs.StepLemmas.{has-steps}
use Rattle.hz_explore.proofs.TextLemmas.{text-append, text-more}
use Rattle.hz_explore.proofs.exploring.write_states.Goals as goal

-- all states are explored
module _ (netlist : Netlist) (bursts : List (List (ℕ × Bool))) (start : List Bool) (cap : ℕ) (assumptions : List Assumption) (done : List Explored) (found : List (List Bool)) (room : ExploreRoom) (so_far : IsSoFar netlist cap assumptions bursts start done found) (whole : length found ≤ length done) where
  abbrev pub all-done : found ≡ all_nodes done
  all-done = none-behind (all_nodes done) so_far.front.0 found so_far.front.1 (omega (arith, whole, length-map done (λ (one : Explored). one.nodes)))

  pub counted-done : room.states ≡ found → Counts netlist (all_transitions done) room → IsCounted netlist done room
  counted-done same counts = record {
    states = ap length (same ∙ all-done) ∙ length-map done (λ (one : Explored). one.nodes);
    totals = counts (all_nodes done) (subst (λ (states : List (List Bool)). Extends states (all_nodes done)) (sym (same ∙ all-done)) (extends-self (all_nodes done)));
  }

pub loop-number-init : goal.loop-number-init
loop-number-init g c =
    let netlist = c.args.exploring.now.making.net.now in
    let cap = c.args.exploring.now.making.cap in
    let assumptions = c.args.exploring.now.making.assumptions.now in
    let exploring = c.requires.exploring in
    let states = c.args.room.now.states in
    let start = expansion_of netlist (state_at states 0) in
    let steps = has-steps c.changes_exist.ensures c.args.exploring.now.making exploring.making in
    let nodes : nodes_of netlist start ≡ state_at states 0 = nodes-expansion netlist (state_at states 0) c.requires.long in
    let same : states ≡ nodes_of netlist start ∷ [] = single-state states c.requires.one ∙ ap (λ (first : List Bool). first ∷ []) (sym nodes) in (
      [],
      nodes_of netlist start ∷ [],
      so-far-first netlist cap assumptions (bursts_in c.args.exploring.now.bursts.now) start steps c.requires.stable,
      refl,
      λ all ext. writes_nothing c.args.writer.now,
      λ fine. same,
      λ fine all ext. c.requires.totals,
      c.requires.room,
      rw c.requires.totals (omega arith),
    )

pub write_state-requires-clause-states : goal.write_state-requires-clause-states
write_state-requires-clause-states g c =
    let so_far = c.loop-number.invariant in
    let fine : has_failed c.loop-number.writer ≡ false = sym c.has_failed.ensures ∙ c.if-has_failed.false in
    subst (λ (states : List (List Bool)). length states ≤ 65536) (sym (so_far.5 fine)) so_far.2.few

pub write_state-requires-clause-long : goal.write_state-requires-clause-long
write_state-requires-clause-long g c =
    let so_far = c.loop-number.invariant in
    let fine : has_failed c.loop-number.writer ≡ false = sym c.has_failed.ensures ∙ c.if-has_failed.false in
    let same = so_far.5 fine in
    let few : c.loop-number.number < length so_far.1 = omega (arith, ap (length {A = List Bool}) same) in
    subst (λ (states : List (List Bool)). length (state_at states c.loop-number.number) ≡ length c.args.exploring.now.making.net.now.names) (sym same) (so_far.2.right c.loop-number.number [] few).long

pub write_state-requires-clause-stable : goal.write_state-requires-clause-stable
write_state-requires-clause-stable g c =
    let netlist = c.args.exploring.now.making.net.now in
    let so_far = c.loop-number.invariant in
    let fine : has_failed c.loop-number.writer ≡ false = sym c.has_failed.ensures ∙ c.if-has_failed.false in
    let same = so_far.5 fine in
    let few : c.loop-number.number < length so_far.1 = omega (arith, ap (length {A = List Bool}) same) in
    subst (λ (states : List (List Bool)). IsStableStart netlist (expansion_of netlist (state_at states c.loop-number.number))) (sym same) (so_far.2.right c.loop-number.number [] few).stable

pub write_state-requires-clause-few : goal.write_state-requires-clause-few
write_state-requires-clause-few g c = omega (arith, c.loop-number.invariant.8, c.requires.exploring.few)

pub loop-number-preserved : goal.loop-number-preserved
loop-number-preserved g c =
    let netlist = c.args.exploring.now.making.net.now in
    let cap = c.args.exploring.now.making.cap in
    let assumptions = c.args.exploring.now.making.assumptions.now in
    let bursts = bursts_in c.args.exploring.now.bursts.now in
    let exploring = c.requires.exploring in
    let start = expansion_of netlist (state_at c.args.room.now.states 0) in
    let steps = has-steps c.changes_exist.ensures c.args.exploring.now.making exploring.making in
    let number = c.loop-number.number in
    let so_far = c.loop-number.invariant in
    let done : List Explored = so_far.0 in
    let found : List (List Bool) = so_far.1 in
    let was = c.loop-number.room in
    let now = c.write_state.new.room in
    let made = c.write_state.ensures.gave in
    let failed = has_failed c.write_state.new.writer in
    let fine : has_failed c.loop-number.writer ≡ false = sym c.has_failed.ensures ∙ c.if-has_failed.false in
    let same : was.states ≡ found = so_far.5 fine in
    let few : number < length found = omega (arith, ap (length {A = List Bool}) same) in
    let one : Explored = record { nodes = state_at was.states number; transitions = made.0 } in
    let long : length (all_nodes done) ≡ number = length-map done (λ (e : Explored). e.nodes) ∙ so_far.3 in
    let at = front-at (all_nodes done) so_far.2.front.0 found number so_far.2.front.1 long few in
    let front : found ≡ all_nodes done ++ one.nodes ∷ at.0 =
    at.1 ∙ ap (λ (states : List (List Bool)). all_nodes done ++ state_at states number ∷ at.0) (sym same) in
    let ends : List (List Bool) = ends_of netlist made.0 in
    let next = so-far-next netlist cap assumptions bursts start steps done found one at.0 so_far.2 front made.1.transitions in
    let all_of : all_transitions (done ++ one ∷ []) ≡ all_transitions done ++ made.0 =
    flat_map-append (λ (e : Explored). e.transitions) done (one ∷ []) ∙ ap (λ (list : List Transition). all_transitions done ++ list) (append-nil made.0) in
    let place : number + 1 ≡ 1 + length done = omega (arith, so_far.3) in (
      done ++ one ∷ [],
      found_by found ends,
      next,
      length-append done (one ∷ []) ∙ ap (λ (n : ℕ). n + 1) so_far.3,
      λ all ext.
          let behind : Extends (found_by was.states ends) all = subst (λ (states : List (List Bool)). Extends (found_by states ends) all) (sym same) ext in
          let line : Writes g.K.Sink.output g.K.Sink.faults (explored_text netlist assumptions all (1 + length done) one) c.loop-number.writer c.write_state.new.writer =
          subst (λ (n : ℕ). Writes g.K.Sink.output g.K.Sink.faults (explored_text netlist assumptions all n one) c.loop-number.writer c.write_state.new.writer) place (made.2 all behind) in
          writes_then (so_far.4 all (extends-by found ends all ext)) line (text-more netlist assumptions all 1 done one),
      λ fine2. made.1.found fine2 ∙ ap (λ (states : List (List Bool)). found_by states ends) same,
      λ fine2. subst (λ (list : List Transition). Counts netlist list now) (sym all_of) (made.1.counts fine2 (all_transitions done) (so_far.6 fine)),
      c.write_state.ensures.room,
      omega (arith, c.write_state.ensures.few, so_far.8, exploring.few),
    )

-- once the output failed, or memory ran out, the lines of the states that are left come to nothing, but they are known to be there
pub returns-then-has_failed-clause-gave : goal.returns-then-has_failed-clause-gave
returns-then-has_failed-clause-gave g c =
    let netlist = c.args.exploring.now.making.net.now in
    let cap = c.args.exploring.now.making.cap in
    let assumptions = c.args.exploring.now.making.assumptions.now in
    let bursts = bursts_in c.args.exploring.now.bursts.now in
    let exploring = c.requires.exploring in
    let start = expansion_of netlist (state_at c.args.room.now.states 0) in
    let steps = has-steps c.changes_exist.ensures c.args.exploring.now.making exploring.making in
    let so_far = c.loop-number.invariant in
    let done : List Explored = so_far.0 in
    let failed : has_failed c.loop-number.writer ≡ true = sym c.has_failed.ensures ∙ c.if-has_failed.true in
    let rest = rest-exists netlist cap assumptions bursts start steps 65536 done so_far.1 so_far.2 (omega arith) in
    let whole : List Explored = done ++ rest.more in
    let extends : Extends so_far.1 (all_nodes whole) = subst (Extends so_far.1) rest.whole rest.extends in (
      whole,
      is-exploration c.run_ends.ensures netlist cap assumptions bursts start exploring.making.circuit steps c.requires.stable whole rest.last rest.so_far rest.whole,
      writes_then (so_far.4 (all_nodes whole) extends) (writes_failed (all_explored_text netlist assumptions (all_nodes whole) (1 + length done) rest.more) failed) (text-append netlist assumptions (all_nodes whole) 1 done rest.more),
      λ fine. absurd (true≢false (sym failed ∙ fine)),
    )

pub returns-then-number-len-clause-gave : goal.returns-then-number-len-clause-gave
returns-then-number-len-clause-gave g c =
    let netlist = c.args.exploring.now.making.net.now in
    let cap = c.args.exploring.now.making.cap in
    let assumptions = c.args.exploring.now.making.assumptions.now in
    let bursts = bursts_in c.args.exploring.now.bursts.now in
    let exploring = c.requires.exploring in
    let start = expansion_of netlist (state_at c.args.room.now.states 0) in
    let steps = has-steps c.changes_exist.ensures c.args.exploring.now.making exploring.making in
    let so_far = c.loop-number.invariant in
    let done : List Explored = so_far.0 in
    let found : List (List Bool) = so_far.1 in
    let fine : has_failed c.loop-number.writer ≡ false = sym c.has_failed.ensures ∙ c.if-has_failed.false in
    let same = so_far.5 fine in
    let all : length found ≤ length done = omega (arith, so_far.3, ap (length {A = List Bool}) same) in
    let nodes = all-done netlist bursts start cap assumptions done found c.loop-number.room so_far.2 all in (
      done,
      is-exploration c.run_ends.ensures netlist cap assumptions bursts start exploring.making.circuit steps c.requires.stable done found so_far.2 nodes,
      so_far.4 (all_nodes done) (subst (λ (states : List (List Bool)). Extends states (all_nodes done)) (sym nodes) (extends-self (all_nodes done))),
      λ fine2. counted-done netlist bursts start cap assumptions done found c.loop-number.room so_far.2 all (so_far.5 fine2) (so_far.6 fine2),
    )

pub returns-clause-gave : goal.returns-clause-gave
returns-clause-gave g c =
    let netlist = c.args.exploring.now.making.net.now in
    let cap = c.args.exploring.now.making.cap in
    let assumptions = c.args.exploring.now.making.assumptions.now in
    let bursts = bursts_in c.args.exploring.now.bursts.now in
    let exploring = c.requires.exploring in
    let start = expansion_of netlist (state_at c.args.room.now.states 0) in
    let steps = has-steps c.changes_exist.ensures c.args.exploring.now.making exploring.making in
    let so_far = c.loop-number.invariant in
    let done : List Explored = so_far.0 in
    let found : List (List Bool) = so_far.1 in
    let all : length found ≤ length done = omega (arith, so_far.3, so_far.2.few) in
    let nodes = all-done netlist bursts start cap assumptions done found c.loop-number.room so_far.2 all in (
      done,
      is-exploration c.run_ends.ensures netlist cap assumptions bursts start exploring.making.circuit steps c.requires.stable done found so_far.2 nodes,
      so_far.4 (all_nodes done) (subst (λ (states : List (List Bool)). Extends states (all_nodes done)) (sym nodes) (extends-self (all_nodes done))),
      λ fine2. counted-done netlist bursts start cap assumptions done found c.loop-number.room so_far.2 all (so_far.5 fine2) (so_far.6 fine2),
    )
