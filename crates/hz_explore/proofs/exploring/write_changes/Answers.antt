-- One burst after the other.
use Rattle.std.proofs.Common.{◌≡◌, ◌∙◌, refl, sym, ap, subst, ℕ, ◌+◌, ◌<◌, ◌≤◌, Bool, true, false, List, [], ◌∷◌, ◌++◌, length, take, drop, All, arith, add-one}
use Rattle.hz_explore.proofs.Words.{flat_map, flat_map-append, IsStableStart, has_failed, writes_nothing, writes_then, writes_failed, AreTransitions, ends_of, found_by}
use Rattle.hz_explore.proofs.Words.{transition_line, Extends, Makes, bursts_in}
use Rattle.std.proofs.lemmas.List.{take-append-drop}
use Rattle.std.proofs.lemmas.Option.{get_or_from_slice_get}
use Rattle.std.proofs.Math.Seq.{take-suc, take-length}
use Rattle.hz_explore.proofs.FoundLemmas.{extends-by, few-by}
use Rattle.hz_explore.proofs.TransitionLemmas.{transitions-append}
use Rattle.hz_explore.proofs.ProgressLemmas.{transitions-exist}
use Rattle.hz_explore.proofs.StepLemmas.{has-steps}
use Rattle.hz_explore.proofs.MakesLemmas.{found-then, makes-failed, makes-none, makes-then}
use Rattle.hz_explore.proofs.exploring.write_changes.Goals as goal

pub loop-place-init : goal.loop-place-init
loop-place-init g c = (
  [],
  makes-none c.args.exploring.now.making.net.now c.args.exploring.now.making.cap c.args.exploring.now.making.assumptions.now c.args.room.now.start.items c.args.room.now (has_failed c.args.writer.now),
  λ all ext. writes_nothing c.args.writer.now,
  refl,
  c.requires.room,
  omega arith,
)

pub write_change-requires-clause-burst : goal.write_change-requires-clause-burst
write_change-requires-clause-burst g c =
    let bursts = bursts_in c.args.exploring.now.bursts.now in
    let few : c.loop-place.place < length bursts = omega (arith, c.loop-place-test.true, c.len-place-end.ensures) in
    subst (All (λ pair. pair.0 < c.args.exploring.now.making.net.now.inputs)) (get_or_from_slice_get bursts c.loop-place.place c.get-burst.result.now [] c.get-burst.ensures) (c.requires.exploring.inputs c.loop-place.place [] few)

pub write_change-requires-clause-start : goal.write_change-requires-clause-start
write_change-requires-clause-start g c =
    let begins : c.loop-place.room.start.items ≡ c.args.room.now.start.items = rw c.loop-place.invariant.3 refl in
    subst (IsStableStart c.args.exploring.now.making.net.now) (sym begins) c.requires.start

pub write_change-requires-clause-states : goal.write_change-requires-clause-states
write_change-requires-clause-states g c =
    let so_far = c.loop-place.invariant in
    let fine : has_failed c.loop-place.writer ≡ false = sym c.has_failed.ensures ∙ c.if-has_failed.false in
    subst (λ (states : List (List Bool)). length states ≤ 65536) (sym (so_far.1.found fine)) (few-by c.args.room.now.states (ends_of c.args.exploring.now.making.net.now so_far.0) c.requires.states)

pub write_change-requires-clause-few : goal.write_change-requires-clause-few
write_change-requires-clause-few g c = omega (arith, c.loop-place.invariant.5, c.requires.few, c.loop-place-test.true, c.len-place-end.ensures)

pub loop-place-preserved : goal.loop-place-preserved
loop-place-preserved g c =
    let netlist = c.args.exploring.now.making.net.now in
    let cap = c.args.exploring.now.making.cap in
    let assumptions = c.args.exploring.now.making.assumptions.now in
    let bursts = bursts_in c.args.exploring.now.bursts.now in
    let place = c.loop-place.place in
    let was = c.args.room.now in
    let middle = c.loop-place.room in
    let now = c.write_change.new.room in
    let state = was.start.items in
    let burst = c.get-burst.result.now in
    let so_far = c.loop-place.invariant in
    let made = c.write_change.ensures.gave in
    let failed = has_failed c.write_change.new.writer in
    let fine : has_failed c.loop-place.writer ≡ false = sym c.has_failed.ensures ∙ c.if-has_failed.false in
    let begins : middle.start.items ≡ state = rw so_far.3 refl in
    let few : place < length bursts = omega (arith, c.loop-place-test.true, c.len-place-end.ensures) in
    let taken : take (place + 1) bursts ≡ take place bursts ++ burst ∷ [] =
    rw add-one (take-suc bursts place [] few)
    ∙ ap (λ (one : List (ℕ × Bool)). take place bursts ++ one ∷ []) (get_or_from_slice_get bursts place burst [] c.get-burst.ensures) in
    let first : Makes netlist cap assumptions (take place bursts) state so_far.0 was middle false =
    subst (Makes netlist cap assumptions (take place bursts) state so_far.0 was middle) fine so_far.1 in
    let then : Makes netlist cap assumptions (burst ∷ []) state made.0 middle now failed =
    subst (λ (start : List Bool). Makes netlist cap assumptions (burst ∷ []) start made.0 middle now failed) begins made.1 in
    let both : Makes netlist cap assumptions (take place bursts ++ burst ∷ []) state (so_far.0 ++ made.0) was now failed =
    makes-then netlist cap assumptions state (take place bursts) (burst ∷ []) so_far.0 made.0 was middle now failed first then in
    let found : found_by middle.states (ends_of netlist made.0) ≡ found_by was.states (ends_of netlist (so_far.0 ++ made.0)) =
    ap (λ (states : List (List Bool)). found_by states (ends_of netlist made.0)) (first.found refl) ∙ found-then netlist was.states so_far.0 made.0 in (
      so_far.0 ++ made.0,
      subst (λ (list : List (List (ℕ × Bool))). Makes netlist cap assumptions list state (so_far.0 ++ made.0) was now failed) (sym taken) both,
      λ all ext.
          let behind : Extends (found_by middle.states (ends_of netlist made.0)) all = subst (λ (states : List (List Bool)). Extends states all) (sym found) ext in
          let front : Extends (found_by was.states (ends_of netlist so_far.0)) all =
          subst (λ (states : List (List Bool)). Extends states all) (first.found refl) (extends-by middle.states (ends_of netlist made.0) all behind) in
          writes_then (so_far.2 all front) (made.2 all behind) (sym (flat_map-append (transition_line netlist assumptions all c.args.number) so_far.0 made.0)),
      c.write_change.ensures.start ∙ so_far.3,
      c.write_change.ensures.room,
      omega (arith, c.write_change.ensures.few, so_far.5),
    )

-- once the output failed, or memory ran out, the lines of the bursts that are left come to nothing, but they are known to be there
pub returns-then-has_failed-clause-gave : goal.returns-then-has_failed-clause-gave
returns-then-has_failed-clause-gave g c =
    let netlist = c.args.exploring.now.making.net.now in
    let cap = c.args.exploring.now.making.cap in
    let assumptions = c.args.exploring.now.making.assumptions.now in
    let bursts = bursts_in c.args.exploring.now.bursts.now in
    let place = c.loop-place.place in
    let was = c.args.room.now in
    let state = was.start.items in
    let so_far = c.loop-place.invariant in
    let exploring = c.requires.exploring in
    let steps = has-steps c.changes_exist.ensures c.args.exploring.now.making exploring.making in
    let rest = transitions-exist netlist cap assumptions bursts state steps (drop place bursts) state c.requires.start in
    let failed : has_failed c.loop-place.writer ≡ true = sym c.has_failed.ensures ∙ c.if-has_failed.true in
    let all_of : AreTransitions netlist cap assumptions bursts state (so_far.0 ++ rest.0) =
    subst (λ (list : List (List (ℕ × Bool))). AreTransitions netlist cap assumptions list state (so_far.0 ++ rest.0)) (take-append-drop place bursts)
    (transitions-append netlist cap assumptions state (take place bursts) (drop place bursts) so_far.0 rest.0 so_far.1.transitions rest.1) in (
      so_far.0 ++ rest.0,
      makes-failed netlist cap assumptions state bursts (so_far.0 ++ rest.0) was c.loop-place.room (has_failed c.loop-place.writer) failed all_of,
      λ all ext.
          let front : Extends (found_by was.states (ends_of netlist so_far.0)) all =
          extends-by (found_by was.states (ends_of netlist so_far.0)) (ends_of netlist rest.0) all
          (subst (λ (states : List (List Bool)). Extends states all) (sym (found-then netlist was.states so_far.0 rest.0)) ext) in
          writes_then (so_far.2 all front) (writes_failed (flat_map (transition_line netlist assumptions all c.args.number) rest.0) failed) (sym (flat_map-append (transition_line netlist assumptions all c.args.number) so_far.0 rest.0)),
    )

pub returns-clause-gave : goal.returns-clause-gave
returns-clause-gave g c =
    let netlist = c.args.exploring.now.making.net.now in
    let bursts = bursts_in c.args.exploring.now.bursts.now in
    let so_far = c.loop-place.invariant in
    let end : c.loop-place.place ≡ length bursts = omega (arith, c.loop-place-test.false, c.loop-place.auto.place-end, c.len-place-end.ensures) in
    let whole : take c.loop-place.place bursts ≡ bursts = ap (λ (n : ℕ). take n bursts) end ∙ take-length bursts in (
      so_far.0,
      subst (λ (list : List (List (ℕ × Bool))). Makes netlist c.args.exploring.now.making.cap c.args.exploring.now.making.assumptions.now list c.args.room.now.start.items so_far.0 c.args.room.now c.loop-place.room (has_failed c.loop-place.writer)) whole so_far.1,
      so_far.2,
    )
