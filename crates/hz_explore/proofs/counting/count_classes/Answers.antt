-- One node more.
use Rattle.std.proofs.Common.{◌≡◌, ◌∙◌, sym, ap, false, List, [], ◌∷◌, ◌++◌, map, zero-add, arith}
use Rattle.hz_explore.proofs.Words.{range_with_len, Zero, EdgeClass, bit_at, value_at, change_of, Classes, class_at, classes_of}
use Rattle.std.proofs.lemmas.List.{get_or_default}
use Rattle.std.proofs.lemmas.List.FromFn.{map-range_with_len_more}
use Rattle.hz_explore.specs.Counts.{is_single, is_static, is_maybe_static, is_dynamic, is_maybe_dynamic}
use Rattle.hz_explore.proofs.CountLemmas.{counts-few}
use Rattle.hz_explore.proofs.counting.count_classes.Goals as goal

pub count-requires-clause-single : goal.count-requires-clause-single
count-requires-clause-single c =
    omega (arith, c.requires.nodes, c.loop-node-test.true, ap (λ (k : Classes). k.single) c.loop-node.invariant, counts-few is_single (class_at (change_of c.args.change.now)) c.loop-node.node)

pub count-requires-clause-statics : goal.count-requires-clause-statics
count-requires-clause-statics c =
    omega (arith, c.requires.nodes, c.loop-node-test.true, ap (λ (k : Classes). k.statics) c.loop-node.invariant, counts-few is_static (class_at (change_of c.args.change.now)) c.loop-node.node)

pub count-requires-clause-maybe_static : goal.count-requires-clause-maybe_static
count-requires-clause-maybe_static c =
    omega (arith, c.requires.nodes, c.loop-node-test.true, ap (λ (k : Classes). k.maybe_static) c.loop-node.invariant, counts-few is_maybe_static (class_at (change_of c.args.change.now)) c.loop-node.node)

pub count-requires-clause-dynamic : goal.count-requires-clause-dynamic
count-requires-clause-dynamic c =
    omega (arith, c.requires.nodes, c.loop-node-test.true, ap (λ (k : Classes). k.dynamic) c.loop-node.invariant, counts-few is_dynamic (class_at (change_of c.args.change.now)) c.loop-node.node)

pub count-requires-clause-maybe_dynamic : goal.count-requires-clause-maybe_dynamic
count-requires-clause-maybe_dynamic c =
    omega (arith, c.requires.nodes, c.loop-node-test.true, ap (λ (k : Classes). k.maybe_dynamic) c.loop-node.invariant, counts-few is_maybe_dynamic (class_at (change_of c.args.change.now)) c.loop-node.node)

pub loop-node-preserved : goal.loop-node-preserved
loop-node-preserved c =
    let node = c.loop-node.node in
    let found = change_of c.args.change.now in
    let so_far : List EdgeClass = map (class_at found) (range_with_len 0 node) in
    let begins : c.index.result.now ≡ bit_at found.start node = c.index.ensures ∙ sym (get_or_default found.start node false c.index.result.now (omega (arith, c.loop-node-test.true, c.requires.start))) in
    let ends : c.index-in-loop-node.result.now ≡ value_at found.ends node = c.index-in-loop-node.ensures ∙ sym (get_or_default found.ends node Zero c.index-in-loop-node.result.now (omega (arith, c.loop-node-test.true, c.requires.ends))) in
    let here : c.edge_class-class.result ≡ class_at found node = rw (begins, ends, c.range.ensures) at c.edge_class-class.ensures in
    c.count.ensures so_far c.loop-node.invariant
    ∙ ap classes_of (ap (λ (class : EdgeClass). so_far ++ class ∷ []) here ∙ sym (map-range_with_len_more (class_at found) 0 node node (zero-add node)))
