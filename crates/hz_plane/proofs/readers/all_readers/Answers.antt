use Rattle.std.proofs.Common.{◌≡◌, ◌∙◌, ◌++◌, ◌∷◌, [], ℕ, List, map, take, get_or, sym, ap, arith}
use Rattle.smallvec.specs.SmallVec.{SmallVec}
use Rattle.std.proofs.lemmas.List.{map_more, map-append, take_all}
use Rattle.hz_plane.specs.Sweeps.{readers_at}
use Rattle.hz_plane.proofs.ReaderLemmas.{by-place}
use Rattle.hz_plane.proofs.readers.all_readers.Goals as goal

pub loop-place-preserved : goal.loop-place-preserved
loop-place-preserved c =
    let order = c.args.order.now in
    let place = c.loop-place.place in
    let list = c.in_ok-list.list in
    let by_node : List (List ℕ) = c.args.by_node.now in
    let is : list.items ≡ readers_at by_node (get_or order place 0) = c.in_ok-list.ensures ∙ c.at.ensures in
    ap (map (λ (part : SmallVec ℕ). part.items)) c.in_ok-push.ensures.items
    ∙ (map-append (λ (part : SmallVec ℕ). part.items) c.loop-place.lists.items (list ∷ [])
    ∙ (ap (λ (lists : List (List ℕ)). lists ++ list.items ∷ []) c.loop-place.invariant
    ∙ (ap (λ (part : List ℕ). map (readers_at by_node) (take place order) ++ part ∷ []) is
    ∙ sym (map_more (readers_at by_node) order place 0 c.loop-place-test.true))))

pub returns : goal.returns
returns c =
    let order = c.args.order.now in
    let all : take c.loop-place.place order ≡ order = take_all c.loop-place.place order (omega (arith, c.loop-place-test.false)) in
    by-place c.args.net.now order c.args.by_node.now _ c.requires.order (c.loop-place.invariant ∙ ap (map (readers_at c.args.by_node.now)) all)
