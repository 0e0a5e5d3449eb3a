-- The keys of the outputs are written back.
use Rattle.std.proofs.Common.{◌≡◌, ◌∙◌, ap, sym, subst, rules, ℕ, List, length}
use Rattle.std.specs.Vec.{vec_len}
use Rattle.hz_plane.specs.declared.values.LaneValues.{LaneValues}
use Rattle.hz_batch.specs.Keys.{HaveKeys}
use Rattle.hz_batch.proofs.BlockLaws.{written-whole}
use Rattle.hz_batch.proofs.columns.keep_keys.Goals as goal

pub returns-clause-count : goal.returns-clause-count
returns-clause-count c =
    let columns = c.args.columns.now in
    let keys = written-whole columns.keys.items c.make_keys.new.keys columns.keys.len (c.make_keys.ensures.count ∙ c.as_mut_slice.ensures.len) in
    let long : vec_len columns.keys ≡ length columns.keys.items = search rules in
    ap (length {A = List (List ℕ)}) keys ∙ (c.make_keys.ensures.count ∙ (c.as_mut_slice.ensures.len ∙ (long ∙ c.requires.keys)))

pub returns-clause-keys : goal.returns-clause-keys
returns-clause-keys c =
    let columns = c.args.columns.now in
    let keys = written-whole columns.keys.items c.make_keys.new.keys columns.keys.len (c.make_keys.ensures.count ∙ c.as_mut_slice.ensures.len) in
    let first = subst (λ (list : List LaneValues). HaveKeys list c.as_slice-2.result.now c.make_keys.new.keys) c.as_slice.ensures.value c.make_keys.ensures.keys in
    let both = subst (λ (list : List LaneValues). HaveKeys columns.firsts.items list c.make_keys.new.keys) c.as_slice-2.ensures.value first in
    subst (λ (list : List (List (List ℕ))). HaveKeys columns.firsts.items columns.seconds.items list) (sym keys) both
