-- The variables of the path have a root.
use Rattle.std.proofs.Common.{arith, ◌∙◌, refl}
use Rattle.hz_free.proofs.PathLemmas.{link-inside}
use Rattle.hz_free.proofs.Roots.{path-links, rooted-more}
use Rattle.hz_free.proofs.feedback.find_root.Goals as goal

pub root_of-root-requires-clause-path : goal.root_of-root-requires-clause-path
root_of-root-requires-clause-path c =
    rw c.as_slice.ensures.value
    (λ i there. path-links c.args.choices.now c.args.start c.follow.new.path.items c.in_ok-end.end i c.in_ok-end.ensures.following.is_path there)

pub follow-requires-clause-mark : goal.follow-requires-clause-mark
follow-requires-clause-mark c =
    omega (arith, link-inside c.args.choices.now c.args.start c.requires.start.0 c.requires.start.1, c.requires.room)

pub root_of-root-requires-clause-roots : goal.root_of-root-requires-clause-roots
root_of-root-requires-clause-roots c = c.follow.auto.marks ∙ c.requires.rooted.roots_long

pub returns : goal.returns
returns c =
    let has = rw c.as_slice.ensures.value at c.root_of-root.ensures in
    let value = rw c.as_slice-2.ensures.value at c.set_roots.ensures in
    rooted-more c.args.choices.now c.args.choosers.now c.root_of-root.new.choosers c.args.roots.now c.follow.new.marks c.args.start c.args.start
    c.follow.new.path.items c.in_ok-end.end c.root_of-root.result c.requires.rooted c.in_ok-end.ensures
    c.set_roots.new.roots refl has c.root_of-root.auto.choosers (c.set_roots.auto.roots ∙ c.follow.auto.marks) value.listed value.others
