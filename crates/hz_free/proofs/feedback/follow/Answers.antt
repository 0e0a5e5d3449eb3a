-- The next variable of the path.
use Rattle.std.proofs.Common.{arith, ◌≡◌, ◌<◌, ◌∙◌, ℕ, List, None, length, get_or, ap, sym, subst}
use Rattle.std.specs.Option.{is_some}
use Rattle.hz_free.specs.Paths.{IsPathSoFar}
use Rattle.hz_free.proofs.FollowedPaths.{following-begin, following-next, following-less, some-from}
use Rattle.hz_free.proofs.PathLemmas.{link-inside, read-link}
use Rattle.hz_free.proofs.feedback.follow.Goals as goal

pub loop-path-init : goal.loop-path-init
loop-path-init c = record {
  following =
      subst (λ (path : List ℕ). IsPathSoFar c.args.links.now c.args.start c.args.mark path c.args.start c.args.marks.now c.args.marks.now) (sym c.clear.ensures.items)
      (following-begin c.args.links.now c.args.start c.args.mark c.args.marks.now);
  linked = c.requires.start;
}

pub unwrap-var-requires : goal.unwrap-var-requires
unwrap-var-requires c =
    let linked = c.loop-path.invariant.linked in
    let few : c.loop-path.var < length c.args.links.now = link-inside c.args.links.now c.loop-path.var linked.0 linked.1 in
    let read : c.get-in-loop-path.result ≡ get_or c.args.links.now c.loop-path.var None =
    c.get-in-loop-path.ensures ∙ read-link c.args.links.now c.loop-path.var c.index-links-var.result few c.index-links-var.is in
    ap is_some (read ∙ linked.1)

pub loop-path-preserved : goal.loop-path-preserved
loop-path-preserved c =
    let linked = c.loop-path.invariant.linked in
    let few : c.loop-path.var < length c.args.links.now = link-inside c.args.links.now c.loop-path.var linked.0 linked.1 in
    let mark : c.get.result ≡ get_or c.loop-path.marks c.loop-path.var None =
    c.get.ensures ∙ read-link c.loop-path.marks c.loop-path.var c.index-marks-var.result (omega (arith, few, c.loop-path.auto.marks, c.requires.long)) c.index-marks-var.is in
    let read : c.get-in-loop-path.result ≡ get_or c.args.links.now c.loop-path.var None =
    c.get-in-loop-path.ensures ∙ read-link c.args.links.now c.loop-path.var c.index-links-var.result few c.index-links-var.is in
    record {
      following =
          rw c.to.ensures
          (following-next c.args.links.now c.args.start c.args.mark c.loop-path.path.items c.push.new.self.items c.loop-path.var c.unwrap-var.result
          c.args.marks.now c.loop-path.marks c.loop-path.invariant.following (c.loop-path.auto.marks ∙ c.requires.long)
          (ap is_some (sym mark) ∙ c.loop-path-test.ensures) (sym read ∙ c.unwrap-var.ensures) c.in-Ok.ensures.items);
      linked = c.requires.links.on c.loop-path.var c.unwrap-var.result (sym read ∙ c.unwrap-var.ensures);
    }

pub loop-path-smaller : goal.loop-path-smaller
loop-path-smaller c =
    let linked = c.loop-path.invariant.linked in
    let few : c.loop-path.var < length c.args.links.now = link-inside c.args.links.now c.loop-path.var linked.0 linked.1 in
    let mark : c.get.result ≡ get_or c.loop-path.marks c.loop-path.var None =
    c.get.ensures ∙ read-link c.loop-path.marks c.loop-path.var c.index-marks-var.result (omega (arith, few, c.loop-path.auto.marks, c.requires.long)) c.index-marks-var.is in
    let read : c.get-in-loop-path.result ≡ get_or c.args.links.now c.loop-path.var None =
    c.get-in-loop-path.ensures ∙ read-link c.args.links.now c.loop-path.var c.index-links-var.result few c.index-links-var.is in
    following-less c.args.links.now c.args.start c.args.mark c.loop-path.path.items c.push.new.self.items c.loop-path.var c.unwrap-var.result
    c.args.marks.now _
    (following-next c.args.links.now c.args.start c.args.mark c.loop-path.path.items c.push.new.self.items c.loop-path.var c.unwrap-var.result
    c.args.marks.now c.loop-path.marks c.loop-path.invariant.following (c.loop-path.auto.marks ∙ c.requires.long)
    (ap is_some (sym mark) ∙ c.loop-path-test.ensures) (sym read ∙ c.unwrap-var.ensures) c.in-Ok.ensures.items)
    c.in-Ok.ensures.items

pub returns : goal.returns
returns c =
    let linked = c.loop-path.invariant.linked in
    let few : c.loop-path.var < length c.args.links.now = link-inside c.args.links.now c.loop-path.var linked.0 linked.1 in
    let mark : c.get.result ≡ get_or c.loop-path.marks c.loop-path.var None =
    c.get.ensures ∙ read-link c.loop-path.marks c.loop-path.var c.index-marks-var.result (omega (arith, few, c.loop-path.auto.marks, c.requires.long)) c.index-marks-var.is in
    record {
      following = c.loop-path.invariant.following;
      ended = some-from c.loop-path.marks c.loop-path.var (ap is_some (sym mark) ∙ c.loop-path-test.ensures);
    }
