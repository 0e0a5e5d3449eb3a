-- No bit is set.
use Rattle.std.proofs.Common.{◌≡◌, ◌∙◌, ap, ◌+◌, ◌/◌, rules}
use Rattle.hz_lists.specs.Inside.{marks_of}
use Rattle.hz_lists.proofs.BitLemmas.{no_words, no-slots}
use Rattle.hz_lists.proofs.SetLemmas.{holds-none, no-marks}
use Rattle.hz_lists.proofs.number_set.NumberSet.new.Goals as goal

pub invariant_of-result : goal.invariant_of-result
invariant_of-result c =
    holds-none c.args.count c.in_ok-vec.field-0.items c.in_ok-vec-2.field-0.items c.in_ok-vec-3.field-0.items c.requires
    (c.in_ok-vec.ensures.items_if_clones_equal (λ y clone. search rules))
    (c.in_ok-vec-2.ensures.items_if_clones_equal (λ y clone. search rules))
    (c.in_ok-vec-3.ensures.items_if_clones_equal (λ y clone. search rules))

pub returns : goal.returns
returns c =
    let low : c.in_ok-vec.field-0.items ≡ no_words (c.args.count / 64 + 1) = c.in_ok-vec.ensures.items_if_clones_equal (λ y clone. search rules) in
    ap (marks_of c.args.count) low ∙ no-marks c.args.count (no_words (c.args.count / 64 + 1)) (no-slots (c.args.count / 64 + 1))
