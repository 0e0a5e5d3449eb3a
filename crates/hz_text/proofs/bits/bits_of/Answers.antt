use Rattle.std.proofs.Common.{◌≡◌, ◌∙◌, Bool, Option, None, length, map, replicate, ap, sym, arith, rules}
use Rattle.std.specs.List.{filter_map, range_with_len}
use Rattle.std.proofs.lemmas.List.{length-replicate}
use Rattle.hz_text.specs.Assignment.{assigned_bit, assignment_to}
use Rattle.hz_text.specs.Bits.{pair_of, assigned_bits}
use Rattle.hz_text.proofs.BuildLemmas.{change_of, pairs_back, length-bits}
use Rattle.hz_text.proofs.NodeLemmas.{written_whole}
use Rattle.hz_text.proofs.bits.bits_of.Goals as goal

pub list_bits-requires-clause-change : goal.list_bits-requires-clause-change
list_bits-requires-clause-change c =
    let filled : c.in_ok-bits.bits.items ≡ replicate c.args.nodes None = search rules in
    let long : length c.as_mut_slice.result.now ≡ c.args.nodes = ap length (c.as_mut_slice.ensures.value ∙ filled) ∙ length-replicate {A = Option Bool} c.args.nodes None in
    rw (long, c.as_slice.ensures.value, c.in_ok-read_pairs.ensures) (change_of c.args.nodes c.args.all.now c.requires)

pub returns : goal.returns
returns c =
    let nodes = c.args.nodes in
    let filled : c.in_ok-bits.bits.items ≡ replicate nodes None = search rules in
    let long : length c.as_mut_slice.result.now ≡ nodes = ap length (c.as_mut_slice.ensures.value ∙ filled) ∙ length-replicate {A = Option Bool} nodes None in
    let pairs : c.as_slice.result.now ≡ filter_map pair_of c.args.all.now = c.as_slice.ensures.value ∙ c.in_ok-read_pairs.ensures in
    let new = c.list_bits.new.bits in
    let size : length new ≡ nodes = ap length c.list_bits.ensures ∙ length-bits _ _ ∙ long in
    let old : length c.in_ok-bits.bits.items ≡ nodes = ap length filled ∙ length-replicate {A = Option Bool} nodes None in
    written_whole new c.in_ok-bits.bits.items c.in_ok-bits.bits.len (omega (arith, size, old, c.in_ok-bits.bits.ok.0)) (sym c.in_ok-bits.bits.ok.0)
    ∙ c.list_bits.ensures
    ∙ ap (assigned_bits c.as_slice.result.now) long
    ∙ ap (λ all. map (assigned_bit all) (range_with_len 0 nodes)) (ap (map assignment_to) pairs ∙ pairs_back nodes c.args.all.now c.requires.pairs)
