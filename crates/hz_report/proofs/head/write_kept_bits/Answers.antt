-- The words of the first nodes, and the end of the line.
use Rattle.std.proofs.Common.{refl, sym, length, get_or, arith}
use Rattle.std.proofs.lemmas.List.{length-take-le}
use Rattle.hz_write.proofs.Writers.{writes_same, writes_then}
use Rattle.hz_report.proofs.KeptLemmas.{bit-end, length-places, words-front}
use Rattle.hz_report.proofs.head.write_kept_bits.Goals as goal

pub offset_bounds-begins-bits : goal.offset_bounds-begins-bits
offset_bounds-begins-bits g c = omega (arith, c.requires.bits, length-places _ _ _ _ _ _ c.requires.kept, c.type_inv.begins)

pub bounds-begins-bits : goal.bounds-begins-bits
bounds-begins-bits g c = omega (arith, c.requires.bits, length-places _ _ _ _ _ _ c.requires.kept)

pub slice_bounds-text-end : goal.slice_bounds-text-end
slice_bounds-text-end g c = bit-end _ _ _ _ (length c.args.bits.now) _ _ c.requires.bits c.set_bits.ensures

pub slice_bounds-text-end-2 : goal.slice_bounds-text-end-2
slice_bounds-text-end-2 g c =
    sym (length-take-le (get_or c.args.begins.now (length c.args.bits.now) 0) c.set_bits.new.text (bit-end _ _ _ _ (length c.args.bits.now) _ _ c.requires.bits c.set_bits.ensures))

pub returns-clause-gave : goal.returns-clause-gave
returns-clause-gave g c =
    let words = words-front c.args.net.now c.args.bits.now c.set_bits.new.text c.args.begins.now c.set_bits.ensures c.requires.bits in
    writes_then (writes_same c.text.ensures words) c.end.ensures.gave refl

pub returns-clause-kept : goal.returns-clause-kept
returns-clause-kept g c = record { shown = c.set_bits.ensures.shown; are = c.set_bits.ensures.are; first = refl }
