-- One word more.
use Rattle.std.proofs.Common.{arith, ◌∙◌, ◌<◌, sym, ap, subst, map, length, get_or, None}
use Rattle.std.specs.Prelude.{IsSome}
use Rattle.std.proofs.lemmas.List.{get_or-map, length-map}
use Rattle.hz_free.proofs.GateWords.{gather-step}
use Rattle.hz_free.proofs.KeptWords.{some-counted}
use Rattle.hz_free.proofs.words.gather.Goals as goal

pub unwrap-requires : goal.unwrap-requires
unwrap-requires g c =
    let words = map g.S.StoredWord.word_in c.args.wires.now in
    let counted = length-map c.args.wires.now g.S.StoredWord.word_in in
    let inside : c.loop-pin.pin < length c.args.wires.now = omega (arith, c.loop-pin-test.true) in
    let read = get_or-map g.S.StoredWord.word_in c.args.wires.now c.loop-pin.pin c.index-wires-pin.result None inside ∙ (ap g.S.StoredWord.word_in (sym c.index-wires-pin.is) ∙ sym c.get.ensures) in
    subst IsSome read (some-counted c.args.cap (get_or words c.loop-pin.pin None) (c.requires.counted c.loop-pin.pin None (omega (arith, inside, counted))))

pub loop-pin-preserved : goal.loop-pin-preserved
loop-pin-preserved g c =
    let counted = length-map c.args.wires.now g.S.StoredWord.word_in in
    let inside : c.loop-pin.pin < length c.args.wires.now = omega (arith, c.loop-pin-test.true) in
    let read = get_or-map g.S.StoredWord.word_in c.args.wires.now c.loop-pin.pin c.index-wires-pin.result None inside ∙ (ap g.S.StoredWord.word_in (sym c.index-wires-pin.is) ∙ sym c.get.ensures) in
    gather-step c.loop-pin.pin c.loop-pin.pins (map g.S.StoredWord.word_in c.args.wires.now) c.unwrap.result
    (omega (arith, inside, c.loop-pin.auto.pins, c.requires.room))
    (omega (arith, counted, c.loop-pin.auto.pins, c.requires.room))
    (read ∙ c.unwrap.ensures) c.loop-pin.invariant
