-- What the words tell is narrowed.
use Rattle.std.proofs.Common.{◌≡◌, ◌∙◌, length, ap, sym, subst, arith}
use Rattle.hz_orders.proofs.Words.{length-map, Refines, told_value}
use Rattle.hz_orders.proofs.Narrowed.{told-covers, written-whole, covers-state}
use Rattle.hz_orders.proofs.ends.ends_under.Goals as goal

pub narrow_all-requires-clause-values : goal.narrow_all-requires-clause-values
narrow_all-requires-clause-values c =
    told-covers c.args.change.now c.args.told.now c.as_mut_slice.result.now
    (record {
      circuit = c.keeps_shape.ensures.circuit;
      whole = c.keeps_shape.ensures.whole;
      start = c.requires.start;
      input = c.requires.input;
    })
    c.requires.told (c.as_mut_slice.ensures.value ∙ c.in_ok-values.ensures)

pub returns : goal.returns
returns c = λ state outcome.
    let long = ap length c.in_ok-values.ensures ∙ (length-map c.args.told.now told_value ∙ c.requires.told.long) in
    let size : length c.narrow_all.new.values ≡ c.in_ok-values.values.len = omega (arith, long, c.narrow_all.ensures.long, c.in_ok-values.values.ok.0) in
    subst (Refines state) (sym (written-whole c.narrow_all.new.values c.in_ok-values.values.items c.in_ok-values.values.len size))
    (covers-state c.args.change.now c.narrow_all.new.values c.narrow_all.ensures state outcome)
