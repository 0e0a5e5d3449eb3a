-- One output more.
use Rattle.std.proofs.Common.{◌≡◌, ◌<◌, ◌+◌, ◌∙◌, [], get_or, arith, ap, sym, subst, ℕ, List, length, set}
use Rattle.hz_core.specs.declared.tri.Tri.{Tri}
use Rattle.hz_core.specs.Netlist.{Netlist}
use Rattle.hz_batch.specs.Outputs.{LineOf}
use Rattle.hz_batch.specs.Columns.{no_values}
use Rattle.hz_batch.specs.Keys.{AreKeys}
use Rattle.hz_batch.proofs.LineLemmas.{IsSetTo, in_lane, set-none, set-next, set-whole}
use Rattle.hz_batch.proofs.lanes.set_line.Goals as goal

pub loop-place-init : goal.loop-place-init
loop-place-init c = set-none c.args.net.now c.args.columns.now.firsts.items c.args.columns.now.seconds.items c.args.lane c.args.line.now c.requires.line

pub loop-place-preserved : goal.loop-place-preserved
loop-place-preserved c =
    let same : length c.outputs-place-end.result.now ≡ length c.args.net.now.outputs = ap (length {A = ℕ}) (c.outputs-place-end.ensures.outputs ∙ ap (λ (netlist : Netlist). netlist.outputs) c.circuit.ensures.same) in
    let inside : c.loop-place.place < length c.args.net.now.outputs = rw (← same) c.loop-place-test.true in
    let firsts = c.args.columns.now.firsts.items in
    let seconds = c.args.columns.now.seconds.items in
    let place = c.loop-place.place in
    let line = c.loop-place.line in
    let first = get_or firsts place no_values in
    let second = get_or seconds place no_values in
    let keys = subst (λ (list : List (List (List ℕ))). AreKeys first second (get_or list place [])) (sym c.as_slice-keys.ensures.value) (c.requires.keys place (omega (arith, inside, c.requires.columns.firsts))) in
    let both : ◌≡◌ {A = Tri × Tri} c.pair_at-pair.result (in_lane firsts c.args.lane place, in_lane seconds c.args.lane place) = c.pair_at-pair.ensures first second keys in
    let now : c.set.new.self ≡ record line { values = set line.values place (in_lane firsts c.args.lane place, in_lane seconds c.args.lane place) } =
    c.set.ensures ∙ ap (λ (pair : Tri × Tri). record line { values = set line.values place pair }) both in
    subst (λ (line : LineOf). IsSetTo c.args.net.now firsts seconds c.args.lane (place + 1) line) (sym now) (set-next c.args.net.now firsts seconds c.args.lane place line inside c.loop-place.invariant)

pub returns-clause-values : goal.returns-clause-values
returns-clause-values c =
    let same : length c.outputs-place-end.result.now ≡ length c.args.net.now.outputs = ap (length {A = ℕ}) (c.outputs-place-end.ensures.outputs ∙ ap (λ (netlist : Netlist). netlist.outputs) c.circuit.ensures.same) in
    set-whole c.args.net.now c.args.columns.now.firsts.items c.args.columns.now.seconds.items c.args.lane c.loop-place.place c.loop-place.line (rw (← same) c.loop-place-test.false) c.loop-place.invariant
