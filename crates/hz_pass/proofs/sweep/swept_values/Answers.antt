use Rattle.std.proofs.Common.{◌≡◌, ◌++◌, ◌∙◌, length, take, drop, ap, sym, refl, subst, arith}
use Rattle.hz_net.specs.Network.{network_of}
use Rattle.hz_net.specs.Variables.{first_wire}
use Rattle.hz_pass.specs.Sweep.{IsSweptTo}
use Rattle.hz_pass.proofs.ForcingLoop.{forced-begin}
use Rattle.hz_pass.proofs.CompletedLemmas.{written-back}
use Rattle.hz_pass.proofs.SweepLemmas.{swept-none, swept-forced, swept-delivered}
use Rattle.hz_pass.proofs.sweep.swept_values.Goals.{After-drop-waiting-2}
use Rattle.hz_pass.proofs.sweep.swept_values.Goals as goal

-- what the sweep left, written into the vector
swept :
    (c : After-drop-waiting-2) →
    IsSweptTo c.args.net.now c.args.listed.now (length c.args.net.now.names) (length (network_of c.args.net.now))
    (take c.in_ok-values.values.len (c.sweep.new.values ++ drop (length c.sweep.new.values) (take c.in_ok-values.values.len (c.set_listed.new.values ++ drop (length c.set_listed.new.values) c.in_ok-values.values.items))))
swept c =
    let netlist = c.args.net.now in
    let listed = c.args.listed.now in
    let count = c.in_ok-values.values.len in
    let begun = take count (c.set_listed.new.values ++ drop (length c.set_listed.new.values) c.in_ok-values.values.items) in
    let before : IsSweptTo netlist listed 0 (first_wire netlist 0) c.set_listed.new.values =
    swept-none netlist listed c.len.ensures.circuit c.requires c.set_listed.new.values c.set_listed.new.waiting.items
    (forced-begin netlist listed c.len.ensures.circuit c.requires c.set_listed.new.values c.set_listed.new.waiting.items c.len.ensures.whole
    (omega (arith, c.set_listed.auto.values, c.as_mut_slice.ensures.len, c.in_ok-values.ensures.len, c.len.ensures.len)) c.in_ok-set_listed.ensures) in
    let set_back : begun ≡ c.set_listed.new.values =
    written-back count c.set_listed.new.values c.in_ok-values.values.items (omega (arith, c.set_listed.auto.values, c.as_mut_slice.ensures.len)) (omega (arith, ap length c.as_mut_slice.ensures.value, c.as_mut_slice.ensures.len)) in
    let swept_back =
    written-back count c.sweep.new.values begun (omega (arith, c.sweep.auto.values, c.as_mut_slice-2.ensures.len)) (omega (arith, ap length c.as_mut_slice-2.ensures.value, c.as_mut_slice-2.ensures.len)) in
    subst (IsSweptTo netlist listed (length netlist.names) (length (network_of netlist))) (sym swept_back)
    (c.if-not-sweep.ensures.swept listed c.requires
    (subst (IsSweptTo netlist listed 0 (first_wire netlist 0)) (sym (c.as_mut_slice-2.ensures.value ∙ set_back)) before) refl)

pub returns-clause-forced : goal.returns-clause-forced
returns-clause-forced c =
    swept-forced c.args.net.now c.args.listed.now c.len.ensures.circuit c.requires _ _ (swept (goal.at.returns-clause-forced c).After-drop-waiting-2)

pub returns-clause-delivered : goal.returns-clause-delivered
returns-clause-delivered c =
    swept-delivered c.args.net.now c.args.listed.now c.len.ensures.circuit c.requires _ _ (swept (goal.at.returns-clause-delivered c).After-drop-waiting-2)
