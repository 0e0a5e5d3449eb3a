use Rattle.std.proofs.Common.{◌≡◌, ◌≢◌, ◌∷◌, [], ℕ, List, length, map, ap, refl, sym, ◌∙◌, subst, arith, All, Vec, Global}
use Rattle.std.specs.Prelude.{Contains}
use Rattle.hz_core.specs.Netlist.{Netlist}
use Rattle.hz_pass.specs.CutLists.{cuts_at, IsDataOf, AreByData}
use Rattle.hz_core.specs.declared.tri.Tri.{Tri}
use Rattle.hz_core.specs.declared.tri.Tri.TheVariants.{Unknown}
use Rattle.hz_net.specs.Network.{value_at}
use Rattle.hz_net.specs.Variables.{fan_out_of}
use Rattle.hz_pass.specs.Forcing.{ForcedSoFar, carrying, only_waiting}
use Rattle.hz_pass.proofs.ForcingLoop.{forced-begin, forced-pop, forced-end, delivered-end, next-waits}
use Rattle.hz_pass.proofs.CompletedLemmas.{written-back}
use Rattle.hz_pass.proofs.forcing.carried_values.Goals as goal

no-nodes : (nodes : List ℕ) → length nodes ≡ 0 → nodes ≡ []
no-nodes [] none = refl
no-nodes (node ∷ nodes) none = cc

pub loop-node-init : goal.loop-node-init
loop-node-init c =
    subst (λ (v : List Tri). ForcedSoFar c.args.net.now c.args.listed.now v (only_waiting c.set_listed.new.waiting.items))
    (sym (written-back c.in_ok-values.values.len c.set_listed.new.values c.in_ok-values.values.items (omega (arith, c.set_listed.auto.values, c.as_mut_slice.ensures.len)) (omega (arith, ap length c.as_mut_slice.ensures.value, c.as_mut_slice.ensures.len))))
    (forced-begin c.args.net.now c.args.listed.now c.len.ensures.circuit c.requires c.set_listed.new.values c.set_listed.new.waiting.items c.len.ensures.whole
    (omega (arith, c.set_listed.auto.values, c.as_mut_slice.ensures.len, c.in_ok-values.ensures.len, c.len.ensures.len)) c.in_ok-set_listed.ensures)

pub carry-requires-clause-node : goal.carry-requires-clause-node
carry-requires-clause-node c =
    (next-waits c.args.net.now c.args.listed.now c.len.ensures.circuit c.requires c.loop-node.values.items c.pop.new.self.items [] [] [] c.in-Some.node
    (subst (λ (nodes : List ℕ). ForcedSoFar c.args.net.now c.args.listed.now c.loop-node.values.items (only_waiting nodes)) c.in-Some.ensures.items c.loop-node.invariant)).0

pub carry-requires-clause-known : goal.carry-requires-clause-known
carry-requires-clause-known c =
    subst (λ (v : List Tri). value_at v c.in-Some.node ≢ Unknown) (sym c.as_mut_slice-in-Some.ensures.value)
    (next-waits c.args.net.now c.args.listed.now c.len.ensures.circuit c.requires c.loop-node.values.items c.pop.new.self.items [] [] [] c.in-Some.node
    (subst (λ (nodes : List ℕ). ForcedSoFar c.args.net.now c.args.listed.now c.loop-node.values.items (only_waiting nodes)) c.in-Some.ensures.items c.loop-node.invariant)).1

pub carry-requires-clause-cuts : goal.carry-requires-clause-cuts
carry-requires-clause-cuts c =
    subst (All (IsDataOf c.args.net.now c.in-Some.node)) (sym (c.cuts_at-taking.ensures ∙ ap (λ lists. cuts_at (map (λ (list : Vec ℕ Global). list.items) lists) c.in-Some.node) c.as_slice.ensures.value))
    (subst (λ (netlist : Netlist). All (IsDataOf netlist c.in-Some.node) (cuts_at (map (λ (list : Vec ℕ Global). list.items) c.in_ok-cuts.cuts.items) c.in-Some.node)) c.circuit.ensures.same (c.in_ok-cuts.ensures.sound c.in-Some.node))

pub loop-node-preserved : goal.loop-node-preserved
loop-node-preserved c =
    let netlist = c.args.net.now in
    let node = c.in-Some.node in
    let lists = map (λ (list : Vec ℕ Global). list.items) c.in_ok-cuts.cuts.items in
    let by_data : AreByData netlist c.args.listed.now lists = subst (λ (netlist : Netlist). AreByData netlist c.args.listed.now lists) c.circuit.ensures.same c.in_ok-cuts.ensures in
    let taking : c.cuts_at-taking.result.now ≡ cuts_at lists node = c.cuts_at-taking.ensures ∙ ap (λ all. cuts_at (map (λ (list : Vec ℕ Global). list.items) all) node) c.as_slice.ensures.value in
    subst (λ (v : List Tri). ForcedSoFar netlist c.args.listed.now v (only_waiting c.carry.new.waiting.items))
    (sym (written-back c.loop-node.values.len c.carry.new.values c.loop-node.values.items (omega (arith, c.carry.auto.values, c.as_mut_slice-in-Some.ensures.len)) (omega (arith, ap length c.as_mut_slice-in-Some.ensures.value, c.as_mut_slice-in-Some.ensures.len))))
    (c.in_ok-carry.ensures.forced c.args.listed.now c.requires
    (subst (λ (v : List Tri). ForcedSoFar netlist c.args.listed.now v (carrying c.pop.new.self.items (fan_out_of netlist node) c.cuts_at-taking.result.now)) (sym c.as_mut_slice-in-Some.ensures.value)
    (forced-pop netlist c.args.listed.now c.len.ensures.circuit c.requires c.loop-node.values.items c.pop.new.self.items c.cuts_at-taking.result.now node
    (subst (λ (nodes : List ℕ). ForcedSoFar netlist c.args.listed.now c.loop-node.values.items (only_waiting nodes)) c.in-Some.ensures.items c.loop-node.invariant)
    (λ cut is unlisted. subst (λ (cuts : List ℕ). Contains cuts cut) (sym taking) (by_data.complete node cut is unlisted)))))

pub returns : goal.returns
returns c =
    let none : c.loop-node.waiting.items ≡ [] = no-nodes c.loop-node.waiting.items (omega (arith, c.in_default.ensures.cases.0)) in
    let so_far = subst (λ (nodes : List ℕ). ForcedSoFar c.args.net.now c.args.listed.now c.loop-node.values.items (only_waiting nodes)) none c.loop-node.invariant in
    record {
      forced = forced-end c.args.net.now c.args.listed.now c.len.ensures.circuit c.requires c.loop-node.values.items so_far;
      delivered = delivered-end c.args.net.now c.args.listed.now c.len.ensures.circuit c.requires c.loop-node.values.items so_far;
    }
