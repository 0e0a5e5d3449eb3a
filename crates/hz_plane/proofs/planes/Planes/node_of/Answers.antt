use Rattle.std.proofs.Common.{refl, sym, subst, inl, inr}
use Rattle.hz_net.specs.declared.variable.VarKind.TheVariants.{Input, Gate, Wire}
use Rattle.hz_net.specs.Network.{IsVariable}
use Rattle.hz_net.proofs.DrivenLemmas.{driven-as}
use Rattle.hz_plane.specs.View.{Seen, IsNodeOf}
use Rattle.hz_plane.proofs.planes.Planes.node_of.Goals as goal

pub returns-in-Input : goal.returns-in-Input
returns-in-Input c =
    let held = c.self.invariant.schedule in
    let var : IsVariable c.self.inside.net.now c.args.var = subst (λ (s : Seen). IsVariable s.netlist c.args.var) (sym c.self.view_is) c.requires in
    subst (λ (s : Seen). IsNodeOf s.netlist c.args.var c.args.var) c.self.view_is (inl ((driven-as _ c.args.var (Input c.in-Input.number) held.circuit held.whole var c.in-Input.ensures).is_node, refl))

pub returns-in-Gate : goal.returns-in-Gate
returns-in-Gate c =
    let held = c.self.invariant.schedule in
    let var : IsVariable c.self.inside.net.now c.args.var = subst (λ (s : Seen). IsVariable s.netlist c.args.var) (sym c.self.view_is) c.requires in
    subst (λ (s : Seen). IsNodeOf s.netlist c.args.var c.args.var) c.self.view_is (inl ((driven-as _ c.args.var (Gate c.in-Gate.kind) held.circuit held.whole var c.in-Gate.ensures).is_gate.1, refl))

pub returns-in-Wire : goal.returns-in-Wire
returns-in-Wire c =
    let held = c.self.invariant.schedule in
    let var : IsVariable c.self.inside.net.now c.args.var = subst (λ (s : Seen). IsVariable s.netlist c.args.var) (sym c.self.view_is) c.requires in
    subst (λ (s : Seen). IsNodeOf s.netlist c.args.var c.in-Wire.source) c.self.view_is
    (inr (driven-as _ c.args.var (Wire c.in-Wire.gate c.in-Wire.pin c.in-Wire.source) held.circuit held.whole var c.in-Wire.ensures).driven)
