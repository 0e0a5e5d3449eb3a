use Rattle.std.proofs.Common.{◌≡◌, ◌<◌, ◌∙◌, None, length, slice_get, sym, ap, subst, arith}
use Rattle.std.proofs.lemmas.List.{get_or_default}
use Rattle.hz_plane.specs.Faults.{fault_at}
use Rattle.hz_plane.specs.View.{Seen, IsLaneFault}
use Rattle.hz_plane.proofs.planes.Planes.fault.Goals as goal

pub returns : goal.returns
returns c loaded at =
    let fields = c.self.inside in
    let view = c.self.view_is in
    let inside : c.args.lane < length fields.faults.items = omega (arith, c.requires.lane, c.self.invariant.faults_count) in
    let is : c.index.result.now ≡ fault_at fields.faults.items c.args.lane = c.index.ensures ∙ get_or_default fields.faults.items c.args.lane c.index.result.now None inside in
    subst (λ (s : Seen). IsLaneFault s.netlist loaded.listed c.index.result.now) view
    (subst (IsLaneFault fields.net.now loaded.listed) (sym is)
    (c.self.invariant.faults c.args.lane loaded (ap (λ (s : Seen). slice_get s.lanes c.args.lane) view ∙ at) (λ e. c.requires.stage (ap (λ (s : Seen). s.stage) (sym view) ∙ e))))
