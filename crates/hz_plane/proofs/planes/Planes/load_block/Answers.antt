use Rattle.std.proofs.Common.{◌≡◌, ◌∙◌, ℕ, ◌+◌, ◌*◌, ◌≤◌, Bool, Some, length, take, drop, slice_get, refl, sym, ap, subst, arith}
use Rattle.std.proofs.Math.Nat.{add-mul}
use Rattle.std.proofs.lemmas.List.{length-take-le, length-drop}
use Rattle.std.proofs.lemmas.Nat.{mul-le}
use Rattle.hz_plane.specs.declared.stage.Stage.TheVariants.{Loading}
use Rattle.hz_plane.specs.Loads.{Loaded, LaneLoads}
use Rattle.hz_plane.specs.View.{Seen}
use Rattle.hz_plane.proofs.BlockLoads.{block-loaded}
use Rattle.hz_plane.proofs.Fields.{reloaded, first-lists}
use Rattle.hz_plane.proofs.planes.Planes.load_block.Goals as goal

pub invariant_of-self : goal.invariant_of-self
invariant_of-self c =
    let fields = c.self.inside in
    let n = fields.loads.inputs in
    let bits = c.args.bits.now in
    let count : n ≡ c.args.self.now.netlist.inputs = c.self.invariant.inputs ∙ ap (λ (s : Seen). s.netlist.inputs) c.self.view_is in
    let room : length bits ≡ c.args.lanes * (2 * n) = c.requires.bits ∙ ap (λ (k : ℕ). c.args.lanes * (2 * k)) (sym count) in
    reloaded fields Loading c.load_block.new.self refl c.self.invariant (ap (λ (l : LaneLoads). l.inputs) c.load_block.ensures) (ap (λ (l : LaneLoads). l.nodes) c.load_block.ensures)
    (λ lane loaded at input below.
    let it = block-loaded fields.loads.nodes n c.args.held.now c.args.lanes lane bits loaded c.requires.lanes (ap (λ (l : LaneLoads). slice_get l.lanes lane) (sym c.load_block.ensures) ∙ at) in
    let within : (lane + 1) * (2 * n) ≤ c.args.lanes * (2 * n) = mul-le (lane + 1) (2 * n) c.args.lanes (2 * n) (omega (arith, it.0)) (omega arith) in
    let ends : (lane + 1) * (2 * n) ≡ lane * (2 * n) + 2 * n = add-mul lane 1 (2 * n) ∙ omega arith in
    let rest = drop (lane * (2 * n)) bits in
    let first : length (take n rest) ≡ n = length-take-le n rest (omega (arith, length-drop (lane * (2 * n)) bits, room, within, ends)) in
    subst (λ (l : Loaded). (bit : Bool) × (slice_get l.listed input ≡ Some (Some bit))) it.1
    (first-lists fields.loads.nodes (take n rest) c.args.held.now
    (λ k d inside. omega (arith, (c.requires.held k d inside).0, count, first))
    input (omega (arith, below, c.self.invariant.inputs, first))))
