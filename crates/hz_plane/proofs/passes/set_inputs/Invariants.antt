use Rattle.std.proofs.Common.{◌≡◌, ◌<◌, ◌≤◌, ℕ, []}
use Rattle.std.specs.List.{slice_index_or}
use Rattle.hz_plane.specs.Bits.{IsPlane}
use Rattle.hz_plane.specs.Pairs.{pair_at, known_pair}
use Rattle.hz_plane.proofs.passes.set_inputs.Given as goal

abbrev pub invariant-loop-node : goal.invariant-loop-node
invariant-loop-node l = record {
  planes : (node : ℕ) → node < l.node → IsPlane (slice_index_or l.inputs node []);
  inputs : (node : ℕ) → node < l.node → pair_at l.values node ≡ known_pair (slice_index_or l.inputs node []);
  rest : (node : ℕ) → l.node ≤ node → pair_at l.values node ≡ pair_at l.fn.values node;
}
