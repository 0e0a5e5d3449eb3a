-- The room of each part is that of the network.
use Rattle.std.proofs.Common.{◌∙◌, ℕ, false, length, ap, subst}
use Rattle.std.proofs.lemmas.List.{length-replicate}
use Rattle.hz_core.specs.Netlist.{Netlist}
use Rattle.hz_net.specs.Network.{network_of}
use Rattle.hz_gmw.specs.Follower.{FollowerOf}
use Rattle.hz_reach.specs.ScratchState.{ScratchState}
use Rattle.hz_desk.specs.FindingRoom.{HasRooms}
use Rattle.hz_desk.proofs.room.Room.new.Goals as goal

pub returns : goal.returns
returns c = record {
  free = c.in_ok-free.ensures;
  passes = c.in_ok-passes.ensures;
  scratch = record {
    long = ap (λ (s : ScratchState). length s.state) c.in_ok-scratch.ensures ∙ length-replicate (length (network_of c.args.net.now)) false;
    none_marked = ap (λ (s : ScratchState). s.marked) c.in_ok-scratch.ensures;
  };
  follower = ap (λ (f : FollowerOf). f.circuit) c.in_ok-follower.ensures;
  finding =
      subst (λ (n : ℕ). HasRooms n c.args.net.now.inputs c.in_ok-finding.finding) c.len.ensures.len
      (subst (λ (n : ℕ). HasRooms c.len.result n c.in_ok-finding.finding) (c.inputs.ensures.inputs ∙ ap (λ (netlist : Netlist). netlist.inputs) c.circuit.ensures.same) c.in_ok-finding.ensures);
}
