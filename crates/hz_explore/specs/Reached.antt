-- The states that bursts lead to, if the circuit is at rest before each of them.
use Rattle.std.specs.Prelude.{◌≡◌, ℕ, Bool, true, List, [], ◌∷◌, length, take, Contains}
use Rattle.hz_core.specs.declared.tri.Tri.{Tri}
use Rattle.hz_core.specs.Netlist.{Netlist}
use Rattle.hz_net.specs.Network.{network_of}
use Rattle.hz_net.specs.Passes.{algorithm_a, algorithm_b, IsResult}
use Rattle.hz_seq.specs.Sequence.{changed_input, IsSettledAt}
use Rattle.hz_timing.specs.declared.script.Assumption.{Assumption}
use Rattle.hz_edge_reports.specs.EdgeChanges.{ChangeOf, IsChangeFrom, IsNextStart, IsRightChange}
use Rattle.hz_explore.specs.Bursts.{applies}

-- the values of the nodes in a state; at rest each wire has the value of its source
abbrev pub nodes_of : Netlist → List Bool → List Bool
nodes_of netlist state = take (length netlist.names) state

-- the input after a burst
abbrev pub input_after : Netlist → List Bool → List (ℕ × Bool) → List Bool
input_after netlist state burst = changed_input (take netlist.inputs state) burst

-- when a burst from a state settles in another state
abbrev pub Settling : Type 1
Settling = List Bool → List (ℕ × Bool) → List Bool → Type 0

-- these are the results of Algorithms A and B for a burst from a state
pub record AreResults (netlist : Netlist) (state : List Bool) (burst : List (ℕ × Bool))
    (a b : List Tri) : Type 0 where
  pub a_result : IsResult (algorithm_a (network_of netlist) (input_after netlist state burst) state) a
  pub b_result : IsResult (algorithm_b (network_of netlist) (input_after netlist state burst) a) b

-- a burst from a state settles in another state, whatever the delays: the result of Algorithm B has no X
pub record Settles (netlist : Netlist) (state : List Bool) (burst : List (ℕ × Bool))
    (next : List Bool) : Type 0 where
  pub a : List Tri
  pub b : List Tri
  pub results : AreResults netlist state burst a b
  pub settled : IsSettledAt b next

-- a burst from a state settles in another state under assumptions of time: what is found of its change is right under them, and the next
-- change starts there
pub record SettlesUnder (netlist : Netlist) (cap : ℕ) (assumptions : List Assumption)
    (state : List Bool) (burst : List (ℕ × Bool)) (next : List Bool) : Type 0 where
  pub found : ChangeOf
  pub from : IsChangeFrom netlist state burst found
  pub right : IsRightChange netlist cap assumptions found
  pub settled : IsNextStart netlist found.ends next

-- one of the bursts leads from a state to the next: it applies, and settles there
pub record Leads (settles : Settling) (bursts : List (List (ℕ × Bool))) (state : List Bool)
    (burst : List (ℕ × Bool)) (next : List Bool) : Type 0 where
  pub listed : Contains bursts burst
  pub applies : applies state burst ≡ true
  pub settled : settles state burst next

-- bursts, one after the other, lead from a state to another
abbrev pub LeadTo : Settling → List (List (ℕ × Bool)) → List Bool → List (List (ℕ × Bool)) →
    List Bool → Type 0
LeadTo settles bursts state [] last = state ≡ last
LeadTo settles bursts state (burst ∷ later) last =
    (next : List Bool) × Leads settles bursts state burst next
    × LeadTo settles bursts next later last

-- some bursts do
abbrev pub IsReachedState : Settling → List (List (ℕ × Bool)) → List Bool → List Bool → Type 0
IsReachedState settles bursts start state =
    (path : List (List (ℕ × Bool))) × LeadTo settles bursts start path state
