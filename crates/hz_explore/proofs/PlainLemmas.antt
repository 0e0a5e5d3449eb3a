-- What is found of a change that uses no order is right of all runs. So is each change if nothing is assumed.
use Rattle.std.proofs.Common.{◌≡◌, ◌∙◌, sym, ap, subst, inl, inr, ℕ, Bool, List, [], ◌∷◌, length, true, false}
use Rattle.hz_explore.proofs.Words.{Tri, Unknown, tri_of, Refines, Netlist, same-Refines, network_of, value_at, bit_at, Order, ChangeOf, SettlesUnder}
use Rattle.hz_net.specs.Network.{excitation}
use Rattle.hz_net.specs.Passes.{algorithm_a, algorithm_b, IsKnown, IsResult}
use Rattle.hz_net.proofs.Ranks.{at-tri_of}
use Rattle.hz_gmw.specs.Runs.{end_of}
use Rattle.hz_gmw.proofs.CoverB.{covers_outcomes}
use Rattle.hz_edges.specs.Edges.{AreEdgesOfChange}
use Rattle.hz_orders.specs.Tabled.{AreTabled}
use Rattle.hz_seq.specs.Sequence.{IsSettledAt}
use Rattle.hz_edge_reports.specs.EdgeChanges.{AreRightUnder, IsChangeFrom, IsRightChange, IsStopper}
use Rattle.hz_explore.specs.Exploration.{IsOutcomeUnder}
use Rattle.hz_explore.specs.Reached.{AreResults, input_after, Settles}

-- each variable comes to what Algorithm B says, and what is told of edges is right of all runs
pub record IsPlain (netlist : Netlist) (cap : ℕ) (found : ChangeOf) : Type 0 where
  pub ends : found.ends ≡ found.b
  pub edges : AreEdgesOfChange (network_of netlist) cap found.input found.start found.a found.b found.edges

-- if nothing is assumed, no order is used
pub none-used : (netlist : Netlist) (cap : ℕ) (found : ChangeOf) → IsRightChange netlist cap [] found → found.used ≡ []
none-used netlist cap found right = subst (λ (orders : List Order). AreTabled (network_of netlist) right.used.words orders found.used) right.used.are_found.0 right.used.tabled

pub plain : (netlist : Netlist) (cap : ℕ) (found : ChangeOf) → IsRightChange netlist cap [] found → IsPlain netlist cap found
plain netlist cap found right =
    let edges : AreRightUnder [] (network_of netlist) cap found = subst (λ (used : List Order). AreRightUnder used (network_of netlist) cap found) (none-used netlist cap found right) right.edges in
    record { ends = edges.0; edges = edges.1 }

-- the results of both algorithms are those of the burst
pub results-of : (netlist : Netlist) (cap : ℕ) (state : List Bool) (burst : List (ℕ × Bool)) (found : ChangeOf) → IsChangeFrom netlist state burst found → IsRightChange netlist cap [] found → AreResults netlist state burst found.a found.b
results-of netlist cap state burst found from right = record {
  a_result = subst (λ (begin : List Bool). IsResult (algorithm_a (network_of netlist) (input_after netlist state burst) begin) found.a) from.begins
      (subst (λ (input : List Bool). IsResult (algorithm_a (network_of netlist) input found.start) found.a) from.given right.a);
  b_result = subst (λ (input : List Bool). IsResult (algorithm_b (network_of netlist) input found.a) found.b) from.given right.b;
}

-- what settles if nothing is assumed settles whatever the delays
pub settles-plain : (netlist : Netlist) (cap : ℕ) (state next : List Bool) (burst : List (ℕ × Bool)) → SettlesUnder netlist cap [] state burst next → Settles netlist state burst next
settles-plain netlist cap state next burst settles = record {
  a = settles.found.a;
  b = settles.found.b;
  results = results-of netlist cap state burst settles.found settles.from settles.right;
  settled = sym (plain netlist cap settles.found settles.right).ends ∙ settles.settled.settled;
}

-- the runs of a change come to what its variables come to
pub outcome-ends : (netlist : Netlist) (cap : ℕ) (found : ChangeOf) (state : List Bool) (used : List Order) → length found.start ≡ length (network_of netlist) → IsResult (algorithm_a (network_of netlist) found.input found.start) found.a → IsResult (algorithm_b (network_of netlist) found.input found.a) found.b →
    AreRightUnder used (network_of netlist) cap found → IsOutcomeUnder used (network_of netlist) found.input found.start state → Refines state found.ends
outcome-ends netlist cap found state [] long a b right outcome =
    let covered = covers_outcomes (network_of netlist) found.input found.start state a.0 b.0 long a.1 outcome in
    let same : algorithm_b (network_of netlist) found.input (algorithm_a (network_of netlist) found.input found.start a.0) b.0 ≡ found.ends =
    ap (λ (first : List Tri). algorithm_b (network_of netlist) found.input first b.0) (sym a.2) ∙ (sym b.2 ∙ sym right.0) in
    subst (Refines state) same covered
outcome-ends netlist cap found state (order ∷ orders) long a b right outcome = right.outcomes state outcome

known-bit : (bit : Bool) → tri_of bit ≡ Unknown → ⊥
known-bit true e = cc
known-bit false e = cc

-- a state that Algorithm B says is stable, so none of its variables stops the changes that follow
pub never-stopped : (netlist : Netlist) (cap : ℕ) (found : ChangeOf) (next : List Bool) (var : ℕ) → IsPlain netlist cap found → IsSettledAt found.b next → IsStopper netlist found.input found.ends var → ⊥
never-stopped netlist cap found next var is settled (inl first) =
    known-bit (bit_at next var) (sym (at-tri_of next var) ∙ subst (λ (values : List Tri). value_at values var ≡ Unknown) (is.ends ∙ settled) first.here)
never-stopped netlist cap found next var is settled (inr (state, there, least)) =
    let same : end_of found.start found.edges.steps ≡ state =
    same-Refines (end_of found.start found.edges.steps) state (subst (Refines (end_of found.start found.edges.steps)) (sym is.ends ∙ there) is.edges.witness.values) in
    let known : IsKnown (value_at found.b var) = λ unknown. known-bit (bit_at state var) (sym (at-tri_of state var) ∙ (ap (λ (values : List Tri). value_at values var) (sym there ∙ is.ends) ∙ unknown)) in
    let stable = is.edges.witness.stable var least.here.0 known in
    least.here.1 (subst (λ (now : List Bool). bit_at now var ≡ excitation (network_of netlist) found.input now var) same stable)
