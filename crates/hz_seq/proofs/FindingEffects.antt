-- What a finding leaves, in the words of the code.
use Rattle.std.proofs.Common.{◌≡◌, ℕ, ◌⊎◌, Bool, List, length, Option, Some, None, refl, sym, subst, inl, inr}
use Rattle.std.specs.Prelude.{MatchOption}
use Rattle.hz_core.specs.declared.tri.Tri.{Tri}
use Rattle.hz_core.specs.Netlist.{Netlist, IsCircuit}
use Rattle.hz_net.specs.Network.{network_of}
use Rattle.hz_net.specs.Starts.{IsStableStart}
use Rattle.hz_desk.specs.Finding.{FindingOf, values_b}
use Rattle.hz_desk.specs.RightFinding.{IsRightFinding}
use Rattle.hz_seq.specs.Sequence.{SequenceState, IsSettledAt, IsFirstUnknown, IsLeftBy}
use Rattle.hz_seq.proofs.NextStart.{next-start}

-- what is left of a sequence, by what was answered
pub left-by : (unsettled : Option ℕ) (values : List Tri) (state : List Bool) → MatchOption unsettled (IsSettledAt values state) (IsFirstUnknown values) → ((unsettled ≡ None) × IsSettledAt values state) ⊎ ((var : ℕ) × (unsettled ≡ Some var) × IsFirstUnknown values var)
left-by None values state settled = inl (refl, settled)
left-by (Some var) values state first = inr (var, refl, first)

-- the state that was written is a stable start
pub stable-left : (netlist : Netlist) (input start state : List Bool) (cap : ℕ) (finding : FindingOf) (unsettled : Option ℕ) → IsCircuit netlist → length input ≡ netlist.inputs → IsRightFinding (network_of netlist) input start cap finding → MatchOption unsettled (IsSettledAt (values_b finding.rows) state) (IsFirstUnknown (values_b finding.rows)) → unsettled ≡ None → IsStableStart netlist state
stable-left netlist input start state cap finding None circuit given right settled none = next-start netlist input start state cap finding circuit given right settled
stable-left netlist input start state cap finding (Some var) circuit given right first none = absurd cc

-- the same for a sequence and a finding that are equal
pub left-same : (was now shown : SequenceState) (finding : FindingOf) → shown ≡ now → finding ≡ shown.desk.finding → IsLeftBy now.desk.finding was now → IsLeftBy finding was shown
left-same was now shown finding same found left =
    subst (λ (f : FindingOf). IsLeftBy f was shown) (sym found)
    (subst (λ (s : SequenceState). IsLeftBy s.desk.finding was s) (sym same) left)
