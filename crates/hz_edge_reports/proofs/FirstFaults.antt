-- The first start that can't be completed is refused.
use Rattle.std.proofs.Common.{◌≡◌, ℕ, zero, suc, ◌<◌, Bool, List, [], ◌∷◌, length, take, get_or, arith, inl, inr}
use Rattle.hz_edge_reports.proofs.Words.{Netlist, ScriptOf, Status, AreAcceptedStarts}
use Rattle.hz_pass.specs.Completed.{IsStartFault}
use Rattle.hz_pass.specs.declared.completed_start.StartFault.{StartFault}
use Rattle.hz_pass.specs.declared.completed_start.StartFault.TheVariants as start
use Rattle.hz_refusal.specs.declared.status.Status.TheVariants as status
use Rattle.hz_refusal.specs.Refused.{NamesNode, StartPrints, named_gate}
use Rattle.hz_refusal.proofs.RefusedTexts.{start-refused}
use Rattle.hz_timing.specs.Timed.{FirstStartRefused}
use Rattle.hz_edge_reports.specs.StartFaults.{HasStartFault, IsFirstStartFault}

has-fault : (netlist : Netlist) (part : ScriptOf) (fault : StartFault) → IsStartFault netlist part.start fault → HasStartFault netlist part fault
has-fault netlist part (start.Open node) is = is
has-fault netlist part (start.Unstable gate) is = is
has-fault netlist part start.Memory is = tt

is-fault : (netlist : Netlist) (part : ScriptOf) (fault : StartFault) → HasStartFault netlist part fault → IsStartFault netlist part.start fault
is-fault netlist part (start.Open node) is = is
is-fault netlist part (start.Unstable gate) is = is
is-fault netlist part start.Memory is = tt

-- the parts before it have starts that are accepted
pub first-fault : (netlist : Netlist) (parts : List ScriptOf) (starts : List (List Bool)) (i : ℕ) (other : ScriptOf) (fault : StartFault) → AreAcceptedStarts netlist (take i parts) starts → i < length parts → IsStartFault netlist (get_or parts i other).start fault → IsFirstStartFault netlist parts fault
first-fault netlist [] starts i other fault are few is = absurd (omega (arith, few))
first-fault netlist (part ∷ parts) starts zero other fault are few is = inl (has-fault netlist part fault is)
first-fault netlist (part ∷ parts) [] (suc i) other fault are few is = absurd are
first-fault netlist (part ∷ parts) (begin ∷ starts) (suc i) other fault are few is = inr (begin, are.0, first-fault netlist parts starts i other fault are.1 (omega (arith, few)) is)

-- what is said of it is said of the first start that is refused
pub first-refused : (netlist : Netlist) (parts : List ScriptOf) (fault : StartFault) → IsFirstStartFault netlist parts fault → (own : Status) (text : List ℕ) → StartPrints netlist fault own text → (own ≡ status.Start) × FirstStartRefused netlist parts text
first-refused netlist [] fault first own text says = absurd first
first-refused netlist (part ∷ parts) fault (inl has) own text says =
    let refused = start-refused netlist part.start fault (is-fault netlist part fault has) own text says in
    (refused.0, inl refused.1)
first-refused netlist (part ∷ parts) fault (inr (begin, accepted, first)) own text says =
    let refused = first-refused netlist parts fault first own text says in
    (refused.0, inr (begin, accepted, refused.1))

-- and it names a node
fault-names : (netlist : Netlist) (part : ScriptOf) (fault : StartFault) → HasStartFault netlist part fault → NamesNode netlist (named_gate fault)
fault-names netlist part (start.Open node) is = is.is_node
fault-names netlist part (start.Unstable gate) is = is.is_gate.1
fault-names netlist part start.Memory is = tt

pub first-names : (netlist : Netlist) (parts : List ScriptOf) (fault : StartFault) → IsFirstStartFault netlist parts fault → NamesNode netlist (named_gate fault)
first-names netlist [] fault first = absurd first
first-names netlist (part ∷ parts) fault (inl has) = fault-names netlist part fault has
first-names netlist (part ∷ parts) fault (inr (begin, accepted, first)) = first-names netlist parts fault first
