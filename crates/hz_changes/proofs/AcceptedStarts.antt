-- The start of a script is listed, and it is accepted or refused.
use Rattle.std.proofs.Common.{◌≡◌, ℕ, ◌<◌, ◌≤◌, Bool, List, length, take, All, Option, Some, None, IsSome, refl, subst, sym, ◌∙◌, ap, get_or, arith}
use Rattle.hz_changes.proofs.Words.{length-take-le, Netlist, IsStartFault, StartPrints}
use Rattle.std.proofs.lemmas.Bool.{false≢true}
use Rattle.std.proofs.lemmas.List.{get_or-take}
use Rattle.std.proofs.lemmas.List.Elements.{All-get_or}
use Rattle.std.proofs.lemmas.Option.{slice_get-get_or}
use Rattle.hz_core.specs.Netlist.{primary_inputs}
use Rattle.hz_net.specs.Starts.{ListsInputs, IsAcceptedStart}
use Rattle.hz_gen.specs.Starts.{IsCompletable}
use Rattle.hz_pass.specs.declared.completed_start.StartFault.{StartFault}
use Rattle.hz_pass.specs.declared.completed_start.StartFault.TheVariants as start
use Rattle.hz_refusal.specs.declared.status.Status.{Status}

-- an entry that lists its node has a bit
pub listed-bit : (entry : Option Bool) → IsSome entry → (bit : Bool) × (entry ≡ Some bit)
listed-bit None some = absurd (false≢true some)
listed-bit (Some bit) some = (bit, refl)

-- a start whose first entries have bits lists each primary input
pub ListsInputs-front : (netlist : Netlist) (listed : List (Option Bool)) → primary_inputs netlist ≤ length listed → All IsSome (take (primary_inputs netlist) listed) → ListsInputs netlist listed
ListsInputs-front netlist listed within all input below =
    let long : length (take (primary_inputs netlist) listed) ≡ primary_inputs netlist = length-take-le (primary_inputs netlist) listed within in
    let here : input < length (take (primary_inputs netlist) listed) = rw long below in
    let some : IsSome (get_or (take (primary_inputs netlist) listed) input None) = All-get_or IsSome (take (primary_inputs netlist) listed) input None here all in
    let is : get_or (take (primary_inputs netlist) listed) input None ≡ get_or listed input None = get_or-take (primary_inputs netlist) listed input None below in
    let found = listed-bit (get_or listed input None) (subst IsSome is some) in
    (found.0, slice_get-get_or listed input None (omega (arith, below, within)) ∙ ap Some found.1)

-- where listed values leave no node open and no gate unstable, nothing is said
pub start-not-refused : (netlist : Netlist) (listed : List (Option Bool)) (fault : StartFault) → IsCompletable netlist listed → IsStartFault netlist listed fault → (own : Status) (text : List ℕ) → StartPrints netlist fault own text → ⊥
start-not-refused netlist listed (start.Open gate) completable least own text says = completable.closed gate least
start-not-refused netlist listed (start.Unstable gate) completable least own text says = completable.stable gate least
start-not-refused netlist listed start.Memory completable least own text says = says

-- an accepted start, by other names
pub start-accepted : (netlist : Netlist) (listed named : List (Option Bool)) (state slice : List Bool) → listed ≡ named → slice ≡ state → IsAcceptedStart netlist listed state → IsAcceptedStart netlist named slice
start-accepted netlist listed named state slice same is accepted =
    subst (λ (list : List (Option Bool)). IsAcceptedStart netlist list slice) same (subst (IsAcceptedStart netlist listed) (sym is) accepted)
