-- Every change comes to something.
use Rattle.std.proofs.Common.{◌≡◌, ◌∙◌, refl, subst, ℕ, suc, ◌<◌, ◌≤◌, Bool, true, false, not, List, [], ◌∷◌, length, replicate, All, ◌↔◌, ◌⊎◌, inl, inr}
use Rattle.hz_edge_reports.proofs.Words.{Tri, tri_of, Refines, Netlist, IsCircuit, IsWhole, Driver, network_of, bit_at, value_at, algorithm_a, algorithm_b, IsResult}
use Rattle.hz_edge_reports.proofs.Words.{IsStableStart, Word, greatest_cap, Order, IsInductiveUnder, AreTabled, Assumption, IsAssumptionOf, EdgesOf, AreFound, ChangeOf}
use Rattle.hz_edge_reports.proofs.Words.{IsRightChange, AreEdgesUnder, ChangesExist, All-nil}
use Rattle.std.proofs.lemmas.List.{length-replicate}
use Rattle.hz_core.specs.declared.tri.Tri.TheVariants.{Zero, One, Unknown}
use Rattle.hz_net.specs.PassEnds.{ResultOfAExists, ResultOfBExists}
use Rattle.hz_gmw.specs.Runs.{IsRun}
use Rattle.hz_word.specs.Covers.{Covers}
use Rattle.hz_free.specs.VariableWords.{variable_history}
use Rattle.hz_free.specs.Inductive.{IsInductive, told_at}
use Rattle.hz_bounds.specs.Existence.{WordsAreTold}
use Rattle.hz_orders.specs.Orders.{IsUsed, Keeps}
use Rattle.hz_orders.proofs.WithTables.{tabled-exist}
use Rattle.hz_timing.specs.declared.script.Assumption.TheVariants as assumed
use Rattle.hz_edges.specs.EdgesExist.{EdgesExist}
use Rattle.hz_edge_reports.specs.UsedOrders.{FollowsFrom}
use Rattle.hz_edge_reports.proofs.OrderedRight.{edges-under, long-outcome}
use Rattle.hz_edge_reports.proofs.ChangesReplay.{ChangeLaws, right-change}
use Rattle.hz_edge_reports.proofs.UsedMore.{found-orders, none-used, used-told}

-- what the laws of hz_orders say
abbrev pub UsedByB : Type 0
UsedByB =
    (netlist : Netlist) (input start : List Bool) (a b : List Tri) (order : Order) → IsCircuit netlist → IsStableStart netlist start → IsResult (algorithm_a (network_of netlist) input start) a →
    IsResult (algorithm_b (network_of netlist) input a) b → (value_at b order.first ≡ tri_of (not (bit_at start order.first))) ↔ IsUsed (network_of netlist) input start order

abbrev pub InductiveUnderAny : Type 0
InductiveUnderAny =
    (orders : List Order) (netlist : Netlist) (input start : List Bool) (cap : ℕ) (told : List Word) → IsCircuit netlist → IsWhole netlist → IsInductive (network_of netlist) input start cap told →
    IsInductiveUnder orders (network_of netlist) input start cap told

abbrev pub OrderedCovers : Type 0
OrderedCovers =
    (orders : List Order) (netlist : Netlist) (input start : List Bool) (cap : ℕ) (told : List Word) (i : ℕ) (steps : List (List ℕ)) → IsCircuit netlist → IsWhole netlist → IsStableStart netlist start →
    IsInductiveUnder orders (network_of netlist) input start cap told → i < length (network_of netlist) → IsRun (network_of netlist) input start steps → Keeps orders start steps → Covers (told_at told i) (variable_history start steps i)

-- two values are the same, or not
same-or-not : (one other : Tri) → (one ≡ other) ⊎ (one ≡ other → ⊥)
same-or-not Zero Zero = inl refl
same-or-not Zero One = inr (λ e. cc)
same-or-not Zero Unknown = inr (λ e. cc)
same-or-not One Zero = inr (λ e. cc)
same-or-not One One = inl refl
same-or-not One Unknown = inr (λ e. cc)
same-or-not Unknown Zero = inr (λ e. cc)
same-or-not Unknown One = inr (λ e. cc)
same-or-not Unknown Unknown = inl refl

-- all bits refine X
all-unknown : (state : List Bool) → Refines state (replicate (length state) Unknown)
all-unknown [] = tt
all-unknown (false ∷ state) = (refl, all-unknown state)
all-unknown (true ∷ state) = (refl, all-unknown state)

-- which orders are found can be told
found-exist : (net : List Driver) (input start : List Bool) → ((order : Order) → IsUsed net input start order ⊎ (IsUsed net input start order → ⊥)) → (assumptions : List Assumption) →
    (found : List Order) × (idle : ℕ) × AreFound net input start assumptions found idle
found-exist net input start tells [] = ([], 0, (refl, refl))
found-exist net input start tells (assumed.Order order ∷ later) =
    let rest = found-exist net input start tells later in
    elim (tells order) [
      | inl is ↦ (order ∷ rest.0, rest.1, inl (is, (rest.0, refl, rest.2)))
      | inr not_so ↦ (rest.0, suc rest.1, inr (not_so, (rest.1, refl, rest.2)))
    ]
found-exist net input start tells (assumed.Ideal wire ∷ later) =
    let rest = found-exist net input start tells later in
    (rest.0, rest.1, ([], rest.0, refl, All-nil (FollowsFrom net input start wire), rest.2))

module _ (netlist : Netlist) (input start : List Bool) (cap : ℕ) (circuit : IsCircuit netlist) (whole : IsWhole netlist) (begins : IsStableStart netlist start) where
  abbrev net : List Driver
  net = network_of netlist

  tells-used : UsedByB → (a b : List Tri) → IsResult (algorithm_a net input start) a → IsResult (algorithm_b net input a) b → (order : Order) → IsUsed net input start order ⊎ (IsUsed net input start order → ⊥)
  tells-used by_b a b of_a of_b order =
      let law = by_b netlist input start a b order circuit begins of_a of_b in
      elim (same-or-not (value_at b order.first) (tri_of (not (bit_at start order.first)))) [
        | inl same ↦ inl (law.0 same)
        | inr differs ↦ inr (λ is. differs (law.1 is))
      ]

  -- words that are inductive without orders are right edges under any, beside no run
  edges-of-words : InductiveUnderAny → OrderedCovers → (told : List Word) → IsInductive net input start cap told → (orders : List Order) →
      AreEdgesUnder orders net input start (replicate (length start) Unknown) false (record { told = told; steps = []; counts = [] })
  edges-of-words under covers told inductive orders =
      let all : IsInductiveUnder orders net input start cap told = under orders netlist input start cap told circuit whole inductive in
      edges-under orders net input start (replicate (length start) Unknown) false (record { told = told; steps = []; counts = [] })
      (λ i few steps run keeps. covers orders netlist input start cap told i steps circuit whole begins all few run keeps)
      (length-replicate (length start) Unknown ∙ begins.long)
      (λ state outcome. subst (λ (n : ℕ). Refines state (replicate n Unknown)) (long-outcome orders net input start state outcome) (all-unknown state))
      (λ shown. absurd cc)
      (λ e. refl)
      (λ i few. refl)

  -- words that are inductive without orders tell which orders are used; if none is, there are edges without orders, and else these words are right
  change-exists : ChangeLaws → EdgesExist → InductiveUnderAny → OrderedCovers → (assumptions : List Assumption) → length input ≡ netlist.inputs → 1 ≤ cap → cap ≤ greatest_cap →
      (a b : List Tri) → IsResult (algorithm_a net input start) a → IsResult (algorithm_b net input a) b → (told : List Word) → IsInductive net input start cap told → (found : List Order) (idle : ℕ) → AreFound net input start assumptions found idle →
      (used : List Order) → AreTabled net told found used → (made : ChangeOf) × (made.start ≡ start) × (made.input ≡ input) × IsRightChange netlist cap assumptions made
  change-exists laws exist under covers assumptions given low high a b of_a of_b told inductive found idle are [] tabled =
      let edges = exist netlist input start cap a b circuit whole begins low high of_a of_b in
      let made : ChangeOf = record { input = input; start = start; a = a; b = b; used = []; idle = idle; ends = b; kept = false; edges = edges.0 } in (
        made,
        refl,
        refl,
        right-change laws netlist cap assumptions made circuit begins given of_a of_b
            (none-used net input start cap assumptions told edges.0.told found [] idle are refl tabled (under [] netlist input start cap told circuit whole inductive)) (refl, edges.1),
      )
  change-exists laws exist under covers assumptions given low high a b of_a of_b told inductive found idle are (order ∷ orders) tabled =
      let edges : EdgesOf = record { told = told; steps = []; counts = [] } in
      let made : ChangeOf = record { input = input; start = start; a = a; b = b; used = order ∷ orders; idle = idle; ends = replicate (length start) Unknown; kept = false; edges = edges } in (
        made,
        refl,
        refl,
        right-change laws netlist cap assumptions made circuit begins given of_a of_b
            (used-told net input start cap assumptions told found (order ∷ orders) idle are tabled (under (order ∷ orders) netlist input start cap told circuit whole inductive))
            (edges-of-words under covers told inductive (order ∷ orders)),
      )

  pub change-there : ChangeLaws → ResultOfAExists → ResultOfBExists → EdgesExist → WordsAreTold → UsedByB → InductiveUnderAny → OrderedCovers → (assumptions : List Assumption) → All (IsAssumptionOf netlist) assumptions → length input ≡ netlist.inputs → 1 ≤ cap → cap ≤ greatest_cap →
      (found : ChangeOf) × (found.start ≡ start) × (found.input ≡ input) × IsRightChange netlist cap assumptions found
  change-there laws a_exists b_exists exist words by_b under covers assumptions all given low high =
      let a = a_exists net input start begins.long in
      let b = b_exists net input start a.0 begins.long a.1 in
      let told = words netlist input start a.0 cap circuit whole begins a.1 in
      let found = found-exist net input start (tells-used by_b a.0 b.0 a.1 b.1) assumptions in
      let used = tabled-exist netlist told.0 found.0 circuit (found-orders netlist input start assumptions found.0 found.1 all found.2) in
      change-exists laws exist under covers assumptions given low high a.0 b.0 a.1 b.1 told.0 told.1 found.0 found.1 found.2 used.0 used.1

pub changes_exist : ChangeLaws → ResultOfAExists → ResultOfBExists → EdgesExist → WordsAreTold → UsedByB → InductiveUnderAny → OrderedCovers → ChangesExist
changes_exist laws a_exists b_exists exist words by_b under covers netlist assumptions input start cap circuit whole all begins given low high =
    change-there netlist input start cap circuit whole begins laws a_exists b_exists exist words by_b under covers assumptions all given low high
