-- A value that is carried along a fan-out and to cuts: what is known after some of them, and that one more keeps it.
use Rattle.std.proofs.Common.{◌≡◌, ◌≢◌, ℕ, ◌+◌, ◌<◌, ◌≤◌, Bool, Option, List, [], ◌∷◌, length, drop, get_or, set, refl, sym, ap, ◌∙◌, subst, arith, length-append, cond, inl, inr}
use Rattle.std.specs.Prelude.{Contains}
use Rattle.std.proofs.lemmas.Bool.{cases_lt}
use Rattle.std.proofs.lemmas.List.{get_or-set_other, length-set, set_past, drop_more, drop_all}
use Rattle.std.proofs.lemmas.List.Sums.{sum_by-set}
use Rattle.std.proofs.lemmas.List.Elements.{Contains-get_or}
use Rattle.hz_core.specs.declared.tri.Tri.{Tri}
use Rattle.hz_core.specs.declared.tri.Tri.TheVariants.{Zero, One, Unknown}
use Rattle.hz_core.specs.Ternary.{is_unknown, unknown_count}
use Rattle.hz_core.specs.Netlist.{Netlist, IsCircuit, IsGateNumber, variable_count}
use Rattle.hz_net.specs.Network.{network_of, Source, driver_at, value_at}
use Rattle.hz_net.specs.Variables.{fan_out_of}
use Rattle.hz_net.specs.Reads.{IsWireInto}
use Rattle.hz_net.proofs.Places.{length-network_of}
use Rattle.hz_net.proofs.Wires.{IsWireFrom, IsWireFrom-fan_out_of, driver_at-IsWireFrom}
use Rattle.hz_pass.specs.Forcing.{gate_extension, SetsNode, ForcedSoFar, IsTaken, carrying, only_waiting}
use Rattle.hz_pass.specs.CutLists.{IsDataOf}
use Rattle.hz_pass.proofs.ForcingLoop.{forced-wire, forced-gate, forced-cut}

-- what a value adds to the number of X
abbrev counted : Tri → ℕ
counted value = cond (is_unknown value) 1 0

counted-known : (value : Tri) → value ≢ Unknown → counted value ≡ 0
counted-known Zero known = refl
counted-known One known = refl
counted-known Unknown known = absurd (known refl)

-- a known value in the place of an X leaves one X less, and in any place no more
pub unknown_count-less : (values : List Tri) (i : ℕ) (value : Tri) → i < length values → value_at values i ≡ Unknown → value ≢ Unknown → unknown_count (set values i value) + 1 ≡ unknown_count values
unknown_count-less values i value inside was known =
    omega (arith, sum_by-set counted values i value Zero inside, counted-known value known, ap counted was)

unknown_count-known : (values : List Tri) (i : ℕ) (value : Tri) → value ≢ Unknown → unknown_count (set values i value) ≤ unknown_count values
unknown_count-known values i value known =
    elim (cases_lt i (length values)) [
      | inl inside ↦ omega (arith, sum_by-set counted values i value Zero inside, counted-known value known)
      | inr past ↦ rw (set_past values i value past) (omega arith)
    ]

-- what is known stays as it is where a gate is set
SetsNode-keeps : (was extended : Tri) (gate : ℕ) (values values' : List Tri) (waiting waiting' : List ℕ) (node : ℕ) → value_at values gate ≡ was → SetsNode was extended gate values values' waiting waiting' → value_at values node ≢ Unknown → value_at values' node ≡ value_at values node
SetsNode-keeps Zero extended gate values values' waiting waiting' node is sets known = ap (λ (v : List Tri). value_at v node) sets.0
SetsNode-keeps One extended gate values values' waiting waiting' node is sets known = ap (λ (v : List Tri). value_at v node) sets.0
SetsNode-keeps Unknown Unknown gate values values' waiting waiting' node is sets known = ap (λ (v : List Tri). value_at v node) sets.0
SetsNode-keeps Unknown Zero gate values values' waiting waiting' node is sets known =
    ap (λ (v : List Tri). value_at v node) sets.0 ∙ get_or-set_other values gate node Zero Zero (λ e. known (ap (value_at values) e ∙ is))
SetsNode-keeps Unknown One gate values values' waiting waiting' node is sets known =
    ap (λ (v : List Tri). value_at v node) sets.0 ∙ get_or-set_other values gate node One Zero (λ e. known (ap (value_at values) e ∙ is))

SetsNode-length : (was extended : Tri) (gate : ℕ) (values values' : List Tri) (waiting waiting' : List ℕ) → SetsNode was extended gate values values' waiting waiting' → length values' ≡ length values
SetsNode-length Zero extended gate values values' waiting waiting' sets = ap (length {A = Tri}) sets.0
SetsNode-length One extended gate values values' waiting waiting' sets = ap (length {A = Tri}) sets.0
SetsNode-length Unknown Unknown gate values values' waiting waiting' sets = ap (length {A = Tri}) sets.0
SetsNode-length Unknown Zero gate values values' waiting waiting' sets = ap (length {A = Tri}) sets.0 ∙ length-set values gate Zero
SetsNode-length Unknown One gate values values' waiting waiting' sets = ap (length {A = Tri}) sets.0 ∙ length-set values gate One

-- a node that comes to wait was X before
SetsNode-count : (was extended : Tri) (gate : ℕ) (values values' : List Tri) (waiting waiting' : List ℕ) → gate < length values → value_at values gate ≡ was → SetsNode was extended gate values values' waiting waiting' → unknown_count values' + length waiting' ≤ unknown_count values + length waiting
SetsNode-count Zero extended gate values values' waiting waiting' inside is sets = omega (arith, ap unknown_count sets.0, ap (length {A = ℕ}) sets.1)
SetsNode-count One extended gate values values' waiting waiting' inside is sets = omega (arith, ap unknown_count sets.0, ap (length {A = ℕ}) sets.1)
SetsNode-count Unknown Unknown gate values values' waiting waiting' inside is sets = omega (arith, ap unknown_count sets.0, ap (length {A = ℕ}) sets.1)
SetsNode-count Unknown Zero gate values values' waiting waiting' inside is sets =
    omega (arith, ap unknown_count sets.0, ap (length {A = ℕ}) sets.1, length-append waiting (gate ∷ []), unknown_count-less values gate Zero inside is (λ e. cc))
SetsNode-count Unknown One gate values values' waiting waiting' inside is sets =
    omega (arith, ap unknown_count sets.0, ap (length {A = ℕ}) sets.1, length-append waiting (gate ∷ []), unknown_count-less values gate One inside is (λ e. cc))

-- what is known after the first wires of a node's fan-out
pub record DeliveredSoFar (netlist : Netlist) (node : ℕ) (value : Tri) (first values : List Tri) (first_waiting waiting : List ℕ) (count : ℕ) : Type 0 where
  pub long : length values ≡ length (network_of netlist)
  pub is : value_at values node ≡ value
  pub known : value ≢ Unknown
  pub forced : (listed : List (Option Bool)) → length listed ≡ length netlist.names → ForcedSoFar netlist listed first (carrying first_waiting (fan_out_of netlist node) []) → ForcedSoFar netlist listed values (carrying waiting (drop count (fan_out_of netlist node)) [])
  pub fewer : unknown_count values + length waiting ≤ unknown_count first + length first_waiting

pub delivered-begin : (netlist : Netlist) (node : ℕ) (values : List Tri) (waiting : List ℕ) → length values ≡ length (network_of netlist) → value_at values node ≢ Unknown → DeliveredSoFar netlist node (value_at values node) values values waiting waiting 0
delivered-begin netlist node values waiting long known =
    record { long = long; is = refl; known = known; forced = λ listed same so_far. so_far; fewer = omega arith }

-- a wire of the fan-out stands behind the nodes, and within the network
pub wire-place : (netlist : Netlist) (node count wire : ℕ) → IsCircuit netlist → count < length (fan_out_of netlist node) → wire ≡ get_or (fan_out_of netlist node) count 0 → (length netlist.names ≤ wire) × (wire < length (network_of netlist))
wire-place netlist node count wire circuit few at =
    let from : IsWireFrom netlist wire node = IsWireFrom-fan_out_of netlist wire node (subst (Contains (fan_out_of netlist node)) (sym at) (Contains-get_or (fan_out_of netlist node) count 0 few)) in
    let below : wire < variable_count netlist = from.below in
    (from.above, omega (arith, length-network_of netlist circuit))

-- one wire more
pub delivered-step : (netlist : Netlist) (node : ℕ) (value : Tri) (first values values' : List Tri) (first_waiting waiting waiting' : List ℕ) (count wire gate : ℕ) → IsCircuit netlist → node < length netlist.names → DeliveredSoFar netlist node value first values first_waiting waiting count → count < length (fan_out_of netlist node) → wire ≡ get_or (fan_out_of netlist node) count 0 → IsGateNumber netlist gate → IsWireInto (network_of netlist) gate wire → SetsNode (value_at (set values wire value) gate) (gate_extension netlist (set values wire value) gate) gate (set values wire value) values' waiting waiting' → DeliveredSoFar netlist node value first values' first_waiting waiting' (count + 1)
delivered-step netlist node value first values values' first_waiting waiting waiting' count wire gate circuit is_node so_far few at is_gate into sets =
    let there : Contains (fan_out_of netlist node) wire = subst (Contains (fan_out_of netlist node)) (sym at) (Contains-get_or (fan_out_of netlist node) count 0 few) in
    let from : IsWireFrom netlist wire node = IsWireFrom-fan_out_of netlist wire node there in
    let above : length netlist.names ≤ wire = from.above in
    let driven : driver_at (network_of netlist) wire ≡ Source node = driver_at-IsWireFrom netlist wire node circuit from in
    let set_is : value_at (set values wire value) node ≡ value = get_or-set_other values wire node value Zero (let other : node ≢ wire = omega (arith, above, is_node) in other) ∙ so_far.is in
    let set_long : length (set values wire value) ≡ length (network_of netlist) = length-set values wire value ∙ so_far.long in
    let inside : gate < length (set values wire value) = omega (arith, set_long, is_gate.1, length-network_of netlist circuit) in
    let due : drop count (fan_out_of netlist node) ≡ wire ∷ drop (count + 1) (fan_out_of netlist node) =
    drop_more (fan_out_of netlist node) count 0 few ∙ ap (λ (w : ℕ). w ∷ drop (count + 1) (fan_out_of netlist node)) (sym at) in
    record {
      long = SetsNode-length (value_at (set values wire value) gate) (gate_extension netlist (set values wire value) gate) gate (set values wire value) values' waiting waiting' sets ∙ set_long;
      is = SetsNode-keeps (value_at (set values wire value) gate) (gate_extension netlist (set values wire value) gate) gate (set values wire value) values' waiting waiting' node refl sets (λ e. so_far.known (sym set_is ∙ e)) ∙ set_is;
      known = so_far.known;
      forced = λ listed same begun.
          forced-gate netlist listed circuit same (set values wire value) values' waiting waiting' (drop (count + 1) (fan_out_of netlist node)) [] gate
          (forced-wire netlist listed circuit same values waiting (drop (count + 1) (fan_out_of netlist node)) [] wire node gate value
          (subst (λ (d : List ℕ). ForcedSoFar netlist listed values (carrying waiting d [])) due (so_far.forced listed same begun)) so_far.is driven into)
          is_gate sets;
      fewer = omega (
        arith,
        so_far.fewer,
        unknown_count-known values wire value so_far.known,
        SetsNode-count (value_at (set values wire value) gate) (gate_extension netlist (set values wire value) gate) gate (set values wire value) values' waiting waiting' inside refl sets,
      );
    }

-- all wires are done
pub delivered-end : (netlist : Netlist) (node : ℕ) (value : Tri) (first values : List Tri) (first_waiting waiting : List ℕ) (count : ℕ) (listed : List (Option Bool)) → DeliveredSoFar netlist node value first values first_waiting waiting count → length (fan_out_of netlist node) ≤ count → length listed ≡ length netlist.names → ForcedSoFar netlist listed first (carrying first_waiting (fan_out_of netlist node) []) → ForcedSoFar netlist listed values (only_waiting waiting)
delivered-end netlist node value first values first_waiting waiting count listed so_far end same begun =
    subst (λ (d : List ℕ). ForcedSoFar netlist listed values (carrying waiting d [])) (drop_all count (fan_out_of netlist node) end) (so_far.forced listed same begun)

-- no cut has taken the value yet
pub taken-begin : (cuts : List ℕ) (value : Tri) (values : List Tri) (waiting : List ℕ) → IsTaken cuts value values values waiting waiting 0
taken-begin cuts value values waiting =
    record { long = refl; kept = λ var known. refl; forced = λ netlist listed node due circuit same are known begun. begun; fewer = omega arith }

-- one cut more
pub taken-step : (cuts : List ℕ) (value : Tri) (first values values' : List Tri) (first_waiting waiting waiting' : List ℕ) (count cut : ℕ) → IsTaken cuts value first values first_waiting waiting count → value ≢ Unknown → count < length cuts → cut ≡ get_or cuts count 0 → cut < length values
    → SetsNode (value_at values cut) value cut values values' waiting waiting' → IsTaken cuts value first values' first_waiting waiting' (count + 1)
taken-step cuts value first values values' first_waiting waiting waiting' count cut so_far known few at inside sets =
    let was = value_at values cut in
    let due : drop count cuts ≡ cut ∷ drop (count + 1) cuts = drop_more cuts count 0 few ∙ ap (λ (c : ℕ). c ∷ drop (count + 1) cuts) (sym at) in
    record {
      long = SetsNode-length was value cut values values' waiting waiting' sets ∙ so_far.long;
      kept = λ var is_known. SetsNode-keeps was value cut values values' waiting waiting' var refl sets (λ e. is_known (sym (so_far.kept var is_known) ∙ e)) ∙ so_far.kept var is_known;
      forced = λ netlist listed node due_wires circuit same are data_is begun.
          let is : IsDataOf netlist node cut = subst (IsDataOf netlist node) (sym at) (are count 0 few) in
          forced-cut netlist listed circuit same values values' waiting waiting' due_wires (drop (count + 1) cuts) node cut value
          (subst (λ (c : List ℕ). ForcedSoFar netlist listed values (carrying waiting due_wires c)) due (so_far.forced netlist listed node due_wires circuit same are data_is begun))
          is (so_far.kept node (λ e. known (sym data_is ∙ e)) ∙ data_is) known sets;
      fewer = omega (arith, so_far.fewer, SetsNode-count was value cut values values' waiting waiting' inside refl sets);
    }
