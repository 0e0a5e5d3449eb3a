-- The loop that forces values: that each of its steps keeps what is known, and what is known at its end.
use Rattle.std.proofs.Common.{All, ◌≡◌, ◌≢◌, ℕ, zero, suc, ◌+◌, ◌-◌, ◌<◌, ◌≤◌, ◌⊎◌, Bool, true, false, Option, Some, None, List, [], ◌∷◌, ◌++◌, length, map, get_or, set, slice_get, refl, sym, ap, ◌∙◌, subst, arith, length-append, inl, inr}
use Rattle.std.specs.Prelude.{Contains, slice_range}
use Rattle.std.proofs.lemmas.Bool.{cases_eq}
use Rattle.std.proofs.lemmas.Option.{slice_get_within, slice_get-get_or, slice_get_past}
use Rattle.std.proofs.lemmas.List.{get_or-set_same, get_or-set_other, length-set, length-map, get_or-map, get_or_append_left}
use Rattle.std.proofs.lemmas.List.Elements.{All-push, All-contains, Contains-append_left, Contains-push, Contains-push_cases}
use Rattle.hz_core.specs.declared.tri.Tri.{Tri}
use Rattle.hz_core.specs.declared.tri.Tri.TheVariants.{Zero, One, Unknown}
use Rattle.hz_core.specs.declared.kind.Kind.TheVariants.{And}
use Rattle.hz_core.specs.Ternary.{tri_of}
use Rattle.hz_core.specs.Extension.{extension}
use Rattle.hz_core.specs.Netlist.{Netlist, IsCircuit, IsWhole, IsGateNumber, gate_at, variable_count}
use Rattle.hz_net.specs.Network.{network_of, Source, driver_at, value_at}
use Rattle.hz_net.specs.Variables.{first_wire, at_wires, fan_out_of}
use Rattle.hz_net.specs.Reads.{IsWireInto}
use Rattle.hz_net.proofs.Wired.{pin-into, wired-network_of}
use Rattle.hz_net.specs.Starts.{IsForced}
use Rattle.hz_net.proofs.Places.{length-network_of, driver_at-pin}
use Rattle.hz_lists.proofs.PartLemmas.{same-parts}
use Rattle.hz_net.proofs.Derivations.{AreForced, IsClosed, forced_once, forced-listed, forced-data, forced-extension, closed-forced}
use Rattle.hz_net.proofs.Wires.{IsWireFrom, IsWireFrom-driver_at, IsWireFrom-node, Contains-fan_out_of, length-at_wires, get_or-at_wires}
use Rattle.hz_core.proofs.CircuitLemmas.{data_of-node}
use Rattle.hz_pass.specs.CutLists.{IsDataOf}
use Rattle.hz_pass.specs.Forcing.{Worklist, listed_value, HasListedValues, gate_extension, SetsNode, ForcedSoFar, AreForcedValues, AreDelivered, touching, carrying, only_waiting}
use Rattle.hz_pass.proofs.Places.{same-values}
use Rattle.hz_pass.proofs.AllOpen.{extension-unknown}

-- a part of a list is the same where a value outside it is set
slice_range-set : (values : List Tri) (at from count : ℕ) (value : Tri) → ((k : ℕ) → k < count → from + k ≢ at) → slice_range (set values at value) from (from + count) ≡ slice_range values from (from + count)
slice_range-set values at from count value outside =
    same-parts Zero (set values at value) values from count (length-set values at value)
    (λ k few. get_or-set_other values at (from + k) value Zero (outside k few))

-- pins that are forced, by places
pub AreForced-places : (netlist : Netlist) (listed : List (Option Bool)) (sources : List ℕ) (pins : List Tri) → length pins ≡ length sources → ((k : ℕ) (bit : Bool) → k < length sources → value_at pins k ≡ tri_of bit → IsForced netlist listed (get_or sources k 0) bit) → AreForced netlist listed sources pins
AreForced-places netlist listed [] [] same each = tt
AreForced-places netlist listed [] (pin ∷ pins) same each = cc
AreForced-places netlist listed (source ∷ sources) [] same each = cc
AreForced-places netlist listed (source ∷ sources) (pin ∷ pins) same each = (
  λ bit known. each 0 bit (omega arith) known,
  AreForced-places netlist listed sources pins (omega (arith, same)) (λ k bit few known. each (suc k) bit (omega (arith, few)) known),
)

pub known-bit : (value : Tri) → (value ≡ Unknown) ⊎ ((bit : Bool) × (value ≡ tri_of bit))
known-bit Zero = inr (false, refl)
known-bit One = inr (true, refl)
known-bit Unknown = inl refl

pub known≢unknown : (value : Tri) (bit : Bool) → value ≡ tri_of bit → value ≢ Unknown
known≢unknown value false e = λ u. cc
known≢unknown value true e = λ u. cc

pub same-known : (bit other : Bool) → tri_of bit ≡ tri_of other → bit ≡ other
same-known false false e = refl
same-known false true e = cc
same-known true false e = cc
same-known true true e = refl

no-element : (element : ℕ) → Contains [] element → ⊥
no-element element there = omega (arith, there.1)

Contains-head : (head element : ℕ) (rest : List ℕ) → Contains (head ∷ rest) element → (head ≡ element) ⊎ Contains rest element
Contains-head head element rest (zero, inside, e) = inl e
Contains-head head element rest (suc k, inside, e) = inr (k, omega (arith, inside), e)

-- an entry whose value is a bit's
pub listed-entry : (entry : Option Bool) (bit : Bool) → listed_value (Some entry) ≡ tri_of bit → entry ≡ Some bit
listed-entry None bit e = absurd (known≢unknown Unknown bit e refl)
listed-entry (Some known) bit e = ap Some (same-known known bit e)

module _ (netlist : Netlist) (listed : List (Option Bool)) (circuit : IsCircuit netlist) (listed_long : length listed ≡ length netlist.names) where
  listed-node : (node : ℕ) (entry : Option Bool) → slice_get listed node ≡ Some entry → node < length netlist.names
  listed-node node entry e = let inside : node < length listed = slice_get_within listed node entry e in omega arith

  -- before any value is carried on: the listed values are set, and their nodes wait
  pub forced-begin : (values : List Tri) (waiting : List ℕ) → IsWhole netlist → length values ≡ length (network_of netlist) → HasListedValues listed values waiting → ForcedSoFar netlist listed values (only_waiting waiting)
  forced-begin values waiting whole long set_values =
      let inside : (node : ℕ) → node < length netlist.names → node < length values = λ node few. omega (arith, few, long, length-network_of netlist circuit) in
      let given : (node : ℕ) (bit : Bool) → slice_get listed node ≡ Some (Some bit) → value_at values node ≡ tri_of bit =
      λ node bit e. set_values.values_are node (inside node (listed-node node (Some bit) e)) ∙ ap listed_value e in
      let bit_listed : (node : ℕ) (bit : Bool) → node < length netlist.names → value_at values node ≡ tri_of bit → slice_get listed node ≡ Some (Some bit) =
      λ node bit few known.
      let entry : slice_get listed node ≡ Some (get_or listed node None) = slice_get-get_or listed node None (omega (arith, few, listed_long)) in
      let value : listed_value (Some (get_or listed node None)) ≡ tri_of bit = sym (set_values.values_are node (inside node few) ∙ ap listed_value entry) ∙ known in
      entry ∙ ap Some (listed-entry (get_or listed node None) bit value) in
      let wires : (wire source : ℕ) → driver_at (network_of netlist) wire ≡ Source source → value_at values wire ≡ Unknown =
      λ wire source drives.
      let from = IsWireFrom-driver_at netlist wire source circuit drives in
      let above : length netlist.names ≤ wire = from.above in
      let below : wire < variable_count netlist = from.below in
      set_values.values_are wire (omega (arith, long, length-network_of netlist circuit)) ∙ ap listed_value (slice_get_past listed wire (omega (arith, above, listed_long))) in
      record {
        long = long;
        agrees = given;
        sound = λ node bit few known. forced-listed netlist listed node bit (bit_listed node bit few known);
        carried = λ wire source drives. inl (wires wire source drives);
        delivered = λ wire source drives. elim (known-bit (value_at values source)) [
          | inl unknown ↦ inl (wires wire source drives ∙ sym unknown)
          | inr known ↦ inr (inl (set_values.wait source known.0 (bit_listed source known.0 (IsWireFrom-node netlist wire source circuit (IsWireFrom-driver_at netlist wire source circuit drives)) known.1)))
        ];
        open_cuts = λ cut node is unknown. elim (known-bit (value_at values node)) [
          | inl none ↦ inl none
          | inr known ↦ inr (inl (set_values.wait node known.0 (bit_listed node known.0 (data_of-node netlist cut node circuit is.is_cut.1 is.is_data) known.1)))
        ];
        closed = λ gate is_gate unknown.
            let pins : length (at_wires netlist gate values) ≡ length (gate_at netlist gate).sources = length-at_wires netlist gate values circuit is_gate long in
            let some : 1 ≤ length (gate_at netlist gate).sources = whole.gates (gate - netlist.inputs) (record { kind = And; sources = [] }) (omega (arith, is_gate.0, is_gate.1, circuit.nodes)) in
            inl (extension-unknown (gate_at netlist gate).kind (at_wires netlist gate values) (omega (arith, pins, some))
            (λ k few.
            let pin : k < length (gate_at netlist gate).sources = omega (arith, few, pins) in
            get_or-at_wires netlist gate values k Zero pin ∙ wires (first_wire netlist gate + k) (get_or (gate_at netlist gate).sources k 0) (driver_at-pin netlist gate k circuit is_gate pin)));
        waits = λ k d few.
            let entry = set_values.are_listed k d few in
            (listed-node (get_or waiting k d) (Some entry.0) entry.1, known≢unknown (value_at values (get_or waiting k d)) entry.0 (given (get_or waiting k d) entry.0 entry.1));
      }

  -- a wire's value is set
  pub forced-wire : (values : List Tri) (waiting due cuts : List ℕ) (wire node gate : ℕ) (value : Tri) → ForcedSoFar netlist listed values (carrying waiting (wire ∷ due) cuts) → value_at values node ≡ value → driver_at (network_of netlist) wire ≡ Source node → IsWireInto (network_of netlist) gate wire → ForcedSoFar netlist listed (set values wire value) (touching waiting due cuts (gate ∷ []))
  forced-wire values waiting due cuts wire node gate value so_far is driven into =
      let from : IsWireFrom netlist wire node = IsWireFrom-driver_at netlist wire node circuit driven in
      let above : length netlist.names ≤ wire = from.above in
      let inside : wire < length values = omega (arith, from.below, so_far.long, length-network_of netlist circuit) in
      let here : value_at (set values wire value) wire ≡ value = get_or-set_same values wire value Zero inside in
      let others : (var : ℕ) → var ≢ wire → value_at (set values wire value) var ≡ value_at values var = λ var other. get_or-set_other values wire var value Zero other in
      let nodes : (n : ℕ) → n < length netlist.names → value_at (set values wire value) n ≡ value_at values n = λ n few. others n (let other : n ≢ wire = omega (arith, few, above) in other) in
      let is_node : node < length netlist.names = IsWireFrom-node netlist wire node circuit from in
      let carried_here : (source : ℕ) → driver_at (network_of netlist) wire ≡ Source source → value_at (set values wire value) wire ≡ value_at (set values wire value) source =
      λ source drives.
      let same : node ≡ source = (let e : Source node ≡ Source source = sym driven ∙ drives in cc) in
      here ∙ (sym is ∙ (sym (nodes node is_node) ∙ ap (value_at (set values wire value)) same)) in
      let source_below : (other source : ℕ) → driver_at (network_of netlist) other ≡ Source source → source < length netlist.names =
      λ other source drives. IsWireFrom-node netlist other source circuit (IsWireFrom-driver_at netlist other source circuit drives) in
      record {
        long = length-set values wire value ∙ so_far.long;
        agrees = λ n bit e. nodes n (listed-node n (Some bit) e) ∙ so_far.agrees n bit e;
        sound = λ n bit few known. so_far.sound n bit few (sym (nodes n few) ∙ known);
        carried = λ other source drives. elim (cases_eq other wire) [
          | inl same ↦ inr (subst (λ (w : ℕ). value_at (set values wire value) w ≡ value_at (set values wire value) source) (sym same) (carried_here source (subst (λ (w : ℕ). driver_at (network_of netlist) w ≡ Source source) same drives)))
          | inr differ ↦ elim (so_far.carried other source drives) [
            | inl unknown ↦ inl (others other differ ∙ unknown)
            | inr equal ↦ inr (others other differ ∙ (equal ∙ sym (nodes source (source_below other source drives))))
          ]
        ];
        delivered = λ other source drives. elim (cases_eq other wire) [
          | inl same ↦ inl (subst (λ (w : ℕ). value_at (set values wire value) w ≡ value_at (set values wire value) source) (sym same) (carried_here source (subst (λ (w : ℕ). driver_at (network_of netlist) w ≡ Source source) same drives)))
          | inr differ ↦ elim (so_far.delivered other source drives) [
            | inl equal ↦ inl (others other differ ∙ (equal ∙ sym (nodes source (source_below other source drives))))
            | inr (inl there) ↦ inr (inl there)
            | inr (inr there) ↦ elim (Contains-head wire other due there) [
              | inl same ↦ absurd (differ (sym same))
              | inr later ↦ inr (inr later)
            ]
          ]
        ];
        open_cuts = λ cut source is unknown.
            let few : source < length netlist.names = data_of-node netlist cut source circuit is.is_cut.1 is.is_data in
            elim (so_far.open_cuts cut source is (sym (nodes cut (omega (arith, is.is_cut.1, circuit.nodes))) ∙ unknown)) [
              | inl none ↦ inl (nodes source few ∙ none)
              | inr there ↦ inr there
            ];
        closed = λ other is_gate unknown. elim (cases_eq other gate) [
          | inl same ↦ inr (0, omega arith, sym same)
          | inr differ ↦ elim (so_far.closed other is_gate (sym (nodes other is_gate.1) ∙ unknown)) [
            | inl same ↦ inl (ap (extension (gate_at netlist other).kind) (slice_range-set values wire (first_wire netlist other) (length (gate_at netlist other).sources) value (λ k few e. differ ((wired-network_of netlist circuit).own other gate wire (pin-into netlist circuit other k wire is_gate few e) into))) ∙ same)
            | inr none ↦ absurd (no-element other none)
          ]
        ];
        waits = λ k d few. let old = so_far.waits k d few in (old.0, λ unknown. old.1 (sym (nodes (get_or waiting k d) old.0) ∙ unknown));
      }

  -- a gate's pins are forced
  pins-forced : (values : List Tri) (waiting due cuts touched : List ℕ) (gate : ℕ) → ForcedSoFar netlist listed values (touching waiting due cuts touched) → IsGateNumber netlist gate → AreForced netlist listed (gate_at netlist gate).sources (at_wires netlist gate values)
  pins-forced values waiting due cuts touched gate so_far is_gate =
      AreForced-places netlist listed (gate_at netlist gate).sources (at_wires netlist gate values) (length-at_wires netlist gate values circuit is_gate so_far.long)
      (λ k bit few known.
      let source = get_or (gate_at netlist gate).sources k 0 in
      let driven : driver_at (network_of netlist) (first_wire netlist gate + k) ≡ Source source = driver_at-pin netlist gate k circuit is_gate few in
      let wire_known : value_at values (first_wire netlist gate + k) ≡ tri_of bit = sym (get_or-at_wires netlist gate values k Zero few) ∙ known in
      elim (so_far.carried (first_wire netlist gate + k) source driven) [
        | inl unknown ↦ absurd (known≢unknown (value_at values (first_wire netlist gate + k)) bit wire_known unknown)
        | inr equal ↦ so_far.sound source bit (IsWireFrom-node netlist (first_wire netlist gate + k) source circuit (IsWireFrom-driver_at netlist (first_wire netlist gate + k) source circuit driven)) (sym equal ∙ wire_known)
      ])

  -- a node that is X is not listed
  unlisted : (values : List Tri) (waiting due cuts touched : List ℕ) (node : ℕ) → ForcedSoFar netlist listed values (touching waiting due cuts touched) → node < length netlist.names → value_at values node ≡ Unknown → slice_get listed node ≡ Some None
  unlisted values waiting due cuts touched node so_far few unknown =
      let inside : node < length listed = omega (arith, few, listed_long) in
      entry (get_or listed node None) (slice_get-get_or listed node None inside)
    where
      entry : (value : Option Bool) → slice_get listed node ≡ Some value → slice_get listed node ≡ Some None
      entry None e = e
      entry (Some bit) e = absurd (known≢unknown (value_at values node) bit (so_far.agrees node bit e) unknown)

  -- no value changes: what is set is forced as before, whatever else may be due
  still :
      {values : List Tri} {work next : Worklist} → ForcedSoFar netlist listed values work →
      ((wire node : ℕ) → driver_at (network_of netlist) wire ≡ Source node →
      (value_at values wire ≡ value_at values node) ⊎ (Contains next.waiting node ⊎ Contains next.due wire)) →
      ((cut node : ℕ) → IsDataOf netlist node cut → value_at values cut ≡ Unknown →
      (value_at values node ≡ Unknown) ⊎ (Contains next.waiting node ⊎ Contains next.cuts cut)) →
      ((gate : ℕ) → IsGateNumber netlist gate → value_at values gate ≡ Unknown → (gate_extension netlist values gate ≡ Unknown) ⊎ Contains next.touched gate) →
      All (λ node. (node < length netlist.names) × (value_at values node ≢ Unknown)) next.waiting → ForcedSoFar netlist listed values next
  still so_far delivered open_cuts closed waits =
      record {
        long = so_far.long;
        agrees = so_far.agrees;
        sound = so_far.sound;
        carried = so_far.carried;
        delivered = delivered;
        open_cuts = open_cuts;
        closed = closed;
        waits = waits;
      }

  -- the node that is next does not wait any more: its wires are due, and the cuts that are not listed and whose data node it is
  pub forced-pop : (values : List Tri) (waiting cuts : List ℕ) (node : ℕ) → ForcedSoFar netlist listed values (only_waiting (waiting ++ node ∷ [])) → ((cut : ℕ) → IsDataOf netlist node cut → slice_get listed cut ≡ Some None → Contains cuts cut) → ForcedSoFar netlist listed values (carrying waiting (fan_out_of netlist node) cuts)
  forced-pop values waiting cuts node so_far there_all =
      still so_far
      (λ wire source driven. elim (so_far.delivered wire source driven) [
        | inl same ↦ inl same
        | inr (inl there) ↦ elim (Contains-push_cases waiting node source there) [
          | inl later ↦ inr (inl later)
          | inr next ↦ inr (inr (subst (λ (n : ℕ). Contains (fan_out_of netlist n) wire) (sym next) (Contains-fan_out_of netlist wire source (IsWireFrom-driver_at netlist wire source circuit driven))))
        ]
        | inr (inr none) ↦ absurd (no-element wire none)
      ])
      (λ cut source is unknown. elim (so_far.open_cuts cut source is unknown) [
        | inl same ↦ inl same
        | inr (inl there) ↦ elim (Contains-push_cases waiting node source there) [
          | inl later ↦ inr (inl later)
          | inr next ↦ inr (inr (there_all cut (subst (λ (n : ℕ). IsDataOf netlist n cut) (sym next) is)
              (unlisted values (waiting ++ node ∷ []) [] [] [] cut so_far (omega (arith, is.is_cut.1, circuit.nodes)) unknown)))
        ]
        | inr (inr none) ↦ absurd (no-element cut none)
      ])
      so_far.closed
      (λ k d few. subst (λ (n : ℕ). (n < length netlist.names) × (value_at values n ≢ Unknown)) (get_or_append_left waiting (node ∷ []) d k few) (so_far.waits k d (omega (arith, few, length-append waiting (node ∷ [])))))

  -- a node that is X becomes known, and waits
  forced-known : (values : List Tri) (waiting due cuts cuts' touched touched' : List ℕ) (node : ℕ) (bit : Bool) → ForcedSoFar netlist listed values (touching waiting due cuts touched) → node < length netlist.names → value_at values node ≡ Unknown → IsForced netlist listed node bit
      → ((cut : ℕ) → Contains cuts cut → (node ≡ cut) ⊎ Contains cuts' cut) → ((gate : ℕ) → Contains touched gate → (node ≡ gate) ⊎ Contains touched' gate)
      → ForcedSoFar netlist listed (set values node (tri_of bit)) (touching (waiting ++ node ∷ []) due cuts' touched')
  forced-known values waiting due cuts cuts' touched touched' node bit so_far few_node unknown forced less_cuts less_touched =
      let value = tri_of bit in
      let inside : node < length values = omega (arith, few_node, so_far.long, length-network_of netlist circuit) in
      let here : value_at (set values node value) node ≡ value = get_or-set_same values node value Zero inside in
      let others : (var : ℕ) → var ≢ node → value_at (set values node value) var ≡ value_at values var = λ var other. get_or-set_other values node var value Zero other in
      let known : (var : ℕ) → value_at values var ≢ Unknown → value_at (set values node value) var ≡ value_at values var = λ var is_known. others var (λ e. is_known (ap (value_at values) e ∙ unknown)) in
      let wires : (wire source : ℕ) → driver_at (network_of netlist) wire ≡ Source source → value_at (set values node value) wire ≡ value_at values wire =
      λ wire source drives.
      let above : length netlist.names ≤ wire = (IsWireFrom-driver_at netlist wire source circuit drives).above in
      others wire (let other : wire ≢ node = omega arith in other) in
      record {
        long = length-set values node value ∙ so_far.long;
        agrees = λ n b e. known n (known≢unknown (value_at values n) b (so_far.agrees n b e)) ∙ so_far.agrees n b e;
        sound = λ n b few is. elim (cases_eq n node) [
          | inl same ↦ (
              let e : bit ≡ b = same-known bit b (sym here ∙ (ap (value_at (set values node value)) (sym same) ∙ is)) in
              subst (λ (m : ℕ). IsForced netlist listed m b) (sym same) (subst (IsForced netlist listed node) e forced)
              )
          | inr differ ↦ so_far.sound n b few (sym (others n differ) ∙ is)
        ];
        carried = λ wire source drives. elim (cases_eq source node) [
          | inl same ↦ elim (so_far.carried wire source drives) [
            | inl u ↦ inl (wires wire source drives ∙ u)
            | inr equal ↦ inl (wires wire source drives ∙ (equal ∙ (ap (value_at values) same ∙ unknown)))
          ]
          | inr differ ↦ elim (so_far.carried wire source drives) [
            | inl u ↦ inl (wires wire source drives ∙ u)
            | inr equal ↦ inr (wires wire source drives ∙ (equal ∙ sym (others source differ)))
          ]
        ];
        delivered = λ wire source drives. elim (cases_eq source node) [
          | inl same ↦ inr (inl (subst (λ (n : ℕ). Contains (waiting ++ node ∷ []) n) (sym same) (Contains-push waiting node)))
          | inr differ ↦ elim (so_far.delivered wire source drives) [
            | inl equal ↦ inl (wires wire source drives ∙ (equal ∙ sym (others source differ)))
            | inr (inl there) ↦ inr (inl (Contains-append_left waiting (node ∷ []) source there))
            | inr (inr there) ↦ inr (inr there)
          ]
        ];
        open_cuts = λ cut source is unknown'. elim (cases_eq cut node) [
          | inl same ↦ absurd (known≢unknown (value_at (set values node value) node) bit here (ap (value_at (set values node value)) (sym same) ∙ unknown'))
          | inr differ ↦ elim (cases_eq source node) [
            | inl same ↦ inr (inl (subst (λ (n : ℕ). Contains (waiting ++ node ∷ []) n) (sym same) (Contains-push waiting node)))
            | inr other ↦ elim (so_far.open_cuts cut source is (sym (others cut differ) ∙ unknown')) [
              | inl none ↦ inl (others source other ∙ none)
              | inr (inl there) ↦ inr (inl (Contains-append_left waiting (node ∷ []) source there))
              | inr (inr there) ↦ elim (less_cuts cut there) [
                | inl same ↦ absurd (differ (sym same))
                | inr still ↦ inr (inr still)
              ]
            ]
          ]
        ];
        closed = λ other other_gate is. elim (cases_eq other node) [
          | inl same ↦ absurd (known≢unknown (value_at (set values node value) node) bit here (ap (value_at (set values node value)) (sym same) ∙ is))
          | inr differ ↦ elim (so_far.closed other other_gate (sym (others other differ) ∙ is)) [
            | inl same ↦ inl (ap (extension (gate_at netlist other).kind) (slice_range-set values node (first_wire netlist other) (length (gate_at netlist other).sources) value (λ k few e. (let wrong : ⊥ = omega (arith, few_node, e) in wrong))) ∙ same)
            | inr there ↦ elim (less_touched other there) [
              | inl same ↦ absurd (differ (sym same))
              | inr still ↦ inr still
            ]
          ]
        ];
        waits = All-push (λ (n : ℕ). (n < length netlist.names) × (value_at (set values node value) n ≢ Unknown)) waiting node
            (λ k d few. let old = so_far.waits k d few in (old.0, λ u. old.1 (sym (known (get_or waiting k d) old.1) ∙ u)))
            (few_node, λ u. known≢unknown (value_at (set values node value) node) bit here u);
      }

  -- a gate stays as it is: it was known, or its extension is X
  forced-same : (values : List Tri) (waiting due cuts : List ℕ) (gate : ℕ) → ForcedSoFar netlist listed values (touching waiting due cuts (gate ∷ [])) → (value_at values gate ≢ Unknown) ⊎ (gate_extension netlist values gate ≡ Unknown) → ForcedSoFar netlist listed values (carrying waiting due cuts)
  forced-same values waiting due cuts gate so_far why =
      still so_far so_far.delivered so_far.open_cuts
      (λ other other_gate unknown. elim (so_far.closed other other_gate unknown) [
        | inl same ↦ inl same
        | inr there ↦ elim (Contains-head gate other [] there) [
          | inl same ↦ elim why [
            | inl known ↦ absurd (known (ap (value_at values) same ∙ unknown))
            | inr x ↦ inl (ap (gate_extension netlist values) (sym same) ∙ x)
          ]
          | inr none ↦ absurd (no-element other none)
        ]
      ])
      so_far.waits

  -- a gate becomes known, and waits
  gate-known : (values : List Tri) (waiting due cuts : List ℕ) (gate : ℕ) (bit : Bool) → ForcedSoFar netlist listed values (touching waiting due cuts (gate ∷ [])) → IsGateNumber netlist gate → value_at values gate ≡ Unknown → gate_extension netlist values gate ≡ tri_of bit → ForcedSoFar netlist listed (set values gate (tri_of bit)) (carrying (waiting ++ gate ∷ []) due cuts)
  gate-known values waiting due cuts gate bit so_far is_gate unknown extended =
      forced-known values waiting due cuts cuts (gate ∷ []) [] gate bit so_far is_gate.1 unknown
      (forced-extension netlist listed gate (at_wires netlist gate values) bit is_gate (unlisted values waiting due cuts (gate ∷ []) gate so_far is_gate.1 unknown) (pins-forced values waiting due cuts (gate ∷ []) gate so_far is_gate) extended)
      (λ cut there. inr there) (λ other there. Contains-head gate other [] there)

  -- a cut becomes known, and waits
  cut-known : (values : List Tri) (waiting due cuts : List ℕ) (node cut : ℕ) (bit : Bool) → ForcedSoFar netlist listed values (carrying waiting due (cut ∷ cuts)) → IsDataOf netlist node cut → value_at values cut ≡ Unknown → value_at values node ≡ tri_of bit → ForcedSoFar netlist listed (set values cut (tri_of bit)) (carrying (waiting ++ cut ∷ []) due cuts)
  cut-known values waiting due cuts node cut bit so_far is unknown known =
      let few : cut < length netlist.names = omega (arith, is.is_cut.1, circuit.nodes) in
      forced-known values waiting due (cut ∷ cuts) cuts [] [] cut bit so_far few unknown
      (forced-data netlist listed cut node bit is.is_cut is.is_data (unlisted values waiting due (cut ∷ cuts) [] cut so_far few unknown)
      (so_far.sound node bit (data_of-node netlist cut node circuit is.is_cut.1 is.is_data) known))
      (λ other there. Contains-head cut other cuts there) (λ gate there. inr there)

  -- a cut that is known stays as it is
  cut-same : (values : List Tri) (waiting due cuts : List ℕ) (cut : ℕ) → ForcedSoFar netlist listed values (carrying waiting due (cut ∷ cuts)) → value_at values cut ≢ Unknown → ForcedSoFar netlist listed values (carrying waiting due cuts)
  cut-same values waiting due cuts cut so_far known =
      still so_far so_far.delivered
      (λ other source is unknown. elim (so_far.open_cuts other source is unknown) [
        | inl none ↦ inl none
        | inr (inl there) ↦ inr (inl there)
        | inr (inr there) ↦ elim (Contains-head cut other cuts there) [
          | inl same ↦ absurd (known (ap (value_at values) same ∙ unknown))
          | inr later ↦ inr (inr later)
        ]
      ])
      so_far.closed so_far.waits

  sets-cut : (was value : Tri) (values values' : List Tri) (waiting waiting' due cuts : List ℕ) (node cut : ℕ) → ForcedSoFar netlist listed values (carrying waiting due (cut ∷ cuts)) → IsDataOf netlist node cut → value_at values cut ≡ was → value_at values node ≡ value → value ≢ Unknown → SetsNode was value cut values values' waiting waiting' → ForcedSoFar netlist listed values' (carrying waiting' due cuts)
  sets-cut Zero value values values' waiting waiting' due cuts node cut so_far is was data_is known sets =
      subst (λ (v : List Tri). ForcedSoFar netlist listed v (carrying waiting' due cuts)) (sym sets.0) (subst (λ (w : List ℕ). ForcedSoFar netlist listed values (carrying w due cuts)) (sym sets.1)
      (cut-same values waiting due cuts cut so_far (λ u. (let wrong : ⊥ = cc in wrong))))
  sets-cut One value values values' waiting waiting' due cuts node cut so_far is was data_is known sets =
      subst (λ (v : List Tri). ForcedSoFar netlist listed v (carrying waiting' due cuts)) (sym sets.0) (subst (λ (w : List ℕ). ForcedSoFar netlist listed values (carrying w due cuts)) (sym sets.1)
      (cut-same values waiting due cuts cut so_far (λ u. (let wrong : ⊥ = cc in wrong))))
  sets-cut Unknown Unknown values values' waiting waiting' due cuts node cut so_far is was data_is known sets = absurd (known refl)
  sets-cut Unknown Zero values values' waiting waiting' due cuts node cut so_far is was data_is known sets =
      subst (λ (v : List Tri). ForcedSoFar netlist listed v (carrying waiting' due cuts)) (sym sets.0) (subst (λ (w : List ℕ). ForcedSoFar netlist listed (set values cut Zero) (carrying w due cuts)) (sym sets.1)
      (cut-known values waiting due cuts node cut false so_far is was data_is))
  sets-cut Unknown One values values' waiting waiting' due cuts node cut so_far is was data_is known sets =
      subst (λ (v : List Tri). ForcedSoFar netlist listed v (carrying waiting' due cuts)) (sym sets.0) (subst (λ (w : List ℕ). ForcedSoFar netlist listed (set values cut One) (carrying w due cuts)) (sym sets.1)
      (cut-known values waiting due cuts node cut true so_far is was data_is))

  -- what is done to a cut whose data node has this value
  pub forced-cut : (values values' : List Tri) (waiting waiting' due cuts : List ℕ) (node cut : ℕ) (value : Tri) → ForcedSoFar netlist listed values (carrying waiting due (cut ∷ cuts)) → IsDataOf netlist node cut → value_at values node ≡ value → value ≢ Unknown → SetsNode (value_at values cut) value cut values values' waiting waiting' → ForcedSoFar netlist listed values' (carrying waiting' due cuts)
  forced-cut values values' waiting waiting' due cuts node cut value so_far is data_is known sets =
      sets-cut (value_at values cut) value values values' waiting waiting' due cuts node cut so_far is refl data_is known sets

  sets-gate : (was extended : Tri) (values values' : List Tri) (waiting waiting' due cuts : List ℕ) (gate : ℕ) → ForcedSoFar netlist listed values (touching waiting due cuts (gate ∷ [])) → IsGateNumber netlist gate → value_at values gate ≡ was → gate_extension netlist values gate ≡ extended → SetsNode was extended gate values values' waiting waiting' → ForcedSoFar netlist listed values' (carrying waiting' due cuts)
  sets-gate Zero extended values values' waiting waiting' due cuts gate so_far is_gate was is sets =
      subst (λ (v : List Tri). ForcedSoFar netlist listed v (carrying waiting' due cuts)) (sym sets.0) (subst (λ (w : List ℕ). ForcedSoFar netlist listed values (carrying w due cuts)) (sym sets.1)
      (forced-same values waiting due cuts gate so_far (inl (λ u. (let wrong : ⊥ = cc in wrong)))))
  sets-gate One extended values values' waiting waiting' due cuts gate so_far is_gate was is sets =
      subst (λ (v : List Tri). ForcedSoFar netlist listed v (carrying waiting' due cuts)) (sym sets.0) (subst (λ (w : List ℕ). ForcedSoFar netlist listed values (carrying w due cuts)) (sym sets.1)
      (forced-same values waiting due cuts gate so_far (inl (λ u. (let wrong : ⊥ = cc in wrong)))))
  sets-gate Unknown Unknown values values' waiting waiting' due cuts gate so_far is_gate was is sets =
      subst (λ (v : List Tri). ForcedSoFar netlist listed v (carrying waiting' due cuts)) (sym sets.0) (subst (λ (w : List ℕ). ForcedSoFar netlist listed values (carrying w due cuts)) (sym sets.1)
      (forced-same values waiting due cuts gate so_far (inr is)))
  sets-gate Unknown Zero values values' waiting waiting' due cuts gate so_far is_gate was is sets =
      subst (λ (v : List Tri). ForcedSoFar netlist listed v (carrying waiting' due cuts)) (sym sets.0) (subst (λ (w : List ℕ). ForcedSoFar netlist listed (set values gate Zero) (carrying w due cuts)) (sym sets.1)
      (gate-known values waiting due cuts gate false so_far is_gate was is))
  sets-gate Unknown One values values' waiting waiting' due cuts gate so_far is_gate was is sets =
      subst (λ (v : List Tri). ForcedSoFar netlist listed v (carrying waiting' due cuts)) (sym sets.0) (subst (λ (w : List ℕ). ForcedSoFar netlist listed (set values gate One) (carrying w due cuts)) (sym sets.1)
      (gate-known values waiting due cuts gate true so_far is_gate was is))

  -- what is done to a gate one of whose wires was set
  pub forced-gate : (values values' : List Tri) (waiting waiting' due cuts : List ℕ) (gate : ℕ) → ForcedSoFar netlist listed values (touching waiting due cuts (gate ∷ [])) → IsGateNumber netlist gate → SetsNode (value_at values gate) (gate_extension netlist values gate) gate values values' waiting waiting' → ForcedSoFar netlist listed values' (carrying waiting' due cuts)
  forced-gate values values' waiting waiting' due cuts gate so_far is_gate sets =
      sets-gate (value_at values gate) (gate_extension netlist values gate) values values' waiting waiting' due cuts gate so_far is_gate refl refl sets

  -- where all is delivered, a gate's wires have the values of its sources
  pins-delivered : (values : List Tri) (gate : ℕ) → ForcedSoFar netlist listed values (only_waiting []) → IsGateNumber netlist gate → at_wires netlist gate values ≡ map (value_at values) (gate_at netlist gate).sources
  pins-delivered values gate so_far is_gate =
      let sources = (gate_at netlist gate).sources in
      let long : length (at_wires netlist gate values) ≡ length sources = length-at_wires netlist gate values circuit is_gate so_far.long in
      same-values (at_wires netlist gate values) (map (value_at values) sources) (long ∙ sym (length-map sources (value_at values)))
      (λ k few.
      let inside : k < length sources = omega (arith, few, long) in
      let source = get_or sources k 0 in
      get_or-at_wires netlist gate values k Zero inside ∙
      (elim (so_far.delivered (first_wire netlist gate + k) source (driver_at-pin netlist gate k circuit is_gate inside)) [
        | inl equal ↦ equal
        | inr (inl none) ↦ absurd (no-element source none)
        | inr (inr none) ↦ absurd (no-element (first_wire netlist gate + k) none)
      ] ∙ sym (get_or-map (value_at values) sources k 0 Zero inside)))

  -- at the end the values are closed
  values-closed : (values : List Tri) → ForcedSoFar netlist listed values (only_waiting []) → IsClosed netlist listed (value_at values)
  values-closed values so_far =
      record {
        agrees = so_far.agrees;
        carries = λ cut node bit is_cut is_data not_listed known.
            let few : cut < length netlist.names = omega (arith, is_cut.1, circuit.nodes) in
            let forced : IsForced netlist listed cut bit = forced-data netlist listed cut node bit is_cut is_data not_listed (so_far.sound node bit (data_of-node netlist cut node circuit is_cut.1 is_data) known) in
            elim (known-bit (value_at values cut)) [
              | inl unknown ↦ elim (so_far.open_cuts cut node (record { is_cut = is_cut; is_data = is_data }) unknown) [
                | inl none ↦ absurd (known≢unknown (value_at values node) bit known none)
                | inr (inl none) ↦ absurd (no-element node none)
                | inr (inr none) ↦ absurd (no-element cut none)
              ]
              | inr found ↦ found.1 ∙ ap tri_of (forced_once netlist listed cut found.0 bit (so_far.sound cut found.0 few found.1) forced)
            ];
        closed = λ gate bit is_gate not_listed extended.
            let pins : gate_extension netlist values gate ≡ tri_of bit = ap (extension (gate_at netlist gate).kind) (pins-delivered values gate so_far is_gate) ∙ extended in
            elim (known-bit (value_at values gate)) [
              | inl unknown ↦ elim (so_far.closed gate is_gate unknown) [
                | inl x ↦ absurd (known≢unknown (gate_extension netlist values gate) bit pins x)
                | inr none ↦ absurd (no-element gate none)
              ]
              | inr known ↦ (
                  let forced : IsForced netlist listed gate bit = forced-extension netlist listed gate (at_wires netlist gate values) bit is_gate not_listed (pins-forced values [] [] [] [] gate so_far is_gate) pins in
                  known.1 ∙ ap tri_of (forced_once netlist listed gate known.0 bit (so_far.sound gate known.0 is_gate.1 known.1) forced)
                  )
            ];
      }

  -- what is set is forced, and what is X is open
  pub forced-end : (values : List Tri) → ForcedSoFar netlist listed values (only_waiting []) → AreForcedValues netlist listed values
  forced-end values so_far =
      record {
        long = so_far.long;
        forced = λ node bit few known. so_far.sound node bit few known;
        opens = λ node few unknown bit forced.
            known≢unknown (value_at values node) bit (closed-forced netlist listed (value_at values) node bit (values-closed values so_far) forced) unknown;
      }

  -- and each wire has its source's value
  pub delivered-end : (values : List Tri) → ForcedSoFar netlist listed values (only_waiting []) → AreDelivered netlist values
  delivered-end values so_far wire node source =
      elim (so_far.delivered wire node source) [
        | inl same ↦ same
        | inr (inl none) ↦ absurd (no-element node none)
        | inr (inr none) ↦ absurd (no-element wire none)
      ]

  -- the node that is next is a node, and known
  pub next-waits : (values : List Tri) (waiting due cuts touched : List ℕ) (node : ℕ) → ForcedSoFar netlist listed values (touching (waiting ++ node ∷ []) due cuts touched) → (node < length netlist.names) × (value_at values node ≢ Unknown)
  next-waits values waiting due cuts touched node so_far =
      All-contains (λ (n : ℕ). (n < length netlist.names) × (value_at values n ≢ Unknown)) (waiting ++ node ∷ []) node so_far.waits (Contains-push waiting node)
