-- Every listing of the inputs is open, unstable or accepted: values are forced one by one until none follows, and the least open
-- node or the least unstable gate is searched.
use Rattle.std.proofs.Common.{◌≡◌, ◌≢◌, ℕ, zero, suc, ◌+◌, ◌-◌, ◌<◌, ◌≤◌, ◌⊎◌, Bool, true, false, Option, Some, None, List, length, map, take, set, get_or, slice_get, refl, sym, ap, ◌∙◌, subst, arith, inl, inr}
use Rattle.std.specs.List.{range_with_len}
use Rattle.std.proofs.lemmas.Bool.{cases_eq, cases_lt}
use Rattle.std.proofs.lemmas.Option.{slice_get_within, slice_get-get_or}
use Rattle.std.proofs.lemmas.List.{get_or-set_same, get_or-set_other, length-set, length-map, get_or-map}
use Rattle.std.proofs.lemmas.List.FromFn.{length-map-range_with_len, get_or-map-range_with_len}
use Rattle.hz_core.specs.declared.tri.Tri.{Tri}
use Rattle.hz_core.specs.declared.tri.Tri.TheVariants.{Zero, One, Unknown}
use Rattle.hz_core.specs.Ternary.{tri_of, unknown_count}
use Rattle.hz_core.specs.Extension.{extension}
use Rattle.hz_core.specs.Netlist.{Netlist, IsCircuit, IsCutNumber, IsGateNumber, data_of, gate_at, primary_inputs}
use Rattle.hz_core.proofs.CircuitLemmas.{data_of-node}
use Rattle.hz_net.specs.Network.{network_of, value_at, bit_at, excitation}
use Rattle.hz_net.specs.Variables.{first_wire, expansion_of}
use Rattle.hz_net.specs.Starts.{IsForced, ListsInputs, IsCompletedStart}
use Rattle.hz_net.proofs.Places.{length-network_of, driver_at-pin}
use Rattle.hz_net.proofs.Wires.{IsWireFrom-driver_at, IsWireFrom-node}
use Rattle.hz_net.proofs.Derivations.{IsClosed, forced_once, forced-listed, forced-data, forced-extension, closed-forced}
use Rattle.hz_net.proofs.StartLemmas.{completed-not-open, accepted-not-unstable, open-not-unstable}
use Rattle.hz_pass.specs.Completed.{bit_or_zero}
use Rattle.hz_pass.specs.Forcing.{listed_value, AreForcedValues}
use Rattle.hz_pass.specs.Decided.{HasOpenNode, HasUnstableGate, GivesStart, StartsAreDecided}
use Rattle.hz_pass.proofs.Delivery.{unknown_count-less}
use Rattle.hz_pass.proofs.ForcingLoop.{AreForced-places, known-bit, known≢unknown, same-known, listed-entry}
use Rattle.hz_pass.proofs.CompletedLemmas.{least-open, completed-start, accepted-start, least-unstable}

-- of numbers each of which is good or bad, from a first one on: all are good, or there is a least bad one
abbrev AreGood : (ℕ → Type 0) → ℕ → ℕ → Type 0
AreGood good first end = (i : ℕ) → first ≤ i → i < end → good i

abbrev HasLeastBad : (ℕ → Type 0) → (ℕ → Type 0) → ℕ → ℕ → Type 0
HasLeastBad good bad first end = (i : ℕ) × (first ≤ i) × (i < end) × bad i × AreGood good first i

find-bad : (good bad : ℕ → Type 0) (first steps : ℕ) → ((i : ℕ) → first ≤ i → i < first + steps → good i ⊎ bad i) → AreGood good first (first + steps) ⊎ HasLeastBad good bad first (first + steps)
find-bad good bad first zero decide = inl (λ i above below. absurd (omega (arith, above, below)))
find-bad good bad first (suc steps) decide =
    elim (find-bad good bad first steps (λ i above below. decide i above (omega (arith, below)))) [
      | inr found ↦ inr (found.0, found.1, omega (arith, found.2), found.3, found.4)
      | inl all ↦ elim (decide (first + steps) (omega arith) (omega arith)) [
        | inr wrong ↦ inr (first + steps, omega arith, omega arith, wrong, all)
        | inl right ↦ inl (λ i above below. elim (cases_eq i (first + steps)) [
          | inl same ↦ subst good (sym same) right
          | inr other ↦ all i above (omega (arith, below, other))
        ])
      ]
    ]

same-bit : (bit other : Bool) → (bit ≡ other) ⊎ (bit ≢ other)
same-bit false false = inl refl
same-bit false true = inr (λ e. cc)
same-bit true false = inr (λ e. cc)
same-bit true true = inl refl

known-or-not : (value : Tri) → (value ≢ Unknown) ⊎ (value ≡ Unknown)
known-or-not Zero = inl (λ e. cc)
known-or-not One = inl (λ e. cc)
known-or-not Unknown = inr refl

module _ (netlist : Netlist) (listed : List (Option Bool)) (circuit : IsCircuit netlist) (listed_long : length listed ≡ length netlist.names) where
  -- listed values are known, and what is known is forced
  record Sound (values : List Tri) : Type 0 where
    pub long : length values ≡ length (network_of netlist)
    pub agrees : (node : ℕ) (bit : Bool) → slice_get listed node ≡ Some (Some bit) → value_at values node ≡ tri_of bit
    pub forced : (node : ℕ) (bit : Bool) → node < length netlist.names → value_at values node ≡ tri_of bit → IsForced netlist listed node bit

  -- values give a node a bit: its data node has it, or its function on its sources
  abbrev Gives : List Tri → ℕ → Bool → Type 0
  Gives values node bit =
      ((source : ℕ) × IsCutNumber netlist node × (data_of netlist node ≡ Some source) × (value_at values source ≡ tri_of bit))
      ⊎ (IsGateNumber netlist node × (extension (gate_at netlist node).kind (map (value_at values) (gate_at netlist node).sources) ≡ tri_of bit))

  -- a node that is not listed has the bit that values give it
  abbrev IsAtRest : List Tri → ℕ → Type 0
  IsAtRest values node = slice_get listed node ≡ Some None → (bit : Bool) → Gives values node bit → value_at values node ≡ tri_of bit

  -- a node gets a bit
  abbrev CanBeSet : List Tri → ℕ → Type 0
  CanBeSet values node = (bit : Bool) × (value_at values node ≡ Unknown) × IsForced netlist listed node bit

  inside-listed : (node : ℕ) (entry : Option Bool) → slice_get listed node ≡ Some entry → node < length netlist.names
  inside-listed node entry e = let inside : node < length listed = slice_get_within listed node entry e in omega arith

  -- what is given to a node that is not listed is forced
  given-forced : (values : List Tri) (node : ℕ) (bit : Bool) → Sound values → slice_get listed node ≡ Some None → Gives values node bit → IsForced netlist listed node bit
  given-forced values node bit sound unlisted (inl takes) =
      forced-data netlist listed node takes.0 bit takes.1 takes.2 unlisted
      (sound.forced takes.0 bit (data_of-node netlist node takes.0 circuit takes.1.1 takes.2) takes.3)
  given-forced values node bit sound unlisted (inr follows) =
      let sources = (gate_at netlist node).sources in
      forced-extension netlist listed node (map (value_at values) sources) bit follows.0 unlisted
      (AreForced-places netlist listed sources (map (value_at values) sources) (length-map sources (value_at values))
      (λ k known few is.
      let wire = first_wire netlist node + k in
      let source = get_or sources k 0 in
      let from = IsWireFrom-driver_at netlist wire source circuit (driver_at-pin netlist node k circuit follows.0 few) in
      sound.forced source known (IsWireFrom-node netlist wire source circuit from) (sym (get_or-map (value_at values) sources k 0 Zero few) ∙ is)))
      follows.1

  -- what values give to a node
  what-given : (values : List Tri) (node : ℕ) → node < length netlist.names → ((bit : Bool) → Gives values node bit → ⊥) ⊎ ((bit : Bool) × Gives values node bit)
  what-given values node few =
      elim (cases_lt node netlist.inputs) [
        | inr beyond ↦ elim (known-bit (extension (gate_at netlist node).kind (map (value_at values) (gate_at netlist node).sources))) [
          | inr known ↦ inr (known.0, inr ((beyond, few), known.1))
          | inl unknown ↦ inl (λ bit gives. gate-none beyond unknown bit gives)
        ]
        | inl input ↦ elim (cases_lt node (primary_inputs netlist)) [
          | inl primary ↦ inl (λ bit gives. elim gives [
            | inl takes ↦ omega (arith, takes.1.0, primary)
            | inr follows ↦ omega (arith, follows.0.0, input)
          ])
          | inr cut ↦ cut-given (data_of netlist node) refl cut input
        ]
      ]
    where
      gate-none : netlist.inputs ≤ node → extension (gate_at netlist node).kind (map (value_at values) (gate_at netlist node).sources) ≡ Unknown → (bit : Bool) → Gives values node bit → ⊥
      gate-none beyond unknown bit (inl takes) = omega (arith, takes.1.1, beyond)
      gate-none beyond unknown bit (inr follows) = known≢unknown _ bit follows.1 unknown

      cut-given : (source : Option ℕ) → data_of netlist node ≡ source → primary_inputs netlist ≤ node → node < netlist.inputs → ((bit : Bool) → Gives values node bit → ⊥) ⊎ ((bit : Bool) × Gives values node bit)
      cut-given None none cut input = inl (λ bit gives. elim gives [
        | inl takes ↦ (let e : Some takes.0 ≡ None = sym takes.2 ∙ none in cc)
        | inr follows ↦ omega (arith, follows.0.0, input)
      ])
      cut-given (Some source) is cut input = elim (known-bit (value_at values source)) [
        | inr known ↦ inr (known.0, inl (source, (cut, input), is, known.1))
        | inl unknown ↦ inl (λ bit gives. elim gives [
          | inl takes ↦ (
              let same : source ≡ takes.0 = (let e : Some source ≡ Some takes.0 = sym is ∙ takes.2 in cc) in
              known≢unknown (value_at values source) bit (ap (value_at values) same ∙ takes.3) unknown
              )
          | inr follows ↦ omega (arith, follows.0.0, input)
        ])
      ]

  -- a node that has no value yet is not listed
  unlisted : (values : List Tri) (node : ℕ) → Sound values → node < length netlist.names → value_at values node ≡ Unknown → slice_get listed node ≡ Some None
  unlisted values node sound few unknown = entry (get_or listed node None) (slice_get-get_or listed node None (omega (arith, few, listed_long)))
    where
      entry : (value : Option Bool) → slice_get listed node ≡ Some value → slice_get listed node ≡ Some None
      entry None e = e
      entry (Some bit) e = absurd (known≢unknown (value_at values node) bit (sound.agrees node bit e) unknown)

  -- a node rests, or can be set
  rests-or-not : (values : List Tri) (node : ℕ) → Sound values → node < length netlist.names → IsAtRest values node ⊎ CanBeSet values node
  rests-or-not values node sound few =
      elim (known-bit (value_at values node)) [
        | inr known ↦ inl (λ none bit gives. known.1 ∙ ap tri_of (forced_once netlist listed node known.0 bit (sound.forced node known.0 few known.1) (given-forced values node bit sound none gives)))
        | inl unknown ↦ elim (what-given values node few) [
          | inl never ↦ inl (λ none bit gives. absurd (never bit gives))
          | inr given ↦ inr (given.0, unknown, given-forced values node given.0 sound (unlisted values node sound few unknown) given.1)
        ]
      ]

  -- a node is set to the bit to which it is forced
  sound-set : (values : List Tri) (node : ℕ) (bit : Bool) → Sound values → node < length values → value_at values node ≡ Unknown → IsForced netlist listed node bit → Sound (set values node (tri_of bit))
  sound-set values node bit sound inside unknown forced =
      let value = tri_of bit in
      let others : (var : ℕ) → var ≢ node → value_at (set values node value) var ≡ value_at values var = λ var other. get_or-set_other values node var value Zero other in
      record {
        long = length-set values node value ∙ sound.long;
        agrees = λ n b e.
            others n (λ same. known≢unknown (value_at values n) b (sound.agrees n b e) (ap (value_at values) same ∙ unknown)) ∙ sound.agrees n b e;
        forced = λ n b few is. elim (cases_eq n node) [
          | inl same ↦ (
              let e : bit ≡ b = same-known bit b (sym (get_or-set_same values node value Zero inside) ∙ (ap (value_at (set values node value)) (sym same) ∙ is)) in
              subst (λ (m : ℕ). IsForced netlist listed m b) (sym same) (subst (IsForced netlist listed node) e forced)
              )
          | inr differ ↦ sound.forced n b few (sym (others n differ) ∙ is)
        ];
      }

  -- values in which each node rests
  abbrev HaveRest : List Tri → Type 0
  HaveRest values = Sound values × ((node : ℕ) → node < length netlist.names → IsAtRest values node)

  -- each node rests, or one node more gets its bit
  rest-or-less : (values : List Tri) → Sound values → HaveRest values ⊎ ((next : List Tri) × Sound next × (unknown_count next + 1 ≡ unknown_count values))
  rest-or-less values sound =
      elim (find-bad (IsAtRest values) (CanBeSet values) 0 (length netlist.names) (λ node above below. rests-or-not values node sound (omega (arith, below)))) [
        | inl all ↦ inl (sound, λ node inside. all node (omega arith) (omega (arith, inside)))
        | inr found ↦ (
            let node = found.0 in
            let bit = found.3.0 in
            let inside : node < length values = omega (arith, found.2, sound.long, length-network_of netlist circuit) in
            inr (
              set values node (tri_of bit),
              sound-set values node bit sound inside found.3.1 found.3.2,
              unknown_count-less values node (tri_of bit) inside found.3.1 (known≢unknown (tri_of bit) bit refl),
            )
            )
      ]

  -- values are set until each node rests
  comes-to-rest : (most : ℕ) (values : List Tri) → unknown_count values ≤ most → Sound values → (last : List Tri) × HaveRest last
  comes-to-rest zero values few sound = elim (rest-or-less values sound) [
    | inl rest ↦ (values, rest)
    | inr less ↦ absurd (omega (arith, few, less.2))
  ]
  comes-to-rest (suc most) values few sound = elim (rest-or-less values sound) [
    | inl rest ↦ (values, rest)
    | inr less ↦ comes-to-rest most less.0 (omega (arith, few, less.2)) less.1
  ]

  -- the listed values, and X where none is listed
  first-values : List Tri
  first-values = map (λ var. listed_value (slice_get listed var)) (range_with_len 0 (length (network_of netlist)))

  first-sound : Sound first-values
  unfolding first-values
  first-sound =
      let at : (node : ℕ) → node < length netlist.names → value_at first-values node ≡ listed_value (slice_get listed node) =
      λ node few. get_or-map-range_with_len (λ var. listed_value (slice_get listed var)) 0 (length (network_of netlist)) node node Zero (omega (arith, few, length-network_of netlist circuit)) (omega arith) in
      record {
        long = length-map-range_with_len (λ var. listed_value (slice_get listed var)) 0 (length (network_of netlist));
        agrees = λ node bit e. at node (inside-listed node (Some bit) e) ∙ ap listed_value e;
        forced = λ node bit few known.
            let entry : slice_get listed node ≡ Some (get_or listed node None) = slice_get-get_or listed node None (omega (arith, few, listed_long)) in
            let value : listed_value (Some (get_or listed node None)) ≡ tri_of bit = sym (at node few ∙ ap listed_value entry) ∙ known in
            forced-listed netlist listed node bit (entry ∙ ap Some (listed-entry (get_or listed node None) bit value));
      }

  -- a node that has a value is forced to it, and each other node is open
  values-exist : (values : List Tri) × AreForcedValues netlist listed values
  values-exist =
      let last = comes-to-rest (unknown_count first-values) first-values (omega arith) first-sound in
      let values = last.0 in
      let sound = last.1.0 in
      let rests = last.1.1 in
      let closed : IsClosed netlist listed (value_at values) = record {
        agrees = sound.agrees;
        carries = λ cut node bit is_cut is_data none known. rests cut (omega (arith, is_cut.1, circuit.nodes)) none bit (inl (node, is_cut, is_data, known));
        closed = λ gate bit is_gate none known. rests gate is_gate.1 none bit (inr (is_gate, known));
      } in (
        values,
        record {
          long = sound.long;
          forced = sound.forced;
          opens = λ node few unknown bit forced. known≢unknown (value_at values node) bit (closed-forced netlist listed (value_at values) node bit closed forced) unknown;
        },
      )

  -- a listing is open, unstable or accepted
  decided : ListsInputs netlist listed → HasOpenNode netlist listed ⊎ (HasUnstableGate netlist listed ⊎ GivesStart netlist listed)
  decided inputs =
      let values = values-exist.0 in
      let forced = values-exist.1 in
      let names = length netlist.names in
      let first = primary_inputs netlist in
      let nodes : first + (names - first) ≡ names = omega (arith, circuit.nodes) in
      elim (find-bad (λ node. value_at values node ≢ Unknown) (λ node. value_at values node ≡ Unknown) first (names - first) (λ node above below. known-or-not (value_at values node))) [
        | inr found ↦ inl (
          found.0,
          least-open netlist listed values circuit inputs forced found.0 (record {
            above = found.1;
            is_node = omega (arith, found.2, nodes);
            is_unknown = found.3;
            least = found.4;
          }),
        )
        | inl known ↦ inr (completed (expansion_of netlist (map bit_or_zero (take names values)))
            (completed-start netlist listed values circuit inputs forced (expansion_of netlist (map bit_or_zero (take names values))) (λ node above below. known node above (omega (arith, below, nodes))) refl))
      ]
    where
      completed : (state : List Bool) → IsCompletedStart netlist listed state → HasUnstableGate netlist listed ⊎ GivesStart netlist listed
      completed state is =
          let count = length netlist.names - netlist.inputs in
          let gates : netlist.inputs + count ≡ length netlist.names = omega (arith, circuit.nodes) in
          let excited : ℕ → Bool = excitation (network_of netlist) (take netlist.inputs state) state in
          elim (find-bad (λ gate. bit_at state gate ≡ excited gate) (λ gate. bit_at state gate ≢ excited gate) netlist.inputs count (λ gate above below. same-bit (bit_at state gate) (excited gate))) [
            | inr found ↦ inl (
              found.0,
              least-unstable netlist listed state found.0 is (record {
                is_gate = (found.1, omega (arith, found.2, gates));
                is_unstable = found.3;
                least = found.4;
              }),
            )
            | inl stable ↦ inr (state, accepted-start netlist listed state circuit is (λ gate is_gate. stable gate is_gate.0 (omega (arith, is_gate.1, gates))))
          ]

-- and exactly one of these
pub starts-decided : StartsAreDecided
starts-decided netlist listed circuit long inputs =
    record {
      one = decided netlist listed circuit long inputs;
      not_first_and_second = λ opened unstable. open-not-unstable netlist listed opened.0 unstable.0 opened.1 unstable.1;
      not_first_and_third = λ opened start. completed-not-open netlist listed start.0 opened.0 start.1.completed opened.1;
      not_second_and_third = λ unstable start. accepted-not-unstable netlist listed start.0 unstable.0 circuit start.1 unstable.1;
    }
