-- What planes hold in a lane, from stage to stage, and what is read of it.
use Rattle.std.proofs.Common.{◌≡◌, ◌≢◌, ℕ, zero, suc, ◌-◌, ◌<◌, ◌≤◌, Bool, true, false, Option, List, [], length, map, take, get_or, refl, sym, ap, ◌∙◌, subst, arith, inl, inr, nat_eq}
use Rattle.std.proofs.lemmas.Bool.{cases_lt}
use Rattle.std.proofs.lemmas.List.{length-map, length-take, get_or-take, get_or-map}
use Rattle.hz_core.specs.declared.tri.Tri.{Tri}
use Rattle.hz_core.specs.declared.tri.Tri.TheVariants.{Zero, One, Unknown}
use Rattle.hz_core.specs.Ternary.{tri_of, admits, AllBelow}
use Rattle.hz_core.specs.Netlist.{Netlist, IsCircuit}
use Rattle.hz_net.specs.Network.{Driver, Source, network_of, driver_at, value_at, bit_at}
use Rattle.hz_net.specs.Passes.{excitations, algorithm_a, algorithm_b, AreRounds, IsResult}
use Rattle.hz_net.specs.TernaryStarts.{algorithm_a_from, SettlesTo}
use Rattle.hz_net.specs.Starts.{IsForced, IsCompletedStart}
use Rattle.hz_net.proofs.TernaryStarts.{bits_are_a_case, AllBelow-result-from}
use Rattle.hz_net.proofs.Derivations.{forced_once}
use Rattle.hz_net.proofs.Places.{length-network_of}
use Rattle.hz_net.proofs.Wires.{IsWireFrom-driver_at}
use Rattle.hz_net.proofs.Ranks.{at-tri_of}
use Rattle.hz_plane.specs.declared.pair.Pair.{Pair}
use Rattle.hz_plane.specs.declared.stage.Stage.{Stage}
use Rattle.hz_plane.specs.declared.stage.Stage.TheVariants.{Loading, Completed, Spread, Settled}
use Rattle.hz_plane.specs.Bits.{lane_bit, bit_number, has_lane, HasValue}
use Rattle.hz_plane.specs.Pairs.{pair_at}
use Rattle.hz_plane.specs.Steps.{HasLane, all_values}
use Rattle.hz_plane.specs.Lanes.{AreForcedNodes, AreAllOf, HasInputs, IsFilledStart}
use Rattle.hz_plane.specs.Loads.{Loaded, lane_input}
use Rattle.hz_plane.specs.Faults.{IsUnknownIn, AreUnknownLanes}
use Rattle.hz_plane.specs.View.{value_by, IsNodeOf, LaneHolds, IsLaneValue, IsFilledValue, HasUnknown, IsUnsettled, LeavesUnknown}
use Rattle.hz_plane.proofs.LaneSets.{lane_bit-lt}
use Rattle.hz_plane.proofs.Wholes.{source_of, source-inside, at-node, at-wire, drives-wire, length-all_values, same-values}
use Rattle.hz_plane.proofs.PassLanes.{start-wires}
use Rattle.hz_plane.proofs.FaultResults.{value-unknown, unknown-value}

-- a lane's input is what its sets have
pub set-bit : (n : ℕ) → n < 2 → n ≡ bit_number (nat_eq n 1)
set-bit zero h = refl
set-bit (suc zero) h = refl
set-bit (suc (suc n)) h = absurd (omega (arith, h))

pub has-inputs : (inputs : List (List ℕ)) (lane : ℕ) (input : List Bool) → lane_input inputs lane ≡ input → HasInputs inputs lane input
has-inputs inputs lane input is = subst (HasInputs inputs lane) is (record {
  long = length-map inputs (λ set. has_lane set lane);
  each = λ i inside.
      set-bit (lane_bit (get_or inputs i []) lane) (lane_bit-lt (get_or inputs i []) lane)
      ∙ ap bit_number (sym (get_or-map (λ set. has_lane set lane) inputs i [] false inside));
})

-- listed values force one list of nodes
forced-nodes-once : (netlist : Netlist) (listed : List (Option Bool)) (nodes others : List Tri) → AreForcedNodes netlist listed nodes → AreForcedNodes netlist listed others → nodes ≡ others
forced-nodes-once netlist listed nodes others here there =
    same-values nodes others (here.count ∙ sym there.count) (λ node few.
    same node (omega (arith, few, here.count)) (value_at nodes node) (value_at others node) refl refl)
  where
    same : (node : ℕ) → node < length netlist.names → (value other : Tri) → value_at nodes node ≡ value → value_at others node ≡ other → value ≡ other
    same node inside Zero Zero is too = refl
    same node inside Zero One is too = ap tri_of (forced_once netlist listed node false true (here.forced node false inside is) (there.forced node true inside too))
    same node inside Zero Unknown is too = absurd (there.opens node inside too false (here.forced node false inside is))
    same node inside One Zero is too = ap tri_of (forced_once netlist listed node true false (here.forced node true inside is) (there.forced node false inside too))
    same node inside One One is too = refl
    same node inside One Unknown is too = absurd (there.opens node inside too true (here.forced node true inside is))
    same node inside Unknown Zero is too = absurd (here.opens node inside is false (there.forced node false inside too))
    same node inside Unknown One is too = absurd (here.opens node inside is true (there.forced node true inside too))
    same node inside Unknown Unknown is too = refl

-- so forced nodes are those of the filled start
filled-of : (netlist : Netlist) (listed : List (Option Bool)) (first nodes : List Tri) → IsFilledStart netlist listed first → AreForcedNodes netlist listed nodes → AreAllOf netlist first nodes
filled-of netlist listed first nodes filled forced =
    subst (AreAllOf netlist first) (forced-nodes-once netlist listed filled.nodes nodes filled.forced forced) filled.whole

filled-long : (netlist : Netlist) (circuit : IsCircuit netlist) (listed : List (Option Bool)) (first : List Tri) → IsFilledStart netlist listed first → length first ≡ length (network_of netlist)
filled-long netlist circuit listed first filled = sym (ap (length {A = Tri}) filled.whole.whole) ∙ length-all_values netlist circuit filled.nodes filled.whole.count

module _ (netlist : Netlist) (circuit : IsCircuit netlist) (loaded : Loaded) (before after : List Pair) (lane : ℕ) where
  pub holds-spread :
      (inputs : List (List ℕ)) → lane_input inputs lane ≡ loaded.input → LaneHolds Completed netlist loaded before lane →
      ((input : List Bool) (first nodes : List Tri) (rounds : ℕ) → HasLane before lane nodes → AreAllOf netlist first nodes → HasInputs inputs lane input → AreRounds (algorithm_a_from (network_of netlist) input first) rounds → (last : List Tri) × HasLane after lane last × AreAllOf netlist (algorithm_a_from (network_of netlist) input first rounds) last) →
      LaneHolds Spread netlist loaded after lane
  holds-spread inputs is was spreads first rounds filled rounded =
      spreads loaded.input first was.0 rounds was.1 (filled-of netlist loaded.listed first was.0 filled was.2) (has-inputs inputs lane loaded.input is) rounded

  pub holds-settled :
      (inputs : List (List ℕ)) → lane_input inputs lane ≡ loaded.input → LaneHolds Spread netlist loaded before lane →
      ((input : List Bool) (first nodes : List Tri) (rest : ℕ) → HasLane before lane nodes → AreAllOf netlist first nodes → HasInputs inputs lane input → AllBelow (excitations (network_of netlist) input first) first → AreRounds (algorithm_b (network_of netlist) input first) rest → (last : List Tri) × HasLane after lane last × AreAllOf netlist (algorithm_b (network_of netlist) input first rest) last) →
      LaneHolds Settled netlist loaded after lane
  holds-settled inputs is held settles first rounds rest filled rounded settled =
      let was = held first rounds filled rounded in
      settles loaded.input (algorithm_a_from (network_of netlist) loaded.input first rounds) was.0 rest was.1 was.2 (has-inputs inputs lane loaded.input is)
      (AllBelow-result-from (network_of netlist) loaded.input first rounds (filled-long netlist circuit loaded.listed first filled) rounded) settled

-- from a start of bits Algorithm A comes to the same as from their values
result-from-bits : (net : List Driver) (input start : List Bool) (rounds : ℕ) → AreRounds (algorithm_a net input start) rounds → IsResult (algorithm_a_from net input (map tri_of start)) (algorithm_a net input start rounds)
result-from-bits net input start rounds are =
    let same = bits_are_a_case net input start in (
      rounds,
      record {
        some = are.some;
        settled = sym (same rounds) ∙ (are.settled ∙ same (rounds - 1));
        least = λ k some few e. are.least k some few (same k ∙ (e ∙ sym (same (k - 1))));
      },
      same rounds,
    )

settles-from-bits : (net : List Driver) (input start : List Bool) (rounds rest : ℕ) → AreRounds (algorithm_a net input start) rounds → AreRounds (algorithm_b net input (algorithm_a net input start rounds)) rest → SettlesTo net input (map tri_of start) (algorithm_b net input (algorithm_a net input start rounds) rest)
settles-from-bits net input start rounds rest rounded settled = record {
  spread = algorithm_a net input start rounds;
  is_spread = result-from-bits net input start rounds rounded;
  is_settled = (rest, settled, refl);
}

-- what is read of a lane is its value
read-bits : (value : Tri) → value_by (nat_eq (bit_number (admits value false)) 1) (nat_eq (bit_number (admits value true)) 1) ≡ value
read-bits Zero = refl
read-bits One = refl
read-bits Unknown = refl

pub read-lane : (pair : Pair) (lane : ℕ) (value : Tri) → HasValue pair lane value → value_by (has_lane pair.zero lane) (has_lane pair.one lane) ≡ value
read-lane pair lane value has =
    ap (λ (n : ℕ). value_by (nat_eq n 1) (has_lane pair.one lane)) has.can_be_zero
    ∙ (ap (λ (n : ℕ). value_by (nat_eq (bit_number (admits value false)) 1) (nat_eq n 1)) has.can_be_one ∙ read-bits value)

-- the source of a wire, by what drives it
source-is : (netlist : Netlist) (circuit : IsCircuit netlist) (wire node : ℕ) → driver_at (network_of netlist) wire ≡ Source node → (length netlist.names ≤ wire) × (wire < length (network_of netlist)) × (node ≡ source_of netlist circuit wire)
unfolding source_of
source-is netlist circuit wire node driven = let from = IsWireFrom-driver_at netlist wire node circuit driven in (from.above, omega (arith, from.below, length-network_of netlist circuit), sym from.source)

module _ (netlist : Netlist) (circuit : IsCircuit netlist) where
  pub node-inside : (var node : ℕ) → IsNodeOf netlist var node → node < length netlist.names
  node-inside var node is = elim is [
    | inl own ↦ omega (arith, own.0, own.1)
    | inr driven ↦ (let wire = source-is netlist circuit var node driven in omega (arith, wire.2, source-inside netlist circuit var wire.0 wire.1))
  ]

  at-var : (state values : List Tri) (var node : ℕ) → AreAllOf netlist state values → IsNodeOf netlist var node → value_at values node ≡ value_at state var
  at-var state values var node are is =
      elim is [
        | inl own ↦ ap (value_at values) own.1 ∙ (sym (at-node netlist circuit values var are.count own.0) ∙ ap (λ (s : List Tri). value_at s var) are.whole)
        | inr driven ↦ (
            let wire = source-is netlist circuit var node driven in
            ap (value_at values) wire.2 ∙ (sym (at-wire netlist circuit values var are.count wire.0 wire.1) ∙ ap (λ (s : List Tri). value_at s var) are.whole)
            )
      ]

  -- a completed start is a filled one
  known-bit : (value : Tri) (here bit : Bool) → value ≡ tri_of here → value ≡ tri_of bit → here ≡ bit
  known-bit Zero false false is too = refl
  known-bit Zero false true is too = cc
  known-bit Zero true bit is too = cc
  known-bit One true true is too = refl
  known-bit One true false is too = cc
  known-bit One false bit is too = cc
  known-bit Unknown false bit is too = cc
  known-bit Unknown true bit is too = cc

  known-not : (value : Tri) (here : Bool) → value ≡ tri_of here → value ≡ Unknown → ⊥
  known-not value false is too = let e : tri_of false ≡ Unknown = sym is ∙ too in cc
  known-not value true is too = let e : tri_of true ≡ Unknown = sym is ∙ too in cc

  completed-filled : (listed : List (Option Bool)) (start : List Bool) → IsCompletedStart netlist listed start → IsFilledStart netlist listed (map tri_of start)
  completed-filled listed start completed =
      let count = length netlist.names in
      let state = map tri_of start in
      let size : length state ≡ length (network_of netlist) = length-map start tri_of ∙ completed.long in
      let nodes = take count state in
      let long : length nodes ≡ count = length-take count state ∙ omega (arith, size, length-network_of netlist circuit) in
      let at : (node : ℕ) → node < count → value_at nodes node ≡ tri_of (bit_at start node) =
      λ node inside. get_or-take count state node Zero inside ∙ at-tri_of start node in
      let all_long = length-all_values netlist circuit nodes long in
      record {
        nodes = nodes;
        forced = record {
          count = long;
          forced = λ node bit inside is. subst (IsForced netlist listed node) (known-bit (value_at nodes node) (bit_at start node) bit (at node inside) is) (completed.forced node inside);
          opens = λ node inside is. absurd (known-not (value_at nodes node) (bit_at start node) (at node inside) is);
        };
        whole = record {
          count = long;
          whole = same-values (all_values netlist nodes) state (all_long ∙ sym size) (λ i few.
              let inside : i < length (network_of netlist) = omega (arith, few, all_long) in
              elim (cases_lt i count) [
                | inl node ↦ at-node netlist circuit nodes i long node ∙ get_or-take count state i Zero node
                | inr wire ↦ (
                    let source = source_of netlist circuit i in
                    let from = source-inside netlist circuit i wire inside in
                    at-wire netlist circuit nodes i long wire inside
                    ∙ (at source from ∙ (ap tri_of (sym (start-wires netlist circuit listed start completed i wire inside)) ∙ sym (at-tri_of start i)))
                    )
              ]);
        };
      }

  -- what a settled lane holds
  settled-holds : (loaded : Loaded) (values : List Pair) (lane : ℕ) → LaneHolds Settled netlist loaded values lane → (first settled : List Tri) → IsFilledStart netlist loaded.listed first → SettlesTo (network_of netlist) loaded.input first settled → (last : List Tri) × HasLane values lane last × AreAllOf netlist settled last
  settled-holds loaded values lane held first settled filled settles =
      let net = network_of netlist in
      let a = settles.is_spread in
      let b = settles.is_settled in
      let was = held first a.0 b.0 filled a.1 (subst (λ (values : List Tri). AreRounds (algorithm_b net loaded.input values) b.0) a.2 b.1) in
      (was.0, was.1, subst (λ (state : List Tri). AreAllOf netlist state was.0) (sym (b.2 ∙ ap (λ (values : List Tri). algorithm_b net loaded.input values b.0) a.2)) was.2)

  pub filled-value : (stage : Stage) (loaded : Loaded) (values : List Pair) (lane var node : ℕ) (got : Tri) → stage ≢ Loading → IsNodeOf netlist var node → length values ≡ length netlist.names → LaneHolds stage netlist loaded values lane → ((value : Tri) → HasValue (pair_at values node) lane value → got ≡ value) → IsFilledValue stage netlist loaded var got
  filled-value Loading loaded values lane var node got begun is count held reads = absurd (begun refl)
  filled-value Completed loaded values lane var node got begun is count held reads =
      λ first filled.
      reads (value_at held.0 node) (held.1.each node (omega (arith, node-inside var node is, count)))
      ∙ at-var first held.0 var node (filled-of netlist loaded.listed first held.0 filled held.2) is
  filled-value Spread loaded values lane var node got begun is count held reads =
      λ first spread filled result.
      let was = held first result.0 filled result.1 in
      reads (value_at was.0 node) (was.1.each node (omega (arith, node-inside var node is, count)))
      ∙ (at-var _ was.0 var node was.2 is ∙ ap (λ (s : List Tri). value_at s var) (sym result.2))
  filled-value Settled loaded values lane var node got begun is count held reads =
      λ first settled filled settles.
      let was = settled-holds loaded values lane held first settled filled settles in
      reads (value_at was.0 node) (was.1.each node (omega (arith, node-inside var node is, count))) ∙ at-var settled was.0 var node was.2 is

  -- the same of the start that listed values give, as Algorithm A begins with its bits
  pub lane-value : (stage : Stage) (loaded : Loaded) (var : ℕ) (got : Tri) → IsFilledValue stage netlist loaded var got → IsLaneValue stage netlist loaded var got
  lane-value Loading loaded var got says = says
  lane-value Completed loaded var got says =
      λ start accepted. says (map tri_of start) (completed-filled loaded.listed start accepted.completed) ∙ at-tri_of start var
  lane-value Spread loaded var got says =
      λ start rounds accepted rounded.
      says (map tri_of start) (algorithm_a (network_of netlist) loaded.input start rounds) (completed-filled loaded.listed start accepted.completed)
      (result-from-bits (network_of netlist) loaded.input start rounds rounded)
  lane-value Settled loaded var got says =
      λ start rounds rest accepted rounded settled.
      says (map tri_of start) (algorithm_b (network_of netlist) loaded.input (algorithm_a (network_of netlist) loaded.input start rounds) rest) (completed-filled loaded.listed start accepted.completed)
      (settles-from-bits (network_of netlist) loaded.input start rounds rest rounded settled)

  -- the node that a variable takes its value from
  node-for : (var : ℕ) → var < length (network_of netlist) → (node : ℕ) × IsNodeOf netlist var node
  node-for var inside = elim (cases_lt var (length netlist.names)) [
    | inl own ↦ (var, inl (own, refl))
    | inr wire ↦ (source_of netlist circuit var, inr (drives-wire netlist circuit var wire inside))
  ]

  unknown-among : (state : List Tri) (last : List Tri) (values : List Pair) (lane : ℕ) (answer : Bool) → length values ≡ length netlist.names → HasLane values lane last → AreAllOf netlist state last →
      (answer ≡ true → (node : ℕ) × (node < length values) × IsUnknownIn values lane node) → (answer ≡ false → (node : ℕ) → node < length values → IsUnknownIn values lane node → ⊥) → HasUnknown state answer
  unknown-among state last values lane true count has are some none =
      let there = some refl in
      let own : IsNodeOf netlist there.0 there.0 = inl (omega (arith, there.1, count), refl) in
      let size : length state ≡ length (network_of netlist) = sym (ap (length {A = Tri}) are.whole) ∙ length-all_values netlist circuit last are.count in
      (there.0, omega (arith, there.1, count, size, length-network_of netlist circuit), sym (at-var state last there.0 there.0 are own) ∙ value-unknown (pair_at values there.0) lane (value_at last there.0) (has.each there.0 there.1) there.2)
  unknown-among state last values lane false count has are some none = λ var inside unknown.
      let size : length state ≡ length (network_of netlist) = sym (ap (length {A = Tri}) are.whole) ∙ length-all_values netlist circuit last are.count in
      let source = node-for var (omega (arith, inside, size)) in
      let node = source.0 in
      let below : node < length values = omega (arith, node-inside var node source.1, count) in
      none refl node below (unknown-value (pair_at values node) lane (value_at last node) (has.each node below) (at-var state last var node are source.1 ∙ unknown))

  pub filled-unsettled : (loaded : Loaded) (values : List Pair) (set : List ℕ) (lane : ℕ) → lane < 512 → length values ≡ length netlist.names → LaneHolds Settled netlist loaded values lane → AreUnknownLanes values (length values) set → LeavesUnknown netlist loaded (has_lane set lane)
  filled-unsettled loaded values set lane inside count held are first settled filled settles =
      let was = settled-holds loaded values lane held first settled filled settles in
      unknown-among settled was.0 values lane (has_lane set lane) count was.1 was.2 (are lane inside).0 (are lane inside).1

  pub unsettled-lane : (loaded : Loaded) (answer : Bool) → LeavesUnknown netlist loaded answer → IsUnsettled netlist loaded answer
  unsettled-lane loaded answer says start rounds rest accepted rounded settled =
      says (map tri_of start) (algorithm_b (network_of netlist) loaded.input (algorithm_a (network_of netlist) loaded.input start rounds) rest) (completed-filled loaded.listed start accepted.completed)
      (settles-from-bits (network_of netlist) loaded.input start rounds rest rounded settled)
