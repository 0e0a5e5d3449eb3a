-- The watched variables: how many there are, and which are left after a step.
use Rattle.std.proofs.Common.{◌≡◌, ◌≢◌, ℕ, zero, suc, ◌+◌, ◌-◌, ◌<◌, ◌≤◌, ◌⊎◌, Bool, true, false, not, ◌&&◌, ◌||◌, cond, List, [], ◌∷◌, length, map, set, replicate, All, refl, sym, ap, ◌∙◌, subst, arith, inl, inr}
use Rattle.std.specs.Prelude.{count_by, sum_by}
use Rattle.std.specs.Bool.{beq}
use Rattle.std.specs.List.{range_with_len}
use Rattle.std.proofs.lemmas.Bool.{cases_lt, cases_eq, cases_Bool, false≢true, true_from_ne_false, false_from_ne_true, not-false, or_right, lt-ltb, le-ltb}
use Rattle.std.proofs.lemmas.List.{length-set, get_or-set_same, get_or-set_other}
use Rattle.std.proofs.lemmas.List.FromFn.{get_or-map-range_with_len}
use Rattle.std.proofs.lemmas.List.Elements.{All-head, All-tail}
use Rattle.std.proofs.lemmas.List.Sums.{sum_by-cons}
use Rattle.hz_net.specs.declared.variable.VarKind.TheVariants.{Input, Gate as GateVariable, Wire as WireVariable}
use Rattle.hz_core.specs.declared.kind.Kind.{Kind}
use Rattle.hz_core.specs.Netlist.{Netlist, IsCircuit}
use Rattle.hz_net.specs.Network.{Driver, External, Function, Source, network_of, driver_at, bit_at, excitation, IsUnstable}
use Rattle.hz_net.specs.Variables.{fan_out_of}
use Rattle.hz_net.specs.Reads.{Reads, IsWireInto, IsWired}
use Rattle.hz_net.specs.declared.variable.VarKind.{VarKind}
use Rattle.hz_net.proofs.Places.{length-network_of, driver_at-wire}
use Rattle.hz_net.proofs.Wires.{IsWireFrom-node, IsWireFrom-driver_at}
use Rattle.hz_net.proofs.Wired.{wired-network_of, is_gate_of}
use Rattle.hz_lists.specs.Listed.{is_listed, IsRepeatFree}
use Rattle.hz_gmw.specs.Runs.{IsStep, state_after}
use Rattle.hz_gmw.specs.Instability.{is_unstable, unstable_variables, unstable_count}
use Rattle.hz_gmw.specs.VariableSets.{AreMembers}
use Rattle.hz_gmw.specs.CurrentState.{unstable_from, with_marks}
use Rattle.hz_net.specs.Driven.{IsDrivenAs}
use Rattle.hz_gmw.specs.Replayer.{Replayer, watched_after}
use Rattle.hz_gmw.specs.Watches.{lapses, is_watched, watched_variables, unstable_unchanged, RecordsStable}
use Rattle.hz_gmw.proofs.Bits.{beq-same}
use Rattle.hz_gmw.proofs.Flips.{at-state_after}
use Rattle.hz_gmw.proofs.Marks.{at-with_marks}
use Rattle.hz_lists.proofs.ListedLemmas.{listed-first, listed-tail, first-or-later, listed-other, All-listed}
use Rattle.hz_gmw.proofs.Counting.{weight, range-same, range-none, range-one, range-listed, list-same}
use Rattle.hz_gmw.proofs.SetLemmas.{unmarked}
use Rattle.hz_gmw.proofs.DriverLemmas.{fan-driver, driver-fan, node-once, node-inside}
use Rattle.hz_gmw.proofs.Counts.{zeros, nothing, counted-unstable, nodes-among, wire-unstable}
use Rattle.hz_gmw.proofs.Unchanged.{some-read, is_unstable-unread}

-- nothing is noted
pub notes-none : (net : List Driver) (input state marks : List Bool) → RecordsStable net input state [] marks marks
notes-none net input state marks = record {
  long = refl;
  kept = λ i marked. marked;
  only = λ i marked. inl marked;
  every = λ gate wire there into stable. absurd (false≢true there);
}

-- one variable is noted, then the others
pub notes-then : (net : List Driver) (input state first now next : List Bool) (x : ℕ) (list : List ℕ) → RecordsStable net input state (x ∷ []) first now → RecordsStable net input state list now next → RecordsStable net input state (x ∷ list) first next
notes-then net input state first now next x list one rest = record {
  long = rest.long ∙ one.long;
  kept = λ i marked. rest.kept i (one.kept i marked);
  only = λ i marked. elim (rest.only i marked) [
    | inl before ↦ one.only i before
    | inr stable ↦ inr stable
  ];
  every = λ gate wire there into stable. elim (first-or-later wire x list there) [
    | inl here ↦ rest.kept gate (one.every gate wire (listed-first wire x [] here) into stable)
    | inr later ↦ rest.every gate wire later into stable
  ];
}

-- a variable that goes into no gate
pub notes-node : (net : List Driver) (input state marks : List Bool) (var : ℕ) → ((gate : ℕ) → IsWireInto net gate var → ⊥) → RecordsStable net input state (var ∷ []) marks marks
notes-node net input state marks var none = record {
  long = refl;
  kept = λ i marked. marked;
  only = λ i marked. inl marked;
  every = λ gate wire there into stable. elim (first-or-later wire var [] there) [
    | inl here ↦ absurd (none gate (subst (IsWireInto net gate) here into))
    | inr rest ↦ absurd (false≢true rest)
  ];
}

-- a node goes into none
pub node-into : (netlist : Netlist) (node gate : ℕ) → IsCircuit netlist → node < length netlist.names → IsWireInto (network_of netlist) gate node → ⊥
node-into netlist node gate circuit inside into =
    let place = (is_gate_of netlist circuit gate into.kind into.first into.pins into.driven).first_is in
    let above : into.first ≤ node = into.above in
    omega (arith, place, above, inside)

-- a variable that is no wire goes into none
pub no-wire-into : (netlist : Netlist) (var : ℕ) (kind : VarKind) → IsCircuit netlist → IsDrivenAs netlist var kind → ((gate pin source : ℕ) → kind ≡ WireVariable gate pin source → ⊥) → (gate : ℕ) → IsWireInto (network_of netlist) gate var → ⊥
no-wire-into netlist var (Input number) circuit at other gate into = node-into netlist var gate circuit at.is_node into
no-wire-into netlist var (GateVariable kind) circuit at other gate into = node-into netlist var gate circuit at.is_gate.1 into
no-wire-into netlist var (WireVariable named pin source) circuit at other gate into = other named pin source refl

-- a wire whose gate is unstable
pub notes-unstable : (netlist : Netlist) (input state marks : List Bool) (gate wire : ℕ) → IsCircuit netlist → IsWireInto (network_of netlist) gate wire → is_unstable (network_of netlist) input state gate ≡ true → RecordsStable (network_of netlist) input state (wire ∷ []) marks marks
notes-unstable netlist input state marks gate wire circuit into unstable = record {
  long = refl;
  kept = λ i marked. marked;
  only = λ i marked. inl marked;
  every = λ other listed there its stable. elim (first-or-later listed wire [] there) [
    | inl here ↦ (
        let wired : IsWired (network_of netlist) = wired-network_of netlist circuit in
        let same : other ≡ gate = wired.own other gate wire (subst (IsWireInto (network_of netlist) other) here its) into in
        absurd (false≢true (sym stable ∙ (ap (is_unstable (network_of netlist) input state) same ∙ unstable)))
        )
    | inr rest ↦ absurd (false≢true rest)
  ];
}

-- and one whose gate is stable
pub notes-stable : (netlist : Netlist) (input state marks : List Bool) (gate wire : ℕ) → IsCircuit netlist → IsWireInto (network_of netlist) gate wire → gate < length marks → is_unstable (network_of netlist) input state gate ≡ false → RecordsStable (network_of netlist) input state (wire ∷ []) marks (set marks gate true)
notes-stable netlist input state marks gate wire circuit into inside stable = record {
  long = length-set marks gate true;
  kept = λ i marked. elim (cases_eq i gate) [
    | inl same ↦ ap (bit_at (set marks gate true)) same ∙ get_or-set_same marks gate true false inside
    | inr other ↦ get_or-set_other marks gate i true false other ∙ marked
  ];
  only = λ i marked. elim (cases_eq i gate) [
    | inl same ↦ inr (ap (is_unstable (network_of netlist) input state) same ∙ stable)
    | inr other ↦ inl (sym (get_or-set_other marks gate i true false other) ∙ marked)
  ];
  every = λ other listed there its still. elim (first-or-later listed wire [] there) [
    | inl here ↦ (
        let wired : IsWired (network_of netlist) = wired-network_of netlist circuit in
        let same : other ≡ gate = wired.own other gate wire (subst (IsWireInto (network_of netlist) other) here its) into in
        ap (bit_at (set marks gate true)) same ∙ get_or-set_same marks gate true false inside
        )
    | inr rest ↦ absurd (false≢true rest)
  ];
}

-- whether a variable lapsed depends on the values of the two tests alone
pub lapses-same : (driver : Driver) (c d s t : ℕ → Bool) (i : ℕ) → ((j : ℕ) → c j ≡ d j) → s i ≡ t i → lapses driver c s i ≡ lapses driver d t i
lapses-same (External place) c d s t i left right = ap (λ (b : Bool). b || s i) (left i) ∙ ap (λ (b : Bool). d i || b) right
lapses-same (Function kind first pins) c d s t i left right = ap (λ (b : Bool). b || s i) (left i) ∙ ap (λ (b : Bool). d i || b) right
lapses-same (Source node) c d s t i left right = left node

pub watched-same : (net : List Driver) (input state : List Bool) (c d s t : ℕ → Bool) (i : ℕ) → ((j : ℕ) → c j ≡ d j) → s i ≡ t i → is_watched net input state c s i ≡ is_watched net input state d t i
watched-same net input state c d s t i left right = ap (λ (b : Bool). is_unstable net input state i && not b) (lapses-same (driver_at net i) c d s t i left right)

-- the members of a set are those that are marked
pub members-listed : (marks : List Bool) (list : List ℕ) → AreMembers marks list → (i : ℕ) → is_listed list i ≡ bit_at marks i
members-listed marks list are i = elim (cases_Bool (bit_at marks i)) [
  | inl marked ↦ are.every i marked ∙ sym marked
  | inr missing ↦ false_from_ne_true (is_listed list i) (λ there. false≢true (sym missing ∙ All-listed (λ (v : ℕ). bit_at marks v ≡ true) list i are.marked there)) ∙ sym missing
]

abbrev pub never : ℕ → Bool
never i = false

and-true : (a : Bool) → a && true ≡ a
and-true true = refl
and-true false = refl

pub and-false : (a : Bool) → a && false ≡ false
and-false true = refl
and-false false = refl

pub or-false : (a : Bool) → a || false ≡ a
or-false true = refl
or-false false = refl

never-lapses : (driver : Driver) (i : ℕ) → lapses driver never never i ≡ false
never-lapses (External place) i = refl
never-lapses (Function kind first pins) i = refl
never-lapses (Source node) i = refl

-- with nothing noted the unstable variables are watched
pub watched-none : (net : List Driver) (input state : List Bool) (c s : ℕ → Bool) (i : ℕ) → ((j : ℕ) → c j ≡ false) → ((j : ℕ) → s j ≡ false) → is_watched net input state c s i ≡ is_unstable net input state i
watched-none net input state c s i left right =
    watched-same net input state c never s never i left (right i) ∙
    (ap (λ (b : Bool). is_unstable net input state i && not b) (never-lapses (driver_at net i) i) ∙ and-true (is_unstable net input state i))

-- a listed node lapses, and so do the wires from it; where it is not listed they don't, on its account
node-lapses : (netlist : Netlist) (x : ℕ) (list : List ℕ) (i : ℕ) → IsCircuit netlist → x < length netlist.names → is_listed (x ∷ fan_out_of netlist x) i ≡ true → lapses (driver_at (network_of netlist) i) (is_listed (x ∷ list)) never i ≡ true
node-lapses netlist x list i circuit inside there = elim (first-or-later i x (fan_out_of netlist x) there) [
  | inl same ↦ subst (λ (j : ℕ). lapses (driver_at (network_of netlist) j) (is_listed (x ∷ list)) never j ≡ true) (sym same) (own (driver_at (network_of netlist) x) refl)
  | inr wire ↦ ap (λ (d : Driver). lapses d (is_listed (x ∷ list)) never i) (fan-driver netlist x i circuit wire) ∙ listed-first x x list refl
]
  where
    own : (driver : Driver) → driver_at (network_of netlist) x ≡ driver → lapses driver (is_listed (x ∷ list)) never x ≡ true
    own (External place) e = or-false (is_listed (x ∷ list) x) ∙ listed-first x x list refl
    own (Function kind first pins) e = or-false (is_listed (x ∷ list) x) ∙ listed-first x x list refl
    own (Source node) e = (
        let into = (wired-network_of netlist circuit).gate x node e in
        absurd (node-into netlist x into.0 circuit inside into.1)
        )

node-stays : (netlist : Netlist) (x : ℕ) (list : List ℕ) (i : ℕ) → IsCircuit netlist → x < length netlist.names → is_listed list x ≡ false → is_listed (x ∷ fan_out_of netlist x) i ≡ true → lapses (driver_at (network_of netlist) i) (is_listed list) never i ≡ false
node-stays netlist x list i circuit inside new there = elim (first-or-later i x (fan_out_of netlist x) there) [
  | inl same ↦ subst (λ (j : ℕ). lapses (driver_at (network_of netlist) j) (is_listed list) never j ≡ false) (sym same) (own (driver_at (network_of netlist) x) refl)
  | inr wire ↦ ap (λ (d : Driver). lapses d (is_listed list) never i) (fan-driver netlist x i circuit wire) ∙ new
]
  where
    own : (driver : Driver) → driver_at (network_of netlist) x ≡ driver → lapses driver (is_listed list) never x ≡ false
    own (External place) e = or-false (is_listed list x) ∙ new
    own (Function kind first pins) e = or-false (is_listed list x) ∙ new
    own (Source node) e = (
        let into = (wired-network_of netlist circuit).gate x node e in
        absurd (node-into netlist x into.0 circuit inside into.1)
        )

-- a variable that is not around the node lapses as before
node-apart : (netlist : Netlist) (x : ℕ) (list : List ℕ) (i : ℕ) → IsCircuit netlist → is_listed (x ∷ fan_out_of netlist x) i ≡ false → lapses (driver_at (network_of netlist) i) (is_listed (x ∷ list)) never i ≡ lapses (driver_at (network_of netlist) i) (is_listed list) never i
node-apart netlist x list i circuit missing = by (driver_at (network_of netlist) i) refl
  where
    other : i ≢ x
    other same = false≢true (sym missing ∙ listed-first i x (fan_out_of netlist x) same)

    by : (driver : Driver) → driver_at (network_of netlist) i ≡ driver → lapses driver (is_listed (x ∷ list)) never i ≡ lapses driver (is_listed list) never i
    by (External place) e = ap (λ (b : Bool). b || false) (listed-other i x list other)
    by (Function kind first pins) e = ap (λ (b : Bool). b || false) (listed-other i x list other)
    by (Source node) e =
        listed-other node x list (λ same. false≢true (sym missing ∙ listed-tail i x (fan_out_of netlist x) (driver-fan netlist x i circuit (e ∙ ap Source same))))

-- a wire that is listed makes no variable lapse
wire-apart : (netlist : Netlist) (x : ℕ) (list : List ℕ) (i : ℕ) → IsCircuit netlist → length netlist.names ≤ x → x < length (network_of netlist) → lapses (driver_at (network_of netlist) i) (is_listed (x ∷ list)) never i ≡ lapses (driver_at (network_of netlist) i) (is_listed list) never i
wire-apart netlist x list i circuit above below = by (driver_at (network_of netlist) i) refl
  where
    wire : (source : ℕ) × (driver_at (network_of netlist) x ≡ Source source)
    wire = (_, driver_at-wire netlist x circuit above (omega (arith, below, length-network_of netlist circuit)))

    no-external : (source place : ℕ) (d : Driver) → d ≡ Source source → d ≡ External place → ⊥
    no-external source place d e f = cc

    no-function : (source : ℕ) (kind : Kind) (first pins : ℕ) (d : Driver) → d ≡ Source source → d ≡ Function kind first pins → ⊥
    no-function source kind first pins d e f = cc

    by : (driver : Driver) → driver_at (network_of netlist) i ≡ driver → lapses driver (is_listed (x ∷ list)) never i ≡ lapses driver (is_listed list) never i
    by (External place) e = ap (λ (b : Bool). b || false) (listed-other i x list (λ same. no-external wire.0 place (driver_at (network_of netlist) x) wire.1 (ap (driver_at (network_of netlist)) (sym same) ∙ e)))
    by (Function kind first pins) e = ap (λ (b : Bool). b || false) (listed-other i x list (λ same. no-function wire.0 kind first pins (driver_at (network_of netlist) x) wire.1 (ap (driver_at (network_of netlist)) (sym same) ∙ e)))
    by (Source node) e = listed-other node x list (λ same. (
        let low = IsWireFrom-node netlist i node circuit (IsWireFrom-driver_at netlist i node circuit e) in
        omega (arith, low, same, above)
        ))

module _ (netlist : Netlist) (circuit : IsCircuit netlist) (input state : List Bool) where
  -- Nodes that changed take themselves and the wires from them from the unstable variables, and what is left is watched.
  pub nodes-lapse : (list : List ℕ) → IsRepeatFree list → All (λ i. i < length (network_of netlist)) list → sum_by (unstable_from netlist input state) list + count_by (is_watched (network_of netlist) input state (is_listed list) never) (range_with_len 0 (length (network_of netlist))) ≡ count_by (is_unstable (network_of netlist) input state) (range_with_len 0 (length (network_of netlist)))
  nodes-lapse [] once inside =
      let none : sum_by (unstable_from netlist input state) [] ≡ 0 = refl in
      let same = range-same (λ i. weight (is_watched (network_of netlist) input state (is_listed []) never i)) (λ i. weight (is_unstable (network_of netlist) input state i)) 0 (length (network_of netlist)) (λ i from below.
      ap weight (watched-none (network_of netlist) input state (is_listed []) never i (λ j. refl) (λ j. refl))) in
      omega (arith, none, same)
  nodes-lapse (x ∷ list) once inside =
      let net = network_of netlist in
      let head : x < length net = All-head (λ (i : ℕ). i < length net) x list inside in
      let rest = nodes-lapse list once.1 (All-tail (λ (i : ℕ). i < length net) x list inside) in
      let whole = sum_by-cons (unstable_from netlist input state) x list in
      let f : ℕ → ℕ = λ i. weight (is_watched net input state (is_listed list) never i) in
      let g : ℕ → ℕ = λ i. weight (is_watched net input state (is_listed (x ∷ list)) never i) in
      elim (cases_lt x (length netlist.names)) [
        | inl node ↦ (
            let around = x ∷ fan_out_of netlist x in
            let sums = range-listed f g (length net) around (node-once netlist circuit x node) (node-inside netlist circuit x node) (λ i below missing.
            ap (λ (b : Bool). weight (is_unstable net input state i && not b)) (sym (node-apart netlist x list i circuit missing))) in
            let gone : sum_by g around ≡ 0 = list-same g nothing around (λ i there. ap (λ (b : Bool). weight (is_unstable net input state i && not b)) (node-lapses netlist x list i circuit node there) ∙ ap weight (and-false (is_unstable net input state i))) ∙ zeros around in
            let there : sum_by f around ≡ count_by (is_unstable net input state) around = list-same f (λ i. weight (is_unstable net input state i)) around (λ i there. ap (λ (b : Bool). weight (is_unstable net input state i && not b)) (node-stays netlist x list i circuit node once.0 there) ∙ ap weight (and-true (is_unstable net input state i))) in
            let weighs : unstable_from netlist input state x ≡ count_by (is_unstable net input state) around = ap (λ (b : Bool). cond b (count_by (is_unstable net input state) around) 0) (lt-ltb x (length netlist.names) node) in
            omega (arith, rest, whole, sums, gone, there, weighs)
            )
        | inr above ↦ (
            let same = range-same f g 0 (length net) (λ i from below. ap (λ (b : Bool). weight (is_unstable net input state i && not b)) (sym (wire-apart netlist x list i circuit above head))) in
            let weighs : unstable_from netlist input state x ≡ 0 = ap (λ (b : Bool). cond b (count_by (is_unstable net input state) (x ∷ fan_out_of netlist x)) 0) (le-ltb x (length netlist.names) above) in
            omega (arith, rest, whole, same, weighs)
            )
      ]

  -- a node that was stable lapses, and no other variable on its account
  stable-lapse : (changed : ℕ → Bool) (x : ℕ) (list : List ℕ) → x < length netlist.names → lapses (driver_at (network_of netlist) x) changed (is_listed (x ∷ list)) x ≡ true
  stable-lapse changed x list inside = by (driver_at (network_of netlist) x) refl
    where
      by : (driver : Driver) → driver_at (network_of netlist) x ≡ driver → lapses driver changed (is_listed (x ∷ list)) x ≡ true
      by (External place) e = or_right (changed x) (is_listed (x ∷ list) x) (listed-first x x list refl)
      by (Function kind first pins) e = or_right (changed x) (is_listed (x ∷ list) x) (listed-first x x list refl)
      by (Source node) e = (
          let into = (wired-network_of netlist circuit).gate x node e in
          absurd (node-into netlist x into.0 circuit inside into.1)
          )

  stable-stays : (changed : ℕ → Bool) (x : ℕ) (list : List ℕ) → x < length netlist.names → is_listed list x ≡ false → lapses (driver_at (network_of netlist) x) changed (is_listed list) x ≡ changed x
  stable-stays changed x list inside new = by (driver_at (network_of netlist) x) refl
    where
      by : (driver : Driver) → driver_at (network_of netlist) x ≡ driver → lapses driver changed (is_listed list) x ≡ changed x
      by (External place) e = ap (λ (b : Bool). changed x || b) new ∙ or-false (changed x)
      by (Function kind first pins) e = ap (λ (b : Bool). changed x || b) new ∙ or-false (changed x)
      by (Source node) e = (
          let into = (wired-network_of netlist circuit).gate x node e in
          absurd (node-into netlist x into.0 circuit inside into.1)
          )

  stable-apart : (driver : Driver) (changed : ℕ → Bool) (x : ℕ) (list : List ℕ) (i : ℕ) → i ≢ x → lapses driver changed (is_listed list) i ≡ lapses driver changed (is_listed (x ∷ list)) i
  stable-apart (External place) changed x list i other = ap (λ (b : Bool). changed i || b) (sym (listed-other i x list other))
  stable-apart (Function kind first pins) changed x list i other = ap (λ (b : Bool). changed i || b) (sym (listed-other i x list other))
  stable-apart (Source node) changed x list i other = refl

  -- Nodes that were stable and did not change take themselves from what is left.
  pub stable-lapses : (changed : ℕ → Bool) (list : List ℕ) → IsRepeatFree list → All (λ i. i < length netlist.names) list → count_by (unstable_unchanged (network_of netlist) input state changed) list + count_by (is_watched (network_of netlist) input state changed (is_listed list)) (range_with_len 0 (length (network_of netlist))) ≡ count_by (is_watched (network_of netlist) input state changed never) (range_with_len 0 (length (network_of netlist)))
  stable-lapses changed [] once inside =
      let none : count_by (unstable_unchanged (network_of netlist) input state changed) [] ≡ 0 = refl in
      omega (arith, none)
  stable-lapses changed (x ∷ list) once inside =
      let net = network_of netlist in
      let head : x < length netlist.names = All-head (λ (i : ℕ). i < length netlist.names) x list inside in
      let rest = stable-lapses changed list once.1 (All-tail (λ (i : ℕ). i < length netlist.names) x list inside) in
      let whole = sum_by-cons (λ (i : ℕ). weight (unstable_unchanged net input state changed i)) x list in
      let f : ℕ → ℕ = λ i. weight (is_watched net input state changed (is_listed list) i) in
      let g : ℕ → ℕ = λ i. weight (is_watched net input state changed (is_listed (x ∷ list)) i) in
      let sums = range-one f g 0 (length net) x (omega arith) (omega (arith, head, nodes-among netlist circuit)) (λ i from below other.
      ap (λ (b : Bool). weight (is_unstable net input state i && not b)) (stable-apart (driver_at net i) changed x list i other)) in
      let gone : g x ≡ 0 = ap (λ (b : Bool). weight (is_unstable net input state x && not b)) (stable-lapse changed x list head) ∙ ap weight (and-false (is_unstable net input state x)) in
      let there : f x ≡ weight (unstable_unchanged net input state changed x) = ap (λ (b : Bool). weight (is_unstable net input state x && not b)) (stable-stays changed x list head once.0) in
      omega (arith, rest, whole, sums, gone, there)

  -- how many are watched
  pub count-watched : (changed been_stable : List Bool) (moved still : List ℕ) → AreMembers changed moved → AreMembers been_stable still → length changed ≡ length (network_of netlist) → length been_stable ≡ length netlist.names → unstable_count (network_of netlist) input state - sum_by (unstable_from netlist input state) moved - count_by (unstable_unchanged (network_of netlist) input state (bit_at changed)) still ≡ count_by (is_watched (network_of netlist) input state (bit_at changed) (bit_at been_stable)) (range_with_len 0 (length (network_of netlist)))
  count-watched changed been_stable moved still are are_too long long_too =
      let net = network_of netlist in
      let n = length net in
      let first = nodes-lapse moved are.once (subst (λ (m : ℕ). All (λ (i : ℕ). i < m) moved) long are.inside) in
      let second = stable-lapses (bit_at changed) still are_too.once (subst (λ (m : ℕ). All (λ (i : ℕ). i < m) still) long_too are_too.inside) in
      let third = range-same (λ i. weight (is_watched net input state (is_listed moved) never i)) (λ i. weight (is_watched net input state (bit_at changed) never i)) 0 n (λ i from below.
      ap weight (watched-same net input state (is_listed moved) (bit_at changed) never never i (members-listed changed moved are) refl)) in
      let fourth = range-same (λ i. weight (is_watched net input state (bit_at changed) (is_listed still) i)) (λ i. weight (is_watched net input state (bit_at changed) (bit_at been_stable) i)) 0 n (λ i from below.
      ap weight (watched-same net input state (bit_at changed) (bit_at changed) (is_listed still) (bit_at been_stable) i (λ j. refl) (members-listed been_stable still are_too i))) in
      omega (arith, first, second, third, fourth, counted-unstable netlist input state)

-- whether a variable is watched, in the list of all
pub at-watched_variables : (net : List Driver) (input state : List Bool) (changed been_stable : ℕ → Bool) (i : ℕ) → i < length net → bit_at (watched_variables net input state changed been_stable) i ≡ is_watched net input state changed been_stable i
at-watched_variables net input state changed been_stable i inside = get_or-map-range_with_len (is_watched net input state changed been_stable) 0 (length net) i i false inside (omega arith)

weight-none : (b : Bool) → weight b ≡ 0 → b ≡ false
weight-none false e = refl
weight-none true e = absurd (omega (arith, e))

-- where the count is 0 none is watched
pub none-watched : (net : List Driver) (input state : List Bool) (changed been_stable : ℕ → Bool) (i : ℕ) → count_by (is_watched net input state changed been_stable) (range_with_len 0 (length net)) ≡ 0 → i < length net → is_watched net input state changed been_stable i ≡ false
none-watched net input state changed been_stable i none inside =
    weight-none (is_watched net input state changed been_stable i) (range-none (λ j. weight (is_watched net input state changed been_stable j)) 0 (length net) i (omega arith) (omega (arith, inside)) none)

-- the bits of a wire and its source, after both may have changed
xor-bits : (a s l n : Bool) → not (beq (cond l (not a) a) (cond n (not s) s)) ≡ not (beq (not (beq a s)) (not (beq l n)))
xor-bits true true true true = refl
xor-bits true true true false = refl
xor-bits true true false true = refl
xor-bits true true false false = refl
xor-bits true false true true = refl
xor-bits true false true false = refl
xor-bits true false false true = refl
xor-bits true false false false = refl
xor-bits false true true true = refl
xor-bits false true true false = refl
xor-bits false true false true = refl
xor-bits false true false false = refl
xor-bits false false true true = refl
xor-bits false false true false = refl
xor-bits false false false true = refl
xor-bits false false false false = refl

-- An unstable wire is watched after a step if its source did not change: had it changed alone, it would be stable.
wire-bits : (u c l n : Bool) → (l ≡ true → u ≡ true) → (let v = not (beq u (not (beq l n))) in v && not (c || n)) ≡ (let v = not (beq u (not (beq l n))) in ((u && not c) && not l) && v)
wire-bits true true true true step = refl
wire-bits true true true false step = refl
wire-bits true true false true step = refl
wire-bits true true false false step = refl
wire-bits true false true true step = refl
wire-bits true false true false step = refl
wire-bits true false false true step = refl
wire-bits true false false false step = refl
wire-bits false c true n step = absurd (false≢true (step refl))
wire-bits false true false true step = refl
wire-bits false true false false step = refl
wire-bits false false false true step = refl
wire-bits false false false false step = refl

-- a node is watched after a step if it did not change and was not stable
node-bits : (u v c l s t : Bool) → (s ≡ true → t ≡ true) → (t ≡ true → (s ≡ true) ⊎ (u ≡ false)) → (l ≡ false → u ≡ false → v ≡ true → t ≡ true) → (v && not ((c || l) || t)) ≡ (((u && not (c || s)) && not l) && v)
node-bits u false c l s t kept only turned = sym (and-false ((u && not (c || s)) && not l))
node-bits true true true l s t kept only turned = refl
node-bits false true true l s t kept only turned = refl
node-bits true true false true true t kept only turned = refl
node-bits true true false true false t kept only turned = refl
node-bits false true false true s t kept only turned = refl
node-bits true true false false true true kept only turned = refl
node-bits true true false false true false kept only turned = absurd (false≢true (kept refl))
node-bits true true false false false true kept only turned = elim (only refl) [
  | inl before ↦ absurd (false≢true before)
  | inr stable ↦ absurd (false≢true (sym stable))
]
node-bits true true false false false false kept only turned = refl
node-bits false true false false s true kept only turned = refl
node-bits false true false false s false kept only turned = absurd (false≢true (turned refl refl refl))

unstable-test : (net : List Driver) (input state : List Bool) (i : ℕ) → IsUnstable net input state i → is_unstable net input state i ≡ true
unstable-test net input state i unstable = true_from_ne_false (is_unstable net input state i) (λ stable. unstable (beq-same (bit_at state i) (excitation net input state i) (not-false (beq (bit_at state i) (excitation net input state i)) stable)))

-- Which variables are watched after a step.
pub watched-after : (netlist : Netlist) (input state : List Bool) (flips : List ℕ) (changed been_stable after : List Bool) (i : ℕ) → IsCircuit netlist → length state ≡ length (network_of netlist) → length changed ≡ length (network_of netlist) → IsStep (network_of netlist) input state flips → RecordsStable (network_of netlist) input state flips been_stable after → i < length (network_of netlist) →
    is_watched (network_of netlist) input (state_after flips state) (bit_at (with_marks changed flips)) (bit_at after) i
    ≡ (is_watched (network_of netlist) input state (bit_at changed) (bit_at been_stable) i && not (is_listed flips i)) && is_unstable (network_of netlist) input (state_after flips state) i
watched-after netlist input state flips changed been_stable after i circuit state_long changed_long step notes inside = by (driver_at (network_of netlist) i) refl
  where
    now : (j : ℕ) → j < length (network_of netlist) → bit_at (with_marks changed flips) j ≡ (bit_at changed j || is_listed flips j)
    now j below = at-with_marks changed flips j (omega (arith, below, changed_long))

    bit : (j : ℕ) → j < length (network_of netlist) → bit_at (state_after flips state) j ≡ cond (is_listed flips j) (not (bit_at state j)) (bit_at state j)
    bit j below = at-state_after flips state j (omega (arith, below, state_long))

    node : ((j : ℕ) → is_listed flips j ≡ true → Reads (driver_at (network_of netlist) i) j → IsWireInto (network_of netlist) i j) → (is_unstable (network_of netlist) input (state_after flips state) i && not (bit_at (with_marks changed flips) i || bit_at after i)) ≡ ((is_unstable (network_of netlist) input state i && not (bit_at changed i || bit_at been_stable i)) && not (is_listed flips i)) && is_unstable (network_of netlist) input (state_after flips state) i
    node into =
        ap (λ (b : Bool). is_unstable (network_of netlist) input (state_after flips state) i && not (b || bit_at after i)) (now i inside) ∙
        node-bits (is_unstable (network_of netlist) input state i) (is_unstable (network_of netlist) input (state_after flips state) i) (bit_at changed i) (is_listed flips i) (bit_at been_stable i) (bit_at after i) (notes.kept i) (notes.only i) (λ still stable turned.
        elim (some-read (driver_at (network_of netlist) i) flips) [
          | inl none ↦ absurd (false≢true (sym stable ∙ (sym (is_unstable-unread (network_of netlist) input state flips i still none) ∙ turned)))
          | inr found ↦ notes.every i found.0 found.1 (into found.0 found.1 found.2) stable
        ])

    by : (driver : Driver) → driver_at (network_of netlist) i ≡ driver → (is_unstable (network_of netlist) input (state_after flips state) i && not (lapses driver (bit_at (with_marks changed flips)) (bit_at after) i)) ≡ ((is_unstable (network_of netlist) input state i && not (lapses driver (bit_at changed) (bit_at been_stable) i)) && not (is_listed flips i)) && is_unstable (network_of netlist) input (state_after flips state) i
    by (External place) e = node (λ j there reads. absurd (subst (λ (d : Driver). Reads d j) e reads))
    by (Function kind first pins) e = node (λ j there reads.
        let pin : (first ≤ j) × (j < first + pins) = subst (λ (d : Driver). Reads d j) e reads in
        record { kind = kind; first = first; pins = pins; driven = e; above = pin.0; below = pin.1 })
    by (Source source) e =
        let low : source < length (network_of netlist) = (
        let node = IsWireFrom-node netlist i source circuit (IsWireFrom-driver_at netlist i source circuit e) in
        omega (arith, node, nodes-among netlist circuit)
        ) in
        let before = wire-unstable netlist input state i source e in
        let later : is_unstable (network_of netlist) input (state_after flips state) i ≡ not (beq (is_unstable (network_of netlist) input state i) (not (beq (is_listed flips i) (is_listed flips source)))) =
        wire-unstable netlist input (state_after flips state) i source e ∙
        (ap (λ (b : Bool). not (beq b (bit_at (state_after flips state) source))) (bit i inside) ∙
        (ap (λ (b : Bool). not (beq (cond (is_listed flips i) (not (bit_at state i)) (bit_at state i)) b)) (bit source low) ∙
        (xor-bits (bit_at state i) (bit_at state source) (is_listed flips i) (is_listed flips source) ∙
        ap (λ (b : Bool). not (beq b (not (beq (is_listed flips i) (is_listed flips source))))) (sym before)))) in
        let step_bits : is_listed flips i ≡ true → is_unstable (network_of netlist) input state i ≡ true = λ there. unstable-test (network_of netlist) input state i (step.unstable i there) in
        ap (λ (b : Bool). is_unstable (network_of netlist) input (state_after flips state) i && not b) (now source low) ∙
        (ap (λ (b : Bool). b && not (bit_at changed source || is_listed flips source)) later ∙
        (wire-bits (is_unstable (network_of netlist) input state i) (bit_at changed source) (is_listed flips i) (is_listed flips source) step_bits ∙
        ap (λ (b : Bool). ((is_unstable (network_of netlist) input state i && not (bit_at changed source)) && not (is_listed flips i)) && b) (sym later)))

map-same : (f g : ℕ → Bool) (start n : ℕ) → ((i : ℕ) → start ≤ i → i < start + n → f i ≡ g i) → map f (range_with_len start n) ≡ map g (range_with_len start n)
map-same f g start zero each = refl
map-same f g start (suc n) each =
    ap (λ (b : Bool). b ∷ map f (range_with_len (start + 1) n)) (each start (omega arith) (omega arith)) ∙
    ap (λ (bits : List Bool). g start ∷ bits) (map-same f g (start + 1) n (λ i from below. each i (omega (arith, from)) (omega (arith, below))))

-- with nothing noted the unstable variables are watched
pub watched-fresh : (net : List Driver) (input state changed been_stable : List Bool) (count nodes : ℕ) → changed ≡ replicate count false → been_stable ≡ replicate nodes false → watched_variables net input state (bit_at changed) (bit_at been_stable) ≡ unstable_variables net input state
watched-fresh net input state changed been_stable count nodes none none_too =
    map-same (is_watched net input state (bit_at changed) (bit_at been_stable)) (is_unstable net input state) 0 (length net) (λ i from below.
    watched-none net input state (bit_at changed) (bit_at been_stable) i (λ j. ap (λ (marks : List Bool). bit_at marks j) none ∙ unmarked count j) (λ j. ap (λ (marks : List Bool). bit_at marks j) none_too ∙ unmarked nodes j))

-- the watched variables after a step
pub watched-step : (now : Replayer) (flips : List ℕ) (changed been_stable changed' been_stable' input' state' : List Bool) → IsCircuit now.circuit → length now.state ≡ length (network_of now.circuit) → length changed ≡ length (network_of now.circuit) → IsStep (network_of now.circuit) now.input now.state flips → now.watched ≡ watched_variables (network_of now.circuit) now.input now.state (bit_at changed) (bit_at been_stable) → RecordsStable (network_of now.circuit) now.input now.state flips been_stable been_stable' → changed' ≡ with_marks changed flips → input' ≡ now.input → state' ≡ state_after flips now.state → watched_variables (network_of now.circuit) input' state' (bit_at changed') (bit_at been_stable') ≡ watched_after now flips
watched-step now flips changed been_stable changed' been_stable' input' state' circuit long changed_long step watched notes changed_is input_is state_is =
    let net = network_of now.circuit in
    let next = state_after flips now.state in
    ap (λ (input : List Bool). watched_variables net input state' (bit_at changed') (bit_at been_stable')) input_is ∙
    (ap (λ (state : List Bool). watched_variables net now.input state (bit_at changed') (bit_at been_stable')) state_is ∙
    (ap (λ (marks : List Bool). watched_variables net now.input next (bit_at marks) (bit_at been_stable')) changed_is ∙
    map-same (is_watched net now.input next (bit_at (with_marks changed flips)) (bit_at been_stable')) (λ i. (bit_at now.watched i && not (is_listed flips i)) && is_unstable net now.input next i) 0 (length net) (λ i from below.
    let inside : i < length net = omega (arith, below) in
    watched-after now.circuit now.input now.state flips changed been_stable been_stable' i circuit long changed_long step notes inside ∙
    ap (λ (b : Bool). (b && not (is_listed flips i)) && is_unstable net now.input next i) (sym (ap (λ (bits : List Bool). bit_at bits i) watched ∙ at-watched_variables net now.input now.state (bit_at changed) (bit_at been_stable) i inside)))))
