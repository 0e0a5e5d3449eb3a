-- What leaves a variable as stable as it was: a change of variables that it doesn't read, or of another external input.
use Rattle.std.proofs.Common.{◌≡◌, ◌≢◌, ℕ, ◌<◌, ◌≤◌, ◌⊎◌, Bool, true, false, not, cond, List, [], ◌∷◌, length, set, IsTrue, refl, sym, ap, ◌∙◌, subst, arith, inl, inr}
use Rattle.std.specs.Prelude.{flat_map}
use Rattle.std.specs.Bool.{beq}
use Rattle.std.proofs.lemmas.Bool.{cases_lt, false≢true, or_left, or_right, false_from_ne_true}
use Rattle.std.proofs.lemmas.List.{get_or-set_other, get_or_past, length-set}
use Rattle.hz_core.specs.Netlist.{Netlist, IsCircuit, variable_count}
use Rattle.hz_net.specs.Network.{Driver, External, Function, Source, network_of, driver_at, driver_value, bit_at, excitation}
use Rattle.hz_net.specs.Reads.{Reads, readers_of}
use Rattle.hz_net.proofs.Places.{driver_at-input, driver_at-gate, driver_at-wire}
use Rattle.hz_net.proofs.Readers.{reads-or-not, driver_value-same, reads-reader, node-readers}
use Rattle.hz_lists.specs.Listed.{is_listed}
use Rattle.hz_gmw.specs.Runs.{state_after}
use Rattle.hz_gmw.specs.Instability.{is_unstable}
use Rattle.hz_gmw.specs.CurrentState.{with_readers}
use Rattle.hz_gmw.proofs.Flips.{length-state_after, at-state_after}
use Rattle.hz_gmw.proofs.DriverLemmas.{fan-above}
use Rattle.hz_lists.proofs.ListedLemmas.{listed-first, listed-tail, first-or-later, listed-append, listed-Contains}

-- a driver reads a listed variable, or none
pub some-read : (driver : Driver) (flips : List ℕ) → ((i : ℕ) → IsTrue (is_listed flips i) → Reads driver i → ⊥) ⊎ ((i : ℕ) × IsTrue (is_listed flips i) × Reads driver i)
some-read driver [] = inl (λ i listed reads. false≢true listed)
some-read driver (x ∷ flips) = elim (reads-or-not driver x) [
  | inl reads ↦ inr (x, listed-first x x flips refl, reads)
  | inr other ↦ elim (some-read driver flips) [
    | inl none ↦ inl (λ i listed reads. elim (first-or-later i x flips listed) [
      | inl same ↦ other (subst (Reads driver) same reads)
      | inr rest ↦ none i rest reads
    ])
    | inr found ↦ inr (found.0, listed-tail found.0 x flips found.1, found.2)
  ]
]

-- a driver asks for the same under external inputs that agree at the place that it reads
driver_value-input : (input input' state : List Bool) (driver : Driver) → ((place : ℕ) → driver ≡ External place → bit_at input' place ≡ bit_at input place) → driver_value input' state driver ≡ driver_value input state driver
driver_value-input input input' state (External place) each = each place refl
driver_value-input input input' state (Function kind first pins) each = refl
driver_value-input input input' state (Source node) each = refl

-- only an input is driven by the external input, and by its own place
external-place : (netlist : Netlist) (i place : ℕ) → IsCircuit netlist → i < variable_count netlist → driver_at (network_of netlist) i ≡ External place → place ≡ i
external-place netlist i place circuit inside driver = elim (cases_lt i netlist.inputs) [
  | inl input ↦ (let e = driver_at-input netlist i circuit input in cc)
  | inr beyond ↦ elim (cases_lt i (length netlist.names)) [
    | inl node ↦ (let e = driver_at-gate netlist i circuit (beyond, node) in cc)
    | inr above ↦ (let e = driver_at-wire netlist i circuit above inside in cc)
  ]
]

-- another place of the external input leaves a variable as stable as it was
pub is_unstable-input : (netlist : Netlist) (input state : List Bool) (number i : ℕ) (bit : Bool) → IsCircuit netlist → i < variable_count netlist → i ≢ number → is_unstable (network_of netlist) (set input number bit) state i ≡ is_unstable (network_of netlist) input state i
is_unstable-input netlist input state number i bit circuit inside differ =
    ap (λ (excited : Bool). not (beq (bit_at state i) excited))
    (driver_value-input input (set input number bit) state (driver_at (network_of netlist) i) (λ place driver.
    let same : place ≡ i = external-place netlist i place circuit inside driver in
    get_or-set_other input number place bit false (λ e. differ (sym same ∙ e))))

listed-flat : (f : ℕ → List ℕ) (flips : List ℕ) (i j : ℕ) → is_listed flips i ≡ true → is_listed (f i) j ≡ true → is_listed (flat_map f flips) j ≡ true
listed-flat f [] i j there inside = absurd (false≢true there)
listed-flat f (x ∷ flips) i j there inside = listed-append (f x) (flat_map f flips) j ∙ (elim (first-or-later i x flips there) [
  | inl same ↦ or_left (is_listed (f x) j) (is_listed (flat_map f flips) j) (ap (λ (y : ℕ). is_listed (f y) j) (sym same) ∙ inside)
  | inr rest ↦ or_right (is_listed (f x) j) (is_listed (flat_map f flips) j) (listed-flat f flips i j rest inside)
])

past-same : (flips : List ℕ) (state : List Bool) (i : ℕ) → length state ≤ i → bit_at (state_after flips state) i ≡ bit_at state i
past-same flips state i past =
    let flipped_long = length-state_after flips state in
    get_or_past (state_after flips state) i false (omega (arith, past, flipped_long)) ∙ sym (get_or_past state i false past)

kept : (flips : List ℕ) (state : List Bool) (i : ℕ) → is_listed flips i ≡ false → bit_at (state_after flips state) i ≡ bit_at state i
kept flips state i missing = elim (cases_lt i (length state)) [
  | inl within ↦ at-state_after flips state i within ∙ ap (λ (b : Bool). cond b (not (bit_at state i)) (bit_at state i)) missing
  | inr past ↦ past-same flips state i past
]

-- a variable that does not change and reads none that changes is as stable as it was
pub is_unstable-unread : (net : List Driver) (input state : List Bool) (flips : List ℕ) (j : ℕ) → is_listed flips j ≡ false → ((i : ℕ) → IsTrue (is_listed flips i) → Reads (driver_at net j) i → ⊥) → is_unstable net input (state_after flips state) j ≡ is_unstable net input state j
is_unstable-unread net input state flips j still none =
    let excited : driver_value input (state_after flips state) (driver_at net j) ≡ driver_value input state (driver_at net j) =
    driver_value-same input (state_after flips state) state (driver_at net j) (length-state_after flips state) (λ i reads. kept flips state i (false_from_ne_true (is_listed flips i) (λ there. none i there reads))) in
    ap (λ (bit : Bool). not (beq bit (driver_value input (state_after flips state) (driver_at net j)))) (kept flips state j still) ∙
    ap (λ (bit : Bool). not (beq (bit_at state j) bit)) excited

-- A variable that is not around a changed one is as stable as it was.
pub is_unstable-state_after : (netlist : Netlist) (input state : List Bool) (flips : List ℕ) (j : ℕ) → IsCircuit netlist → is_listed (flat_map (with_readers netlist) flips) j ≡ false → is_unstable (network_of netlist) input (state_after flips state) j ≡ is_unstable (network_of netlist) input state j
is_unstable-state_after netlist input state flips j circuit apart =
    is_unstable-unread (network_of netlist) input state flips j
    (false_from_ne_true (is_listed flips j) (λ there. false≢true (sym apart ∙ listed-flat (with_readers netlist) flips j j there (listed-first j j (readers_of netlist j) refl))))
    (λ i there reads. false≢true (sym apart ∙ listed-flat (with_readers netlist) flips i j there (listed-tail j i (readers_of netlist i) (listed-Contains (readers_of netlist i) j (reads-reader netlist circuit i j reads)))))

-- A node doesn't read itself: when it changes, its excitation stays.
pub excitation-node : (netlist : Netlist) (input state : List Bool) (node : ℕ) (bit : Bool) → IsCircuit netlist → node < length netlist.names → excitation (network_of netlist) input (set state node bit) node ≡ excitation (network_of netlist) input state node
excitation-node netlist input state node bit circuit inside =
    driver_value-same input (set state node bit) state (driver_at (network_of netlist) node) (length-set state node bit) (λ i reads. get_or-set_other state node i bit false (λ same.
    let itself : Reads (driver_at (network_of netlist) node) node = subst (Reads (driver_at (network_of netlist) node)) same reads in
    let there : is_listed (readers_of netlist node) node ≡ true = listed-Contains (readers_of netlist node) node (reads-reader netlist circuit node node itself) in
    let above = fan-above netlist node node (ap (λ (list : List ℕ). is_listed list node) (sym (node-readers netlist circuit node inside)) ∙ there) in
    omega (arith, above, inside)))
