-- A gate's turn: the wires that set its pattern, and then the gate with what goes along, are two steps of a run.
use Rattle.std.proofs.Common.{◌≡◌, ℕ, ◌+◌, ◌<◌, Bool, false, List, length, sym, ◌∙◌, arith, inl, inr, ◌≢◌, ◌-◌, ◌≤◌, ◌⊎◌, true, not, cond, [], ◌∷◌, get_or, refl, ap, subst, slice_range}
use Rattle.hz_reach.proofs.Words.{cases_lt, both_ways, false_from_ne_true, get_or_past, Driver, External, Source, driver_at, bit_at, Function, driver_value}
use Rattle.hz_reach.proofs.Words.{excitation, network_of, IsUnstable, length-part, at-part, Kind, gate_value, Netlist, IsCircuit, IsGateNumber, differs}
use Rattle.hz_reach.proofs.Words.{IsCandidate, length-network_of, driver_at-input, driver_at-gate, driver_at-wire, IsWireInto, IsWired, is_listed}
use Rattle.hz_reach.proofs.Words.{IsRepeatFree, IsStep, IsRun, state_after, end_of, length-state_after, at-state_after, with_step_if_any, is_gate_in}
use Rattle.hz_reach.proofs.Words.{changed_wires, Tri, Zero, One, Unknown, is_unknown, IsUnknown, is_gate_of}
use Rattle.std.proofs.lemmas.List.{ext_get_or}
use Rattle.hz_core.proofs.Patterns.{free-changed}
use Rattle.hz_reach.proofs.FilteredRangeLemmas.{filtered_range-is, is-filtered_range, filtered_range-once, differs-true, true-differs, only-one, is-one}
use Rattle.hz_reach.proofs.Room.{end_of-after, run-after}

-- what is driven by a node is a variable
pub driver-inside : (net : List Driver) (i source : ℕ) → driver_at net i ≡ Source source → i < length net
driver-inside net i source drives = elim (cases_lt i (length net)) [
  | inl inside ↦ inside
  | inr past ↦ (let none : driver_at net i ≡ External 0 = get_or_past net i (External 0) past in cc)
]

-- a part of a state, bit by bit
pub same-part : (state bits : List Bool) (first count : ℕ) → length bits ≡ count → ((k : ℕ) → k < count → first + k < length state) → ((k : ℕ) → k < count → bit_at state (first + k) ≡ bit_at bits k) → slice_range state first (first + count) ≡ bits
same-part state bits first count long inside each =
    let part : length (slice_range state first (first + count)) ≡ count = length-part state first count inside in
    ext_get_or false (slice_range state first (first + count)) bits (part ∙ sym long) (λ k few.
    let less : k < count = omega (arith, few, part) in
    at-part state first count k false less ∙ each k less)

-- Which variables are gates

module _ (netlist : Netlist) (circuit : IsCircuit netlist) (var : ℕ) where
  pub gate-is : IsGateNumber netlist var → is_gate_in (network_of netlist) var ≡ true
  gate-is is_gate = rw (driver_at-gate netlist var circuit is_gate) refl

  pub gate-number : is_gate_in (network_of netlist) var ≡ true → IsGateNumber netlist var
  gate-number is = by_driver (driver_at (network_of netlist) var) refl
    where
      by_driver : (driver : Driver) → driver_at (network_of netlist) var ≡ driver → IsGateNumber netlist var
      by_driver (External place) e = (let none : is_gate_in (network_of netlist) var ≡ false = rw e refl in absurd (both_ways _ none is))
      by_driver (Source source) e = (let none : is_gate_in (network_of netlist) var ≡ false = rw e refl in absurd (both_ways _ none is))
      by_driver (Function kind first pins) e = (is_gate_of netlist circuit var kind first pins e).is_gate

  pub input-is : var < netlist.inputs → is_gate_in (network_of netlist) var ≡ false
  input-is few = rw (driver_at-input netlist var circuit few) refl

  pub wire-is : length netlist.names ≤ var → var < length (network_of netlist) → is_gate_in (network_of netlist) var ≡ false
  wire-is above inside = rw (driver_at-wire netlist var circuit above (omega (arith, inside, length-network_of netlist circuit))) refl

-- Bits

pub other-bit : (here there : Bool) → here ≢ there → here ≡ not there
other-bit false false e = absurd (e refl)
other-bit false true e = refl
other-bit true false e = refl
other-bit true true e = absurd (e refl)

pub not-itself : (bit : Bool) → not bit ≢ bit
not-itself false e = cc
not-itself true e = cc

pub same-or-differ : (here there : Bool) → (here ≡ there) ⊎ (here ≢ there)
same-or-differ false false = inl refl
same-or-differ false true = inr (λ e. cc)
same-or-differ true false = inr (λ e. cc)
same-or-differ true true = inl refl

-- two sources of one wire
pub same-source : {one two : ℕ} → Source one ≡ Source two → one ≡ two
same-source e = cc

-- a value that a test finds to be X
pub unknown-is : (value : Tri) → is_unknown value ≡ true → IsUnknown value
unknown-is Zero e = cc
unknown-is One e = cc
unknown-is Unknown e = refl

pub is-unknown : (value : Tri) → IsUnknown value → is_unknown value ≡ true
is-unknown value unknown = rw unknown refl

-- the bit of a listed variable, and of one that is not listed
pub state_after-listed : (flips : List ℕ) (state : List Bool) (i : ℕ) → i < length state → is_listed flips i ≡ true → bit_at (state_after flips state) i ≡ not (bit_at state i)
state_after-listed flips state i inside there =
    at-state_after flips state i inside ∙ ap (λ (b : Bool). cond b (not (bit_at state i)) (bit_at state i)) there

pub state_after-unlisted : (flips : List ℕ) (state : List Bool) (i : ℕ) → is_listed flips i ≡ false → bit_at (state_after flips state) i ≡ bit_at state i
state_after-unlisted flips state i out =
    elim (cases_lt i (length state)) [
      | inl inside ↦ at-state_after flips state i inside ∙ ap (λ (b : Bool). cond b (not (bit_at state i)) (bit_at state i)) out
      | inr past ↦ get_or_past (state_after flips state) i false (omega (arith, past, length-state_after flips state)) ∙ sym (get_or_past state i false past)
    ]

-- the wires that change first in a gate's turn, and the state after them
abbrev pub turn_wires : List Bool → ℕ → ℕ → List Bool → List ℕ
turn_wires state first pins pattern = changed_wires first (slice_range state first (first + pins)) pattern

abbrev pub turn_middle : List Bool → ℕ → ℕ → List Bool → List Bool
turn_middle state first pins pattern = state_after (turn_wires state first pins pattern) state

-- a gate, and along with it wires that come from it and differ from it
pub record IsAlong (net : List Driver) (state : List Bool) (gate : ℕ) (flips : List ℕ) : Type 0 where
  pub once : IsRepeatFree flips
  pub itself : is_listed flips gate ≡ true
  pub others : (i : ℕ) → is_listed flips i ≡ true → (i ≡ gate) ⊎ ((driver_at net i ≡ Source gate) × (bit_at state i ≢ bit_at state gate))

-- all of these wires
pub record IsWithFanOut (net : List Driver) (state : List Bool) (gate : ℕ) (flips : List ℕ) : Type 0 where
  pub along : IsAlong net state gate flips
  pub follows : (i : ℕ) → driver_at net i ≡ Source gate → bit_at state i ≢ bit_at state gate → is_listed flips i ≡ true

-- none of them
pub alone : {net : List Driver} {state : List Bool} (gate : ℕ) → IsAlong net state gate (gate ∷ [])
alone gate = record { once = (refl, tt); itself = only-one gate gate refl; others = λ i there. inl (is-one gate i there) }

-- a gate with its function
pub record IsFunction (net : List Driver) (gate : ℕ) (kind : Kind) (first pins : ℕ) : Type 0 where
  pub drives : driver_at net gate ≡ Function kind first pins

-- a gate each of whose free pins differs from its source
pub record MayTurn (net : List Driver) (state : List Bool) (gate : ℕ) (kind : Kind) (first pins : ℕ) (free : List Bool) : Type 0 where
  pub long : length state ≡ length net
  pub inside : gate < length net
  pub is : IsFunction net gate kind first pins
  pub loose : (pin source : ℕ) → pin < pins → get_or free pin false ≡ true → driver_at net (first + pin) ≡ Source source → bit_at state (first + pin) ≢ bit_at state source

-- a pin whose wire changes
pub record IsTurnPin (free now pattern : List Bool) (first pins i : ℕ) : Type 0 where
  pub pin : ℕ
  pub few : pin < pins
  pub is : i ≡ first + pin
  pub free_pin : get_or free pin false ≡ true
  pub differ : bit_at pattern pin ≢ bit_at now pin

module _ {net : List Driver} (wired : IsWired net) {gate : ℕ} {kind : Kind} {first pins : ℕ} (function : IsFunction net gate kind first pins) where
  pub pin-into : (pin : ℕ) → pin < pins → IsWireInto net gate (first + pin)
  pin-into pin few = record { kind = kind; first = first; pins = pins; driven = function.drives; above = omega arith; below = omega (arith, few) }

  pub pin-from : (pin : ℕ) → pin < pins → (source : ℕ) × (driver_at net (first + pin) ≡ Source source)
  pin-from pin few = wired.source gate (first + pin) (pin-into pin few)

  pub pin-inside : (pin : ℕ) → pin < pins → first + pin < length net
  pin-inside pin few = let is = pin-from pin few in driver-inside net (first + pin) is.0 is.1

  -- a gate is no pin
  pub no-pin : {i : ℕ} {other : Kind} {start count : ℕ} → IsFunction net i other start count → (pin : ℕ) → pin < pins → i ≢ first + pin
  no-pin {i} {other} {start} {count} drives pin few here =
      let is = pin-from pin few in
      let wire : Function other start count ≡ Source is.0 = sym drives.drives ∙ (ap (driver_at net) here ∙ is.1) in
      cc

module _ {net : List Driver} {state : List Bool} {gate : ℕ} {kind : Kind} {first pins : ℕ} {free : List Bool} (wired : IsWired net) (may : MayTurn net state gate kind first pins free) {pattern : List Bool} (candidate : IsCandidate kind (slice_range state first (first + pins)) free (not (bit_at state gate)) pattern) where
  abbrev now : List Bool
  now = slice_range state first (first + pins)

  now-long : length now ≡ pins
  now-long = length-part state first pins (λ pin few. omega (arith, pin-inside wired may.is pin few, may.long))

  at-now : (pin : ℕ) → pin < pins → bit_at now pin ≡ bit_at state (first + pin)
  at-now pin few = at-part state first pins pin false few

  abbrev wires : List ℕ
  wires = turn_wires state first pins pattern

  abbrev middle : List Bool
  middle = turn_middle state first pins pattern

  abbrev test : ℕ → Bool
  test i = differs (bit_at (slice_range state first (first + pins)) (i - first)) (bit_at pattern (i - first))

  pub listed-pin : (i : ℕ) → is_listed (turn_wires state first pins pattern) i ≡ true → IsTurnPin free (slice_range state first (first + pins)) pattern first pins i
  listed-pin i there =
      let is = filtered_range-is test first (length now) i there in
      let here : i ≡ first + is.place = is.is in
      let place : i - first ≡ is.place = omega (arith, here) in
      let differ : bit_at pattern is.place ≢ bit_at now is.place =
      λ same. differs-true _ _ is.passes (subst (λ (n : ℕ). bit_at now n ≡ bit_at pattern n) (sym place) (sym same)) in
      record { pin = is.place; few = omega (arith, is.few, now-long); is = here; differ = differ; free_pin = free-changed now free pattern is.place candidate.agrees is.few differ }

  pin-listed : (pin : ℕ) → pin < pins → bit_at pattern pin ≢ bit_at now pin → is_listed wires (first + pin) ≡ true
  pin-listed pin few differ =
      let place : first + pin - first ≡ pin = omega arith in
      is-filtered_range test first (length now) pin (omega (arith, few, now-long))
      (subst (λ (n : ℕ). differs (bit_at now n) (bit_at pattern n) ≡ true) (sym place) (true-differs (bit_at now pin) (bit_at pattern pin) (λ same. differ (sym same))))

  pub wires-once : IsRepeatFree (turn_wires state first pins pattern)
  wires-once = filtered_range-once test first (length now)

  wires-step : (input : List Bool) → wires ≢ [] → IsStep net input state wires
  wires-step input some = record {
    some = some;
    once = wires-once;
    inside = λ i there. let is = listed-pin i there in subst (λ (n : ℕ). n < length net) (sym is.is) (pin-inside wired may.is is.pin is.few);
    unstable = λ i there.
        let is = listed-pin i there in
        let from = pin-from wired may.is is.pin is.few in
        subst (IsUnstable net input state) (sym is.is)
        (λ same. may.loose is.pin from.0 is.few is.free_pin from.1 (same ∙ ap (driver_value input state) from.1));
  }

  pub set-pin : (pin : ℕ) → pin < pins → bit_at (turn_middle state first pins pattern) (first + pin) ≡ bit_at pattern pin
  set-pin pin few =
      elim (same-or-differ (bit_at pattern pin) (bit_at now pin)) [
        | inl same ↦
            state_after-unlisted wires state (first + pin) (false_from_ne_true _ (λ there.
            let is = listed-pin (first + pin) there in
            let here : first + pin ≡ first + is.pin = is.is in
            let place : is.pin ≡ pin = omega (arith, here) in
            is.differ (subst (λ (n : ℕ). bit_at pattern n ≡ bit_at now n) (sym place) same)))
            ∙ (sym (at-now pin few) ∙ sym same)
        | inr differ ↦
            state_after-listed wires state (first + pin) (omega (arith, pin-inside wired may.is pin few, may.long)) (pin-listed pin few differ)
            ∙ (ap not (sym (at-now pin few)) ∙ sym (other-bit _ _ differ))
      ]

  pub kept-other : (i : ℕ) → ((pin : ℕ) → pin < pins → i ≢ first + pin) → bit_at (turn_middle state first pins pattern) i ≡ bit_at state i
  kept-other i none = state_after-unlisted wires state i (false_from_ne_true _ (λ there. let is = listed-pin i there in none is.pin is.few is.is))

  pub gate-kept : bit_at (turn_middle state first pins pattern) gate ≡ bit_at state gate
  gate-kept = kept-other gate (no-pin wired may.is may.is)

  pub middle-long : length (turn_middle state first pins pattern) ≡ length net
  middle-long = length-state_after wires state ∙ may.long

  gate-excited : (input : List Bool) → excitation net input middle gate ≡ not (bit_at state gate)
  gate-excited input =
      ap (driver_value input middle) may.is.drives
      ∙ (ap (gate_value kind) (same-part middle pattern first pins (candidate.agrees.same_length ∙ now-long) (λ pin few. omega (arith, pin-inside wired may.is pin few, middle-long)) set-pin)
      ∙ candidate.value)

  module _ {flips : List ℕ} (along : IsAlong net (turn_middle state first pins pattern) gate flips) where
    flips-step : (input : List Bool) → IsStep net input middle flips
    flips-step input = record {
      some = λ none. both_ways false refl (ap (λ (list : List ℕ). is_listed list gate) (sym none) ∙ along.itself);
      once = along.once;
      inside = λ i there. elim (along.others i there) [
        | inl same ↦ omega (arith, same, may.inside)
        | inr wire ↦ driver-inside net i gate wire.0
      ];
      unstable = λ i there same. elim (along.others i there) [
        | inl here ↦
            let at_gate : bit_at middle gate ≡ excitation net input middle gate =
            subst (λ (n : ℕ). bit_at middle n ≡ excitation net input middle n) here same in
            not-itself (bit_at state gate) (sym (gate-excited input) ∙ (sym at_gate ∙ gate-kept))
        | inr wire ↦ wire.1 (same ∙ ap (driver_value input middle) wire.0)
      ];
    }

    -- the two steps go on with a run, and where it ends then
    pub turn-run : (input begun : List Bool) (made : List (List ℕ)) → IsRun net input begun made → end_of begun made ≡ state → IsRun net input begun (with_step_if_any (with_step_if_any made (turn_wires state first pins pattern)) flips)
    turn-run input begun made run ends =
        run-after net input begun (with_step_if_any made wires) flips
        (run-after net input begun made wires run (λ some. subst (λ (s : List Bool). IsStep net input s wires) (sym ends) (wires-step input some)))
        (λ some. subst (λ (s : List Bool). IsStep net input s flips) (sym (end_of-after begun made wires ∙ ap (state_after wires) ends)) (flips-step input))

pub turn-end : (begun state : List Bool) (made : List (List ℕ)) (wires flips : List ℕ) → end_of begun made ≡ state → end_of begun (with_step_if_any (with_step_if_any made wires) flips) ≡ state_after flips (state_after wires state)
turn-end begun state made wires flips ends =
    end_of-after begun (with_step_if_any made wires) flips
    ∙ ap (state_after flips) (end_of-after begun made wires ∙ ap (state_after wires) ends)
