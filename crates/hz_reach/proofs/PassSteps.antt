-- A pass while it is made: its steps so far are a run, how often each variable has changed in it, and which bits the wires
-- of gates that have had their turn have shown; and that it ends as a pass.
use Rattle.std.proofs.Common.{◌≡◌, ◌≢◌, ℕ, ◌+◌, ◌≤◌, Bool, true, false, not, cond, List, map, sym, ap, ◌∙◌, subst, arith, inl, inr, Contains, refl, []}
use Rattle.std.proofs.Common.{slice_range}
use Rattle.hz_reach.proofs.Words.{cases_eq, false_from_ne_true, Tri, Kind, is_unknown, IsPattern, Driver, Function, Source, driver_at, bit_at, value_at}
use Rattle.hz_reach.proofs.Words.{External, IsKnown, IsUnknown, is_listed, IsRun, state_after, end_of, states_of, IsEarlier, with_step_if_any, IsWireInto}
use Rattle.hz_reach.proofs.Words.{IsWired, changes_in}
use Rattle.hz_reach.proofs.Order.{not-earlier, not-both, also, also-itself, also-other, earlier-or-not}
use Rattle.hz_net.proofs.RestRounds.{either-value}
use Rattle.hz_reach.proofs.GateTurn.{turn_wires, turn_middle, IsFunction, IsTurnPin, IsWithFanOut, pin-into, pin-from, listed-pin, kept-other, gate-kept, turn-run, turn-end, same-or-differ, same-source}
use Rattle.hz_reach.specs.Pass.{MayBegin, IsFixed, AreEnough, IsPass}
use Rattle.hz_reach.proofs.PassInvariant.{IsInside}
use Rattle.hz_reach.proofs.StepLemmas.{changes-after, listed-none, unchanged-end, contains-after, contains-end}
use Rattle.hz_reach.proofs.PassTurn.{IsNext, IsAfterTurn, pass-may-turn, wires-unsettled, flips-unsettled, after-turn, settled-after, inside-after}
use Rattle.hz_reach.proofs.SettledVariables.{no-input, wire-source, source-gate}
use Rattle.hz_reach.proofs.TurnedStates.{inside-turned}
use Rattle.hz_reach.proofs.FlipCounts.{listed}

-- one, if a variable has had its turn
abbrev pub turns : (ℕ → Bool) → ℕ → ℕ
turns had i = cond (had i) 1 0

pub one-at-most : (had : ℕ → Bool) (i : ℕ) → turns had i ≤ 1
one-at-most had i = at-most (had i)
  where
    at-most : (bit : Bool) → cond bit 1 0 ≤ 1
    at-most false = omega arith
    at-most true = omega arith

pub record IsUnderway (net : List Driver) (input : List Bool) (ranks : List ℕ) (b : List Tri) (begun : List Bool) (had : ℕ → Bool) (made : List (List ℕ)) (state : List Bool) : Type 0 where
  pub inside : IsInside net ranks b begun had state
  pub run : IsRun net input begun made
  pub ends : end_of begun made ≡ state
  pub known : (i : ℕ) → IsKnown (value_at b i) → changes_in made i ≡ 0
  pub gates : (gate : ℕ) (kind : Kind) (first pins : ℕ) → driver_at net gate ≡ Function kind first pins → changes_in made gate ≤ turns had gate
  pub wires :
      (wire source gate : ℕ) → driver_at net wire ≡ Source source → IsWireInto net gate wire →
      changes_in made wire ≤ turns had source + turns had gate
  pub outward :
      (wire source gate : ℕ) → driver_at net wire ≡ Source source → IsWireInto net gate wire → IsKnown (value_at b gate) →
      changes_in made wire ≤ turns had source
  pub equal :
      (wire source gate : ℕ) → driver_at net wire ≡ Source source → IsWireInto net gate wire → IsEarlier ranks source gate →
      IsUnknown (value_at b source) → IsUnknown (value_at b gate) → bit_at begun wire ≡ bit_at begun source →
      changes_in made wire ≤ turns had gate
  pub shown :
      (wire source : ℕ) → driver_at net wire ≡ Source source → IsUnknown (value_at b source) → had source ≡ true →
      (member : List Bool) × Contains (states_of begun made) member × (bit_at member wire ≡ bit_at begun source)

-- where it begins
pub inside-begin : {net : List Driver} {ranks : List ℕ} {b : List Tri} {state : List Bool} → MayBegin net ranks b state → IsInside net ranks b state (λ i. false) state
inside-begin may = record {
  settled = may.settled;
  gates = λ gate kind first pins drives unknown. refl;
  fresh = λ wire source gate drives goes unknown unsettled waits late. may.differs wire source gate drives goes unknown unsettled late;
  differs = λ wire source gate drives goes unknown turned either. cc;
  patterns = λ gate kind first pins drives unknown turned. cc;
}

pub underway-begin : {net : List Driver} {input : List Bool} {ranks : List ℕ} {b : List Tri} {state : List Bool} → MayBegin net ranks b state → IsUnderway net input ranks b state (λ i. false) [] state
underway-begin may = record {
  inside = inside-begin may;
  run = tt;
  ends = refl;
  known = λ i known. refl;
  gates = λ gate kind first pins drives. omega arith;
  wires = λ wire source gate drives goes. omega arith;
  outward = λ wire source gate drives goes known. omega arith;
  equal = λ wire source gate drives goes earlier unknown unsettled same. omega arith;
  shown = λ wire source drives unknown turned. cc;
}

module _ {net : List Driver} {input : List Bool} {b : List Tri} {ranks : List ℕ} {begun state : List Bool} {had : ℕ → Bool} {made : List (List ℕ)} {gate : ℕ} {kind : Kind} {first pins : ℕ} {pattern : List Bool} {flips : List ℕ} (wired : IsWired net) (fixed : IsFixed net input b) (underway : IsUnderway net input ranks b begun had made state) (next : IsNext net ranks b had gate kind first pins) (canonical : IsPattern kind (slice_range state first (first + pins)) (map is_unknown (slice_range b first (first + pins))) (not (bit_at state gate)) pattern) (flip : IsWithFanOut net (turn_middle state first pins pattern) gate flips) where
  function : IsFunction net gate kind first pins
  function = record { drives = next.drives }

  turn-pin : (i : ℕ) → is_listed (turn_wires state first pins pattern) i ≡ true → IsTurnPin (map is_unknown (slice_range b first (first + pins))) (slice_range state first (first + pins)) pattern first pins i
  turn-pin i there = listed-pin wired (pass-may-turn wired fixed underway.inside next) canonical.candidate i there

  turn : IsAfterTurn net gate first pins pattern state (state_after flips (turn_middle state first pins pattern))
  turn = after-turn wired fixed underway.inside next canonical flip

  -- the wires that set the pattern are wires into the gate
  wire-goes : (wire other : ℕ) → IsWireInto net other wire → is_listed (turn_wires state first pins pattern) wire ≡ true → other ≡ gate
  wire-goes wire other goes there =
      let is = turn-pin wire there in
      wired.own other gate wire goes (subst (IsWireInto net gate) (sym is.is) (pin-into wired function is.pin is.few))

  -- a wire that changes with the gate comes from it
  wire-comes : (wire source : ℕ) → driver_at net wire ≡ Source source → is_listed flips wire ≡ true → source ≡ gate
  wire-comes wire source drives there = elim (flip.along.others wire there) [
    | inl same ↦ (let again : driver_at net wire ≡ Function kind first pins = ap (driver_at net) same ∙ next.drives in cc)
    | inr from ↦ same-source (sym drives ∙ from.0)
  ]

  -- a turn adds at most one change
  one-turn : (flipped_too : List ℕ) (i other : ℕ) → (is_listed flipped_too i ≡ true → other ≡ gate) → listed flipped_too i + turns had other ≤ turns (also had gate) other
  one-turn flipped_too i other only =
      elim (cases_eq other gate) [
        | inl same ↦ rw (also-itself had gate other same, ap had same ∙ next.waits) (at-most (is_listed flipped_too i))
        | inr apart ↦ rw (also-other had gate other apart, false_from_ne_true _ (λ there. apart (only there))) (omega arith)
      ]
    where
      at-most : (bit : Bool) → cond bit 1 0 + 0 ≤ 1
      at-most false = omega arith
      at-most true = omega arith

  more-changes : (i : ℕ) → changes_in (with_step_if_any (with_step_if_any made (turn_wires state first pins pattern)) flips) i ≡ changes_in made i + listed (turn_wires state first pins pattern) i + listed flips i
  more-changes i =
      changes-after (with_step_if_any made (turn_wires state first pins pattern)) flips i
      ∙ ap (λ (n : ℕ). n + listed flips i) (changes-after made (turn_wires state first pins pattern) i)

  wires-out : (i : ℕ) → (is_listed (turn_wires state first pins pattern) i ≡ true → ⊥) → listed (turn_wires state first pins pattern) i ≡ 0
  wires-out i none = listed-none (turn_wires state first pins pattern) i (false_from_ne_true _ none)

  flips-out : (i : ℕ) → (is_listed flips i ≡ true → ⊥) → listed flips i ≡ 0
  flips-out i none = listed-none flips i (false_from_ne_true _ none)

  -- a wire whose source is earlier than its gate and had the source's bit at the beginning does not change with its source
  equal-out :
      (wire source other : ℕ) → driver_at net wire ≡ Source source → IsWireInto net other wire → IsEarlier ranks source other →
      IsUnknown (value_at b source) → IsUnknown (value_at b other) → bit_at begun wire ≡ bit_at begun source →
      is_listed flips wire ≡ true → ⊥
  equal-out wire source other drives goes earlier unknown unsettled same there =
      let from : source ≡ gate = wire-comes wire source drives there in
      let later : IsEarlier ranks gate other = subst (λ (n : ℕ). IsEarlier ranks n other) from earlier in
      let apart : other ≢ gate = λ here. not-earlier ranks gate (subst (IsEarlier ranks gate) here later) in
      let waits : had other ≡ false = false_from_ne_true _ (λ turned. not-both ranks gate other later (next.only other turned)) in
      let none : changes_in made wire ≡ 0 = (
      let few : changes_in made wire ≤ turns had other = underway.equal wire source other drives goes earlier unknown unsettled same in
      let zero_turns : turns had other ≤ 0 = rw waits (omega arith) in
      omega (arith, few, zero_turns)
      ) in
      let wire_now : bit_at (turn_middle state first pins pattern) wire ≡ bit_at begun wire =
      kept-other wired (pass-may-turn wired fixed underway.inside next) canonical.candidate wire (λ pin few here. apart (wired.own other gate wire goes (subst (IsWireInto net gate) (sym here) (pin-into wired function pin few))))
      ∙ (ap (λ (s : List Bool). bit_at s wire) (sym underway.ends) ∙ unchanged-end begun made wire none) in
      let gate_now : bit_at (turn_middle state first pins pattern) gate ≡ bit_at begun gate =
      gate-kept wired (pass-may-turn wired fixed underway.inside next) canonical.candidate
      ∙ (underway.inside.gates gate kind first pins next.drives next.unsettled ∙ ap (λ (h : Bool). cond h (not (bit_at begun gate)) (bit_at begun gate)) next.waits) in
      elim (flip.along.others wire there) [
        | inl here ↦ (let again : driver_at net wire ≡ Function kind first pins = ap (driver_at net) here ∙ next.drives in cc)
        | inr differ ↦ differ.1 (wire_now ∙ (same ∙ (ap (bit_at begun) from ∙ sym gate_now)))
      ]

  ends-last : end_of begun (with_step_if_any (with_step_if_any made (turn_wires state first pins pattern)) flips) ≡ state_after flips (turn_middle state first pins pattern)
  ends-last = turn-end begun state made (turn_wires state first pins pattern) flips underway.ends

  pub underway-after : IsUnderway net input ranks b begun (also had gate) (with_step_if_any (with_step_if_any made (turn_wires state first pins pattern)) flips) (state_after flips (turn_middle state first pins pattern))
  underway-after = record {
    inside = inside-after wired fixed underway.inside next canonical turn (settled-after wired fixed underway.inside next canonical flip);
    run = turn-run wired (pass-may-turn wired fixed underway.inside next) canonical.candidate flip.along input begun made underway.run underway.ends;
    ends = ends-last;
    known = λ i known.
        omega (
          arith,
          more-changes i,
          underway.known i known,
          wires-out i (λ there. known (wires-unsettled wired fixed underway.inside next canonical i there)),
          flips-out i (λ there. known (flips-unsettled wired fixed underway.inside next canonical flip i there)),
        );
    gates = λ other its_kind start count drives.
        omega (
          arith,
          more-changes other,
          underway.gates other its_kind start count drives,
          wires-out other (λ there.
              let is = turn-pin other there in
              let from = pin-from wired function is.pin is.few in
              let wire : driver_at net other ≡ Source from.0 = ap (driver_at net) is.is ∙ from.1 in
              cc),
          one-turn flips other other (λ there. elim (flip.along.others other there) [
            | inl same ↦ same
            | inr wire ↦ (let from = wire.0 in cc)
          ]),
        );
    wires = λ wire source other drives goes.
        omega (
          arith,
          more-changes wire,
          underway.wires wire source other drives goes,
          one-turn (turn_wires state first pins pattern) wire other (wire-goes wire other goes),
          one-turn flips wire source (wire-comes wire source drives),
        );
    outward = λ wire source other drives goes known.
        omega (
          arith,
          more-changes wire,
          underway.outward wire source other drives goes known,
          wires-out wire (λ there. known (ap (value_at b) (wire-goes wire other goes there) ∙ next.unsettled)),
          one-turn flips wire source (wire-comes wire source drives),
        );
    equal = λ wire source other drives goes earlier unknown unsettled same.
        omega (
          arith,
          more-changes wire,
          underway.equal wire source other drives goes earlier unknown unsettled same,
          one-turn (turn_wires state first pins pattern) wire other (wire-goes wire other goes),
          flips-out wire (equal-out wire source other drives goes earlier unknown unsettled same),
        );
    shown = λ wire source drives unknown turned.
        elim (cases_eq source gate) [
          | inl same ↦ (
            end_of begun (with_step_if_any (with_step_if_any made (turn_wires state first pins pattern)) flips),
            contains-end begun (with_step_if_any (with_step_if_any made (turn_wires state first pins pattern)) flips),
            ap (λ (s : List Bool). bit_at s wire) ends-last
                ∙ (turn.fan_out wire (drives ∙ ap Source same)
                ∙ (underway.inside.gates gate kind first pins next.drives next.unsettled
                ∙ (ap (λ (h : Bool). cond h (not (bit_at begun gate)) (bit_at begun gate)) next.waits ∙ ap (bit_at begun) (sym same)))),
          )
          | inr apart ↦ (
              let before = underway.shown wire source drives unknown (sym (also-other had gate source apart) ∙ turned) in (
                before.0,
                contains-after begun before.0 (with_step_if_any made (turn_wires state first pins pattern)) flips (contains-after begun before.0 made (turn_wires state first pins pattern) before.1),
                before.2,
              )
              )
        ];
  }

module _ {net : List Driver} {input : List Bool} {ranks : List ℕ} {b : List Tri} {begun state : List Bool} {had : ℕ → Bool} {made : List (List ℕ)} (wired : IsWired net) (fixed : IsFixed net input b) (underway : IsUnderway net input ranks b begun had made state) where
  -- no variable changes more often than is enough
  pub underway-few : (most : ℕ → ℕ) → AreEnough net ranks b begun most → (i : ℕ) → changes_in made i ≤ most i
  underway-few most enough i =
      elim (either-value (value_at b i)) [
        | inl unknown ↦ by_driver unknown (driver_at net i) refl
        | inr known ↦ omega (arith, underway.known i known)
      ]
    where
      at_wire : (source gate : ℕ) → driver_at net i ≡ Source source → IsWireInto net gate i → IsUnknown (value_at b i) → changes_in made i ≤ most i
      at_wire source gate drives goes unknown =
          let twice : changes_in made i ≤ turns had source + turns had gate = underway.wires i source gate drives goes in
          elim (either-value (value_at b gate)) [
            | inl unsettled ↦ elim (earlier-or-not ranks source gate) [
              | inl earlier ↦ elim (same-or-differ (bit_at begun i) (bit_at begun source)) [
                | inl same ↦
                    omega (
                      arith,
                      underway.equal i source gate drives goes earlier (sym (wire-source fixed i source drives) ∙ unknown) unsettled same,
                      one-at-most had gate,
                      enough.wires i source gate drives goes unknown,
                    )
                | inr differ ↦
                    omega (arith, twice, one-at-most had source, one-at-most had gate, enough.twice i source gate drives goes unknown unsettled (λ e. differ))
              ]
              | inr late ↦
                  omega (arith, twice, one-at-most had source, one-at-most had gate, enough.twice i source gate drives goes unknown unsettled (λ e. absurd (late e)))
            ]
            | inr known ↦ omega (arith, underway.outward i source gate drives goes known, one-at-most had source, enough.wires i source gate drives goes unknown)
          ]

      by_driver : IsUnknown (value_at b i) → (driver : Driver) → driver_at net i ≡ driver → changes_in made i ≤ most i
      by_driver unknown (External place) e = absurd (no-input fixed i place unknown e)
      by_driver unknown (Function kind first pins) e =
          omega (arith, underway.gates i kind first pins e, one-at-most had i, enough.gates i kind first pins e unknown)
      by_driver unknown (Source source) e = let goes = wired.gate i source e in at_wire source goes.0 e goes.1 unknown

  -- where all unsettled gates have had their turn the pass is made
  pub underway-pass : ((gate : ℕ) (kind : Kind) (first pins : ℕ) → driver_at net gate ≡ Function kind first pins → IsUnknown (value_at b gate) → had gate ≡ true) → IsPass net input ranks b begun made state
  underway-pass all = record {
    run = underway.run;
    ends = underway.ends;
    turned = inside-turned wired fixed underway.inside all;
    known = underway.known;
    gates = λ gate kind first pins drives unknown.
        underway.inside.gates gate kind first pins drives unknown
        ∙ ap (λ (h : Bool). cond h (not (bit_at begun gate)) (bit_at begun gate)) (all gate kind first pins drives unknown);
    shown = λ wire source drives unknown.
        let unsettled : IsUnknown (value_at b source) = sym (wire-source fixed wire source drives) ∙ unknown in
        let is = source-gate wired fixed wire source drives unsettled in
        underway.shown wire source drives unsettled (all source is.kind is.first is.pins is.drives unsettled);
    few = underway-few;
  }
