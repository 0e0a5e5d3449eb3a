-- A gate's turn in a pass: each unsettled pin differs from its source, so the turn can be taken; what it makes of the state;
-- and that what holds inside a pass holds again after it, with this gate among those that have had their turn.
use Rattle.std.proofs.Common.{◌≡◌, ◌≢◌, ℕ, ◌+◌, ◌<◌, Bool, true, false, not, List, length, map, get_or, refl, sym, ap, ◌∙◌, subst, arith, inl, inr, ◌⊎◌}
use Rattle.std.proofs.Common.{cond, slice_range}
use Rattle.hz_reach.proofs.Words.{and_parts, and_from, false_from_ne_true, cases_eq, both_ways, get_or-map, Tri, Zero, Kind, is_unknown, Refines, IsPattern}
use Rattle.hz_reach.proofs.Words.{length-Refines, Driver, Function, Source, driver_at, bit_at, value_at, External, IsUnknown, IsKnown, IsWired, IsWireInto}
use Rattle.hz_reach.proofs.Words.{length-part, at-part, is_listed, state_after, length-state_after, key_at, IsEarlier, is_gate_in}
use Rattle.hz_reach.proofs.Order.{earlier-or-not, IsNext as IsNextOf, not-earlier, not-both, also, also-itself, also-other}
use Rattle.hz_reach.proofs.GateTurn.{driver-inside, other-bit, same-or-differ, state_after-listed, state_after-unlisted, turn_wires, turn_middle, IsFunction, IsWithFanOut, MayTurn, pin-into, pin-inside, no-pin, listed-pin, set-pin, kept-other, gate-kept, middle-long, not-itself, same-source, unknown-is, is-unknown}
use Rattle.hz_reach.specs.Pass.{IsFixed}
use Rattle.hz_reach.specs.Turns.{has_turn_in}
use Rattle.hz_reach.proofs.SettledVariables.{refines-state_after, unknown-inside, wire-source, source-is_gate, same-known, no-input}
use Rattle.hz_reach.proofs.PassInvariant.{IsInside, HasPatternInside}
use Rattle.std.proofs.Math.Bool.{not-not}

-- What a gate's turn makes of a state: the gate has the complement of its bit, the wires of its fan-out have the bit that it
-- had, its other pins have the pattern's bits, and everything else stays.
pub record IsAfterTurn (net : List Driver) (gate first pins : ℕ) (pattern before after : List Bool) : Type 0 where
  pub long : length after ≡ length before
  pub gate_turns : bit_at after gate ≡ not (bit_at before gate)
  pub fan_out : (wire : ℕ) → driver_at net wire ≡ Source gate → bit_at after wire ≡ bit_at before gate
  pub pattern_set : (pin : ℕ) → pin < pins → driver_at net (first + pin) ≢ Source gate → bit_at after (first + pin) ≡ bit_at pattern pin
  pub others :
      (i : ℕ) → i ≢ gate → driver_at net i ≢ Source gate → ((pin : ℕ) → pin < pins → i ≢ first + pin) →
      bit_at after i ≡ bit_at before i

-- a gate that is unsettled, has had no turn, and before which all earlier ones have had theirs
pub record IsNext (net : List Driver) (ranks : List ℕ) (b : List Tri) (had : ℕ → Bool) (gate : ℕ) (kind : Kind) (first pins : ℕ) : Type 0 where
  pub drives : driver_at net gate ≡ Function kind first pins
  pub unsettled : IsUnknown (value_at b gate)
  pub waits : had gate ≡ false
  pub before : (i : ℕ) → is_gate_in net i ≡ true → IsUnknown (value_at b i) → IsEarlier ranks i gate → had i ≡ true
  pub only : (i : ℕ) → had i ≡ true → IsEarlier ranks i gate

pub next-gate :
    {net : List Driver} {ranks : List ℕ} {b : List Tri} {had : ℕ → Bool} {gate : ℕ} {kind : Kind} {first pins : ℕ} →
    ((i : ℕ) → IsUnknown (value_at b i) → key_at ranks i ≢ 0) → IsNextOf ranks (has_turn_in net b) had gate → IsFunction net gate kind first pins →
    IsNext net ranks b had gate kind first pins
next-gate {net} {ranks} {b} {had} {gate} ranked next function = record {
  drives = function.drives;
  unsettled = unknown-is (value_at b gate) (and_parts _ _ next.turns).1;
  waits = next.waits;
  before = λ i is_gate unknown earlier. next.before i (and_from _ _ is_gate (is-unknown (value_at b i) unknown)) (ranked i unknown) earlier;
  only = next.only;
}

module _ {net : List Driver} {input : List Bool} {b : List Tri} {ranks : List ℕ} {begun state : List Bool} {had : ℕ → Bool} {gate : ℕ} {kind : Kind} {first pins : ℕ} (wired : IsWired net) (fixed : IsFixed net input b) (inside : IsInside net ranks b begun had state) (next : IsNext net ranks b had gate kind first pins) where
  function : IsFunction net gate kind first pins
  function = record { drives = next.drives }

  long : length state ≡ length net
  long = length-Refines state b inside.settled ∙ fixed.long

  -- each unsettled pin differs from its source
  pub pin-differs : (pin source : ℕ) → pin < pins → driver_at net (first + pin) ≡ Source source → IsUnknown (value_at b (first + pin)) → bit_at state (first + pin) ≢ bit_at state source
  pin-differs pin source few drives unknown =
      let into = pin-into wired function pin few in
      let unsettled : IsUnknown (value_at b source) = sym (wire-source fixed (first + pin) source drives) ∙ unknown in
      elim (earlier-or-not ranks source gate) [
        | inl earlier ↦
            inside.differs (first + pin) source gate drives into unknown
            (next.before source (source-is_gate wired fixed (first + pin) source drives unsettled) unsettled earlier) (inr (inl next.waits))
        | inr late ↦ inside.fresh (first + pin) source gate drives into unknown next.unsettled next.waits late
      ]

  free-unknown : (pin : ℕ) → pin < pins → get_or (map is_unknown (slice_range b first (first + pins))) pin false ≡ true → IsUnknown (value_at b (first + pin))
  free-unknown pin few is =
      unknown-is (value_at b (first + pin))
      (sym
      (get_or-map is_unknown (slice_range b first (first + pins)) pin Zero false
      (omega (arith, few, length-part b first pins (λ k less. omega (arith, pin-inside wired function k less, fixed.long))))
      ∙ ap is_unknown (at-part b first pins pin Zero few))
      ∙ is)

  pub pass-may-turn : MayTurn net state gate kind first pins (map is_unknown (slice_range b first (first + pins)))
  pass-may-turn = record {
    long = long;
    inside = unknown-inside fixed gate next.unsettled;
    is = function;
    loose = λ pin source few is drives. pin-differs pin source few drives (free-unknown pin few is);
  }

  module _ {pattern : List Bool} (canonical : IsPattern kind (slice_range state first (first + pins)) (map is_unknown (slice_range b first (first + pins))) (not (bit_at state gate)) pattern) where
    pub wires-unsettled : (i : ℕ) → is_listed (turn_wires state first pins pattern) i ≡ true → IsUnknown (value_at b i)
    wires-unsettled i there =
        let is = listed-pin wired pass-may-turn canonical.candidate i there in
        subst (λ (n : ℕ). IsUnknown (value_at b n)) (sym is.is) (free-unknown is.pin is.few is.free_pin)

    abbrev wires : List ℕ
    wires = turn_wires state first pins pattern

    abbrev middle : List Bool
    middle = turn_middle state first pins pattern

    -- the gate changes, and with it the wires of its fan-out that differ from it
    module _ {flips : List ℕ} (flip : IsWithFanOut net (turn_middle state first pins pattern) gate flips) where
      pub flips-unsettled : (i : ℕ) → is_listed flips i ≡ true → IsUnknown (value_at b i)
      flips-unsettled i there =
          elim (flip.along.others i there) [
            | inl same ↦ subst (λ (n : ℕ). IsUnknown (value_at b n)) (sym same) next.unsettled
            | inr wire ↦ wire-source fixed i gate wire.0 ∙ next.unsettled
          ]

      abbrev last : List Bool
      last = state_after flips (turn_middle state first pins pattern)

      pub settled-after : Refines last b
      settled-after = refines-state_after middle b flips (refines-state_after state b wires inside.settled wires-unsettled) flips-unsettled

      kept : bit_at middle gate ≡ bit_at state gate
      kept = gate-kept wired pass-may-turn canonical.candidate

      -- what the turn has made of the state
      pub after-turn : IsAfterTurn net gate first pins pattern state last
      after-turn = record {
        long = length-state_after flips middle ∙ length-state_after wires state;
        gate_turns =
            state_after-listed flips middle gate (omega (arith, unknown-inside fixed gate next.unsettled, middle-long wired pass-may-turn canonical.candidate)) flip.along.itself
            ∙ ap not kept;
        fan_out = λ wire drives.
            elim (same-or-differ (bit_at middle wire) (bit_at middle gate)) [
              | inl same ↦ state_after-unlisted flips middle wire (false_from_ne_true _ (λ there. elim (flip.along.others wire there) [
                | inl here ↦ (let again : driver_at net wire ≡ Function kind first pins = ap (driver_at net) here ∙ next.drives in cc)
                | inr differ ↦ differ.1 same
              ])) ∙ (same ∙ kept)
              | inr differ ↦
                  state_after-listed flips middle wire (omega (arith, driver-inside net wire gate drives, middle-long wired pass-may-turn canonical.candidate)) (flip.follows wire drives differ)
                  ∙ (ap not (other-bit _ _ differ) ∙ (not-not (bit_at middle gate) ∙ kept))
            ];
        pattern_set = λ pin few other. state_after-unlisted flips middle (first + pin) (false_from_ne_true _ (λ there. elim (flip.along.others (first + pin) there) [
          | inl here ↦ no-pin wired function function pin few (sym here)
          | inr wire ↦ other wire.0
        ])) ∙ set-pin wired pass-may-turn canonical.candidate pin few;
        others = λ i away out none. state_after-unlisted flips middle i (false_from_ne_true _ (λ there. elim (flip.along.others i there) [
          | inl here ↦ away here
          | inr wire ↦ out wire.0
        ])) ∙ kept-other wired pass-may-turn canonical.candidate i none;
      }

not-waiting : (had : ℕ → Bool) (gate i : ℕ) → also had gate i ≡ false → i ≢ gate
not-waiting had gate i waits same = both_ways _ waits (also-itself had gate i same)

module _ {net : List Driver} {input : List Bool} {b : List Tri} {ranks : List ℕ} {begun state : List Bool} {had : ℕ → Bool} {gate : ℕ} {kind : Kind} {first pins : ℕ} (wired : IsWired net) (fixed : IsFixed net input b) (inside : IsInside net ranks b begun had state) (next : IsNext net ranks b had gate kind first pins) {pattern after : List Bool} (canonical : IsPattern kind (slice_range state first (first + pins)) (map is_unknown (slice_range b first (first + pins))) (not (bit_at state gate)) pattern) (turn : IsAfterTurn net gate first pins pattern state after) (settled : Refines after b) where
  own_function : IsFunction net gate kind first pins
  own_function = record { drives = next.drives }

  into : (pin : ℕ) → pin < pins → IsWireInto net gate (first + pin)
  into pin few = pin-into wired own_function pin few

  -- another gate keeps its bit
  other-kept : (i : ℕ) (other : Kind) (start count : ℕ) → driver_at net i ≡ Function other start count → i ≢ gate → bit_at after i ≡ bit_at state i
  other-kept i other start count drives away =
      let goes : IsFunction net i other start count = record { drives = drives } in
      turn.others i away (λ wire. cc) (no-pin wired own_function goes)

  -- so does another source of an unsettled wire
  source-kept : (wire source : ℕ) → driver_at net wire ≡ Source source → IsUnknown (value_at b wire) → source ≢ gate → bit_at after source ≡ bit_at state source
  source-kept wire source drives unknown away = by_driver (driver_at net source) refl
    where
      by_driver : (driver : Driver) → driver_at net source ≡ driver → bit_at after source ≡ bit_at state source
      by_driver (External place) e = absurd (no-input fixed source place (sym (wire-source fixed wire source drives) ∙ unknown) e)
      by_driver (Function other start count) e = other-kept source other start count e away
      by_driver (Source node) e = absurd (wired.node wire source drives node e)

  -- and a wire that neither comes from the gate nor goes into it
  wire-kept : (wire source other : ℕ) → driver_at net wire ≡ Source source → IsWireInto net other wire → source ≢ gate → other ≢ gate → bit_at after wire ≡ bit_at state wire
  wire-kept wire source other drives goes away apart =
      turn.others wire (λ same. let again : driver_at net wire ≡ Function kind first pins = ap (driver_at net) same ∙ next.drives in cc)
      (λ wire_of. away (same-source (sym drives ∙ wire_of)))
      (λ pin few here. apart (wired.own other gate wire goes (subst (IsWireInto net gate) (sym here) (into pin few))))

  -- a wire of the gate's fan-out differs from it
  fan_out-differs : (wire : ℕ) → driver_at net wire ≡ Source gate → bit_at after wire ≢ bit_at after gate
  fan_out-differs wire drives same =
      not-itself (bit_at state gate) (sym turn.gate_turns ∙ (sym same ∙ turn.fan_out wire drives))

  gates-after :
      (other : ℕ) (its_kind : Kind) (start count : ℕ) → driver_at net other ≡ Function its_kind start count → IsUnknown (value_at b other) →
      bit_at after other ≡ cond (also had gate other) (not (bit_at begun other)) (bit_at begun other)
  gates-after other its_kind start count drives unknown =
      elim (cases_eq other gate) [
        | inl same ↦
            rw (also-itself had gate other same)
            (ap (bit_at after) same
            ∙ (turn.gate_turns
            ∙ ap not (inside.gates gate kind first pins next.drives next.unsettled ∙ (ap (λ (h : Bool). cond h (not (bit_at begun gate)) (bit_at begun gate)) next.waits ∙ ap (bit_at begun) (sym same)))))
        | inr away ↦
            rw (also-other had gate other away)
            (other-kept other its_kind start count drives away ∙ inside.gates other its_kind start count drives unknown)
      ]

  fresh-after :
      (wire source other : ℕ) → driver_at net wire ≡ Source source → IsWireInto net other wire → IsUnknown (value_at b wire) →
      IsUnknown (value_at b other) → also had gate other ≡ false → (IsEarlier ranks source other → ⊥) → bit_at after wire ≢ bit_at after source
  fresh-after wire source other drives goes unknown unsettled waits late =
      let apart : other ≢ gate = not-waiting had gate other waits in
      elim (cases_eq source gate) [
        | inl same ↦ (λ equal. fan_out-differs wire (drives ∙ ap Source same) (equal ∙ ap (bit_at after) same))
        | inr away ↦ (λ equal.
            inside.fresh wire source other drives goes unknown unsettled (sym (also-other had gate other apart) ∙ waits) late
            (sym (wire-kept wire source other drives goes away apart) ∙ (equal ∙ source-kept wire source drives unknown away)))
      ]

  differs-after :
      (wire source other : ℕ) → driver_at net wire ≡ Source source → IsWireInto net other wire → IsUnknown (value_at b wire) →
      also had gate source ≡ true → IsKnown (value_at b other) ⊎ ((also had gate other ≡ false) ⊎ (IsEarlier ranks source other → ⊥)) →
      bit_at after wire ≢ bit_at after source
  differs-after wire source other drives goes unknown had_turn either =
      elim (cases_eq source gate) [
        | inl same ↦ (λ equal. fan_out-differs wire (drives ∙ ap Source same) (equal ∙ ap (bit_at after) same))
        | inr away ↦ (
            let turned : had source ≡ true = sym (also-other had gate source away) ∙ had_turn in
            elim (cases_eq other gate) [
              | inl here ↦ absurd (elim either [
                | inl known ↦ known (ap (value_at b) here ∙ next.unsettled)
                | inr (inl waits) ↦ not-waiting had gate other waits here
                | inr (inr late) ↦ late (subst (IsEarlier ranks source) (sym here) (next.only source turned))
              ])
              | inr apart ↦ (λ equal.
                  inside.differs wire source other drives goes unknown turned (before other apart either)
                  (sym (wire-kept wire source other drives goes away apart) ∙ (equal ∙ source-kept wire source drives unknown away)))
            ]
            )
      ]
    where
      before : (other : ℕ) → other ≢ gate → IsKnown (value_at b other) ⊎ ((also had gate other ≡ false) ⊎ (IsEarlier ranks source other → ⊥)) → IsKnown (value_at b other) ⊎ ((had other ≡ false) ⊎ (IsEarlier ranks source other → ⊥))
      before other apart (inl known) = inl known
      before other apart (inr (inl waits)) = inr (inl (sym (also-other had gate other apart) ∙ waits))
      before other apart (inr (inr late)) = inr (inr late)

  -- the pattern of the gate itself
  own-pattern : HasPatternInside net ranks b (also had gate) after gate kind first pins
  own-pattern = record {
    shown = slice_range state first (first + pins);
    pattern = pattern;
    is_shown = record {
      long = length-part state first pins (λ pin few. omega (arith, pin-inside wired own_function pin few, length-Refines state b inside.settled, fixed.long));
      settled = λ pin few known. at-part state first pins pin false few ∙ same-known state after b (first + pin) inside.settled settled known;
      complement = λ pin source few unknown drives either.
          let away : source ≢ gate = elim either [
            | inl earlier ↦ (λ same. not-earlier ranks gate (subst (λ (n : ℕ). IsEarlier ranks n gate) same earlier))
            | inr waits ↦ not-waiting had gate source waits
          ] in
          at-part state first pins pin false few
          ∙ (other-bit _ _ (pin-differs wired fixed inside next pin source few drives unknown) ∙ ap not (sym (source-kept (first + pin) source drives unknown away)));
      same = λ pin source few unknown drives late had_turn.
          elim (cases_eq source gate) [
            | inl here ↦
                at-part state first pins pin false few
                ∙ (other-bit _ _ (pin-differs wired fixed inside next pin source few drives unknown)
                ∙ (ap (λ (n : ℕ). not (bit_at state n)) here ∙ (sym turn.gate_turns ∙ ap (bit_at after) (sym here))))
            | inr away ↦ absurd (late (next.only source (sym (also-other had gate source away) ∙ had_turn)))
          ];
    };
    canonical = subst (λ (want : Bool). IsPattern kind (slice_range state first (first + pins)) (map is_unknown (slice_range b first (first + pins))) want pattern) (sym turn.gate_turns) canonical;
    wires = λ pin source few unknown drives earlier.
        turn.pattern_set pin few (λ from_gate. not-earlier ranks gate (subst (λ (n : ℕ). IsEarlier ranks n gate) (same-source (sym drives ∙ from_gate)) earlier));
  }

  -- the pattern of a gate that has had its turn before
  module _ (other : ℕ) (its_kind : Kind) (start count : ℕ) (drives_it : driver_at net other ≡ Function its_kind start count) (unsettled : IsUnknown (value_at b other)) (apart : other ≢ gate) (had_turn : had other ≡ true) where
    goes : (pin : ℕ) → pin < count → IsWireInto net other (start + pin)
    goes pin few = record { kind = its_kind; first = start; pins = count; driven = drives_it; above = omega arith; below = omega (arith, few) }

    -- the gate is not earlier than it
    away-earlier : (source : ℕ) → IsEarlier ranks source other → source ≢ gate
    away-earlier source earlier same =
        not-both ranks gate other (subst (λ (n : ℕ). IsEarlier ranks n other) same earlier) (next.only other had_turn)

    other-pattern : HasPatternInside net ranks b had state other its_kind start count → HasPatternInside net ranks b (also had gate) after other its_kind start count
    other-pattern had_pattern =
        let kept : bit_at after other ≡ bit_at state other = other-kept other its_kind start count drives_it apart in
        record {
          shown = had_pattern.shown;
          pattern = had_pattern.pattern;
          is_shown = record {
            long = had_pattern.is_shown.long;
            settled = λ pin few known. had_pattern.is_shown.settled pin few known ∙ same-known state after b (start + pin) inside.settled settled known;
            complement = λ pin source few unknown drives either.
                let away : source ≢ gate = elim either [
                  | inl earlier ↦ away-earlier source earlier
                  | inr waits ↦ not-waiting had gate source waits
                ] in
                had_pattern.is_shown.complement pin source few unknown drives (still source away either)
                ∙ ap not (sym (source-kept (start + pin) source drives unknown away));
            same = λ pin source few unknown drives late turned.
                elim (cases_eq source gate) [
                  | inl here ↦
                      had_pattern.is_shown.complement pin source few unknown drives (inr (ap had here ∙ next.waits))
                      ∙ (ap (λ (n : ℕ). not (bit_at state n)) here ∙ (sym turn.gate_turns ∙ ap (bit_at after) (sym here)))
                  | inr away ↦
                      had_pattern.is_shown.same pin source few unknown drives late (sym (also-other had gate source away) ∙ turned)
                      ∙ sym (source-kept (start + pin) source drives unknown away)
                ];
          };
          canonical = subst (λ (want : Bool). IsPattern its_kind had_pattern.shown (map is_unknown (slice_range b start (start + count))) want had_pattern.pattern) (sym kept) had_pattern.canonical;
          wires = λ pin source few unknown drives earlier.
              wire-kept (start + pin) source other drives (goes pin few) (away-earlier source earlier) apart
              ∙ had_pattern.wires pin source few unknown drives earlier;
        }
      where
        still : (source : ℕ) → source ≢ gate → IsEarlier ranks source other ⊎ (also had gate source ≡ false) → IsEarlier ranks source other ⊎ (had source ≡ false)
        still source away (inl earlier) = inl earlier
        still source away (inr waits) = inr (sym (also-other had gate source away) ∙ waits)

  -- what holds inside the pass after the turn
  pub inside-after : IsInside net ranks b begun (also had gate) after
  inside-after = record {
    settled = settled;
    gates = gates-after;
    fresh = fresh-after;
    differs = differs-after;
    patterns = λ other its_kind start count drives unknown had_turn.
        elim (cases_eq other gate) [
          | inl same ↦ itself other its_kind start count same drives
          | inr apart ↦ (
              let turned : had other ≡ true = sym (also-other had gate other apart) ∙ had_turn in
              other-pattern other its_kind start count drives unknown apart turned (inside.patterns other its_kind start count drives unknown turned)
              )
        ];
  }
    where
      itself : (other : ℕ) (its_kind : Kind) (start count : ℕ) → other ≡ gate → driver_at net other ≡ Function its_kind start count → HasPatternInside net ranks b (also had gate) after other its_kind start count
      itself other its_kind start count same drives =
          let e : Function kind first pins ≡ Function its_kind start count = sym next.drives ∙ (ap (driver_at net) (sym same) ∙ drives) in
          let kinds : kind ≡ its_kind = cc in
          let starts : first ≡ start = cc in
          let counts : pins ≡ count = cc in
          subst (λ (n : ℕ). HasPatternInside net ranks b (also had gate) after n its_kind start count) (sym same)
          (subst (λ (n : ℕ). HasPatternInside net ranks b (also had gate) after gate its_kind start n) counts
          (subst (λ (n : ℕ). HasPatternInside net ranks b (also had gate) after gate its_kind n pins) starts
          (subst (λ (k : Kind). HasPatternInside net ranks b (also had gate) after gate k first pins) kinds own-pattern)))
