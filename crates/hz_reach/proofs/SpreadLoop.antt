-- The spread run while it is made: what holds after each of its steps, and that each of its steps keeps it.
use Rattle.std.proofs.Common.{◌≡◌, ◌≢◌, ℕ, ◌+◌, ◌<◌, ◌≤◌, ◌⊎◌, Bool, true, false, not, cond, ◌&&◌, List, [], ◌∷◌, ◌++◌, length, get_or, refl, sym, ap, ◌∙◌, subst, arith, inl, inr, append-nil, eqb, ltb, slice_range, ◌%◌}
use Rattle.hz_reach.proofs.Words.{unlisted-parts, is_repeat_free-apart, cases_Bool, both_ways, and_parts, and_from, or_cases, or_left, or_right, not-true}
use Rattle.hz_reach.proofs.Words.{not_from_false, eqb-false, false_from_ne_true, get_or-map, Tri, Kind, IsCandidate, Driver, External, Function, Source}
use Rattle.hz_reach.proofs.Words.{driver_at, bit_at, driver_value, IsWireInto, length-part, at-part, is_listed, IsRepeatFree, IsRun, state_after, end_of}
use Rattle.hz_reach.proofs.Words.{flip_count, length-end_of, key_at, with_step_if_any, changes_in, is_gate_in, free_pins, listed-cases, listed-left}
use Rattle.hz_reach.proofs.Words.{listed-right, is_repeat_free-append, is_repeat_free-right, IsNode, concat}
use Rattle.std.proofs.lemmas.Bool.{eqb-true, eq-eqb, ne_eqb, ltb-true, lt-ltb}
use Rattle.std.proofs.lemmas.List.Folds.{concat-append}
use Rattle.hz_reach.proofs.FlipCounts.{changes-more, flips_per_variable, ends_by_changes}
use Rattle.hz_reach.proofs.FilteredRangeLemmas.{only-one, is-one}
use Rattle.hz_reach.proofs.RanksOrderGates.{IsChangedAfter, AreTurns}
use Rattle.hz_reach.proofs.Order.{also, IsNext}
use Rattle.hz_reach.proofs.GateTurn.{not-itself, same-or-differ, IsFunction, turn_wires, IsTurnPin, MayTurn, alone, pin-into, pin-from, pin-inside, listed-pin, wires-once, turn-run, turn-end}
use Rattle.hz_reach.proofs.Room.{run-after}

-- the variables that a run changes
abbrev pub changed : List (List ℕ) → List ℕ
changed steps = concat steps

pub changed-after : (steps : List (List ℕ)) (flips : List ℕ) → changed (with_step_if_any steps flips) ≡ changed steps ++ flips
changed-after steps [] = sym (append-nil (concat steps))
changed-after steps (i ∷ flips) =
    concat-append steps ((i ∷ flips) ∷ []) ∙ ap (λ (rest : List ℕ). concat steps ++ rest) (append-nil (i ∷ flips))

-- how often a run changes a variable that no step lists, and one that one step lists
pub changes-unlisted : (steps : List (List ℕ)) (i : ℕ) → is_listed (changed steps) i ≡ false → changes_in steps i ≡ 0
changes-unlisted [] i out = refl
changes-unlisted (flips ∷ steps) i out =
    let parts = unlisted-parts flips (changed steps) i out in
    changes-more flips steps i ∙ rw parts.0 (omega (arith, changes-unlisted steps i parts.1))

pub changes-listed : (steps : List (List ℕ)) (i : ℕ) → IsRepeatFree (changed steps) → is_listed (changed steps) i ≡ true → changes_in steps i ≡ 1
changes-listed [] i once there = absurd (both_ways false refl there)
changes-listed (flips ∷ steps) i once there =
    changes-more flips steps i
    ∙ elim (cases_Bool (is_listed flips i)) [
      | inl here ↦ rw here (omega (arith, changes-unlisted steps i (is_repeat_free-apart flips (changed steps) once i here)))
      | inr out ↦ rw out (omega (arith, changes-listed steps i (is_repeat_free-right flips (changed steps) once) (elim (listed-cases flips (changed steps) i there) [ inl here ↦ absurd (both_ways _ out here) | inr later ↦ later ])))
    ]

-- What holds while the run is made: it changes no variable twice, and of the gates it has changed those that had their turn.
pub record HadTurns (net : List Driver) (input start : List Bool) (ranks : List ℕ) (had : ℕ → Bool) (steps : List (List ℕ)) (state : List Bool) : Type 0 where
  pub run : IsRun net input start steps
  pub once : IsRepeatFree (changed steps)
  pub ends : end_of start steps ≡ state
  pub inputs : (i place : ℕ) → driver_at net i ≡ External place → key_at ranks i ≢ 0 → is_listed (changed steps) i ≡ true
  pub gates : (i : ℕ) → is_gate_in net i ≡ true → key_at ranks i ≢ 0 → had i ≡ true → is_listed (changed steps) i ≡ true
  pub ranked : (i : ℕ) → is_listed (changed steps) i ≡ true → key_at ranks i ≢ 0
  pub done : (i : ℕ) → is_gate_in net i ≡ true → is_listed (changed steps) i ≡ true → had i ≡ true
  pub wires :
      (wire source : ℕ) → driver_at net wire ≡ Source source → is_listed (changed steps) wire ≡ true →
      (gate : ℕ) × IsWireInto net gate wire × (had gate ≡ true) × (key_at ranks wire < key_at ranks gate)

pub changes-few : (steps : List (List ℕ)) (i : ℕ) → IsRepeatFree (changed steps) → changes_in steps i ≤ 1
changes-few steps i once = elim (cases_Bool (is_listed (changed steps) i)) [
  | inl there ↦ omega (arith, changes-listed steps i once there)
  | inr out ↦ omega (arith, changes-unlisted steps i out)
]

-- so it has at most a flip for each variable
pub few-flips : (net : List Driver) (input start : List Bool) (steps : List (List ℕ)) → IsRun net input start steps → IsRepeatFree (changed steps) → flip_count steps ≤ length net
few-flips net input start steps run once = omega (arith, flips_per_variable net input start steps 1 run (λ i. changes-few steps i once))

module _ {net : List Driver} {input start : List Bool} {a : List Tri} {ranks : List ℕ} (turns : AreTurns net input start a ranks) where
  -- The first step: the inputs that turn.
  pub changed-inputs : (flips : List ℕ) → IsRepeatFree flips → ((i : ℕ) → is_listed flips i ≡ true → (place : ℕ) × (driver_at net i ≡ External place) × (key_at ranks i ≢ 0)) → ((i place : ℕ) → driver_at net i ≡ External place → key_at ranks i ≢ 0 → is_listed flips i ≡ true) → HadTurns net input start ranks (λ i. false) (with_step_if_any [] flips) (end_of start (with_step_if_any [] flips))
  changed-inputs flips distinct only all =
      let same : changed (with_step_if_any [] flips) ≡ flips = changed-after [] flips in
      let listed : (i : ℕ) → is_listed (changed (with_step_if_any [] flips)) i ≡ true → is_listed flips i ≡ true =
      λ i there. ap (λ (list : List ℕ). is_listed list i) (sym same) ∙ there in
      record {
        run = run-after net input start [] flips tt (λ some. record {
          some = some;
          once = distinct;
          inside = λ i there. turns.inside i (only i there).2;
          unstable = λ i there same. let is = only i there in turns.inputs i is.0 is.1 is.2 (same ∙ ap (driver_value input start) is.1);
        });
        once = subst IsRepeatFree (sym same) distinct;
        ends = refl;
        inputs = λ i place e ranked. ap (λ (list : List ℕ). is_listed list i) same ∙ all i place e ranked;
        gates = λ i is_gate ranked none. cc;
        ranked = λ i there. (only i (listed i there)).2;
        done = λ i is_gate there. (
            let is = only i (listed i there) in
            let none : is_gate_in net i ≡ false = rw is.1 refl in
            absurd (both_ways _ none is_gate));
        wires = λ wire source e there. let is = only wire (listed wire there) in cc;
      }

  module _ {had : ℕ → Bool} {steps : List (List ℕ)} {state : List Bool} (so_far : HadTurns net input start ranks had steps state) where
    pub state-long : length state ≡ length net
    state-long = ap (length {A = Bool}) (sym so_far.ends) ∙ (length-end_of start steps ∙ turns.long)

    -- the bit of a variable that has changed, and of one that has not
    bit-now : (i : ℕ) (there : Bool) → i < length net → is_listed (changed steps) i ≡ there → bit_at state i ≡ cond there (not (bit_at start i)) (bit_at start i)
    bit-now i there inside is =
        ap (λ (s : List Bool). bit_at s i) (sym so_far.ends)
        ∙ (ends_by_changes start steps i (omega (arith, inside, turns.long)) ∙ by_changes there is)
      where
        by_changes : (bit : Bool) → is_listed (changed steps) i ≡ bit → cond (eqb (changes_in steps i % 2) 1) (not (bit_at start i)) (bit_at start i) ≡ cond bit (not (bit_at start i)) (bit_at start i)
        by_changes true e = ap (λ (n : ℕ). cond (eqb (n % 2) 1) (not (bit_at start i)) (bit_at start i)) (changes-listed steps i so_far.once e)
        by_changes false e = ap (λ (n : ℕ). cond (eqb (n % 2) 1) (not (bit_at start i)) (bit_at start i)) (changes-unlisted steps i e)

    pub listed-same : (i : ℕ) → key_at ranks i ≢ 0 → bit_at start i ≡ bit_at state i → is_listed (changed steps) i ≡ false
    listed-same i some same = false_from_ne_true _ (λ there. not-itself (bit_at start i) (sym (bit-now i true (turns.inside i some) there) ∙ sym same))

    pub unlisted-bit : (i : ℕ) → key_at ranks i ≢ 0 → is_listed (changed steps) i ≡ false → bit_at start i ≡ bit_at state i
    unlisted-bit i some out = sym (bit-now i false (turns.inside i some) out)

    -- a node with a rank that has changed, if it is a gate because its turn came
    pub node-changed : (node : ℕ) → IsNode net node → key_at ranks node ≢ 0 → (is_gate_in net node ≡ true → had node ≡ true) → is_listed (changed steps) node ≡ true
    node-changed node is_node ranked done = by_driver (driver_at net node) refl
      where
        by_driver : (driver : Driver) → driver_at net node ≡ driver → is_listed (changed steps) node ≡ true
        by_driver (External place) e = so_far.inputs node place e ranked
        by_driver (Function kind first pins) e = (let is_gate : is_gate_in net node ≡ true = rw e refl in so_far.gates node is_gate ranked (done is_gate))
        by_driver (Source source) e = absurd (is_node source e)

    -- a wire that has a rank and has not changed differs from its source once that has changed
    pub wire-differs : (wire source : ℕ) → driver_at net wire ≡ Source source → key_at ranks wire ≢ 0 → is_listed (changed steps) wire ≡ false → (is_gate_in net source ≡ true → had source ≡ true) → bit_at state wire ≢ bit_at state source
    wire-differs wire source drives ranked fresh done same =
        let turn : IsChangedAfter start ranks wire source = turns.wires wire source drives ranked in
        let then = bit-now source true (turns.inside source turn.some) (node-changed source (turns.wired.node wire source drives) turn.some done) in
        not-itself (bit_at start source) (sym then ∙ (sym same ∙ (bit-now wire false (turns.inside wire ranked) fresh ∙ turn.same)))

    -- The turn of a gate with a rank, when those with lesser ranks have had theirs.
    module _ {gate : ℕ} (next : IsNext ranks (is_gate_in net) had gate) {kind : Kind} {first pins : ℕ} (function : IsFunction net gate kind first pins) where
      -- the gate's wires have not changed before, nor has the gate
      pin-fresh : (pin : ℕ) → pin < pins → is_listed (changed steps) (first + pin) ≡ false
      pin-fresh pin few = false_from_ne_true _ (λ there.
          let into = pin-into turns.wired function pin few in
          let from = pin-from turns.wired function pin few in
          let is = so_far.wires (first + pin) from.0 from.1 there in
          both_ways _ next.waits (ap had (turns.wired.own gate is.0 (first + pin) into is.1) ∙ is.2))

      gate-fresh : is_listed (changed steps) gate ≡ false
      gate-fresh = false_from_ne_true _ (λ there. both_ways _ next.waits (so_far.done gate next.turns there))

      -- which pins are free
      abbrev free : List Bool
      free = free_pins (key_at ranks gate) (slice_range ranks first (first + pins))

      at-free : (pin : ℕ) → pin < pins → get_or free pin false ≡ (not (eqb (key_at ranks (first + pin)) 0) && ltb (key_at ranks (first + pin)) (key_at ranks gate))
      at-free pin few =
          get_or-map (λ rank. not (eqb rank 0) && ltb rank (key_at ranks gate)) (slice_range ranks first (first + pins)) pin 0 false
          (omega (arith, few, length-part ranks first pins (λ k less. omega (arith, pin-inside turns.wired function k less, turns.long_ranks))))
          ∙ ap (λ (rank : ℕ). not (eqb rank 0) && ltb rank (key_at ranks gate)) (at-part ranks first pins pin 0 few)

      free-is : (pin : ℕ) → pin < pins → get_or free pin false ≡ true → (key_at ranks (first + pin) ≢ 0) × (key_at ranks (first + pin) < key_at ranks gate)
      free-is pin few is =
          let parts = and_parts _ _ (sym (at-free pin few) ∙ is) in
          (eqb-false (key_at ranks (first + pin)) 0 (not-true _ parts.0), ltb-true (key_at ranks (first + pin)) (key_at ranks gate) parts.1)

      pub rank-may-turn : MayTurn net state gate kind first pins (free_pins (key_at ranks gate) (slice_range ranks first (first + pins)))
      rank-may-turn = record {
        long = state-long;
        inside = turns.inside gate next.keyed;
        is = function;
        loose = λ pin source few is from.
            let rank = free-is pin few is in
            let turn : IsChangedAfter start ranks (first + pin) source = turns.wires (first + pin) source from rank.0 in
            let less : key_at ranks source < key_at ranks (first + pin) = turn.less in
            let lower : key_at ranks (first + pin) < key_at ranks gate = rank.1 in
            wire-differs (first + pin) source from rank.0 (pin-fresh pin few) (λ is_gate. next.before source is_gate turn.some (inl (omega arith)));
      }

      -- the ranks say that its free pins can turn it
      pub rank-possible : (list : List Bool) × IsCandidate kind (slice_range state first (first + pins)) (free_pins (key_at ranks gate) (slice_range ranks first (first + pins))) (not (bit_at state gate)) list
      rank-possible =
          let turn = turns.gates gate kind first pins function.drives next.keyed in
          let long = length-part state first pins (λ pin few. omega (arith, pin-inside turns.wired function pin few, state-long)) in (
            turn.0,
            record {
              agrees = record {
                same_length = turn.1.long ∙ sym long;
                kept = λ pin inside bound.
                    let few : pin < pins = omega (arith, inside, long) in
                    elim (same-or-differ (bit_at turn.0 pin) (bit_at start (first + pin))) [
                      | inl same ↦ same ∙ (pin-bit pin few ∙ sym (at-part state first pins pin false few))
                      | inr differ ↦ (
                          let is = turn.1.free pin few differ in
                          absurd (both_ways _ (sym (at-free pin few) ∙ bound) (and_from _ _ (not_from_false _ (ne_eqb (key_at ranks (first + pin)) 0 is.0)) (lt-ltb (key_at ranks (first + pin)) (key_at ranks gate) is.1)))
                          )
                    ];
              };
              value = turn.1.value ∙ ap not (unlisted-bit gate next.keyed gate-fresh);
            },
          )
        where
          pin-bit : (pin : ℕ) → pin < pins → bit_at start (first + pin) ≡ bit_at state (first + pin)
          pin-bit pin few = sym (bit-now (first + pin) false (pin-inside turns.wired function pin few) (pin-fresh pin few))

      -- After it.
      module _ {pattern : List Bool} (candidate : IsCandidate kind (slice_range state first (first + pins)) (free_pins (key_at ranks gate) (slice_range ranks first (first + pins))) (not (bit_at state gate)) pattern) where
        abbrev wires : List ℕ
        wires = turn_wires state first pins pattern

        abbrev later : List (List ℕ)
        later = with_step_if_any (with_step_if_any steps (turn_wires state first pins pattern)) (gate ∷ [])

        all-changed : changed later ≡ (changed steps ++ wires) ++ gate ∷ []
        all-changed = changed-after (with_step_if_any steps wires) (gate ∷ []) ∙ ap (λ (list : List ℕ). list ++ gate ∷ []) (changed-after steps wires)

        wire-pin : (i : ℕ) → is_listed wires i ≡ true → IsTurnPin free (slice_range state first (first + pins)) pattern first pins i
        wire-pin i there = listed-pin turns.wired rank-may-turn candidate i there

        wire-fresh : (i : ℕ) → is_listed wires i ≡ true → is_listed (changed steps) i ≡ false
        wire-fresh i there = let is = wire-pin i there in ap (is_listed (changed steps)) is.is ∙ pin-fresh is.pin is.few

        wire-rank : (i : ℕ) → is_listed wires i ≡ true → (key_at ranks i ≢ 0) × (key_at ranks i < key_at ranks gate)
        wire-rank i there =
            let is = wire-pin i there in
            subst (λ (n : ℕ). (key_at ranks n ≢ 0) × (key_at ranks n < key_at ranks gate)) (sym is.is) (free-is is.pin is.few is.free_pin)

        before : (i : ℕ) → is_listed (changed steps) i ≡ true → is_listed (changed later) i ≡ true
        before i there =
            ap (λ (list : List ℕ). is_listed list i) all-changed
            ∙ listed-left (changed steps ++ wires) (gate ∷ []) i (listed-left (changed steps) wires i there)

        either : (i : ℕ) → is_listed (changed later) i ≡ true → (is_listed (changed steps) i ≡ true) ⊎ ((is_listed wires i ≡ true) ⊎ (i ≡ gate))
        either i there =
            elim (listed-cases (changed steps ++ wires) (gate ∷ []) i (ap (λ (list : List ℕ). is_listed list i) (sym all-changed) ∙ there)) [
              | inl early ↦ elim (listed-cases (changed steps) wires i early) [ inl old ↦ inl old | inr now ↦ inr (inl now) ]
              | inr here ↦ inr (inr (is-one gate i here))
            ]

        no-gate : (i : ℕ) → is_gate_in net i ≡ true → is_listed wires i ≡ true → ⊥
        no-gate i is_gate there =
            let is = wire-pin i there in
            let from = pin-from turns.wired function is.pin is.few in
            let wire : driver_at net i ≡ Source from.0 = ap (driver_at net) is.is ∙ from.1 in
            let none : is_gate_in net i ≡ false = rw wire refl in
            both_ways _ none is_gate

        pub had-turn : HadTurns net input start ranks (also had gate) later (state_after (gate ∷ []) (state_after (turn_wires state first pins pattern) state))
        had-turn = record {
          run = turn-run turns.wired rank-may-turn candidate (alone gate) input start steps so_far.run so_far.ends;
          once =
              subst IsRepeatFree (sym all-changed)
              (is_repeat_free-append (changed steps ++ wires) (gate ∷ [])
              (is_repeat_free-append (changed steps) wires so_far.once (wires-once turns.wired rank-may-turn candidate)
              (λ i there. false_from_ne_true _ (λ now. both_ways _ (wire-fresh i now) there)))
              (refl, tt)
              (λ i there. false_from_ne_true _ (λ here.
              let same = is-one gate i here in
              elim (listed-cases (changed steps) wires i there) [
                | inl old ↦ both_ways _ gate-fresh (ap (is_listed (changed steps)) (sym same) ∙ old)
                | inr now ↦ no-gate gate next.turns (ap (is_listed wires) (sym same) ∙ now)
              ])));
          ends = turn-end start state steps wires (gate ∷ []) so_far.ends;
          inputs = λ i place e some. before i (so_far.inputs i place e some);
          gates = λ i is_gate some done. elim (or_cases (had i) (eqb i gate) done) [
            | inl old ↦ before i (so_far.gates i is_gate some old)
            | inr new ↦
                ap (λ (list : List ℕ). is_listed list i) all-changed
                ∙ listed-right (changed steps ++ wires) (gate ∷ []) i (only-one gate i (eqb-true i gate new))
          ];
          ranked = λ i there. elim (either i there) [
            | inl old ↦ so_far.ranked i old
            | inr (inl now) ↦ (wire-rank i now).0
            | inr (inr here) ↦ subst (λ (n : ℕ). key_at ranks n ≢ 0) (sym here) next.keyed
          ];
          done = λ i is_gate there. elim (either i there) [
            | inl old ↦ or_left (had i) (eqb i gate) (so_far.done i is_gate old)
            | inr (inl now) ↦ absurd (no-gate i is_gate now)
            | inr (inr here) ↦ or_right (had i) (eqb i gate) (eq-eqb i gate here)
          ];
          wires = λ wire source e there. elim (either wire there) [
            | inl old ↦ (let is = so_far.wires wire source e old in (is.0, is.1, or_left (had is.0) (eqb is.0 gate) is.2, is.3))
            | inr (inl now) ↦ (
                let is = wire-pin wire now in (
                  gate,
                  subst (IsWireInto net gate) (sym is.is) (pin-into turns.wired function is.pin is.few),
                  or_right (had gate) (eqb gate gate) (eq-eqb gate gate refl),
                  (wire-rank wire now).1,
                )
                )
            | inr (inr here) ↦ (let again : Function kind first pins ≡ Source source = sym function.drives ∙ (ap (driver_at net) (sym here) ∙ e) in cc)
          ];
        }
