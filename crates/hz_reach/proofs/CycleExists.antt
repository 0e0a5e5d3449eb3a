-- Two passes from a turned state lead back to it, and are the cycle of the change; and the room that they take.
use Rattle.std.proofs.Common.{◌≡◌, ℕ, zero, suc, ◌*◌, ◌≤◌, Bool, true, false, not, List, [], ◌∷◌, ◌++◌, refl, sym, ap, ◌∙◌, subst, arith, inl, inr, Contains, IsTrue, ◌+◌, length, sum_by}
use Rattle.hz_reach.proofs.Words.{AllByRecursion, range_with_len, Tri, admits, unknown_count, Refines, length-Refines, get_or-Refines, Refines-get_or}
use Rattle.hz_reach.proofs.Words.{Driver, External, Function, Source, driver_at, bit_at, value_at, IsUnstable, IsKnown, IsUnknown, state_after, IsRun}
use Rattle.hz_reach.proofs.Words.{end_of, flip_count, RunRecord, states_of, length-end_of, end_of-append, IsRun-append, IsCut, cut-member, IsWired}
use Rattle.hz_reach.proofs.Words.{changes_in, sum_by-cons, Spends, HasRoomFor, nil_from_length}
use Rattle.hz_reach.proofs.FlipCounts.{flips_per_unknown, steps_below_flips, flips_per_variable}
use Rattle.std.proofs.Math.Bool.{not-not}
use Rattle.hz_reach.specs.Cycles.{IsCycleOf}
use Rattle.hz_reach.specs.Pass.{IsFixed, AreEnough, IsPass, HasRoom}
use Rattle.hz_reach.specs.Turned.{IsTurned}
use Rattle.hz_reach.proofs.SettledVariables.{refines-unchanged, known-stable, no-input, wire-source, source-gate}
use Rattle.hz_reach.proofs.StepLemmas.{changes-append, unchanged-end, contains-end, contains-front, contains-begin}
use Rattle.hz_net.proofs.RestRounds.{either-value}
use Rattle.hz_reach.proofs.GateTurn.{same-or-differ, other-bit, not-itself}
use Rattle.hz_reach.proofs.TurnedStates.{same-turned}
use Rattle.hz_reach.proofs.Room.{room-left}

-- two changes are enough for each variable
pub two-enough : (net : List Driver) (ranks : List ℕ) (b : List Tri) (state : List Bool) → AreEnough net ranks b state (λ i. 2)
two-enough net ranks b state = record {
  gates = λ gate kind first pins drives unknown. omega arith;
  wires = λ wire source gate drives goes unknown. omega arith;
  twice = λ wire source gate drives goes unknown unsettled differ. omega arith;
}

-- the states of the later steps of a run are states of the run
contains-rest : (state member : List Bool) (steps more : List (List ℕ)) → Contains (states_of (end_of state steps) more) member → Contains (states_of state (steps ++ more)) member
contains-rest state member [] more there = there
contains-rest state member (flips ∷ steps) more there =
    let rest = contains-rest (state_after flips state) member steps more there in
    (suc rest.0, (let less = rest.1 in omega arith), rest.2)

-- what holds of all elements holds of each
all-contains : (P : List Bool → Type 0) (states : List (List Bool)) (member : List Bool) → AllByRecursion P states → Contains states member → P member
all-contains P [] member all there = absurd (omega (arith, there.1))
all-contains P (state ∷ states) member all (zero, inside, e) = subst P e all.0
all-contains P (state ∷ states) member all (suc k, inside, e) = all-contains P states member all.1 (k, omega (arith, inside), e)

module _ {net : List Driver} {input : List Bool} {ranks : List ℕ} {b : List Tri} (wired : IsWired net) (fixed : IsFixed net input b) where
  module _ {state middle last : List Bool} {first second : List (List ℕ)} (turned : IsTurned net ranks b state) (once : IsPass net input ranks b state first middle) (again : IsPass net input ranks b middle second last) where
    -- they lead back
    pub returned : last ≡ state
    returned =
        same-turned wired fixed again.turned turned (λ gate kind start pins drives unknown.
        again.gates gate kind start pins drives unknown
        ∙ (ap not (once.gates gate kind start pins drives unknown) ∙ not-not (bit_at state gate)))

    steps : List (List ℕ)
    steps = first ++ second

    whole-run : IsRun net input state (first ++ second)
    whole-run =
        IsRun-append net input state first second once.run
        (subst (λ (s : List Bool). IsRun net input s second) (sym once.ends) again.run)

    whole-end : end_of state (first ++ second) ≡ state
    whole-end = end_of-append state first second ∙ (ap (λ (s : List Bool). end_of s second) once.ends ∙ (again.ends ∙ returned))

    whole-known : (i : ℕ) → IsKnown (value_at b i) → changes_in (first ++ second) i ≡ 0
    whole-known i known = omega (arith, changes-append first second i, once.known i known, again.known i known)

    whole-few : (i : ℕ) → changes_in (first ++ second) i ≤ 4
    whole-few i =
        omega (arith, changes-append first second i, once.few (λ j. 2) (two-enough net ranks b state) i, again.few (λ j. 2) (two-enough net ranks b middle) i)

    member-refines : (member : List Bool) → Contains (states_of state (first ++ second)) member → Refines member b
    member-refines member there =
        let cut : IsCut state (first ++ second) member = cut-member state member (first ++ second) there in
        subst (λ (s : List Bool). Refines s b) cut.here
        (refines-unchanged state cut.earlier b turned.settled (λ i known.
        omega (arith, whole-known i known, changes-append cut.earlier cut.later i, ap (λ (list : List (List ℕ)). changes_in list i) cut.whole)))

    -- an unsettled variable has its first bit, and the other
    HasBit : ℕ → Bool → Type 0
    HasBit i bit = (member : List Bool) × Contains (states_of state (first ++ second)) member × (bit_at member i ≡ bit)

    has-both : (i : ℕ) (one : Bool) → HasBit i one → HasBit i (not one) → (bit : Bool) → HasBit i bit
    unfolding HasBit
    has-both i one here there bit =
        elim (same-or-differ bit one) [
          | inl same ↦ (here.0, here.1, here.2 ∙ sym same)
          | inr differ ↦ (there.0, there.1, there.2 ∙ sym (other-bit bit one differ))
        ]

    both : (i : ℕ) (bit : Bool) → IsUnknown (value_at b i) → HasBit i bit
    unfolding HasBit
    both i bit unknown = by_driver (driver_at net i) refl
      where
        by_driver : (driver : Driver) → driver_at net i ≡ driver → HasBit i bit
        by_driver (External place) e = absurd (no-input fixed i place unknown e)
        by_driver (Function kind start pins) e =
            has-both i (bit_at state i) (state, contains-begin state (first ++ second), refl)
            (end_of state first, contains-front state (end_of state first) first second (contains-end state first), ap (λ (s : List Bool). bit_at s i) once.ends ∙ once.gates i kind start pins e unknown) bit
        by_driver (Source source) e =
            let is = source-gate wired fixed i source e (sym (wire-source fixed i source e) ∙ unknown) in
            let early = once.shown i source e unknown in
            let late = again.shown i source e unknown in
            has-both i (bit_at state source)
            (early.0, contains-front state early.0 first second early.1, early.2)
            (late.0, contains-rest state late.0 first second (subst (λ (s : List Bool). Contains (states_of s second) late.0) (sym once.ends) late.1), late.2 ∙ once.gates source is.kind is.first is.pins is.drives is.unsettled) bit

    -- the cycle
    pub cycle-found : IsCycleOf net input b state (first ++ second)
    unfolding HasBit
    cycle-found =
        let flips : flip_count (first ++ second) ≤ 4 * unknown_count b =
        flips_per_unknown net input state (first ++ second) b 4 whole-run fixed.long whole-known whole-few in
        let only_state : (member : List Bool) → first ++ second ≡ [] → Contains (states_of state (first ++ second)) member → state ≡ member =
        λ member none there. alone member (subst (λ (list : List (List ℕ)). Contains (states_of state list) member) none there) in
        record {
          nontransient = record {
            cycle = record {
              run = whole-run;
              closed = whole-end;
              alone = λ none i inside. elim (either-value (value_at b i)) [
                | inl unknown ↦ (
                    let zero = both i false unknown in
                    let one = both i true unknown in
                    let here : bit_at state i ≡ false = ap (λ (s : List Bool). bit_at s i) (only_state zero.0 none zero.1) ∙ zero.2 in
                    let there : bit_at state i ≡ true = ap (λ (s : List Bool). bit_at s i) (only_state one.0 none one.1) ∙ one.2 in
                    cc
                    )
                | inr known ↦ known-stable fixed state i turned.settled inside known
              ];
            };
            lasts = λ waits. elim (either-value (value_at b waits.0)) [
              | inl unknown ↦ (
                  let other = both waits.0 (not waits.2.0) unknown in
                  let holds = all-contains (λ (now : List Bool). (bit_at now waits.0 ≡ waits.2.0) × IsUnstable net input now waits.0) (states_of state (first ++ second)) other.0 waits.2.1 other.1 in
                  not-itself waits.2.0 (sym other.2 ∙ holds.0)
                  )
              | inr known ↦ (
                  let holds = all-contains (λ (now : List Bool). (bit_at now waits.0 ≡ waits.2.0) × IsUnstable net input now waits.0) (states_of state (first ++ second)) state waits.2.1 (contains-begin state (first ++ second)) in
                  holds.1 (known-stable fixed state waits.0 turned.settled waits.1 known)
                  )
            ];
          };
          both = both;
          values = member-refines;
          stable = λ member there i inside known. known-stable fixed member i (member-refines member there) inside known;
          flips = flips;
          none = λ zero_unknown.
              nil_from_length (first ++ second) (omega (arith, steps_below_flips net input state (first ++ second) whole-run, flips, ap (λ (n : ℕ). 4 * n) zero_unknown));
        }
      where
        alone : (member : List Bool) → Contains (state ∷ []) member → state ≡ member
        alone member (zero, inside, e) = e
        alone member (suc k, inside, e) = absurd (omega (arith, inside))

pub twos : (first count : ℕ) → sum_by (λ (i : ℕ). 2) (range_with_len first count) ≡ 2 * count
twos first zero = refl
twos first (suc count) = omega (arith, sum_by-cons (λ (i : ℕ). 2) first (range_with_len (first + 1) count), twos (first + 1) count)

-- room for two flips for each variable is room for a pass
pub room-twice : (net : List Driver) (ranks : List ℕ) (b : List Tri) (state : List Bool) (run : RunRecord) → HasRoomFor (2 * length net) run → HasRoom net ranks b state run
room-twice net ranks b state run room = record {
  most = λ i. 2;
  enough = two-enough net ranks b state;
  room = record { flips = omega (arith, room.flips, twos 0 (length net)); steps = omega (arith, room.steps, twos 0 (length net)) };
}

-- the first pass leaves the room for the second
pub room-again :
    {net : List Driver} {input : List Bool} {ranks : List ℕ} {b : List Tri} {begun state : List Bool} {made : List (List ℕ)} {before now : RunRecord} →
    IsPass net input ranks b begun made state → now.steps ≡ before.steps ++ made → Spends before now → HasRoomFor (4 * length net) before →
    HasRoom net ranks b state now
room-again {net} {input} {ranks} {b} {begun} {state} {made} {before} {now} pass whole spent room =
    room-twice net ranks b state now
    (room-left net input begun made (2 * length net) pass.run whole spent room
    (omega (arith, flips_per_variable net input begun made 2 pass.run (pass.few (λ i. 2) (two-enough net ranks b begun)))))

-- A pass without a step ends where it begins, so it may come twice: the cycle has no step.
module _ {net : List Driver} {input : List Bool} {ranks : List ℕ} {b : List Tri} {state last : List Bool} {made : List (List ℕ)} where
  pub stays : IsPass net input ranks b state made last → made ≡ [] → last ≡ state
  stays pass none = sym pass.ends ∙ ap (end_of state) none

  pub cycle-rests : (steps : List (List ℕ)) → IsWired net → IsFixed net input b → IsTurned net ranks b state → IsPass net input ranks b state made last → made ≡ [] → steps ≡ [] → IsCycleOf net input b state steps
  cycle-rests steps wired fixed turned pass none empty =
      let again : IsPass net input ranks b last made last = subst (λ (s : List Bool). IsPass net input ranks b s made last) (sym (stays pass none)) pass in
      let whole : made ++ made ≡ steps = ap (λ (list : List (List ℕ)). list ++ made) none ∙ (none ∙ sym empty) in
      subst (IsCycleOf net input b state) whole (cycle-found wired fixed turned pass again)
