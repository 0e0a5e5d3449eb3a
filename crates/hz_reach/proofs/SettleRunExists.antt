-- The settle run: after the spread run and the settling rounds a pass may begin, and the three together are the settle run.
use Rattle.std.proofs.Common.{◌≡◌, ◌≢◌, ℕ, ◌+◌, ◌-◌, ◌*◌, ◌<◌, ◌≤◌, ◌⊎◌, Bool, not, cond, List, [], ◌∷◌, ◌++◌, length, take, refl, sym, ap, ◌∙◌, subst, arith, inl, inr, add-zero, sum_by, ◌%◌, nat_eq}
use Rattle.hz_reach.proofs.Words.{range_with_len, cases_lt, cases_eq, get_or_past, sum_by-cons, Tri, Zero, One, Unknown, Refines, Netlist, IsCircuit}
use Rattle.hz_reach.proofs.Words.{Driver, Source, network_of, driver_at, bit_at, value_at, driver_value, excitation, algorithm_b, IsKnown, IsUnknown}
use Rattle.hz_reach.proofs.Words.{IsSettlingRound, AreSettlingRounds, IsStableStart, IsRun, end_of, RunRecord, flip_count, end_of-append, IsRun-append}
use Rattle.hz_reach.proofs.Words.{key_at, IsEarlier, Spends, HasRoomFor, IsWireInto, IsWired, changes_in, IsSparingRun, wired-network_of, start-refines}
use Rattle.hz_reach.proofs.FlipCounts.{flips_are_changes, flips_per_variable, flips_per_unknown, ends_by_changes}
use Rattle.hz_net.proofs.RestRounds.{either-value}
use Rattle.hz_reach.proofs.GateTurn.{not-itself, driver-inside}
use Rattle.hz_reach.proofs.ListPlaces.{key-inside}
use Rattle.hz_reach.proofs.Order.{earlier-or-not}
use Rattle.hz_reach.proofs.Room.{room-left}
use Rattle.hz_reach.specs.Cycles.{IsSettleRun}
use Rattle.hz_reach.specs.Pass.{IsFixed, MayBegin, AreEnough, HasRoom, IsPass}
use Rattle.hz_reach.specs.Rounds.{AreRoundsOf, IsSettlingRun}
use Rattle.hz_reach.proofs.SettledVariables.{refines-unchanged, known-stable, wire-source, unknown-inside}
use Rattle.hz_reach.proofs.ChangeResults.{IsChange, a-above, change-fixed, unsettled-unknown}
use Rattle.hz_reach.proofs.CycleExists.{twos}
use Rattle.hz_reach.proofs.StepLemmas.{changes-append, unchanged-end}

-- a variable that is X in the result, or not in the first list, has no settling round
no-round : (sequence : ℕ → List Tri) (i : ℕ) (first result : Tri) (round : ℕ) → IsSettlingRound sequence i first result round → IsUnknown result ⊎ IsKnown first → round ≡ 0
no-round sequence i Zero result round is either = is
no-round sequence i One result round is either = is
no-round sequence i Unknown Zero round is (inl unknown) = cc
no-round sequence i Unknown Zero round is (inr known) = absurd (known refl)
no-round sequence i Unknown One round is (inl unknown) = cc
no-round sequence i Unknown One round is (inr known) = absurd (known refl)
no-round sequence i Unknown Unknown round is either = is

-- what has a settling round has a rank
pub round-ranked :
    {net : List Driver} {input start : List Bool} {a : List Tri} {ranks when : List ℕ} {b : List Tri} →
    IsChange net input start a ranks b → AreSettlingRounds (algorithm_b net input a) a b when → (i : ℕ) → key_at when i ≢ 0 → key_at ranks i ≢ 0
round-ranked {net} {input} {start} {a} {ranks} {when} {b} change rounds i some =
    let inside : i < length a = omega (arith, key-inside when i some, rounds.long) in
    elim (either-value (value_at a i)) [
      | inl unknown ↦ change.turns.known i unknown
      | inr known ↦ absurd (some (no-round (algorithm_b net input a) i (value_at a i) (value_at b i) (key_at when i) (rounds.each i inside) (inr known)))
    ]

-- a sum and what is left up to two
sum-rest : (f : ℕ → ℕ) (xs : List ℕ) → ((x : ℕ) → f x ≤ 2) → sum_by (λ x. 2 - f x) xs + sum_by f xs ≡ sum_by (λ (x : ℕ). 2) xs
sum-rest f [] few = refl
sum-rest f (x ∷ xs) few =
    omega (arith, sum_by-cons (λ y. 2 - f y) x xs, sum_by-cons f x xs, sum_by-cons (λ (y : ℕ). 2) x xs, few x, sum-rest f xs few)

-- What stands after the spread run and the rounds.
pub record IsBeforePass (netlist : Netlist) (input start : List Bool) (a : List Tri) (ranks when : List ℕ) (b : List Tri) (spread : List (List ℕ)) (spread_state : List Bool) (settle : List (List ℕ)) (state : List Bool) : Type 0 where
  pub begins : IsStableStart netlist start
  pub change : IsChange (network_of netlist) input start a ranks b
  pub rounds : AreSettlingRounds (algorithm_b (network_of netlist) input a) a b when
  pub sparing : IsSparingRun (network_of netlist) input start a ranks spread
  pub spread_end : spread_state ≡ end_of start spread
  pub settling : IsSettlingRun (network_of netlist) input when b spread_state settle state

-- the settling rounds may begin after the spread run
pub rounds-may-begin :
    {net : List Driver} {input start : List Bool} {a : List Tri} {ranks when : List ℕ} {b : List Tri} {spread : List (List ℕ)} {state : List Bool} →
    IsChange net input start a ranks b → AreSettlingRounds (algorithm_b net input a) a b when → IsSparingRun net input start a ranks spread →
    state ≡ end_of start spread → AreRoundsOf net input a when b state
rounds-may-begin {net} {input} {start} {a} {ranks} {when} {b} {spread} {state} change rounds sparing ends = record {
  long = change.turns.long_a;
  above = a-above change;
  result = change.b_result;
  rounds = rounds;
  refined =
      subst (λ (s : List Bool). Refines s a) (sym ends)
      (refines-unchanged start spread a
      (subst (Refines start) (sym change.a_result.2) (start-refines net input start change.turns.long change.a_result.0)) sparing.known);
}

-- A run as it was before its first step: what it has made by now is spent of it.
abbrev pub before-all : RunRecord → RunRecord
before-all run = record { steps = []; spare_flips = run.spare_flips + flip_count run.steps; spare_steps = run.spare_steps + length run.steps }

pub spent-so-far : (run : RunRecord) → Spends (before-all run) run
spent-so-far run = record { flips = sym (add-zero _); steps = sym (add-zero _) }

-- after the spread run there is room for the rounds
pub rounds-room :
    {net : List Driver} {input start : List Bool} {a : List Tri} {ranks : List ℕ} {now : RunRecord} →
    IsSparingRun net input start a ranks now.steps → HasRoomFor (2 * length net) (before-all now) → HasRoomFor (length net) now
rounds-room {net} {input} {start} {a} {ranks} {now} sparing room =
    room-left net input start now.steps (length net) sparing.run refl (spent-so-far now) room
    (omega (arith, flips_per_variable net input start now.steps 1 sparing.run sparing.wires))

module _ {netlist : Netlist} {input start : List Bool} {a : List Tri} {ranks when : List ℕ} {b : List Tri} {spread settle : List (List ℕ)} {spread_state state : List Bool} (before : IsBeforePass netlist input start a ranks when b spread spread_state settle state) where
  wired : IsWired (network_of netlist)
  wired = before.change.turns.wired

  fixed : IsFixed (network_of netlist) input b
  fixed = change-fixed before.change

  -- what has no settling round
  unsettled-round : (i : ℕ) → IsUnknown (value_at b i) → key_at when i ≡ 0
  unsettled-round i unknown =
      no-round (algorithm_b (network_of netlist) input a) i (value_at a i) (value_at b i) (key_at when i)
      (before.rounds.each i (omega (arith, unknown-inside fixed i unknown, before.change.turns.long_a))) (inl unknown)

  -- the bits after the spread run stay where a variable is unsettled
  unsettled-kept : (i : ℕ) → IsUnknown (value_at b i) → bit_at state i ≡ bit_at (end_of start spread) i
  unsettled-kept i unknown =
      ap (λ (s : List Bool). bit_at s i) (sym before.settling.ends)
      ∙ (unchanged-end spread_state settle i (before.settling.still i (unsettled-round i unknown))
      ∙ ap (λ (s : List Bool). bit_at s i) before.spread_end)

  inside-start : (i : ℕ) → IsUnknown (value_at b i) → i < length start
  inside-start i unknown = omega (arith, unknown-inside fixed i unknown, before.begins.long)

  -- what has changed once has the complement of its first bit
  changed-bit : (i : ℕ) → IsUnknown (value_at b i) → changes_in spread i ≡ 1 → bit_at state i ≡ not (bit_at start i)
  changed-bit i unknown one =
      unsettled-kept i unknown
      ∙ (ends_by_changes start spread i (inside-start i unknown)
      ∙ ap (λ (n : ℕ). cond (nat_eq (n % 2) 1) (not (bit_at start i)) (bit_at start i)) one)

  unchanged-bit : (i : ℕ) → IsUnknown (value_at b i) → changes_in spread i ≡ 0 → bit_at state i ≡ bit_at start i
  unchanged-bit i unknown none = unsettled-kept i unknown ∙ unchanged-end start spread i none

  -- a wire has its source's bit at the start
  wire-start : (wire source : ℕ) → driver_at (network_of netlist) wire ≡ Source source → bit_at start wire ≡ bit_at start source
  wire-start wire source drives =
      before.begins.stable wire (driver-inside (network_of netlist) wire source drives) ∙ ap (driver_value (take netlist.inputs start) start) drives

  source-unsettled : (wire source : ℕ) → driver_at (network_of netlist) wire ≡ Source source → IsUnknown (value_at b wire) → IsUnknown (value_at b source)
  source-unsettled wire source drives unknown = sym (wire-source fixed wire source drives) ∙ unknown

  source-changes : (wire source : ℕ) → driver_at (network_of netlist) wire ≡ Source source → IsUnknown (value_at b wire) → changes_in spread source ≡ 1
  source-changes wire source drives unknown =
      before.sparing.nodes source (unsettled-unknown before.change source (source-unsettled wire source drives unknown)) (wired.node wire source drives)

  pub pass-may-begin : MayBegin (network_of netlist) ranks b state
  pass-may-begin = record {
    settled = before.settling.values;
    differs = λ wire source gate drives goes unknown unsettled late same.
        let here : bit_at state wire ≡ bit_at start wire = unchanged-bit wire unknown (before.sparing.later wire source gate drives goes late) in
        let there : bit_at state source ≡ not (bit_at start source) = changed-bit source (source-unsettled wire source drives unknown) (source-changes wire source drives unknown) in
        not-itself (bit_at start source) (sym there ∙ (sym same ∙ (here ∙ wire-start wire source drives)));
  }

  -- Room

  so-far : ℕ → ℕ
  so-far i = changes_in (spread ++ settle) i

  so-far-few : (i : ℕ) → so-far i ≤ 2
  unfolding so-far
  so-far-few i = omega (arith, changes-append spread settle i, before.sparing.wires i, before.settling.once i)

  pub left : ℕ → ℕ
  left i = 2 - so-far i

  unsettled-so-far : (i : ℕ) → IsUnknown (value_at b i) → so-far i ≡ changes_in spread i
  unfolding so-far
  unsettled-so-far i unknown = omega (arith, changes-append spread settle i, before.settling.still i (unsettled-round i unknown))

  -- a wire that differs from its source, or whose source is later, has not changed
  wire-unchanged : (wire source gate : ℕ) → driver_at (network_of netlist) wire ≡ Source source → IsWireInto (network_of netlist) gate wire → IsUnknown (value_at b wire) → (IsEarlier ranks source gate → bit_at state wire ≢ bit_at state source) → changes_in spread wire ≡ 0
  wire-unchanged wire source gate drives goes unknown differ =
      elim (earlier-or-not ranks source gate) [
        | inl earlier ↦ elim (cases_eq (changes_in spread wire) 0) [
          | inl none ↦ none
          | inr some ↦ (
              let one : changes_in spread wire ≡ 1 = omega (arith, some, before.sparing.wires wire) in
              absurd (differ earlier
              (changed-bit wire unknown one
              ∙ (ap not (wire-start wire source drives)
              ∙ sym (changed-bit source (source-unsettled wire source drives unknown) (source-changes wire source drives unknown)))))
              )
        ]
        | inr late ↦ before.sparing.later wire source gate drives goes late
      ]

  pub left-enough : AreEnough (network_of netlist) ranks b state left
  unfolding left
  left-enough = record {
    gates = λ gate kind first pins drives unknown.
        omega (arith, unsettled-so-far gate unknown, before.sparing.wires gate);
    wires = λ wire source gate drives goes unknown.
        omega (arith, unsettled-so-far wire unknown, before.sparing.wires wire);
    twice = λ wire source gate drives goes unknown unsettled differ.
        omega (arith, unsettled-so-far wire unknown, wire-unchanged wire source gate drives goes unknown differ);
  }

  run-so-far : IsRun (network_of netlist) input start (spread ++ settle)
  run-so-far =
      IsRun-append (network_of netlist) input start spread settle before.sparing.run
      (subst (λ (s : List Bool). IsRun (network_of netlist) input s settle) before.spread_end before.settling.run)

  end-so-far : end_of start (spread ++ settle) ≡ state
  end-so-far = end_of-append start spread settle ∙ (ap (λ (s : List Bool). end_of s settle) (sym before.spread_end) ∙ before.settling.ends)

  pub pass-room : {first now : RunRecord} → now.steps ≡ first.steps ++ (spread ++ settle) → Spends first now → HasRoomFor (2 * length (network_of netlist)) first → HasRoom (network_of netlist) ranks b state now
  unfolding left so-far
  pass-room {first} {now} whole spent room =
      let net = network_of netlist in
      let rest = sum-rest (changes_in (spread ++ settle)) (range_with_len 0 (length net)) so-far-few in
      record {
        most = left;
        enough = left-enough;
        room = room-left net input start (spread ++ settle) (sum_by left (range_with_len 0 (length net))) run-so-far whole spent room
            (omega (arith, flips_are_changes net input start (spread ++ settle) run-so-far, rest, twos 0 (length net)));
      }

  -- The whole run.
  pub settle-found : {pass : List (List ℕ)} {last : List Bool} → IsPass (network_of netlist) input ranks b state pass last → IsSettleRun (network_of netlist) input start a b ((spread ++ settle) ++ pass)
  unfolding left so-far
  settle-found {pass} {last} is_pass =
      let net = network_of netlist in
      let whole : IsRun net input start ((spread ++ settle) ++ pass) =
      IsRun-append net input start (spread ++ settle) pass run-so-far (subst (λ (s : List Bool). IsRun net input s pass) (sym end-so-far) is_pass.run) in
      let ends : end_of start ((spread ++ settle) ++ pass) ≡ last =
      end_of-append start (spread ++ settle) pass ∙ (ap (λ (s : List Bool). end_of s pass) end-so-far ∙ is_pass.ends) in
      record {
        run = whole;
        values = subst (λ (s : List Bool). Refines s b) (sym ends) is_pass.turned.settled;
        stable = λ i inside known. subst (λ (s : List Bool). bit_at s i ≡ excitation net input s i) (sym ends) (known-stable fixed last i is_pass.turned.settled inside known);
        flips = flips_per_unknown net input start ((spread ++ settle) ++ pass) a 2 whole before.change.turns.long_a (λ i known.
            omega (
              arith,
              changes-append (spread ++ settle) pass i,
              changes-append spread settle i,
              before.sparing.known i known,
              before.settling.still i (known-round i known),
              is_pass.known i (λ unknown. known (unsettled-unknown before.change i unknown)),
            ))
            (λ i. omega (arith, changes-append (spread ++ settle) pass i, so-far-few i, is_pass.few left left-enough i));
      }
    where
      known-round : (i : ℕ) → IsKnown (value_at a i) → key_at when i ≡ 0
      known-round i known =
          elim (cases_lt i (length a)) [
            | inl inside ↦ no-round (algorithm_b (network_of netlist) input a) i (value_at a i) (value_at b i) (key_at when i) (before.rounds.each i inside) (inr known)
            | inr past ↦ get_or_past when i 0 (omega (arith, past, before.rounds.long))
          ]

  -- its last state
  pub settle-end : {pass : List (List ℕ)} {last : List Bool} → IsPass (network_of netlist) input ranks b state pass last → last ≡ end_of start ((spread ++ settle) ++ pass)
  settle-end {pass} {last} is_pass =
      sym (end_of-append start (spread ++ settle) pass ∙ (ap (λ (s : List Bool). end_of s pass) end-so-far ∙ is_pass.ends))

-- what stands when the rounds are made
pub before-pass :
    {netlist : Netlist} {input start : List Bool} {a b : List Tri} {ranks when : List ℕ} {spread settle : List (List ℕ)} {spread_state state : List Bool} →
    IsStableStart netlist start → IsChange (network_of netlist) input start a ranks b →
    AreSettlingRounds (algorithm_b (network_of netlist) input a) a b when → IsSparingRun (network_of netlist) input start a ranks spread →
    spread_state ≡ end_of start spread →
    (AreRoundsOf (network_of netlist) input a when b spread_state → IsSettlingRun (network_of netlist) input when b spread_state settle state) →
    IsBeforePass netlist input start a ranks when b spread spread_state settle state
before-pass begins change rounds sparing ends settled = record {
  begins = begins;
  change = change;
  rounds = rounds;
  sparing = sparing;
  spread_end = ends;
  settling = settled (rounds-may-begin change rounds sparing ends);
}
