-- A loop over the places of an order: what holds at a place, and that a gate's turn, or none, leads to the next one.
use Rattle.std.proofs.Common.{◌≡◌, ℕ, ◌+◌, ◌<◌, ◌≤◌, Bool, true, false, not, List, [], ◌++◌, length, get_or, sym, ap, ◌∙◌, subst, arith}
use Rattle.hz_reach.proofs.Words.{Netlist, IsCircuit, IsGateNumber, gate_at, IsPattern, bit_at, network_of, first_wire, at_wires, IsRun}
use Rattle.hz_reach.proofs.Words.{state_after, RunRecord, flip_count, IsInKeyOrder, with_step_if_any, Spends, HasRoomFor, ScratchState, AreTurnWires}
use Rattle.hz_reach.proofs.Words.{changed_wires, turn_flips, turn_end, turn_steps, IsTurn, listed-at, CanTurn, HasRoomForTurn}
use Rattle.hz_reach.proofs.ListPlaces.{key-inside}
use Rattle.hz_reach.proofs.Order.{had_before, also, IsNext, place-next, turn-comes, none-comes, none-yet}
use Rattle.hz_reach.proofs.Room.{steps-after, spends-more, flips-after, room-left}

-- the variable at a place of an order that is read
pub read : {list order : List ℕ} (place : ℕ) → list ≡ order → get_or list place 0 ≡ get_or order place 0
read place same = ap (λ (list : List ℕ). get_or list place 0) same

-- What turns in the order of a key keep of who has had a turn, the steps made and the state: a turn that comes next may be taken,
-- and keeps it; the steps are a run, and have at most so many flips.
pub record AreTurnsThatKeep (netlist : Netlist) (keys : List ℕ) (turning : ℕ → Bool) (free : ℕ → List Bool) (with_fan_out : Bool) (most : ℕ) (Holds : (ℕ → Bool) → List (List ℕ) → List Bool → Type 0) : Type 0 where
  pub circuit : IsCircuit netlist
  pub keys_long : length keys ≡ length (network_of netlist)
  pub long : (had : ℕ → Bool) (made : List (List ℕ)) (state : List Bool) → Holds had made state → length state ≡ length (network_of netlist)
  pub run :
      (had : ℕ → Bool) (made : List (List ℕ)) (state : List Bool) → Holds had made state →
      (input : List Bool) × (begun : List Bool) × IsRun (network_of netlist) input begun made
  pub few : (had : ℕ → Bool) (made : List (List ℕ)) (state : List Bool) → Holds had made state → flip_count made ≤ most
  pub possible :
      (had : ℕ → Bool) (made : List (List ℕ)) (state : List Bool) (gate : ℕ) → Holds had made state → IsNext keys turning had gate →
      IsGateNumber netlist gate → CanTurn netlist gate (free gate) state
  pub kept :
      (had : ℕ → Bool) (made : List (List ℕ)) (state : List Bool) (gate : ℕ) (pattern : List Bool) → Holds had made state →
      IsNext keys turning had gate → IsGateNumber netlist gate →
      IsPattern (gate_at netlist gate).kind (at_wires netlist gate state) (free gate) (not (bit_at state gate)) pattern →
      Holds (also had gate) (turn_steps netlist gate with_fan_out (changed_wires (first_wire netlist gate) (at_wires netlist gate state) pattern) state made)
      (turn_end netlist gate with_fan_out (changed_wires (first_wire netlist gate) (at_wires netlist gate state) pattern) state)

-- At a place of the order, after a run as it was first: what turns keep holds, and the run has the room for them.
pub record IsAtPlace (netlist : Netlist) (keys : List ℕ) (turning : ℕ → Bool) (free : ℕ → List Bool) (with_fan_out : Bool) (Holds : (ℕ → Bool) → List (List ℕ) → List Bool → Type 0) (first : RunRecord) (place : ℕ) (scratch : ScratchState) (now : RunRecord) : Type 0 where
  pub most : ℕ
  pub turns : AreTurnsThatKeep netlist keys turning free with_fan_out most Holds
  pub room : HasRoomFor most first
  pub sorted : IsInKeyOrder keys scratch.sorted
  pub marked : scratch.marked ≡ []
  pub made : List (List ℕ)
  pub steps : now.steps ≡ first.steps ++ made
  pub spent : Spends first now
  pub holds : Holds (had_before turning scratch.sorted place) made scratch.state

module _ {netlist : Netlist} {keys : List ℕ} {turning : ℕ → Bool} {free : ℕ → List Bool} {with_fan_out : Bool} {Holds : (ℕ → Bool) → List (List ℕ) → List Bool → Type 0} {first : RunRecord} where
  pub at-begin :
      {most : ℕ} {scratch : ScratchState} {now : RunRecord} → AreTurnsThatKeep netlist keys turning free with_fan_out most Holds →
      HasRoomFor most first → IsInKeyOrder keys scratch.sorted → scratch.marked ≡ [] → (made : List (List ℕ)) → now.steps ≡ first.steps ++ made →
      Spends first now → Holds (λ i. false) made scratch.state → IsAtPlace netlist keys turning free with_fan_out Holds first 0 scratch now
  at-begin {most} {scratch} turns room sorted marked made steps spent holds = record {
    most = most;
    turns = turns;
    room = room;
    sorted = sorted;
    marked = marked;
    made = made;
    steps = steps;
    spent = spent;
    holds = subst (λ (had : ℕ → Bool). Holds had made scratch.state) (sym (none-yet sorted turning)) holds;
  }

  module _ {place : ℕ} {scratch : ScratchState} {now : RunRecord} (at : IsAtPlace netlist keys turning free with_fan_out Holds first place scratch now) where
    pub at-long : length scratch.state ≡ length (network_of netlist)
    at-long = at.turns.long _ _ _ at.holds

    -- the variable at the place
    module _ {end var : ℕ} (less : place < end) (ends : end ≡ length scratch.sorted) (here : var ≡ get_or scratch.sorted place 0) where
      inside : place < length scratch.sorted
      inside = omega (arith, less, ends)

      pub at-inside : var < length (network_of netlist)
      at-inside =
          omega (arith, here, key-inside keys (get_or scratch.sorted place 0) ((at.sorted.keyed (get_or scratch.sorted place 0)).0 (listed-at scratch.sorted place inside)), at.turns.keys_long)

      -- it has no turn
      pub at-next : turning var ≡ false → IsAtPlace netlist keys turning free with_fan_out Holds first (place + 1) scratch now
      at-next none = record {
        most = at.most;
        turns = at.turns;
        room = at.room;
        sorted = at.sorted;
        marked = at.marked;
        made = at.made;
        steps = at.steps;
        spent = at.spent;
        holds = subst (λ (had : ℕ → Bool). Holds had at.made scratch.state) (sym (none-comes at.sorted turning place inside (ap turning (sym here) ∙ none))) at.holds;
      }

      -- it is a gate that has a turn
      module _ (comes : turning var ≡ true) (is_gate : IsGateNumber netlist var) where
        next : IsNext keys turning (had_before turning scratch.sorted place) var
        next = subst (IsNext keys turning (had_before turning scratch.sorted place)) (sym here) (place-next at.sorted turning place inside (ap turning (sym here) ∙ comes))

        pub at-possible : CanTurn netlist var (free var) scratch.state
        at-possible = at.turns.possible _ _ _ var at.holds next is_gate

        turned :
            (wires : List ℕ) → AreTurnWires netlist var (free var) scratch.state wires →
            Holds (also (had_before turning scratch.sorted place) var) (turn_steps netlist var with_fan_out wires scratch.state at.made) (turn_end netlist var with_fan_out wires scratch.state)
        turned wires are =
            subst (λ (list : List ℕ). Holds (also (had_before turning scratch.sorted place) var) (turn_steps netlist var with_fan_out list scratch.state at.made) (turn_end netlist var with_fan_out list scratch.state)) (sym are.marks)
            (at.turns.kept _ _ _ var are.pattern at.holds next is_gate are.canonical)

        pub at-room : HasRoomForTurn netlist var (free var) with_fan_out scratch.state now
        at-room wires are =
            let flips = turn_flips netlist var with_fan_out (state_after wires scratch.state) in
            let run = at.turns.run _ _ _ at.holds in
            room-left (network_of netlist) run.0 run.1 at.made (length wires + length flips) run.2 at.steps at.spent at.room
            (omega (arith, at.turns.few _ _ _ (turned wires are), flips-after (with_step_if_any at.made wires) flips, flips-after at.made wires))

        pub at-turn :
            {last : ScratchState} {then : RunRecord} → IsTurn netlist var (free var) with_fan_out scratch.state last.state now.steps then.steps →
            last.sorted ≡ scratch.sorted → last.marked ≡ [] → Spends now then →
            IsAtPlace netlist keys turning free with_fan_out Holds first (place + 1) last then
        at-turn {last} {then} turn order marked spent =
            let flips = turn_flips netlist var with_fan_out (state_after turn.wires scratch.state) in
            let made = turn_steps netlist var with_fan_out turn.wires scratch.state at.made in
            let had = turn-comes at.sorted turning place inside (ap turning (sym here) ∙ comes) ∙ ap (also (had_before turning scratch.sorted place)) (sym here) in
            record {
              most = at.most;
              turns = at.turns;
              room = at.room;
              sorted = subst (IsInKeyOrder keys) (sym order) at.sorted;
              marked = marked;
              made = made;
              steps =
                  turn.made
                  ∙ (ap (turn_steps netlist var with_fan_out turn.wires scratch.state) at.steps
                  ∙ (ap (λ (list : List (List ℕ)). with_step_if_any list flips) (steps-after first.steps at.made turn.wires)
                  ∙ steps-after first.steps (with_step_if_any at.made turn.wires) flips));
              spent = spends-more at.spent spent;
              holds =
                  subst (λ (list : List ℕ). Holds (had_before turning list (place + 1)) made last.state) (sym order)
                  (subst (λ (who : ℕ → Bool). Holds who made last.state) (sym had)
                  (subst (Holds (also (had_before turning scratch.sorted place) var) made) (sym turn.ends) (turned turn.wires turn.are_wires)));
            }
