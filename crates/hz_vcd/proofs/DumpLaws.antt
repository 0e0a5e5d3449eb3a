-- A dump, as what its reader takes one part after the other.
use Rattle.std.proofs.Common.{◌≡◌, ◌∙◌, ℕ, ◌+◌, ◌-◌, Bool, true, false, List, [], ◌∷◌, ◌++◌, length, map, refl, sym, ap, subst, arith, inl, inr, append_assoc}
use Rattle.std.specs.Prelude.{codes}
use Rattle.std.specs.List.{range_with_len}
use Rattle.std.proofs.lemmas.List.{append-nil}
use Rattle.hz_core.specs.Netlist.{Netlist}
use Rattle.hz_net.specs.Network.{bit_at}
use Rattle.hz_vcd.specs.declared.fault.VcdFault.{VcdFault}
use Rattle.hz_vcd.specs.declared.fault.VcdFault.TheVariants as fault
use Rattle.hz_vcd.specs.Wave.{WaveOf}
use Rattle.hz_vcd.specs.Dump.{Place, MayStand, StandAt, IsDump, head_places, variables_of, end_word, value_word, time_word, state_words, steps_words}
use Rattle.hz_vcd.specs.FirstWrong.{MayGoOn, HasFormFault, MeansAlone, IsFaultOf}
use Rattle.hz_vcd.specs.Reading.{WordsLeft, Ending, Values, Comes, Goes, Stops, Fails, Means, all_words, all_places, place_word, state_head}
use Rattle.hz_vcd.proofs.HeadLaws.{flat}

-- words at places, and what comes behind them
pub places-come : (places : List Place) (next : Ending) (head later : List (List ℕ)) (state : List Bool) (steps : List (List ℕ)) → StandAt places head → Comes next later state steps → Comes (all_places places next) (head ++ later) state steps
places-come [] next head later state steps is comes = subst (λ (words : List (List ℕ)). Comes next (words ++ later) state steps) (sym is) comes
places-come (place ∷ places) next head later state steps (blocks, rest, may, are, stand) comes =
    by place.after_blocks may (places-come places next rest later state steps stand comes)
  where
    by : (after : Bool) → MayStand after blocks → Comes (all_places places next) (rest ++ later) state steps → Comes (place_word after place.word (all_places places next)) (head ++ later) state steps
    by true all onward = (blocks, rest ++ later, all, ap (λ (words : List (List ℕ)). words ++ later) are ∙ append_assoc (flat blocks) (place.word ∷ rest) later, onward)
    by false none onward = (rest ++ later, ap (λ (words : List (List ℕ)). words ++ later) (are ∙ ap (λ (b : List (List (List ℕ))). flat b ++ place.word ∷ rest) none), onward)

-- and back
pub come-places : (places : List Place) (next : Ending) (words : List (List ℕ)) (state : List Bool) (steps : List (List ℕ)) → Comes (all_places places next) words state steps → (head : List (List ℕ)) × (later : List (List ℕ)) × StandAt places head × (words ≡ head ++ later) × Comes next later state steps
come-places [] next words state steps comes = ([], words, refl, refl, comes)
come-places (place ∷ places) next words state steps comes = by place.after_blocks refl (λ rest onward. come-places places next rest state steps onward) comes
  where
    by : (after : Bool) → place.after_blocks ≡ after → ((rest : List (List ℕ)) → Comes (all_places places next) rest state steps → (head : List (List ℕ)) × (later : List (List ℕ)) × StandAt places head × (rest ≡ head ++ later) × Comes next later state steps) → Comes (place_word after place.word (all_places places next)) words state steps → (head : List (List ℕ)) × (later : List (List ℕ)) × StandAt (place ∷ places) head × (words ≡ head ++ later) × Comes next later state steps
    by true e further (blocks, rest, all, are, onward) =
        let found = further rest onward in (
          flat blocks ++ place.word ∷ found.0,
          found.1,
          (blocks, found.0, subst (λ (after : Bool). MayStand after blocks) (sym e) all, refl, found.2),
          are ∙ ap (λ (later : List (List ℕ)). flat blocks ++ place.word ∷ later) found.3 ∙ sym (append_assoc (flat blocks) (place.word ∷ found.0) found.1),
          found.4,
        )
    by false e further (rest, are, onward) =
        let found = further rest onward in (
          place.word ∷ found.0,
          found.1,
          ([], found.0, subst (λ (after : Bool). MayStand after []) (sym e) refl, refl, found.2),
          are ∙ ap (λ (later : List (List ℕ)). place.word ∷ later) found.3,
          found.4,
        )

-- what may come of a whole dump
abbrev pub whole_dump : Netlist → Ending
whole_dump netlist = all_places (head_places netlist) (all_words state_head (Values (variables_of netlist) 0 []))

-- a dump comes so
pub dump-comes : (netlist : Netlist) (words : List (List ℕ)) (state : List Bool) (steps : List (List ℕ)) → IsDump netlist words state steps → Comes (whole_dump netlist) words state steps
dump-comes netlist words state steps d =
    let n = variables_of netlist in
    let count : length state ≡ n - 0 = omega (arith, d.long) in
    let values = ap (λ (m : ℕ). map (λ var. value_word var (bit_at state var)) (range_with_len 0 m) ++ end_word ∷ steps_words 1 state steps) count in
    let front = map (λ var. value_word var (bit_at state var)) (range_with_len 0 (length state)) in
    let behind : (front ++ end_word ∷ []) ++ steps_words 1 state steps ≡ front ++ end_word ∷ steps_words 1 state steps = append_assoc front (end_word ∷ []) (steps_words 1 state steps) in
    subst (λ (all : List (List ℕ)). Comes (whole_dump netlist) all state steps)
    (sym (d.are ∙ append_assoc d.head (state_words state) (steps_words 1 state steps)))
    (places-come (head_places netlist) (all_words state_head (Values n 0 [])) d.head (state_words state ++ steps_words 1 state steps) state steps d.is_head
    (_, refl, (_, refl, (d.long, d.flips, refl, behind ∙ values))))

pub comes-dump : (netlist : Netlist) (words : List (List ℕ)) (state : List Bool) (steps : List (List ℕ)) → Comes (whole_dump netlist) words state steps → IsDump netlist words state steps
comes-dump netlist words state steps comes =
    let n = variables_of netlist in
    let found = come-places (head_places netlist) (all_words state_head (Values n 0 [])) words state steps comes in
    let rest = found.4 in
    let there = rest.2.2 in
    let count : n - 0 ≡ length state = omega (arith, there.0) in
    let values = ap (λ (m : ℕ). map (λ var. value_word var (bit_at state var)) (range_with_len 0 m) ++ end_word ∷ steps_words 1 state steps) count in
    let front = map (λ var. value_word var (bit_at state var)) (range_with_len 0 (length state)) in
    let behind : (front ++ end_word ∷ []) ++ steps_words 1 state steps ≡ front ++ end_word ∷ steps_words 1 state steps = append_assoc front (end_word ∷ []) (steps_words 1 state steps) in
    let whole : found.1 ≡ state_words state ++ steps_words 1 state steps =
    rest.1 ∙ ap (λ (later : List (List ℕ)). time_word 0 ∷ later) rest.2.1 ∙ ap (λ (later : List (List ℕ)). time_word 0 ∷ codes "$dumpvars" ∷ later) (there.3 ∙ values ∙ sym behind) in
    record {
      head = found.0;
      is_head = found.2;
      long = there.0;
      flips = there.1;
      are = found.3 ∙ ap (λ (later : List (List ℕ)). found.0 ++ later) whole ∙ sym (append_assoc found.0 (state_words state) (steps_words 1 state steps));
    }

-- what was read is the meaning, and the only one
pub means-alone : (netlist : Netlist) (was : WordsLeft) (wave : WaveOf) → Means (whole_dump netlist) was wave.state wave.steps → MeansAlone netlist was.words wave
means-alone netlist was wave m =
    (comes-dump netlist was.words wave.state wave.steps m.is, λ state steps dump. m.alone state steps (dump-comes netlist was.words state steps dump))

-- a fault is that of the words
pub fault-of : (netlist : Netlist) (was : WordsLeft) (why : VcdFault) → was.read ≡ 0 → Fails (whole_dump netlist) was why → IsFaultOf netlist was.words why
fault-of netlist was fault.Memory none fails = tt
fault-of netlist was (fault.Form token) none q = by q.front q.after q.are q.place q.goes q.stops
  where
    by : (front after : List (List ℕ)) → was.words ≡ front ++ after → token ≡ was.read + length front + 1 → Goes (whole_dump netlist) front → Stops (whole_dump netlist) front after → HasFormFault netlist was.words token
    by front [] are place goes stops =
        let same : was.words ≡ front = are ∙ append-nil front in inr (
          omega (arith, place, none, ap length same),
          subst (MayGoOn netlist) (sym same) (goes.0, (goes.1, goes.2, comes-dump netlist (front ++ goes.0) goes.1 goes.2 goes.3)),
          λ some. stops some.0 some.1 (subst (λ (words : List (List ℕ)). Comes (whole_dump netlist) words some.0 some.1) are (dump-comes netlist was.words some.0 some.1 some.2)),
        )
    by front (word ∷ after) are place goes stops = inl (record {
      before = front;
      word = word;
      after = after;
      are = are;
      place = omega (arith, place, none);
      went_on = (goes.0, (goes.1, goes.2, comes-dump netlist (front ++ goes.0) goes.1 goes.2 goes.3));
      stops = λ some. stops some.0 some.1.0 some.1.1
          (subst (λ (words : List (List ℕ)). Comes (whole_dump netlist) words some.1.0 some.1.1) (append_assoc front (word ∷ []) some.0)
          (dump-comes netlist ((front ++ word ∷ []) ++ some.0) some.1.0 some.1.1 some.1.2));
    })

-- a dump has no fault
pub no_fault : (netlist : Netlist) (words : List (List ℕ)) (state : List Bool) (steps : List (List ℕ)) (number : ℕ) → IsDump netlist words state steps → HasFormFault netlist words number → ⊥
no_fault netlist words state steps number dump (inr (place, on, none)) = none (state, steps, dump)
no_fault netlist words state steps number dump (inl wrong) =
    wrong.stops (wrong.after, (state, steps, subst (λ (all : List (List ℕ)). IsDump netlist all state steps) (wrong.are ∙ sym (append_assoc wrong.before (wrong.word ∷ []) wrong.after)) dump))
