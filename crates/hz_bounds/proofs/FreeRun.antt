-- A feedback-free node whose word has two changes or more comes back in some run. What moves leaves its start one variable after the
-- other, by enough wires into each gate; then a wire more into a gate, or the source of one that returns, turns the gate back.
use Rattle.std.proofs.Common.{◌≡◌, ◌≢◌, ◌⊎◌, ◌&&◌, ℕ, zero, suc, ◌+◌, ◌-◌, ◌<◌, ◌≤◌, Bool, true, false, not, cond, List, [], ◌∷◌, ◌++◌, map, length, take, get_or, set, refl, sym, ap, ◌∙◌, subst, arith, inl, inr, eqb}
use Rattle.hz_bounds.proofs.Words.{slice_range, range_with_len, cases_Bool, cases_lt, cases_eq, both_ways, le-leb, length-map, length-map-range_with_len}
use Rattle.hz_bounds.proofs.Words.{get_or-map-range_with_len, is_listed, length-part, at-part, Kind, gate_value, Netlist, IsCircuit, IsWhole, Driver, External, Function, Source}
use Rattle.hz_bounds.proofs.Words.{network_of, driver_at, bit_at, IsStableStart, state_after, IsRun, AreWords, first_letter, change_count, current_letters, change_between}
use Rattle.hz_bounds.proofs.Words.{IsWordOf, IsFeedbackFree, input_word, variable_history, IsOnTheWay}
use Rattle.std.specs.Prelude.{nat_lt}
use Rattle.std.specs.Bool.{nat_le}
use Rattle.std.proofs.lemmas.Bool.{and_parts, and_from, eqb-true, eq-eqb, leb-true, lt-ltb, le-ltb, ltb-true}
use Rattle.std.proofs.lemmas.List.{ext_get_or, get_or_past, get_or-map, length-set, get_or-set_same, get_or-set_other}
use Rattle.std.proofs.Math.Seq.{take-suc, take-length}
use Rattle.hz_lists.proofs.ListedLemmas.{listed-at, pushed-cases}
use Rattle.hz_lists.proofs.PartLemmas.{same-parts}
use Rattle.hz_core.specs.Pattern.{differs}
use Rattle.hz_reach.specs.FilteredRange.{filtered_range}
use Rattle.hz_net.specs.Network.{driver_value, excitation}
use Rattle.hz_net.specs.Reads.{Reads, IsNode, IsWireInto}
use Rattle.hz_net.proofs.Wired.{wired-network_of}
use Rattle.hz_gmw.specs.Runs.{end_of, IsReachable}
use Rattle.hz_gmw.proofs.Flips.{length-state_after, at-state_after}
use Rattle.hz_gmw.proofs.Paths.{IsReachable-onward, IsRun-append}
use Rattle.hz_reach.proofs.FilteredRangeLemmas.{filtered_range-is, is-filtered_range, filtered_range-once, differs-true, true-differs}
use Rattle.hz_free.specs.FreePart.{FreePart}
use Rattle.hz_free.specs.VariableWords.{IsDrivenWord, AreVariableWords}
use Rattle.hz_free.proofs.AllWords.{IsOrdered}
use Rattle.hz_free.proofs.Chains.{free-from_reads, reads-free, reads-inside, free-induction}
use Rattle.hz_free.proofs.Delays.{change-not, change_count-history}
use Rattle.hz_free.proofs.Covered.{IsFollowed, free-followed, wires-AreWords, wires-present, length-wires}
use Rattle.hz_bounds.proofs.TurnedBack.{other, same-or-not, far_letter, far_letters, IsTurnedBack, turned-once, turned-back}
use Rattle.hz_bounds.proofs.Steps.{place_in, place-before, place-there, place-within, step-or-none, new-bit, turned-cond, returned-pin, same-source, change-back, changes-least, changes-append, way-long, way-at}

module _ (netlist : Netlist) (circuit : IsCircuit netlist) (whole : IsWhole netlist) (input start : List Bool) (begins : IsStableStart netlist start) (words : List (List Bool)) (are : AreVariableWords (network_of netlist) input start words) (part : FreePart) (is : IsOrdered netlist part) where
  abbrev net : List Driver
  net = network_of netlist

  -- whether a variable is feedback-free and moves
  abbrev pub moves : ℕ → Bool
  moves i = bit_at part.free i && nat_le 1 (change_count (get_or words i []))

  -- its value once it has moved
  abbrev pub turned_bit : ℕ → Bool
  turned_bit i = cond (moves i) (not (bit_at start i)) (bit_at start i)

  -- a state in which the nodes that move have moved, and wires may have; each listed node that moves asks for the value that it has
  pub record IsMoved (done : List ℕ) (state : List Bool) : Type 0 where
    pub long : length state ≡ length net
    pub node : (i : ℕ) → i < length net → IsNode net i → bit_at state i ≡ turned_bit i
    pub wire : (i source : ℕ) → i < length net → driver_at net i ≡ Source source → (bit_at state i ≡ bit_at start i) ⊎ (bit_at state i ≡ turned_bit source)
    pub asks : (i : ℕ) → is_listed done i ≡ true → IsNode net i → moves i ≡ true → excitation net input state i ≡ turned_bit i

  pub differs-moves : (i : ℕ) → turned_bit i ≢ bit_at start i → moves i ≡ true
  differs-moves i differ =
      elim (cases_Bool (moves i)) [
        | inl yes' ↦ yes'
        | inr no' ↦ absurd (differ (ap (λ (b : Bool). cond b (not (bit_at start i)) (bit_at start i)) no'))
      ]

  pub moved-bit : (i : ℕ) → moves i ≡ true → turned_bit i ≡ not (bit_at start i)
  moved-bit i moved = ap (λ (b : Bool). cond b (not (bit_at start i)) (bit_at start i)) moved

  pub moves-free : (i : ℕ) → i < length net → moves i ≡ true → IsFeedbackFree net i
  moves-free i few moved = (is.marks.exact i few).0 (and_parts (bit_at part.free i) (nat_le 1 (change_count (get_or words i []))) moved).0

  pub moves-inside : (i : ℕ) → moves i ≡ true → i < length net
  moves-inside i moving =
      elim (cases_lt i (length net)) [
        | inl inside ↦ inside
        | inr beyond ↦
            let mark = (and_parts (bit_at part.free i) (nat_le 1 (change_count (get_or words i []))) moving).0 in
            let long = is.marks.long in
            absurd (both_ways (bit_at part.free i) (get_or_past part.free i false (omega (arith, long, beyond))) mark)
      ]

  pub moves-some : (i : ℕ) → moves i ≡ true → 1 ≤ change_count (get_or words i [])
  moves-some i moved = leb-true 1 (change_count (get_or words i [])) (and_parts (bit_at part.free i) (nat_le 1 (change_count (get_or words i []))) moved).1

  pub free-moves : (i : ℕ) → i < length net → IsFeedbackFree net i → 1 ≤ change_count (get_or words i []) → moves i ≡ true
  free-moves i few free some = and_from (bit_at part.free i) (nat_le 1 (change_count (get_or words i []))) ((is.marks.exact i few).1 free) (le-leb 1 (change_count (get_or words i [])) some)

  pub free-listed : (i : ℕ) → i < length net → IsFeedbackFree net i → is_listed part.order i ≡ true
  free-listed i few free = is.listed i few ∙ (is.marks.exact i few).1 free

  pub start-wire : (i source : ℕ) → i < length net → driver_at net i ≡ Source source → bit_at start i ≡ bit_at start source
  start-wire i source few driven = begins.stable i few ∙ ap (driver_value (take netlist.inputs start) start) driven

  pub start-gate : (i : ℕ) (kind : Kind) (first pins : ℕ) → i < length net → driver_at net i ≡ Function kind first pins → bit_at start i ≡ gate_value kind (slice_range start first (first + pins))
  start-gate i kind first pins few driven = begins.stable i few ∙ ap (driver_value (take netlist.inputs start) start) driven

  source-node : (i source : ℕ) → driver_at net i ≡ Source source → IsNode net source
  source-node i source driven = (wired-network_of netlist circuit).node i source driven

  source-inside : (i source : ℕ) → driver_at net i ≡ Source source → source < length net
  source-inside i source driven = (wired-network_of netlist circuit).node_inside i source driven

  -- what a listed variable reads stands before it
  reads-before : (i j : ℕ) → is_listed part.order i ≡ true → Reads (driver_at net i) j → place_in part.order j < place_in part.order i
  reads-before i j listed reads =
      let there = place-there part.order i listed in
      place-before (place_in part.order i) part.order j
      (is.after (place_in part.order i) j there.0 (subst (λ (m : ℕ). Reads (driver_at net m) j) (sym there.1) reads))

  module _ (state : List Bool) (moved : IsMoved part.order state) where
    -- what has moved is listed, and asks for the value that it has
    node-asks : (i : ℕ) → i < length net → bit_at state i ≢ bit_at start i → (driver : Driver) → driver_at net i ≡ driver → IsNode net i → (is_listed part.order i ≡ true) × (bit_at state i ≡ driver_value input state driver)
    node-asks i few differ driver driven is_node =
        let now = moved.node i few is_node in
        let moving = differs-moves i (λ e. differ (now ∙ e)) in
        let listed = free-listed i few (moves-free i few moving) in
        (listed, now ∙ (sym (moved.asks i listed is_node moving) ∙ ap (driver_value input state) driven))

    asks-by : (i : ℕ) → i < length net → bit_at state i ≢ bit_at start i → (driver : Driver) → driver_at net i ≡ driver → (is_listed part.order i ≡ true) × (bit_at state i ≡ driver_value input state driver)
    asks-by i few differ (External place) driven =
        node-asks i few differ (External place) driven (λ source e. not_both place source (sym driven ∙ e))
      where
        not_both : (place source : ℕ) → External place ≡ Source source → ⊥
        not_both place source e = cc
    asks-by i few differ (Source source) driven =
        elim (moved.wire i source few driven) [
          | inl same ↦ absurd (differ same)
          | inr gone ↦
              let inside = source-inside i source driven in
              let moving = differs-moves source (λ e. differ (gone ∙ (e ∙ sym (start-wire i source few driven)))) in
              let free = free-from_reads net i (λ j reads.
              subst (λ (j : ℕ). IsFeedbackFree net j) (subst (λ (driver : Driver). Reads driver j) driven reads) (moves-free source inside moving)) in
              (free-listed i few free, gone ∙ sym (moved.node source inside (source-node i source driven)))
        ]
    asks-by i few differ (Function kind first pins) driven =
        node-asks i few differ (Function kind first pins) driven (λ source e. not_both kind first pins source (sym driven ∙ e))
      where
        not_both : (kind : Kind) (first pins source : ℕ) → Function kind first pins ≡ Source source → ⊥
        not_both kind first pins source e = cc

    -- the variables of the order before a place have moved
    abbrev bit_to : ℕ → ℕ → Bool
    bit_to n i = cond (nat_lt (place_in part.order i) n) (bit_at state i) (bit_at start i)

    abbrev state_to : ℕ → List Bool
    state_to n = map (bit_to n) (range_with_len 0 (length net))

    at-to : (n i : ℕ) → i < length net → bit_at (state_to n) i ≡ bit_to n i
    at-to n i few = get_or-map-range_with_len (bit_to n) 0 (length net) i i false few (omega arith)

    length-to : (n : ℕ) → length (state_to n) ≡ length net
    length-to n = length-map-range_with_len (bit_to n) 0 (length net)

    before : (n i : ℕ) → i < length net → place_in part.order i < n → bit_at (state_to n) i ≡ bit_at state i
    before n i few less = at-to n i few ∙ ap (λ (b : Bool). cond b (bit_at state i) (bit_at start i)) (lt-ltb (place_in part.order i) n less)

    behind : (n i : ℕ) → i < length net → n ≤ place_in part.order i → bit_at (state_to n) i ≡ bit_at start i
    behind n i few more = at-to n i few ∙ ap (λ (b : Bool). cond b (bit_at state i) (bit_at start i)) (le-ltb (place_in part.order i) n more)

    abbrev goes : ℕ → ℕ → Bool
    goes n i = eqb (place_in part.order i) n && differs (bit_at state i) (bit_at start i)

    abbrev flips : ℕ → List ℕ
    flips n = filtered_range (goes n) 0 (length net)

    flips-are : (n i : ℕ) → is_listed (flips n) i ≡ true → (i < length net) × (place_in part.order i ≡ n) × (bit_at state i ≢ bit_at start i)
    flips-are n i there =
        let picked = filtered_range-is (goes n) 0 (length net) i there in
        let both = and_parts (eqb (place_in part.order i) n) (differs (bit_at state i) (bit_at start i)) picked.passes in
        (omega (arith, picked.few, picked.is), eqb-true (place_in part.order i) n both.0, differs-true (bit_at state i) (bit_at start i) both.1)

    are-flips : (n i : ℕ) → i < length net → place_in part.order i ≡ n → bit_at state i ≢ bit_at start i → is_listed (flips n) i ≡ true
    are-flips n i few here differ =
        let same : 0 + i ≡ i = omega arith in
        subst (λ (j : ℕ). is_listed (flips n) j ≡ true) same (is-filtered_range (goes n) 0 (length net) i few
        (subst (λ (j : ℕ). goes n j ≡ true) (sym same)
        (and_from (eqb (place_in part.order i) n) (differs (bit_at state i) (bit_at start i)) (eq-eqb (place_in part.order i) n here) (true-differs (bit_at state i) (bit_at start i) differ))))

    -- it asks for the same as once all have moved
    same-asked : (n i : ℕ) (driver : Driver) → ((j : ℕ) → Reads driver j → (j < length net) × (place_in part.order j < n)) → driver_value input (state_to n) driver ≡ driver_value input state driver
    same-asked n i (External place) reads = refl
    same-asked n i (Source source) reads = let here = reads source refl in before n source here.0 here.1
    same-asked n i (Function kind first pins) reads =
        ap (gate_value kind) (ext_get_or false (slice_range (state_to n) first (first + pins)) (slice_range state first (first + pins))
        (length-part (state_to n) first pins (λ k less. let here = reads (first + k) (omega arith, omega (arith, less)) in omega (arith, here.0, length-to n))
        ∙ sym (length-part state first pins (λ k less. let here = reads (first + k) (omega arith, omega (arith, less)) in omega (arith, here.0, moved.long))))
        (λ k few.
        let long = length-part (state_to n) first pins (λ k less. let here = reads (first + k) (omega arith, omega (arith, less)) in omega (arith, here.0, length-to n)) in
        let less : k < pins = omega (arith, few, long) in
        let here = reads (first + k) (omega arith, omega (arith, less)) in
        at-part (state_to n) first pins k false less ∙ (before n (first + k) here.0 here.1 ∙ sym (at-part state first pins k false less))))

    next-to : (n : ℕ) → IsReachable net input (state_to n) (state_to (suc n))
    next-to n =
        let step = step-or-none net input (state_to n) (flips n)
        (filtered_range-once (goes n) 0 (length net))
        (λ i there. (flips-are n i there).0)
        (λ i there stable.
        let flip = flips-are n i there in
        let asked = asks-by i flip.0 flip.2 (driver_at net i) refl in
        let same = same-asked n i (driver_at net i) (λ j reads. (
          reads-inside net i j (wired-network_of netlist circuit) reads,
          let less = reads-before i j asked.0 reads in let here = flip.1 in omega (arith, less, here),
        )) in
        let here = flip.1 in
        flip.2 (asked.1 ∙ (sym same ∙ (sym stable ∙ behind n i flip.0 (omega (arith, here)))))) in
        let same : state_after (flips n) (state_to n) ≡ state_to (suc n) =
        ext_get_or false (state_after (flips n) (state_to n)) (state_to (suc n))
        (length-state_after (flips n) (state_to n) ∙ (length-to n ∙ sym (length-to (suc n))))
        (λ i inside.
        let few : i < length net = omega (arith, inside, length-state_after (flips n) (state_to n), length-to n) in
        at-state_after (flips n) (state_to n) i (omega (arith, few, length-to n)) ∙ turned n i few) in
        (step.0, step.1, step.2 ∙ same)
      where
        turned : (n i : ℕ) → i < length net → cond (is_listed (flips n) i) (not (bit_at (state_to n) i)) (bit_at (state_to n) i) ≡ bit_at (state_to (suc n)) i
        turned n i few =
            turned-cond (is_listed (flips n) i) (bit_at (state_to n) i) (bit_at (state_to (suc n)) i)
            (λ there same.
            let flip = flips-are n i there in
            let here = flip.1 in
            flip.2 (sym (before (suc n) i few (omega (arith, here))) ∙ (sym same ∙ behind n i few (omega (arith, here)))))
            (λ out.
            elim (cases_lt (place_in part.order i) n) [
              | inl less ↦ before n i few less ∙ sym (before (suc n) i few (omega (arith, less)))
              | inr more ↦
                  elim (cases_lt n (place_in part.order i)) [
                    | inl later ↦ behind n i few (omega (arith, later)) ∙ sym (behind (suc n) i few (omega (arith, later)))
                    | inr here ↦
                        behind n i few (omega (arith, more))
                        ∙ (elim (same-or-not (bit_at state i) (bit_at start i)) [
                          | inl same ↦ sym same
                          | inr differ ↦ absurd (both_ways (is_listed (flips n) i) out (are-flips n i few (omega (arith, more, here)) differ))
                        ] ∙ sym (before (suc n) i few (omega (arith, more, here))))
                  ]
            ])

    reach-to : (n : ℕ) → IsReachable net input start (state_to n)
    reach-to zero =
        ([], tt, ext_get_or false start (state_to 0) (begins.long ∙ sym (length-to 0)) (λ i inside. sym (behind 0 i (omega (arith, inside, begins.long)) (omega arith))))
    reach-to (suc n) = IsReachable-onward net input start (state_to n) (state_to (suc n)) (reach-to n) (next-to n)

    pub moved-reached : IsReachable net input start state
    moved-reached =
        let all = reach-to (suc (length part.order)) in
        let same : state_to (suc (length part.order)) ≡ state =
        ext_get_or false (state_to (suc (length part.order))) state (length-to (suc (length part.order)) ∙ sym moved.long)
        (λ i inside.
        let within = place-within part.order i in
        before (suc (length part.order)) i (omega (arith, inside, length-to (suc (length part.order)))) (omega (arith, within))) in
        (all.0, all.1, all.2 ∙ same)

  -- a word at the start
  followed : (i : ℕ) → i < length net → IsFeedbackFree net i → IsFollowed start i (get_or words i [])
  followed i few free = free-followed netlist circuit input start begins.long begins.stable words are whole i few free

  -- one gate and its wires
  module _ (g : ℕ) (kind : Kind) (first pins : ℕ) (inside_g : g < length net) (driven_g : driver_at net g ≡ Function kind first pins) where
    into : (k : ℕ) → k < pins → IsWireInto net g (first + k)
    into k less = record { kind = kind; first = first; pins = pins; driven = driven_g; above = omega arith; below = omega (arith, less) }

    wire-read : (k : ℕ) → k < pins → Reads (driver_at net g) (first + k)
    wire-read k less = subst (λ (driver : Driver). Reads driver (first + k)) (sym driven_g) (omega arith, omega (arith, less))

    wire-inside : (k : ℕ) → k < pins → first + k < length net
    wire-inside k less = reads-inside net g (first + k) (wired-network_of netlist circuit) (wire-read k less)

    source-of : (k : ℕ) → k < pins → (source : ℕ) × (driver_at net (first + k) ≡ Source source)
    source-of k less = (wired-network_of netlist circuit).source g (first + k) (into k less)

    no-wire : (i k : ℕ) → k < pins → IsNode net i → i ≢ first + k
    no-wire i k less is_node same =
        let source = source-of k less in
        is_node source.0 (subst (λ (j : ℕ). driver_at net j ≡ Source source.0) (sym same) source.1)

    gate-node : IsNode net g
    gate-node source e = function_source kind first pins source (sym driven_g ∙ e)
      where
        function_source : (kind : Kind) (first pins source : ℕ) → Function kind first pins ≡ Source source → ⊥
        function_source kind first pins source e = cc

    abbrev gate_words : List (List Bool)
    gate_words = slice_range words first (first + pins)

    module _ (free_g : IsFeedbackFree net g) where
      wire-free : (k : ℕ) → k < pins → IsFeedbackFree net (first + k)
      wire-free k less = reads-free net g (first + k) free_g (wire-read k less)

      words-are : AreWords gate_words
      words-are = wires-AreWords netlist circuit input start begins.long begins.stable words are whole g kind first pins inside_g driven_g
          (λ k less. followed (first + k) (wire-inside k less) (wire-free k less))

      words-begin : current_letters gate_words ≡ slice_range start first (first + pins)
      words-begin = wires-present netlist circuit input start begins.long begins.stable words are whole g kind first pins inside_g driven_g
          (λ k less. followed (first + k) (wire-inside k less) (wire-free k less))

      words-long : length gate_words ≡ pins
      words-long = length-wires netlist circuit input start begins.long begins.stable words are whole g kind first pins inside_g driven_g

      word-is : IsWordOf kind gate_words (get_or words g [])
      word-is = subst (λ (driver : Driver). IsDrivenWord input start words g driver (get_or words g [])) driven_g (are.each g inside_g free_g)

      value-start : gate_value kind (current_letters gate_words) ≡ bit_at start g
      value-start = ap (gate_value kind) words-begin ∙ sym (start-gate g kind first pins inside_g driven_g)

      word-source : (k source : ℕ) → k < pins → driver_at net (first + k) ≡ Source source → get_or words (first + k) [] ≡ get_or words source []
      word-source k source less driven =
          subst (λ (driver : Driver). IsDrivenWord input start words (first + k) driver (get_or words (first + k) [])) driven (are.each (first + k) (wire-inside k less) (wire-free k less))

      source-free : (k source : ℕ) → k < pins → driver_at net (first + k) ≡ Source source → IsFeedbackFree net source
      source-free k source less driven =
          reads-free net (first + k) source (wire-free k less) (subst (λ (driver : Driver). Reads driver source) (sym driven) refl)

      -- the letters to which the pins can go are the values of their sources once these have moved
      far-is : (k source : ℕ) → k < pins → driver_at net (first + k) ≡ Source source → bit_at (far_letters gate_words) k ≡ turned_bit source
      far-is k source less driven =
          let inside = source-inside (first + k) source driven in
          let mark = (is.marks.exact source inside).1 (source-free k source less driven) in
          let first_is = (followed source inside (source-free k source less driven)).first in
          get_or-map far_letter gate_words k [] false (omega (arith, less, words-long))
          ∙ (ap far_letter (at-part words first pins k [] less ∙ word-source k source less driven)
          ∙ (ap (λ (letter : Bool). cond (nat_le 1 (change_count (get_or words source []))) (not letter) letter) first_is
          ∙ sym (ap (λ (free : Bool). cond (free && nat_le 1 (change_count (get_or words source []))) (not (bit_at start source)) (bit_at start source)) mark)))

      begin-at : (k : ℕ) → k < pins → bit_at (current_letters gate_words) k ≡ bit_at start (first + k)
      begin-at k less = ap (λ (row : List Bool). bit_at row k) words-begin ∙ at-part start first pins k false less

      -- each letter on the way is that at the start, or the other value of the source
      on-way-at : (row : List Bool) → IsOnTheWay (far_letters gate_words) (current_letters gate_words) row → (k source : ℕ) → k < pins → driver_at net (first + k) ≡ Source source → (bit_at row k ≡ bit_at start (first + k)) ⊎ (bit_at row k ≡ turned_bit source)
      on-way-at row way k source less driven =
          elim (way-at (far_letters gate_words) (current_letters gate_words) row k way (omega (arith, less, words-long, length-map gate_words first_letter))) [
            | inl same ↦ inl (same ∙ begin-at k less)
            | inr gone ↦ inr (gone ∙ far-is k source less driven)
          ]

      row-long : (row : List Bool) → IsOnTheWay (far_letters gate_words) (current_letters gate_words) row → length row ≡ pins
      row-long row way = way-long (far_letters gate_words) (current_letters gate_words) row way ∙ (length-map gate_words first_letter ∙ words-long)

    -- other wires into the gate
    module _ (row state : List Bool) where
      abbrev row_bit : ℕ → Bool
      row_bit i = cond (nat_le first i && nat_lt i (first + pins)) (bit_at row (i - first)) (bit_at state i)

      abbrev pub with_row : List Bool
      with_row = map row_bit (range_with_len 0 (length net))

      at-bit : (i : ℕ) → i < length net → bit_at with_row i ≡ row_bit i
      at-bit i few = get_or-map-range_with_len row_bit 0 (length net) i i false few (omega arith)

      at-row : (k : ℕ) → k < pins → bit_at with_row (first + k) ≡ bit_at row k
      at-row k less =
          let place : first + k - first ≡ k = omega arith in
          at-bit (first + k) (wire-inside k less)
          ∙ (ap (λ (b : Bool). cond b (bit_at row (first + k - first)) (bit_at state (first + k)))
          (and_from (nat_le first (first + k)) (nat_lt (first + k) (first + pins)) (le-leb first (first + k) (omega arith)) (lt-ltb (first + k) (first + pins) (omega (arith, less))))
          ∙ ap (bit_at row) place)

      at-other : (i : ℕ) → i < length net → ((k : ℕ) → k < pins → i ≢ first + k) → bit_at with_row i ≡ bit_at state i
      at-other i few none =
          at-bit i few ∙ (elim (cases_Bool (nat_le first i && nat_lt i (first + pins))) [
            | inl inside ↦
                let both = and_parts (nat_le first i) (nat_lt i (first + pins)) inside in
                let low = leb-true first i both.0 in
                let high = ltb-true i (first + pins) both.1 in
                absurd (none (i - first) (omega (arith, low, high)) (omega (arith, low)))
            | inr out ↦ ap (λ (b : Bool). cond b (bit_at row (i - first)) (bit_at state i)) out
          ])

      slice-row : length row ≡ pins → slice_range with_row first (first + pins) ≡ row
      slice-row long =
          let made = length-map-range_with_len row_bit 0 (length net) in
          let part_long = length-part with_row first pins (λ k less. let inside = wire-inside k less in omega (arith, made, inside)) in
          ext_get_or false (slice_range with_row first (first + pins)) row (part_long ∙ sym long)
          (λ k few. let less : k < pins = omega (arith, few, part_long) in at-part with_row first pins k false less ∙ at-row k less)

      -- what is no gate of these wires asks for the same
      other-asks : (i : ℕ) → length state ≡ length net → i < length net → IsNode net i → i ≢ g → (driver : Driver) → driver_at net i ≡ driver → driver_value input with_row driver ≡ driver_value input state driver
      other-asks i long few is_node differ (External place) driven = refl
      other-asks i long few is_node differ (Source source) driven = absurd (is_node source driven)
      other-asks i long few is_node differ (Function kind' first' pins') driven =
          let reads : (k : ℕ) → k < pins' → Reads (driver_at net i) (first' + k) = λ k less. subst (λ (driver : Driver). Reads driver (first' + k)) (sym driven) (omega arith, omega (arith, less)) in
          let within : (k : ℕ) → k < pins' → first' + k < length net = λ k less. reads-inside net i (first' + k) (wired-network_of netlist circuit) (reads k less) in
          ap (gate_value kind') (same-parts false with_row state first' pins' (length-map-range_with_len row_bit 0 (length net) ∙ sym long) (λ k less.
          at-other (first' + k) (within k less) (λ m less_m same.
          let own = (wired-network_of netlist circuit).own i g (first' + k)
          (record { kind = kind'; first = first'; pins = pins'; driven = driven; above = omega arith; below = omega (arith, less) })
          (subst (λ (wire : ℕ). IsWireInto net g wire) (sym same) (into m less_m)) in
          differ own)))

      -- the state with these wires
      pub moved-row : (free_g : IsFeedbackFree net g) (done done' : List ℕ) → IsMoved done state → IsOnTheWay (far_letters gate_words) (current_letters gate_words) row → gate_value kind row ≡ turned_bit g → ((i : ℕ) → is_listed done' i ≡ true → (is_listed done i ≡ true) ⊎ (i ≡ g)) → IsMoved done' with_row
      moved-row free_g done done' moved way opens more = record {
        long = length-map-range_with_len row_bit 0 (length net);
        node = λ i few is_node. at-other i few (λ k less. no-wire i k less is_node) ∙ moved.node i few is_node;
        wire = λ i source few driven. elim (cases_Bool (nat_le first i && nat_lt i (first + pins))) [
          | inl inside ↦
              let both = and_parts (nat_le first i) (nat_lt i (first + pins)) inside in
              let low = leb-true first i both.0 in
              let high = ltb-true i (first + pins) both.1 in
              let less : i - first < pins = omega (arith, low, high) in
              let same : first + (i - first) ≡ i = omega (arith, low) in
              subst (λ (j : ℕ). (bit_at with_row j ≡ bit_at start j) ⊎ (bit_at with_row j ≡ turned_bit source)) same
              (by-row (i - first) source less (on-way-at free_g row way (i - first) source less (subst (λ (j : ℕ). driver_at net j ≡ Source source) (sym same) driven)))
          | inr out ↦
              let same : bit_at with_row i ≡ bit_at state i = at-bit i few ∙ ap (λ (b : Bool). cond b (bit_at row (i - first)) (bit_at state i)) out in
              subst (λ (bit : Bool). (bit ≡ bit_at start i) ⊎ (bit ≡ turned_bit source)) (sym same) (moved.wire i source few driven)
        ];
        asks = λ i listed is_node moving. elim (cases_eq i g) [
          | inl same ↦
              subst (λ (j : ℕ). excitation net input with_row j ≡ turned_bit j) (sym same)
              (ap (driver_value input with_row) driven_g ∙ (ap (gate_value kind) (slice-row (row-long free_g row way)) ∙ opens))
          | inr differ ↦
              elim (more i listed) [
                | inl before ↦ other-asks i moved.long (moves-inside i moving) is_node differ (driver_at net i) refl ∙ moved.asks i before is_node moving
                | inr same ↦ absurd (differ same)
              ]
        ];
      }
        where
          by-row : (k source : ℕ) → k < pins → (bit_at row k ≡ bit_at start (first + k)) ⊎ (bit_at row k ≡ turned_bit source) → (bit_at with_row (first + k) ≡ bit_at start (first + k)) ⊎ (bit_at with_row (first + k) ≡ turned_bit source)
          by-row k source less (inl same) = inl (at-row k less ∙ same)
          by-row k source less (inr gone) = inr (at-row k less ∙ gone)

  -- one listed variable more asks for its other value, with other wires if need be
  one-more : (done done' : List ℕ) (i : ℕ) → i < length net → ((j : ℕ) → is_listed done' j ≡ true → (is_listed done j ≡ true) ⊎ (j ≡ i)) → (state : List Bool) → IsMoved done state → (driver : Driver) → driver_at net i ≡ driver → (state' : List Bool) × IsMoved done' state'
  one-more done done' i few more state moved (Source source) driven = (
    state,
    record {
      long = moved.long;
      node = moved.node;
      wire = moved.wire;
      asks = λ j listed is_node moving. elim (more j listed) [
        | inl before ↦ moved.asks j before is_node moving
        | inr same ↦ absurd (is_node source (ap (driver_at net) same ∙ driven))
      ];
    },
  )
  one-more done done' i few more state moved (External place) driven = (
    state,
    record {
      long = moved.long;
      node = moved.node;
      wire = moved.wire;
      asks = λ j listed is_node moving. elim (more j listed) [
        | inl before ↦ moved.asks j before is_node moving
        | inr same ↦
            let driven_j : driver_at net j ≡ External place = ap (driver_at net) same ∙ driven in
            let inside = moves-inside j moving in
            let free = moves-free j inside moving in
            let word : get_or words j [] ≡ input_word (bit_at start j) (bit_at input place) =
            subst (λ (driver : Driver). IsDrivenWord input start words j driver (get_or words j [])) driven_j (are.each j inside free) in
            let new = new-bit (bit_at start j) (bit_at input place) (subst (λ (word : List Bool). 1 ≤ change_count word) word (moves-some j moving)) in
            ap (driver_value input state) driven_j ∙ (sym new ∙ sym (moved-bit j moving))
      ];
    },
  )
  one-more done done' i few more state moved (Function kind first pins) driven =
      elim (cases_Bool (moves i)) [
        | inl moving ↦
            let free = moves-free i few moving in
            let turned = turned-once kind (slice_range words first (first + pins)) (get_or words i []) (words-are i kind first pins few driven free) (word-is i kind first pins few driven free) (moves-some i moving) in
            let opens : gate_value kind turned.0 ≡ turned_bit i = other (gate_value kind turned.0) (bit_at start i) (λ e. turned.2 (e ∙ sym (value-start i kind first pins few driven free))) ∙ sym (moved-bit i moving) in (
              with_row i kind first pins few driven turned.0 state,
              moved-row i kind first pins few driven turned.0 state free done done' moved turned.1 opens more,
            )
        | inr rests ↦ (
          state,
          record {
            long = moved.long;
            node = moved.node;
            wire = moved.wire;
            asks = λ j listed is_node moving. elim (more j listed) [
              | inl before ↦ moved.asks j before is_node moving
              | inr same ↦ absurd (both_ways (moves j) (ap moves same ∙ rests) moving)
            ];
          },
        )
      ]

  abbrev first_bit : ℕ → Driver → Bool
  first_bit i (External place) = turned_bit i
  first_bit i (Function kind first pins) = turned_bit i
  first_bit i (Source source) = bit_at start i

  abbrev first_state : List Bool
  first_state = map (λ i. first_bit i (driver_at net i)) (range_with_len 0 (length net))

  at-first : (i : ℕ) → i < length net → bit_at first_state i ≡ first_bit i (driver_at net i)
  at-first i few = get_or-map-range_with_len (λ i. first_bit i (driver_at net i)) 0 (length net) i i false few (omega arith)

  first-node : (i : ℕ) → IsNode net i → (driver : Driver) → driver_at net i ≡ driver → first_bit i driver ≡ turned_bit i
  first-node i is_node (External place) driven = refl
  first-node i is_node (Function kind first pins) driven = refl
  first-node i is_node (Source source) driven = absurd (is_node source driven)

  none-asked : IsMoved [] first_state
  none-asked = record {
    long = length-map-range_with_len (λ i. first_bit i (driver_at net i)) 0 (length net);
    node = λ i few is_node. at-first i few ∙ first-node i is_node (driver_at net i) refl;
    wire = λ i source few driven. inl (at-first i few ∙ ap (first_bit i) driven);
    asks = λ i listed. absurd (both_ways false refl listed);
  }

  some-moved : (n : ℕ) → n ≤ length part.order → (state : List Bool) × IsMoved (take n part.order) state
  some-moved zero within = (first_state, none-asked)
  some-moved (suc n) within =
      let so_far = some-moved n (omega arith) in
      let less : n < length part.order = omega arith in
      let i = get_or part.order n 0 in
      let split : take (suc n) part.order ≡ take n part.order ++ i ∷ [] = take-suc part.order n 0 less in
      one-more (take n part.order) (take (suc n) part.order) i (is.inside i (listed-at part.order n less))
      (λ j listed. pushed-cases (take n part.order) i j (subst (λ (list : List ℕ). is_listed list j ≡ true) split listed))
      so_far.0 so_far.1 (driver_at net i) refl

  -- some state in which all that moves has moved
  pub all-moved : (state : List Bool) × IsMoved part.order state
  all-moved =
      let all = some-moved (length part.order) (omega arith) in
      (all.0, subst (λ (done : List ℕ). IsMoved done all.0) (take-length part.order) all.1)

  -- what differs from a state and is what each asks for is one step away
  jump : (state target : List Bool) → length state ≡ length net → length target ≡ length net → ((i : ℕ) → i < length net → bit_at target i ≢ bit_at state i → bit_at target i ≡ excitation net input state i) → IsReachable net input state target
  jump state target long long' asked =
      let listed : (i : ℕ) → is_listed (changed state target) i ≡ true → (i < length net) × (bit_at target i ≢ bit_at state i) = λ i there.
      (let picked = filtered_range-is (λ i. differs (bit_at target i) (bit_at state i)) 0 (length net) i there in
      (omega (arith, picked.few, picked.is), differs-true (bit_at target i) (bit_at state i) picked.passes)) in
      let step = step-or-none net input state (changed state target) (filtered_range-once (λ i. differs (bit_at target i) (bit_at state i)) 0 (length net))
      (λ i there. (listed i there).0)
      (λ i there stable. let is_there = listed i there in is_there.1 (asked i is_there.0 is_there.1 ∙ sym stable)) in
      let same : state_after (changed state target) state ≡ target =
      ext_get_or false (state_after (changed state target) state) target (length-state_after (changed state target) state ∙ (long ∙ sym long'))
      (λ i inside.
      let few : i < length net = omega (arith, inside, length-state_after (changed state target) state, long) in
      at-state_after (changed state target) state i (omega (arith, few, long))
      ∙ turned-cond (is_listed (changed state target) i) (bit_at state i) (bit_at target i)
      (λ there same. (listed i there).1 (sym same))
      (λ out. elim (same-or-not (bit_at target i) (bit_at state i)) [
        | inl same ↦ sym same
        | inr differ ↦ absurd (both_ways (is_listed (changed state target) i) out (are-listed i few differ))
      ])) in
      (step.0, step.1, step.2 ∙ same)
    where
      changed : List Bool → List Bool → List ℕ
      changed state target = filtered_range (λ i. differs (bit_at target i) (bit_at state i)) 0 (length net)

      are-listed : (i : ℕ) → i < length net → bit_at target i ≢ bit_at state i → is_listed (changed state target) i ≡ true
      are-listed i few differ =
          let same : 0 + i ≡ i = omega arith in
          subst (λ (j : ℕ). is_listed (changed state target) j ≡ true) same (is-filtered_range (λ i. differs (bit_at target i) (bit_at state i)) 0 (length net) i few
          (subst (λ (j : ℕ). differs (bit_at target j) (bit_at state j) ≡ true) (sym same) (true-differs (bit_at target i) (bit_at state i) differ)))

  -- a run goes on to a state in which a node is back at its value at the start; the wires into later gates stay
  record IsBack (v : ℕ) (state : List Bool) : Type 0 where
    end : List Bool
    long : length end ≡ length net
    reached : IsReachable net input state end
    here : bit_at end v ≡ bit_at start v
    later : (g i : ℕ) → IsWireInto net g i → place_in part.order v < place_in part.order g → bit_at end i ≡ bit_at state i

  -- a choice of the wires that have moved, from which a node comes back, whatever wires into later gates have moved
  record ComesBack (v : ℕ) : Type 0 where
    chosen : List Bool
    is_chosen : IsMoved part.order chosen
    back : (state : List Bool) → IsMoved part.order state → ((g i : ℕ) → IsWireInto net g i → place_in part.order g ≤ place_in part.order v → bit_at state i ≡ bit_at chosen i) → IsBack v state

  module _ (g : ℕ) (kind : Kind) (first pins : ℕ) (inside_g : g < length net) (driven_g : driver_at net g ≡ Function kind first pins) (free_g : IsFeedbackFree net g) where
    other-wire : (g' i : ℕ) → IsWireInto net g' i → g' ≢ g → (k : ℕ) → k < pins → i ≢ first + k
    other-wire g' i wire differ k less same =
        differ ((wired-network_of netlist circuit).own g' g i wire (subst (λ (j : ℕ). IsWireInto net g j) (sym same) (into g kind first pins inside_g driven_g k less)))

    wire-in : (g' i : ℕ) → IsWireInto net g' i → i < length net
    wire-in g' i wire =
        reads-inside net g' i (wired-network_of netlist circuit) (subst (λ (driver : Driver). Reads driver i) (sym wire.driven) (wire.above, wire.below))

    wire-no-node : (g' i : ℕ) → IsWireInto net g' i → i ≢ g
    wire-no-node g' i wire same =
        let source = (wired-network_of netlist circuit).source g' i wire in
        gate-node g kind first pins inside_g driven_g source.0 (subst (λ (j : ℕ). driver_at net j ≡ Source source.0) same source.1)

    -- the wires go from one row to another, and the gate follows
    go-back : (row after state : List Bool) → length state ≡ length net → length row ≡ pins → length after ≡ pins → ((k : ℕ) → k < pins → bit_at state (first + k) ≡ bit_at row k) → gate_value kind after ≡ bit_at start g → ((k source : ℕ) → k < pins → driver_at net (first + k) ≡ Source source → bit_at after k ≢ bit_at row k → bit_at state source ≡ bit_at after k) → IsBack g state
    go-back row after state long row_long after_long stands closes follow =
        let middle = with_row g kind first pins inside_g driven_g after state in
        let middle_long : length middle ≡ length net = length-map-range_with_len (row_bit g kind first pins inside_g driven_g after state) 0 (length net) in
        let one = jump state middle long middle_long (λ i few differ. wires-ask i few differ) in
        let end = set middle g (bit_at start g) in
        let end_long = length-set middle g (bit_at start g) in
        let two = jump middle end middle_long (end_long ∙ middle_long) (λ i few differ.
        elim (cases_eq i g) [
          | inl same ↦
              subst (λ (j : ℕ). bit_at (set middle g (bit_at start g)) j ≡ excitation net input middle j) (sym same)
              (get_or-set_same middle g (bit_at start g) false (omega (arith, inside_g, middle_long))
              ∙ (sym closes ∙ (ap (gate_value kind) (sym (slice-row g kind first pins inside_g driven_g after state after_long)) ∙ sym (ap (driver_value input middle) driven_g))))
          | inr away ↦ absurd (differ (get_or-set_other middle g i (bit_at start g) false away))
        ]) in
        record {
          end = end;
          long = end_long ∙ middle_long;
          reached = IsReachable-onward net input state middle end one two;
          here = get_or-set_same middle g (bit_at start g) false (omega (arith, inside_g, middle_long));
          later = λ g' i wire behind.
              get_or-set_other middle g i (bit_at start g) false (wire-no-node g' i wire)
              ∙ at-other g kind first pins inside_g driven_g after state i (wire-in g' i wire)
              (other-wire g' i wire (λ same. let e : place_in part.order g ≡ place_in part.order g' = ap (place_in part.order) (sym same) in absurd (omega (arith, behind, e))));
        }
      where
        wires-ask : (i : ℕ) → i < length net → bit_at (with_row g kind first pins inside_g driven_g after state) i ≢ bit_at state i → bit_at (with_row g kind first pins inside_g driven_g after state) i ≡ excitation net input state i
        wires-ask i few differ =
            elim (cases_Bool (nat_le first i && nat_lt i (first + pins))) [
              | inl inside ↦
                  let both = and_parts (nat_le first i) (nat_lt i (first + pins)) inside in
                  let low = leb-true first i both.0 in
                  let high = ltb-true i (first + pins) both.1 in
                  let less : i - first < pins = omega (arith, low, high) in
                  let same : first + (i - first) ≡ i = omega (arith, low) in
                  subst (λ (j : ℕ). bit_at (with_row g kind first pins inside_g driven_g after state) j ≡ excitation net input state j) same
                  (asks-at (i - first) less (subst (λ (j : ℕ). bit_at (with_row g kind first pins inside_g driven_g after state) j ≢ bit_at state j) (sym same) differ))
              | inr out ↦
                  absurd (differ (at-bit g kind first pins inside_g driven_g after state i few ∙ ap (λ (b : Bool). cond b (bit_at after (i - first)) (bit_at state i)) out))
            ]
          where
            asks-at : (k : ℕ) → k < pins → bit_at (with_row g kind first pins inside_g driven_g after state) (first + k) ≢ bit_at state (first + k) → bit_at (with_row g kind first pins inside_g driven_g after state) (first + k) ≡ excitation net input state (first + k)
            asks-at k less differ =
                let source = source-of g kind first pins inside_g driven_g k less in
                let now = at-row g kind first pins inside_g driven_g after state k less in
                now ∙ (sym (follow k source.0 less source.1 (λ e. differ (now ∙ (e ∙ sym (stands k less))))) ∙ sym (ap (driver_value input state) source.1))

    module _ (some : 2 ≤ change_count (get_or words g [])) (before : (k : ℕ) → k < pins → 2 ≤ change_count (get_or words (first + k) []) → (source : ℕ) × (driver_at net (first + k) ≡ Source source) × ComesBack source) where
      abbrev here_words : List (List Bool)
      here_words = slice_range words first (first + pins)

      moving : moves g ≡ true
      moving = free-moves g inside_g free_g (omega (arith, some))

      gate-comes-back : IsTurnedBack (gate_value kind) here_words → ComesBack g
      gate-comes-back turn =
          let opens : gate_value kind turn.before ≡ turned_bit g = other (gate_value kind turn.before) (bit_at start g) (λ e. turn.turned (e ∙ sym (value-start g kind first pins inside_g driven_g free_g))) ∙ sym (moved-bit g moving) in
          let closes : gate_value kind turn.after ≡ bit_at start g = turn.back ∙ value-start g kind first pins inside_g driven_g free_g in
          let row_long = row-long g kind first pins inside_g driven_g free_g turn.before turn.way in
          elim turn.how [
            | inl on ↦
                let chosen = with_row g kind first pins inside_g driven_g turn.before all-moved.0 in
                let after_long : length turn.after ≡ pins = way-long (far_letters here_words) turn.before turn.after on ∙ row_long in
                record {
                  chosen = chosen;
                  is_chosen = moved-row g kind first pins inside_g driven_g turn.before all-moved.0 free_g part.order part.order all-moved.1 turn.way opens (λ i listed. inl listed);
                  back = λ state moved agrees.
                      go-back turn.before turn.after state moved.long row_long after_long
                      (λ k less. agrees g (first + k) (into g kind first pins inside_g driven_g k less) (omega arith) ∙ at-row g kind first pins inside_g driven_g turn.before all-moved.0 k less)
                      closes
                      (λ k source less driven differ.
                      elim (way-at (far_letters here_words) turn.before turn.after k on (omega (arith, less, row_long))) [
                        | inl same ↦ absurd (differ same)
                        | inr gone ↦
                            moved.node source (source-inside (first + k) source driven) (source-node (first + k) source driven)
                            ∙ sym (gone ∙ far-is g kind first pins inside_g driven_g free_g k source less driven)
                      ]);
                }
            | inr one ↦
                let return = returned-pin here_words turn.before turn.after one in
                let less : return.place < pins = let few = return.few in omega (arith, few, words-long g kind first pins inside_g driven_g free_g) in
                let count : 2 ≤ change_count (get_or words (first + return.place) []) = subst (λ (word : List Bool). 2 ≤ change_count word) (at-part words first pins return.place [] less) return.twice in
                let sub = before return.place less count in
                let v = sub.0 in
                let chosen = with_row g kind first pins inside_g driven_g turn.before sub.2.chosen in
                let after_long : length turn.after ≡ pins = return.long ∙ row_long in
                let earlier : place_in part.order v < place_in part.order g =
                let wire_free = wire-free g kind first pins inside_g driven_g free_g return.place less in
                let to_wire = reads-before g (first + return.place) (free-listed g inside_g free_g) (wire-read g kind first pins inside_g driven_g return.place less) in
                let to_source = reads-before (first + return.place) v (free-listed (first + return.place) (wire-inside g kind first pins inside_g driven_g return.place less) wire_free)
                (subst (λ (driver : Driver). Reads driver v) (sym sub.1) refl) in
                omega (arith, to_wire, to_source) in
                record {
                  chosen = chosen;
                  is_chosen = moved-row g kind first pins inside_g driven_g turn.before sub.2.chosen free_g part.order part.order sub.2.is_chosen turn.way opens (λ i listed. inl listed);
                  back = λ state moved agrees.
                      let first_back = sub.2.back state moved (λ g' i wire within.
                      agrees g' i wire (omega (arith, within, earlier))
                      ∙ at-other g kind first pins inside_g driven_g turn.before sub.2.chosen i (wire-in g' i wire)
                      (other-wire g' i wire (λ same. let e : place_in part.order g' ≡ place_in part.order g = ap (place_in part.order) same in absurd (omega (arith, within, earlier, e))))) in
                      let then = go-back turn.before turn.after first_back.end first_back.long row_long after_long
                      (λ k less. first_back.later g (first + k) (into g kind first pins inside_g driven_g k less) earlier
                      ∙ (agrees g (first + k) (into g kind first pins inside_g driven_g k less) (omega arith) ∙ at-row g kind first pins inside_g driven_g turn.before sub.2.chosen k less))
                      closes
                      (λ k source less' driven differ.
                      elim (cases_eq k return.place) [
                        | inr away ↦ absurd (differ (return.others k away))
                        | inl same ↦
                            let driven_v : driver_at net (first + k) ≡ Source v = ap (λ (k : ℕ). driver_at net (first + k)) same ∙ sub.1 in
                            let source_is : source ≡ v = same-source source v (sym driven ∙ driven_v) in
                            ap (bit_at first_back.end) source_is
                            ∙ (first_back.here ∙ (sym (start-wire (first + k) v (wire-inside g kind first pins inside_g driven_g k less') driven_v)
                            ∙ (sym (begin-at g kind first pins inside_g driven_g free_g k less')
                            ∙ (ap (bit_at (current_letters here_words)) same ∙ (sym return.back ∙ sym (ap (bit_at turn.after) same))))))
                      ]) in
                      record {
                        end = then.end;
                        long = then.long;
                        reached = IsReachable-onward net input state first_back.end then.end first_back.reached then.reached;
                        here = then.here;
                        later = λ g' i wire behind. then.later g' i wire behind ∙ first_back.later g' i wire (omega (arith, behind, earlier));
                      };
                }
          ]

      comes-back : ComesBack g
      comes-back = gate-comes-back (turned-back kind here_words (get_or words g []) (words-are g kind first pins inside_g driven_g free_g) (word-is g kind first pins inside_g driven_g free_g) some)

  -- every feedback-free node whose word has two changes or more comes back; a wire with its source
  record IsFrom (i : ℕ) : Type 0 where
    node : ℕ
    from : (driver_at net i ≡ Source node) ⊎ ((i ≡ node) × IsNode net i)
    returns : ComesBack node

  from-by : (i : ℕ) → i < length net → IsFeedbackFree net i → (driver : Driver) → driver_at net i ≡ driver → IsDrivenWord input start words i driver (get_or words i []) → ((j : ℕ) → Reads driver j → 2 ≤ change_count (get_or words j []) → IsFrom j) → 2 ≤ change_count (get_or words i []) → IsFrom i
  from-by i few free (External place) driven word reads some =
      absurd (few-changes (bit_at start i) (bit_at input place) (subst (λ (word : List Bool). 2 ≤ change_count word) word some))
    where
      few-changes : (old new : Bool) → 2 ≤ change_count (input_word old new) → ⊥
      few-changes true true some = absurd (omega arith)
      few-changes true false some = absurd (omega arith)
      few-changes false true some = absurd (omega arith)
      few-changes false false some = absurd (omega arith)
  from-by i few free (Source source) driven word reads some =
      let at_source = reads source refl (subst (λ (word : List Bool). 2 ≤ change_count word) word some) in
      elim at_source.from [
        | inl wire ↦ absurd (source-node i source driven at_source.node wire)
        | inr node ↦ record { node = at_source.node; from = inl (driven ∙ ap Source node.0); returns = at_source.returns }
      ]
  from-by i few free (Function kind first pins) driven word reads some =
      record {
        node = i;
        from = inr (refl, gate-node i kind first pins few driven);
        returns = comes-back i kind first pins few driven free some (λ k less twice.
            let at_wire = reads (first + k) (omega arith, omega (arith, less)) twice in
            let source = source-of i kind first pins few driven k less in
            elim at_wire.from [
              | inl wire ↦ (at_wire.node, wire, at_wire.returns)
              | inr node ↦ absurd (node.1 source.0 source.1)
            ]);
      }

  node-returns : (i : ℕ) → i < length net → IsFeedbackFree net i → IsNode net i → 2 ≤ change_count (get_or words i []) → ComesBack i
  node-returns i few free is_node some =
      let from = free-induction net (wired-network_of netlist circuit) (λ j. 2 ≤ change_count (get_or words j []) → IsFrom j)
      (λ j few_j free_j reads. from-by j few_j free_j (driver_at net j) refl (are.each j few_j free_j) reads)
      i few free some in
      elim from.from [
        | inl wire ↦ absurd (is_node from.node wire)
        | inr node ↦ subst ComesBack (sym node.0) from.returns
      ]

  pub node-shown : (i : ℕ) → i < length net → IsFeedbackFree net i → IsNode net i → 2 ≤ change_count (get_or words i []) → (steps : List (List ℕ)) × IsRun net input start steps × (2 ≤ change_count (variable_history start steps i))
  node-shown i few free is_node some =
      let returns = node-returns i few free is_node some in
      let there = moved-reached returns.chosen returns.is_chosen in
      let back = returns.back returns.chosen returns.is_chosen (λ g j wire within. refl) in
      let onward : IsRun net input (end_of start there.0) back.reached.0 = subst (λ (state : List Bool). IsRun net input state back.reached.0) (sym there.2) back.reached.1 in
      let ends : end_of (end_of start there.0) back.reached.0 ≡ back.end = ap (λ (state : List Bool). end_of state back.reached.0) there.2 ∙ back.reached.2 in
      let moved = returns.is_chosen.node i few is_node ∙ moved-bit i (free-moves i few free (omega (arith, some))) in
      let f : List Bool → Bool = λ s. bit_at s i in
      let one = changes-least (λ s. bit_at s i) start there.0 in
      let two = changes-least (λ s. bit_at s i) (end_of start there.0) back.reached.0 in
      let first_change : change_between (bit_at start i) (bit_at (end_of start there.0) i) ≡ 1 = ap (change_between (bit_at start i)) (ap (λ (s : List Bool). bit_at s i) there.2 ∙ moved) ∙ change-not (bit_at start i) in
      let last_change : change_between (bit_at (end_of start there.0) i) (bit_at (end_of (end_of start there.0) back.reached.0) i) ≡ 1 =
      ap (λ (bit : Bool). change_between bit (bit_at (end_of (end_of start there.0) back.reached.0) i)) (ap (λ (s : List Bool). bit_at s i) there.2 ∙ moved)
      ∙ (ap (change_between (not (bit_at start i))) (ap (λ (s : List Bool). bit_at s i) ends ∙ back.here) ∙ change-back (bit_at start i)) in
      let sum = changes-append (λ s. bit_at s i) start there.0 back.reached.0 in
      let history = change_count-history start (there.0 ++ back.reached.0) i in (
        there.0 ++ back.reached.0,
        IsRun-append net input start there.0 back.reached.0 there.1 onward,
        omega (arith, one, two, first_change, last_change, sum, history),
      )
