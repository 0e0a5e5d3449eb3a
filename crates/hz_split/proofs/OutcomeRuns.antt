-- Attempts that stop end in stable outcome states, and two that are found in different ones.
use Rattle.std.proofs.Common.{◌≡◌, ◌≢◌, ◌∙◌, ℕ, zero, suc, ◌≤◌, Bool, true, false, not, List, [], ◌∷◌, ◌++◌, length, take, drop, map, cond, All, inl, inr, refl, sym, ap, subst, arith}
use Rattle.hz_split.proofs.Words.{cases_Bool, false≢true, Netlist, Driver, network_of, bit_at, is_unstable, end_of, IsRun, is_other, is_settled, attempt, Least, Greatest}
use Rattle.std.specs.Bool.{beq}
use Rattle.std.specs.List.{filter, flat_map, AllPairs}
use Rattle.std.proofs.lemmas.Bool.{eqb-true}
use Rattle.std.proofs.lemmas.List.{take-append-drop}
use Rattle.std.proofs.lemmas.List.Concat.{flat_map-cons}
use Rattle.std.proofs.lemmas.List.Elements.{All-nil, All-cons, All-head, All-tail, All-append, All-filter}
use lib.Pointwise.{pointwise}
use Rattle.hz_net.specs.Network.{excitation, IsStable}
use Rattle.hz_gmw.specs.Cycles.{IsOutcome, IsNontransient}
use Rattle.hz_gmw.specs.Instability.{unstable_count}
use Rattle.hz_gmw.proofs.Bits.{beq-refl}
use Rattle.hz_gmw.proofs.Counting.{weight}
use Rattle.hz_gmw.proofs.Counts.{one-bound}
use Rattle.hz_gmw.proofs.Paths.{IsRun-append, IsRun-front}
use Rattle.hz_split.specs.Attempts.{first_and_other}
use Rattle.hz_split.specs.Splits.{IsSettledRun, AreSettledRuns}
use Rattle.hz_split.proofs.AttemptLemmas.{attempt-run}

-- no variable is unstable
stable-bit : (a b : Bool) → not (beq a b) ≡ false → a ≡ b
stable-bit false false is = refl
stable-bit true true is = refl
stable-bit false true is = absurd (false≢true (sym is))
stable-bit true false is = absurd (false≢true (sym is))

weight-none : (bit : Bool) → weight bit ≤ 0 → bit ≡ false
weight-none false few = refl
weight-none true few = absurd (omega (arith, few))

settled-stable : (netlist : Netlist) (input state : List Bool) → is_settled (network_of netlist) input state ≡ true → IsStable (network_of netlist) input state
settled-stable netlist input state settled i inside =
    let net = network_of netlist in
    let none : unstable_count net input state ≡ 0 = eqb-true (unstable_count net input state) 0 settled in
    let still : is_unstable net input state i ≡ false = weight-none (is_unstable net input state i) (omega (arith, none, one-bound netlist input state i inside)) in
    stable-bit (bit_at state i) (excitation net input state i) still

-- a stable state alone is a nontransient cycle
pub stable-cycle : (net : List Driver) (input state : List Bool) → IsStable net input state → IsNontransient net input state []
stable-cycle net input state stable = record {
  cycle = record { run = tt; closed = refl; alone = λ none. stable };
  lasts = λ waits. waits.2.1.0.1 (stable waits.0 waits.1);
}

-- a stable state that a run reaches is an outcome state
stable-outcome : (net : List Driver) (input start : List Bool) (run : List (List ℕ)) → IsRun net input start run → IsStable net input (end_of start run) → IsOutcome net input start (end_of start run)
stable-outcome net input start run is_run stable = record {
  first = end_of start run;
  steps = [];
  cycle = stable-cycle net input (end_of start run) stable;
  member = end_of start run;
  on_cycle = (0, omega arith, refl);
  reached = (run, is_run, refl);
  onward = ([], tt, refl);
}

pub settled-run : (netlist : Netlist) (input start : List Bool) (run : List (List ℕ)) → IsRun (network_of netlist) input start run → is_settled (network_of netlist) input (end_of start run) ≡ true
    → IsSettledRun (network_of netlist) input start run
settled-run netlist input start run is_run settled =
    let stable = settled-stable netlist input (end_of start run) settled in
    record { is_run = is_run; stable = stable; outcome = stable-outcome (network_of netlist) input start run is_run stable }

-- of runs, those that end in stable states
settled-all : (netlist : Netlist) (input start : List Bool) (runs : List (List (List ℕ))) → All (IsRun (network_of netlist) input start) runs
    → All (IsSettledRun (network_of netlist) input start) (filter (λ (run : List (List ℕ)). is_settled (network_of netlist) input (end_of start run)) runs)
settled-all netlist input start [] all = All-nil (IsSettledRun (network_of netlist) input start)
settled-all netlist input start (run ∷ runs) all =
    let net = network_of netlist in
    let rest = settled-all netlist input start runs (All-tail (IsRun net input start) run runs all) in
    elim (cases_Bool (is_settled net input (end_of start run))) [
      | inl settled ↦
          rw settled (All-cons (IsSettledRun net input start) run (filter (λ (r : List (List ℕ)). is_settled net input (end_of start r)) runs)
          (settled-run netlist input start run (All-head (IsRun net input start) run runs all) settled) rest)
      | inr not_settled ↦ rw not_settled rest
    ]

-- the first of a list, and the first one that passes of the others
one-of : {X : Type 0} (P : X → Type 0) (list : List X) → All P list → All P (take 1 list)
one-of {X} P [] all = All-nil P
one-of {X} P (x ∷ list) all = All-cons P x [] (All-head P x list all) (All-nil P)

first-all : (P : List (List ℕ) → Type 0) (start : List Bool) (runs : List (List (List ℕ))) → All P runs → All P (first_and_other start runs)
first-all P start [] all = All-nil P
first-all P start (run ∷ runs) all =
    let p = λ (later : List (List ℕ)). is_other (end_of start run) (end_of start later) in
    All-cons P run (take 1 (filter p runs)) (All-head P run runs all) (one-of P (filter p runs) (All-filter p P runs (All-tail P run runs all)))

-- a state does not differ from itself
pointwise-same : (state : List Bool) → pointwise beq state state ≡ true
pointwise-same [] = refl
pointwise-same (bit ∷ state) = rw (beq-refl bit) (pointwise-same state)

other-differs : (state other : List Bool) → is_other state other ≡ true → state ≢ other
other-differs state other differs same =
    false≢true (sym (ap not (pointwise-same state)) ∙ (ap (is_other state) same ∙ differs))

-- what passes a filter
passes-first : {X : Type 0} (p : X → Bool) (list : List X) (x : X) (rest : List X) → filter p list ≡ x ∷ rest → p x ≡ true
passes-first {X} p [] x rest is = absurd (cc)
passes-first {X} p (y ∷ list) x rest is = elim (cases_Bool (p y)) [
  | inl passes ↦ (let same : y ∷ filter p list ≡ x ∷ rest = sym (ap (λ (b : Bool). cond b (y ∷ filter p list) (filter p list)) passes) ∙ is in let here : y ≡ x = cc in rw (← here) passes)
  | inr fails ↦ passes-first p list x rest (sym (ap (λ (b : Bool). cond b (y ∷ filter p list) (filter p list)) fails) ∙ is)
]

pair-differs : (start : List Bool) (run : List (List ℕ)) (others : List (List (List ℕ))) → ((other : List (List ℕ)) (rest : List (List (List ℕ))) → others ≡ other ∷ rest → end_of start run ≢ end_of start other)
    → AllPairs (λ (one two : List (List ℕ)). end_of start one ≢ end_of start two) (run ∷ take 1 others)
pair-differs start run [] differs i j d before inside = absurd (omega (arith, before, inside))
pair-differs start run (other ∷ rest) differs zero (suc zero) d before inside = differs other rest refl
pair-differs start run (other ∷ rest) differs zero zero d before inside = absurd (omega (arith, before))
pair-differs start run (other ∷ rest) differs zero (suc (suc j)) d before inside = absurd (omega (arith, inside))
pair-differs start run (other ∷ rest) differs (suc i) j d before inside = absurd (omega (arith, before, inside))

few-first : (start : List Bool) (runs : List (List (List ℕ))) → length (first_and_other start runs) ≤ 2
few-first start [] = omega arith
few-first start (run ∷ runs) =
    let p = λ (later : List (List ℕ)). is_other (end_of start run) (end_of start later) in one-more (filter p runs)
  where
    one-more : (list : List (List (List ℕ))) → suc (length (take 1 list)) ≤ 2
    one-more [] = omega arith
    one-more (x ∷ list) = omega arith

differ-first : (start : List Bool) (runs : List (List (List ℕ))) → AllPairs (λ (one two : List (List ℕ)). end_of start one ≢ end_of start two) (first_and_other start runs)
differ-first start [] = λ i j d before inside. absurd (omega (arith, inside))
differ-first start (run ∷ runs) =
    let p = λ (later : List (List ℕ)). is_other (end_of start run) (end_of start later) in
    pair-differs start run (filter p runs) (λ other rest is. other-differs (end_of start run) (end_of start other) (passes-first p runs other rest is))

pub are-settled : (netlist : Netlist) (input start : List Bool) (runs : List (List (List ℕ))) → All (IsRun (network_of netlist) input start) runs
    → AreSettledRuns (network_of netlist) input start (first_and_other start (filter (λ (run : List (List ℕ)). is_settled (network_of netlist) input (end_of start run)) runs))
are-settled netlist input start runs all =
    let net = network_of netlist in
    let settled = filter (λ (run : List (List ℕ)). is_settled net input (end_of start run)) runs in
    record {
      few = few-first start settled;
      each = first-all (IsSettledRun net input start) start settled (settled-all netlist input start runs all);
      differ = differ-first start settled;
    }

-- all attempts are runs
pub attempts-run : (net : List Driver) (input start : List Bool) (fronts : List (List (List ℕ))) → All (IsRun net input start) fronts
    → All (IsRun net input start) (flat_map (λ (front : List (List ℕ)). attempt net input start Least front ∷ attempt net input start Greatest front ∷ []) fronts)
attempts-run net input start [] all = All-nil (IsRun net input start)
attempts-run net input start (front ∷ fronts) all =
    let P = IsRun net input start in
    let both = λ (f : List (List ℕ)). attempt net input start Least f ∷ attempt net input start Greatest f ∷ [] in
    let run = All-head P front fronts all in
    let two = All-cons P (attempt net input start Least front) (attempt net input start Greatest front ∷ []) (attempt-run net input start Least front run)
    (All-cons P (attempt net input start Greatest front) [] (attempt-run net input start Greatest front run) (All-nil P)) in
    subst (All P) (sym (flat_map-cons both front fronts)) (All-append P (both front) (flat_map both fronts) two (attempts-run net input start fronts (All-tail P front fronts all)))

-- the steps to each state of a cycle are a run
pub fronts-run : (net : List Driver) (input start : List Bool) (settle cycle : List (List ℕ)) (numbers : List ℕ) → IsRun net input start settle → IsRun net input (end_of start settle) cycle
    → All (IsRun net input start) (map (λ (steps : ℕ). settle ++ take steps cycle) numbers)
fronts-run net input start settle cycle [] settles cycles = All-nil (IsRun net input start)
fronts-run net input start settle cycle (number ∷ numbers) settles cycles =
    All-cons (IsRun net input start) (settle ++ take number cycle) (map (λ (steps : ℕ). settle ++ take steps cycle) numbers)
    (IsRun-append net input start settle (take number cycle) settles
    (IsRun-front net input (end_of start settle) (take number cycle) (drop number cycle) (subst (IsRun net input (end_of start settle)) (sym (take-append-drop number cycle)) cycles)))
    (fronts-run net input start settle cycle numbers settles cycles)
