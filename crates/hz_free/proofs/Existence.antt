-- Each network of wires has a list of its feedback cycles.
use Rattle.std.proofs.Common.{◌≡◌, ℕ, zero, suc, ◌+◌, ◌<◌, ◌≤◌, ◌⊎◌, true, false, List, [], ◌∷◌, length, get_or, All, refl, sym, ap, subst, arith, inl, inr, eqb}
use Rattle.std.specs.Prelude.{Contains}
use Rattle.std.proofs.lemmas.Bool.{cases_Bool, cases_eq, cases_lt, or_cases, both_ways, eqb-true}
use Rattle.std.proofs.lemmas.List.Elements.{All-cons, All-nil}
use Rattle.hz_lists.specs.Least.{IsLeast}
use Rattle.hz_net.specs.Network.{Driver, External, Function, Source, driver_at}
use Rattle.hz_net.specs.Reads.{Reads, IsWired}
use Rattle.hz_lists.specs.Listed.{is_listed, IsRepeatFree}
use Rattle.hz_free.specs.Chains.{IsChain, IsFeedbackFree}
use Rattle.hz_free.specs.Feedback.{IsChoice, ComesAround, IsFeedbackCycle, AreFeedbackCycles}
use Rattle.hz_lists.proofs.ListedLemmas.{is_repeat_free-bound, listed-head, listed-left, All-each}
use Rattle.hz_free.proofs.Chains.{chain-inside, free-from_reads, reads-free, reads-inside}
use Rattle.hz_free.proofs.FeedbackCycles.{cycle-closed, cycle-least, chosen-in, all-around, same-cycle}
use Rattle.hz_free.proofs.FoundCycles.{first-chooses, reader-inside}
use Rattle.hz_free.proofs.OneList.{Rises, HasAll}

-- one of two things for each number of a range: the first for all of them, or the second for some
range-search : (First Second : ℕ → Type 0) → ((j : ℕ) → First j ⊎ Second j) → (first pins : ℕ) → ((j : ℕ) → first ≤ j → j < first + pins → First j) ⊎ ((j : ℕ) × (first ≤ j) × (j < first + pins) × Second j)
range-search First Second each first zero = inl (λ j from to. absurd (omega arith))
range-search First Second each first (suc pins) =
    elim (each (first + pins)) [
      | inr here ↦ inr (first + pins, omega arith, omega arith, here)
      | inl here ↦
          elim (range-search First Second each first pins) [
            | inr found ↦ let below = found.2 in inr (found.0, found.1, omega arith, found.3)
            | inl all ↦
                inl (
                λ j from to.
                elim (cases_eq j (first + pins)) [
                  | inl same ↦ subst First (sym same) here
                  | inr ne ↦ all j from (omega arith)
                ]
                )
          ]
    ]

-- the same for all that a driver reads
reads-search : (First Second : ℕ → Type 0) → ((j : ℕ) → First j ⊎ Second j) → (driver : Driver) → ((j : ℕ) → Reads driver j → First j) ⊎ ((j : ℕ) × Reads driver j × Second j)
reads-search First Second each (External place) = inl (λ j reads. absurd reads)
reads-search First Second each (Source node) =
    elim (each node) [
      | inl here ↦ inl (λ j reads. subst First reads here)
      | inr here ↦ inr (node, refl, here)
    ]
reads-search First Second each (Function kind first pins) =
    elim (range-search First Second each first pins) [
      | inl all ↦ inl (λ j reads. all j reads.0 reads.1)
      | inr found ↦ inr (found.0, (found.1, found.2), found.3)
    ]

-- whether a driver reads a variable
reads-or-not : (driver : Driver) (j : ℕ) → Reads driver j ⊎ (Reads driver j → ⊥)
reads-or-not (External place) j = inr (λ reads. absurd reads)
reads-or-not (Source node) j = cases_eq node j
reads-or-not (Function kind first pins) j =
    elim (cases_lt j first) [
      | inl less ↦ inr (λ reads. let from = reads.0 in absurd (omega arith))
      | inr from ↦
          elim (cases_lt j (first + pins)) [
            | inl to ↦ inl (from, to)
            | inr beyond ↦ inr (λ reads. let to = reads.1 in absurd (omega arith))
          ]
    ]

-- the least number below a bound with a property, or none
least-search : (Has : ℕ → Type 0) → ((j : ℕ) → Has j ⊎ (Has j → ⊥)) → (below : ℕ) → ((j : ℕ) × IsLeast Has j) ⊎ ((j : ℕ) → j < below → Has j → ⊥)
least-search Has each zero = inr (λ j few has. absurd (omega arith))
least-search Has each (suc below) =
    elim (least-search Has each below) [
      | inl found ↦ inl found
      | inr none ↦
          elim (each below) [
            | inl here ↦ inl (below, record { here = here; least = λ j has. elim (cases_lt j below) [ inl less ↦ absurd (none j less has) | inr from ↦ from ] })
            | inr not_here ↦
                inr (
                λ j few has.
                elim (cases_eq j below) [
                  | inl same ↦ not_here (subst Has same has)
                  | inr ne ↦ none j (omega arith) has
                ]
                )
          ]
    ]

module _ (net : List Driver) (wired : IsWired net) where
  -- all chains from a variable are short, or one is long
  AreShort : ℕ → ℕ → Type 0
  AreShort n i = (chain : List ℕ) → IsChain net i chain → length chain ≤ n

  HasLong : ℕ → ℕ → Type 0
  HasLong n i = (chain : List ℕ) × IsChain net i chain × (length chain ≡ suc n)

  none-longer : (i : ℕ) → ((j : ℕ) → Reads (driver_at net i) j → ⊥) → (chain : List ℕ) → IsChain net i chain → length chain ≤ 0
  none-longer i none [] is = omega arith
  none-longer i none (j ∷ chain) is = absurd (none j is.0)

  one-longer : (n i : ℕ) → ((j : ℕ) → Reads (driver_at net i) j → (chain : List ℕ) → IsChain net j chain → length chain ≤ n) → (chain : List ℕ) → IsChain net i chain → length chain ≤ suc n
  one-longer n i all [] is = omega arith
  one-longer n i all (j ∷ chain) is = let short = all j is.0 chain is.1 in omega arith

  short-or-long : (n i : ℕ) → AreShort n i ⊎ HasLong n i
  unfolding AreShort HasLong
  short-or-long zero i =
      elim (reads-search (λ j. ⊥) (λ j. Unit {0}) (λ j. inr tt) (driver_at net i)) [
        | inl none ↦ inl (none-longer i none)
        | inr found ↦ inr (found.0 ∷ [], (found.1, tt), refl)
      ]
  short-or-long (suc n) i =
      elim (reads-search (AreShort n) (HasLong n) (short-or-long n) (driver_at net i)) [
        | inl all ↦ inl (one-longer n i all)
        | inr found ↦ inr (found.0 ∷ found.2.0, (found.1, found.2.1), ap suc found.2.2)
      ]

  short-free : (n i : ℕ) → AreShort n i → IsFeedbackFree net i
  unfolding AreShort
  short-free zero i short = free-from_reads net i (λ j reads. let bound = short (j ∷ []) (reads, tt) in absurd (omega arith))
  short-free (suc n) i short =
      free-from_reads net i (λ j reads. short-free n j (λ chain is. let bound = short (j ∷ chain) (reads, is) in omega arith))

  long-not-free : (i : ℕ) → HasLong (length net) i → IsFeedbackFree net i → ⊥
  unfolding HasLong
  long-not-free i long free =
      let bound = is_repeat_free-bound long.0 (length net) (free long.0 long.1).1 (λ j there. chain-inside net wired i long.0 j long.1 there) in
      let length_is = long.2 in
      omega arith

  free-or-not : (i : ℕ) → IsFeedbackFree net i ⊎ (IsFeedbackFree net i → ⊥)
  free-or-not i =
      elim (short-or-long (length net) i) [
        | inl short ↦ inl (short-free (length net) i short)
        | inr long ↦ inr (long-not-free i long)
      ]

  -- what a variable may choose
  Feeds : ℕ → ℕ → Type 0
  Feeds i j = Reads (driver_at net i) j × (IsFeedbackFree net j → ⊥)

  feeds-or-not : (i j : ℕ) → Feeds i j ⊎ (Feeds i j → ⊥)
  unfolding Feeds
  feeds-or-not i j =
      elim (reads-or-not (driver_at net i) j) [
        | inr not_read ↦ inr (λ feeds. not_read feeds.0)
        | inl reads ↦
            elim (free-or-not j) [
              | inl free ↦ inr (λ feeds. feeds.1 free)
              | inr not_free ↦ inl (reads, not_free)
            ]
      ]

  -- a variable chooses, or it is feedback-free
  choice-or-free : (i : ℕ) → ((j : ℕ) × IsChoice net i j) ⊎ IsFeedbackFree net i
  unfolding Feeds
  choice-or-free i =
      elim (least-search (Feeds i) (feeds-or-not i) (length net)) [
        | inl found ↦
            inl (
              found.0,
              record {
                reads = found.1.here.0;
                feeds = found.1.here.1;
                first =
                    λ other less reads.
                    elim (free-or-not other) [
                      | inl free ↦ free
                      | inr not_free ↦ let from = found.1.least other (reads, not_free) in absurd (omega (arith, less, from))
                    ];
              },
            )
        | inr none ↦
            inr (
            free-from_reads net i
            (λ j reads.
            elim (free-or-not j) [
              | inl free ↦ free
              | inr not_free ↦ absurd (none j (reads-inside net i j wired reads) (reads, not_free))
            ])
            )
      ]

  -- what is chosen is not feedback-free
  chosen-feeds : (first last : ℕ) (rest : List ℕ) → ComesAround net first last rest → IsFeedbackFree net last → ⊥
  chosen-feeds first last [] around = around.feeds
  chosen-feeds first last (w ∷ rest) around = around.0.feeds

  chosen-inside : (first last : ℕ) (rest : List ℕ) → ComesAround net first last rest → last < length net
  chosen-inside first last [] around = reads-inside net first last wired around.reads
  chosen-inside first last (w ∷ rest) around = reads-inside net w last wired around.0.reads

  listed-inside : (first last : ℕ) (rest : List ℕ) (j : ℕ) → ComesAround net first last rest → is_listed rest j ≡ true → j < length net
  listed-inside first last [] j around there = absurd (both_ways false refl there)
  listed-inside first last (w ∷ rest) j around there =
      elim (or_cases (eqb j w) (is_listed rest j) there) [
        | inl same ↦ subst (λ (m : ℕ). m < length net) (sym (eqb-true j w same)) (chosen-inside first w rest around.1)
        | inr later ↦ listed-inside first w rest j around.1 later
      ]

  -- A way forward from a variable, from choice to choice, over greater variables: it comes back, or no cycle begins with the variable.
  HasCycle : ℕ → Type 0
  HasCycle first = (rest : List ℕ) × IsFeedbackCycle net (first ∷ rest)

  on-cycle : (first last : ℕ) (rest other : List ℕ) → ComesAround net first last rest → IsFeedbackCycle net (first ∷ other) → is_listed (first ∷ other) last ≡ true
  on-cycle first last [] other around is = cycle-closed net (first ∷ other) first last is (listed-head first other) around
  on-cycle first last (w ∷ rest) other around is =
      cycle-closed net (first ∷ other) w last is (on-cycle first w rest other around.1 is) around.0

  -- a way that comes to a variable of its own does not come back
  ring-apart : (first last : ℕ) (rest : List ℕ) → ComesAround net first last rest → ((j : ℕ) → is_listed rest j ≡ true → first < j) → is_listed rest last ≡ true → HasCycle first → ⊥
  unfolding HasCycle
  ring-apart first last rest around greater there has =
      let closed : (a b : ℕ) → is_listed rest a ≡ true → IsChoice net a b → is_listed rest b ≡ true =
      λ a b holds choice.
      elim (or_cases (eqb b last) (is_listed rest b) (chosen-in net first last rest a b around (listed-left rest (first ∷ []) a holds) choice)) [
        | inl same ↦ subst (λ (m : ℕ). is_listed rest m ≡ true) (sym (eqb-true b last same)) there
        | inr later ↦ later
      ] in
      let comes : is_listed rest first ≡ true =
      all-around net (λ m. is_listed rest m ≡ true) closed (first ∷ has.0) last first has.1 (on-cycle first last rest has.0 around has.1) there (listed-head first has.0) in
      let less = greater first comes in
      absurd (omega arith)

  -- one step of the way, and how it goes on
  step : (first last : ℕ) (rest : List ℕ) → ComesAround net first last rest → IsRepeatFree rest → ((j : ℕ) → is_listed rest j ≡ true → first < j) → (is_listed rest last ≡ false → first < last → HasCycle first ⊎ (HasCycle first → ⊥)) → HasCycle first ⊎ (HasCycle first → ⊥)
  unfolding HasCycle
  step first last rest around once greater further =
      elim (cases_eq last first) [
        | inl same ↦
            let out : is_listed rest first ≡ false =
            elim (cases_Bool (is_listed rest first)) [
              | inl there ↦ let less = greater first there in absurd (omega arith)
              | inr outside ↦ outside
            ] in
            inl (rest, (subst (λ (m : ℕ). ComesAround net first m rest) same around, (out, once), All-each (λ later. first < later) rest greater))
        | inr ne ↦
            elim (cases_lt last first) [
              | inl less ↦
                  inr (λ has. let least = cycle-least net first has.0 last has.1 (on-cycle first last rest has.0 around has.1) in absurd (omega arith))
              | inr not_less ↦
                  elim (cases_Bool (is_listed rest last)) [
                    | inl there ↦ inr (ring-apart first last rest around greater there)
                    | inr out ↦ further out (omega arith)
                  ]
            ]
      ]

  all-inside : (first last : ℕ) (rest : List ℕ) (j : ℕ) → ComesAround net first last rest → is_listed (last ∷ rest) j ≡ true → j < length net
  all-inside first last rest j around there =
      elim (or_cases (eqb j last) (is_listed rest j) there) [
        | inl same ↦ subst (λ (m : ℕ). m < length net) (sym (eqb-true j last same)) (chosen-inside first last rest around)
        | inr later ↦ listed-inside first last rest j around later
      ]

  walk : (fuel first last : ℕ) (rest : List ℕ) → length net ≤ fuel + length rest → ComesAround net first last rest → IsRepeatFree rest → ((j : ℕ) → is_listed rest j ≡ true → first < j) → HasCycle first ⊎ (HasCycle first → ⊥)
  walk zero first last rest enough around once greater =
      step first last rest around once greater
      (λ out more. let bound = is_repeat_free-bound (last ∷ rest) (length net) (out, once) (λ j there. all-inside first last rest j around there) in absurd (omega arith))
  walk (suc fuel) first last rest enough around once greater =
      step first last rest around once greater
      (λ out more.
      elim (choice-or-free last) [
        | inr free ↦ absurd (chosen-feeds first last rest around free)
        | inl choice ↦
            walk fuel first choice.0 (last ∷ rest) (omega arith) (choice.1, around) (out, once)
            (λ j there.
            elim (or_cases (eqb j last) (is_listed rest j) there) [
              | inl same ↦ subst (λ (m : ℕ). first < m) (sym (eqb-true j last same)) more
              | inr later ↦ greater j later
            ])
      ])

  cycle-or-not : (first : ℕ) → HasCycle first ⊎ (HasCycle first → ⊥)
  unfolding HasCycle
  cycle-or-not first =
      elim (choice-or-free first) [
        | inr free ↦
            inr (λ has. let choice = first-chooses net first first has.0 has.1.0 in choice.1.feeds (reads-free net first choice.0 free choice.1.reads))
        | inl choice ↦ walk (length net) first choice.0 [] (omega arith) choice.1 tt (λ j there. absurd (both_ways false refl there))
      ]

  -- the cycles whose first variables are not below a number
  record AreFrom (low : ℕ) (cycles : List (List ℕ)) : Type 0 where
    rises : Rises low cycles
    each : All (IsFeedbackCycle net) cycles
    all : HasAll net low cycles

  from-end : AreFrom (length net) []
  from-end = record { rises = tt; each = All-nil (IsFeedbackCycle net); all = none }
    where
      none : (cycle : List ℕ) → IsFeedbackCycle net cycle → length net ≤ get_or cycle 0 0 → Contains [] cycle
      none [] is least = absurd is
      none (first ∷ rest) is least =
          let choice = first-chooses net first first rest is.0 in
          let few = reader-inside net first choice.0 choice.1.reads in
          absurd (omega arith)

  rises-lower : (low : ℕ) (cycles : List (List ℕ)) → Rises (suc low) cycles → Rises low cycles
  rises-lower low [] rises = tt
  rises-lower low (cycle ∷ cycles) rises = let least = rises.0 in (omega arith, rises.1)

  from-skip : (low : ℕ) (cycles : List (List ℕ)) → (HasCycle low → ⊥) → AreFrom (suc low) cycles → AreFrom low cycles
  unfolding HasCycle
  from-skip low cycles none are = record { rises = rises-lower low cycles are.rises; each = are.each; all = all }
    where
      all : (cycle : List ℕ) → IsFeedbackCycle net cycle → low ≤ get_or cycle 0 0 → Contains cycles cycle
      all [] is least = absurd is
      all (first ∷ rest) is least =
          elim (cases_eq first low) [
            | inl same ↦ absurd (none (rest, subst (λ (m : ℕ). IsFeedbackCycle net (m ∷ rest)) same is))
            | inr ne ↦ are.all (first ∷ rest) is (omega arith)
          ]

  from-more : (low : ℕ) (cycles : List (List ℕ)) (rest : List ℕ) → IsFeedbackCycle net (low ∷ rest) → AreFrom (suc low) cycles → AreFrom low ((low ∷ rest) ∷ cycles)
  from-more low cycles rest is are =
      record {
        rises = (omega arith, are.rises);
        each = All-cons (IsFeedbackCycle net) (low ∷ rest) cycles is are.each;
        all = all;
      }
    where
      all : (cycle : List ℕ) → IsFeedbackCycle net cycle → low ≤ get_or cycle 0 0 → Contains ((low ∷ rest) ∷ cycles) cycle
      all [] is' least = absurd is'
      all (first ∷ other) is' least =
          elim (cases_eq first low) [
            | inl same ↦
                let one : low ∷ rest ≡ first ∷ other =
                same-cycle net (low ∷ rest) (first ∷ other) low is is' (listed-head low rest)
                (subst (λ (m : ℕ). is_listed (m ∷ other) low ≡ true) (sym same) (listed-head low other)) in
                (0, omega arith, one)
            | inr ne ↦ let later = are.all (first ∷ other) is' (omega arith) in (suc later.0, omega (arith, later.1), later.2)
          ]

  list-from : (count low : ℕ) → low + count ≡ length net → (cycles : List (List ℕ)) × AreFrom low cycles
  unfolding HasCycle
  list-from zero low all = let end : low ≡ length net = omega arith in ([], subst (λ (m : ℕ). AreFrom m []) (sym end) from-end)
  list-from (suc count) low all =
      let later = list-from count (suc low) (omega arith) in
      elim (cycle-or-not low) [
        | inl has ↦ ((low ∷ has.0) ∷ later.0, from-more low later.0 has.0 has.1 later.1)
        | inr none ↦ (later.0, from-skip low later.0 none later.1)
      ]

  rises-ordered : (low : ℕ) (cycles : List (List ℕ)) → Rises low cycles → (number : ℕ) → suc number < length cycles → get_or (get_or cycles number []) 0 0 < get_or (get_or cycles (suc number) []) 0 0
  rises-ordered low [] rises number few = absurd (omega arith)
  rises-ordered low (cycle ∷ []) rises number few = absurd (omega arith)
  rises-ordered low (cycle ∷ next ∷ cycles) rises zero few = let more = rises.1.0 in omega arith
  rises-ordered low (cycle ∷ next ∷ cycles) rises (suc number) few = rises-ordered (suc (get_or cycle 0 0)) (next ∷ cycles) rises.1 number (omega arith)

  pub cycles-exist : (cycles : List (List ℕ)) × AreFeedbackCycles net cycles
  cycles-exist =
      let found = list-from (length net) 0 (omega arith) in
      (found.0, record { each = found.1.each; every = λ cycle is. found.1.all cycle is (omega arith); ordered = rises-ordered 0 found.0 found.1.rises })
