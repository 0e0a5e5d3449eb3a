-- Chains of readers: what reads only feedback-free variables is feedback-free, what reads one that is not is not, and what holds
-- of a feedback-free variable if it holds of those that it reads.
use Rattle.std.proofs.Common.{◌≡◌, ℕ, zero, suc, ◌<◌, ◌≤◌, true, false, List, [], ◌∷◌, ◌++◌, length, refl, sym, ap, ◌∙◌, subst, arith, inl, inr, eqb}
use Rattle.std.proofs.lemmas.Bool.{cases_Bool, or_cases, both_ways, eqb-true, cases_lt}
use Rattle.hz_net.specs.Network.{Driver, External, Function, Source, driver_at}
use Rattle.hz_net.specs.Reads.{Reads, IsWireInto, IsWired}
use Rattle.hz_lists.specs.Listed.{is_listed}
use Rattle.hz_free.specs.Chains.{IsChain, IsFeedbackFree}
use Rattle.hz_lists.proofs.ListedLemmas.{is_repeat_free-bound, pushed-last}
use Rattle.std.proofs.lemmas.List.{get_or_past}

-- a chain may go on from a variable on it to what that reads
chain-on : (net : List Driver) (j : ℕ) (rest : List ℕ) (i k : ℕ) → IsChain net j rest → is_listed (j ∷ rest) i ≡ true → Reads (driver_at net i) k → (front : List ℕ) × IsChain net j (front ++ k ∷ [])
chain-on net j [] i k chain there reads =
    elim (or_cases (eqb i j) false there) [
      | inl same ↦ ([], (subst (λ (m : ℕ). Reads (driver_at net m) k) (eqb-true i j same) reads, tt))
      | inr later ↦ absurd (both_ways false refl later)
    ]
chain-on net j (next ∷ rest) i k chain there reads =
    elim (or_cases (eqb i j) (is_listed (next ∷ rest) i) there) [
      | inl same ↦ ([], (subst (λ (m : ℕ). Reads (driver_at net m) k) (eqb-true i j same) reads, tt))
      | inr later ↦
          let found = chain-on net next rest i k chain.1 later reads in
          (next ∷ found.0, (chain.0, found.1))
    ]

-- what reads only feedback-free variables
pub free-from_reads : (net : List Driver) (i : ℕ) → ((j : ℕ) → Reads (driver_at net i) j → IsFeedbackFree net j) → IsFeedbackFree net i
free-from_reads net i reads_free [] chain = (refl, tt)
free-from_reads net i reads_free (j ∷ rest) chain =
    let free = reads_free j chain.0 in
    elim (cases_Bool (is_listed (j ∷ rest) i)) [
      | inr out ↦ (out, free rest chain.1)
      | inl there ↦
          let on = chain-on net j rest i j chain.1 there chain.0 in
          let repeats = free (on.0 ++ j ∷ []) on.1 in
          absurd (both_ways (is_listed (on.0 ++ j ∷ []) j) repeats.0 (pushed-last on.0 j))
    ]

-- what a feedback-free variable reads
pub reads-free : (net : List Driver) (i j : ℕ) → IsFeedbackFree net i → Reads (driver_at net i) j → IsFeedbackFree net j
reads-free net i j free reads chain is_chain = (free (j ∷ chain) (reads, is_chain)).1

not-external : (place node : ℕ) → External place ≡ Source node → ⊥
not-external place node e = cc

-- what is read is a variable
pub reads-inside : (net : List Driver) (i j : ℕ) → IsWired net → Reads (driver_at net i) j → j < length net
reads-inside net i j wired reads = reads-inside-by (driver_at net i) refl reads
  where
    reads-inside-by : (driver : Driver) → driver_at net i ≡ driver → Reads driver j → j < length net
    reads-inside-by (External place) driven reads' = absurd reads'
    reads-inside-by (Source node) driven reads' = subst (λ (m : ℕ). m < length net) reads' (wired.node_inside i node driven)
    reads-inside-by (Function kind first pins) driven reads' =
        elim (cases_lt j (length net)) [
          | inl inside ↦ inside
          | inr beyond ↦
              let into : IsWireInto net i j = record { kind = kind; first = first; pins = pins; driven = driven; above = reads'.0; below = reads'.1 } in
              let source = wired.source i j into in
              let past : driver_at net j ≡ External 0 = get_or_past net j (External 0) beyond in
              absurd (not-external 0 source.0 (sym past ∙ source.1))
        ]

-- a chain that never comes to an end comes to a variable twice
module _ (net : List Driver) (Goes : ℕ → Type 0) (inside : (i : ℕ) → Goes i → i < length net) (on : (i : ℕ) → Goes i → (j : ℕ) × Reads (driver_at net i) j × Goes j) where
  long-chain : (n : ℕ) (i : ℕ) → Goes i → (chain : List ℕ) × IsChain net i chain × (length chain ≡ n) × ((j : ℕ) → is_listed chain j ≡ true → j < length net)
  long-chain zero i goes = ([], tt, refl, λ j there. absurd (both_ways false refl there))
  long-chain (suc n) i goes =
      let next = on i goes in
      let rest = long-chain n next.0 next.2 in (
        next.0 ∷ rest.0,
        (next.1, rest.1),
        ap suc rest.2,
        λ j there.
            elim (or_cases (eqb j next.0) (is_listed rest.0 j) there) [
              | inl same ↦ subst (λ (m : ℕ). m < length net) (sym (eqb-true j next.0 same)) (inside next.0 next.2)
              | inr later ↦ rest.3 j later
            ],
      )

  pub not-free : (i : ℕ) → Goes i → IsFeedbackFree net i → ⊥
  not-free i goes free =
      let long = long-chain (length net) i goes in
      let bound = is_repeat_free-bound (i ∷ long.0) (length net) (free long.0 long.1) (λ j there.
      elim (or_cases (eqb j i) (is_listed long.0 j) there) [
        | inl same ↦ subst (λ (m : ℕ). m < length net) (sym (eqb-true j i same)) (inside i goes)
        | inr later ↦ long.3 j later
      ]) in
      let e = long.2 in
      omega arith

-- a chain stays inside the network
pub chain-inside : (net : List Driver) → IsWired net → (i : ℕ) (chain : List ℕ) (j : ℕ) → IsChain net i chain → is_listed chain j ≡ true → j < length net
chain-inside net wired i [] j is_chain there = absurd (both_ways false refl there)
chain-inside net wired i (next ∷ chain) j is_chain there =
    elim (or_cases (eqb j next) (is_listed chain j) there) [
      | inl same ↦ subst (λ (m : ℕ). m < length net) (sym (eqb-true j next same)) (reads-inside net i next wired is_chain.0)
      | inr later ↦ chain-inside net wired next chain j is_chain.1 later
    ]

-- what holds of a feedback-free variable, if it holds of one whenever it holds of all that it reads
module _ (net : List Driver) (wired : IsWired net) (P : ℕ → Type 0) (step : (i : ℕ) → i < length net → IsFeedbackFree net i → ((j : ℕ) → Reads (driver_at net i) j → P j) → P i) where
  -- chains from a variable of at most so many variables
  IsShort : ℕ → ℕ → Type 0
  IsShort n i = (chain : List ℕ) → IsChain net i chain → length chain ≤ n

  short-reads : (n i j : ℕ) → IsShort (suc n) i → Reads (driver_at net i) j → IsShort n j
  unfolding IsShort
  short-reads n i j short reads chain is_chain = let bound = short (j ∷ chain) (reads, is_chain) in omega arith

  short-none : (i j : ℕ) → IsShort 0 i → Reads (driver_at net i) j → ⊥
  unfolding IsShort
  short-none i j short reads = let bound = short (j ∷ []) (reads, tt) in omega arith

  by-shortness : (n i : ℕ) → i < length net → IsFeedbackFree net i → IsShort n i → P i
  by-shortness zero i few free short = step i few free (λ j reads. absurd (short-none i j short reads))
  by-shortness (suc n) i few free short =
      step i few free (λ j reads. by-shortness n j (reads-inside net i j wired reads) (reads-free net i j free reads) (short-reads n i j short reads))

  free-short : (i : ℕ) → i < length net → IsFeedbackFree net i → IsShort (length net) i
  unfolding IsShort
  free-short i few free chain is_chain =
      let bound = is_repeat_free-bound (i ∷ chain) (length net) (free chain is_chain) (λ j there.
      elim (or_cases (eqb j i) (is_listed chain j) there) [
        | inl same ↦ subst (λ (m : ℕ). m < length net) (sym (eqb-true j i same)) few
        | inr later ↦ chain-inside net wired i chain j is_chain later
      ]) in
      omega arith

  pub free-induction : (i : ℕ) → i < length net → IsFeedbackFree net i → P i
  free-induction i few free = by-shortness (length net) i few free (free-short i few free)
