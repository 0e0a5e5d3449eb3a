-- The runs that are found are those of the definition: those that stand for the attempts so far, and for all of them.
use Rattle.std.proofs.Common.{◌≡◌, ◌∙◌, ℕ, zero, suc, ◌+◌, ◌*◌, ◌≤◌, Bool, true, false, List, [], ◌∷◌, ◌++◌, length, take, get_or, map, cond, inl, inr, refl, sym, ap, subst, arith}
use Rattle.hz_split.proofs.Words.{range_with_len, cases_Bool, append-nil, Driver, state_after, end_of, is_other, is_settled, turns_from, flips_alone, attempt, FoundOf}
use Rattle.hz_split.proofs.Words.{with_attempts, Pick, Least, Greatest}
use Rattle.std.specs.List.{filter, flat_map}
use Rattle.std.proofs.Math.Seq.{take-suc}
use Rattle.std.proofs.lemmas.List.{append_assoc}
use Rattle.std.proofs.lemmas.List.Concat.{flat_map-cons}
use Rattle.std.proofs.lemmas.List.Elements.{filter-append}
use Rattle.hz_gmw.proofs.Paths.{end_of-append}
use Rattle.hz_split.specs.Attempts.{first_and_other}
use Rattle.hz_split.specs.FoundRuns.{found_with, with_run, with_attempt}
use Rattle.hz_split.proofs.FoundLemmas.{attempt-variables}

-- a filter of one element
filter-yes : {X : Type 0} (p : X → Bool) (x : X) → p x ≡ true → filter p (x ∷ []) ≡ x ∷ []
filter-yes {X} p x is = ap (λ (b : Bool). cond b (x ∷ []) []) is

filter-no : {X : Type 0} (p : X → Bool) (x : X) → p x ≡ false → filter p (x ∷ []) ≡ []
filter-no {X} p x is = ap (λ (b : Bool). cond b (x ∷ []) []) is

-- the state in which the first run ends, if there is one
abbrev pub EndsAs : List Bool → List (List (List ℕ)) → List Bool → Type 0
EndsAs start [] ending = Unit {0}
EndsAs start (run ∷ runs) ending = ending ≡ end_of start run

-- runs that are found among those that end in stable states
pub record StandsFor (start : List Bool) (settled : List (List (List ℕ))) (found : FoundOf) : Type 0 where
  pub runs : found.runs ≡ first_and_other start settled
  pub ending : EndsAs start found.runs found.ending

-- one run more, behind a first one
behind : (start : List Bool) (first run : List (List ℕ)) (rest : List (List (List ℕ))) (state : List Bool) (found : FoundOf) → found.ending ≡ end_of start first → state ≡ end_of start run
    → (others : List (List (List ℕ))) → others ≡ filter (λ (later : List (List ℕ)). is_other (end_of start first) (end_of start later)) rest → found.runs ≡ first ∷ take 1 others
    → StandsFor start (first ∷ (rest ++ run ∷ [])) (found_with found (first ∷ take 1 others) run state)
behind start first run rest state found is_first is_end [] none is =
    let p = λ (later : List (List ℕ)). is_other (end_of start first) (end_of start later) in
    let whole : filter p (rest ++ run ∷ []) ≡ filter p (run ∷ []) =
    filter-append p rest (run ∷ []) ∙ ap (λ (list : List (List (List ℕ))). list ++ filter p (run ∷ [])) (sym none) in
    let same : is_other found.ending state ≡ p run = ap (λ (s : List Bool). is_other s state) is_first ∙ ap (is_other (end_of start first)) is_end in
    elim (cases_Bool (is_other found.ending state)) [
      | inl other ↦
          rw other (record {
            runs = ap (λ (list : List (List (List ℕ))). first ∷ take 1 list) (sym (whole ∙ filter-yes p run (sym same ∙ other)));
            ending = is_first;
          })
      | inr alike ↦
          rw alike (record {
            runs = is ∙ ap (λ (list : List (List (List ℕ))). first ∷ take 1 list) (sym (whole ∙ filter-no p run (sym same ∙ alike)));
            ending = subst (λ (runs : List (List (List ℕ))). EndsAs start runs found.ending) (sym is) is_first;
          })
    ]
behind start first run rest state found is_first is_end (other ∷ others) some is =
    let p = λ (later : List (List ℕ)). is_other (end_of start first) (end_of start later) in
    let whole : filter p (rest ++ run ∷ []) ≡ other ∷ (others ++ filter p (run ∷ [])) =
    filter-append p rest (run ∷ []) ∙ ap (λ (list : List (List (List ℕ))). list ++ filter p (run ∷ [])) (sym some) in
    record {
      runs = is ∙ ap (λ (list : List (List (List ℕ))). first ∷ take 1 list) (sym whole);
      ending = subst (λ (runs : List (List (List ℕ))). EndsAs start runs found.ending) (sym is) is_first;
    }

pub stands-more : (start : List Bool) (settled : List (List (List ℕ))) (found : FoundOf) (run : List (List ℕ)) (state : List Bool) → StandsFor start settled found → state ≡ end_of start run
    → StandsFor start (settled ++ run ∷ []) (with_run found run state)
stands-more start [] found run state stands is_end =
    subst (λ (runs : List (List (List ℕ))). StandsFor start (run ∷ []) (found_with found runs run state)) (sym stands.runs) (record { runs = refl; ending = is_end })
stands-more start (first ∷ rest) found run state stands is_end =
    let p = λ (later : List (List ℕ)). is_other (end_of start first) (end_of start later) in
    let is_first = subst (λ (runs : List (List (List ℕ))). EndsAs start runs found.ending) stands.runs stands.ending in
    subst (λ (runs : List (List (List ℕ))). StandsFor start (first ∷ (rest ++ run ∷ [])) (found_with found runs run state)) (sym stands.runs)
    (behind start first run rest state found is_first is_end (filter p rest) refl stands.runs)

module _ (net : List Driver) (input start : List Bool) where
  -- a run that ends in a stable state
  abbrev stops : List (List ℕ) → Bool
  stops run = is_settled net input (end_of start run)

  pub stands-attempt : (pick : Pick) (front : List (List ℕ)) (here : List Bool) (found : FoundOf) (tried : List (List (List ℕ))) → here ≡ end_of start front → StandsFor start (filter stops tried) found
      → StandsFor start (filter stops (tried ++ attempt net input start pick front ∷ [])) (with_attempt net input pick front here found)
  stands-attempt pick front here found tried is_here stands =
      let turns = flips_alone (turns_from net input pick (2 * length net) here) in
      let run = attempt net input start pick front in
      let is_run : run ≡ front ++ turns = ap (λ (s : List Bool). front ++ flips_alone (turns_from net input pick (2 * length net) s)) (sym is_here) in
      let ends : end_of here turns ≡ end_of start run =
      ap (λ (s : List Bool). end_of s turns) is_here ∙ (sym (end_of-append start front turns) ∙ ap (end_of start) (sym is_run)) in
      let whole : filter stops (tried ++ run ∷ []) ≡ filter stops tried ++ filter stops (run ∷ []) = filter-append stops tried (run ∷ []) in
      elim (cases_Bool (is_settled net input (end_of here turns))) [
        | inl settled ↦
            (let passes : filter stops (run ∷ []) ≡ run ∷ [] = filter-yes stops run (ap (is_settled net input) (sym ends) ∙ settled) in
            let all : filter stops (tried ++ run ∷ []) ≡ filter stops tried ++ (front ++ turns) ∷ [] =
            whole ∙ (ap (λ (list : List (List (List ℕ))). filter stops tried ++ list) passes ∙ ap (λ (r : List (List ℕ)). filter stops tried ++ r ∷ []) is_run) in
            rw (settled, all) (stands-more start (filter stops tried) found (front ++ turns) (end_of here turns) stands (ends ∙ ap (end_of start) is_run)))
        | inr not_settled ↦
            (let fails : filter stops (run ∷ []) ≡ [] = filter-no stops run (ap (is_settled net input) (sym ends) ∙ not_settled) in
            let all : filter stops (tried ++ run ∷ []) ≡ filter stops tried =
            whole ∙ (ap (λ (list : List (List (List ℕ))). filter stops tried ++ list) fails ∙ append-nil (filter stops tried)) in
            rw (not_settled, all) stands)
      ]

  -- both attempts from a state
  abbrev both : List (List ℕ) → List (List (List ℕ))
  both front = attempt net input start Least front ∷ attempt net input start Greatest front ∷ []

  pub stands-all : (settle cycle : List (List ℕ)) (left number : ℕ) (here : List Bool) (found : FoundOf) (tried : List (List (List ℕ))) → number + left ≤ length cycle → here ≡ end_of start (settle ++ take number cycle)
      → StandsFor start (filter stops tried) found
      → StandsFor start (filter stops (tried ++ flat_map both (map (λ (steps : ℕ). settle ++ take steps cycle) (range_with_len number left)))) (with_attempts net input settle cycle (range_with_len number left) here found)
  stands-all settle cycle zero number here found tried few is_here stands =
      subst (λ (list : List (List (List ℕ))). StandsFor start (filter stops list) found) (sym (append-nil tried)) stands
  stands-all settle cycle (suc left) number here found tried few is_here stands =
      let front = settle ++ take number cycle in
      let flips = get_or cycle number [] in
      let first = attempt net input start Least front in
      let second = attempt net input start Greatest front in
      let fronts = map (λ (steps : ℕ). settle ++ take steps cycle) (range_with_len (number + 1) left) in
      let one = stands-attempt Least front here found tried is_here stands in
      let two = stands-attempt Greatest front here (with_attempt net input Least front here found) (tried ++ first ∷ []) is_here one in
      let after : suc number ≡ number + 1 = omega arith in
      let more : settle ++ take (number + 1) cycle ≡ front ++ flips ∷ [] =
      ap (λ (n : ℕ). settle ++ take n cycle) (sym after)
      ∙ (ap (λ (steps : List (List ℕ)). settle ++ steps) (take-suc cycle number [] (omega (arith, few))) ∙ sym (append_assoc settle (take number cycle) (flips ∷ []))) in
      let next : state_after flips here ≡ end_of start (settle ++ take (number + 1) cycle) =
      ap (state_after flips) is_here ∙ (sym (end_of-append start front (flips ∷ [])) ∙ ap (end_of start) (sym more)) in
      let rest = stands-all settle cycle left (number + 1) (state_after flips here) (with_attempt net input Greatest front here (with_attempt net input Least front here found)) ((tried ++ first ∷ []) ++ second ∷ [])
      (omega (arith, few)) next two in
      let list : ((tried ++ first ∷ []) ++ second ∷ []) ++ flat_map both fronts ≡ tried ++ flat_map both (front ∷ fronts) =
      append_assoc (tried ++ first ∷ []) (second ∷ []) (flat_map both fronts)
      ∙ (append_assoc tried (first ∷ []) (second ∷ flat_map both fronts)
      ∙ ap (λ (l : List (List (List ℕ))). tried ++ l) (sym (flat_map-cons both front fronts))) in
      subst (λ (l : List (List (List ℕ))). StandsFor start (filter stops l) (with_attempts net input settle cycle (range_with_len number (suc left)) here found)) list rest

-- the room stays that for the network
pub attempts-variables : (net : List Driver) (input : List Bool) (settle cycle : List (List ℕ)) (numbers : List ℕ) (here : List Bool) (found : FoundOf) → (with_attempts net input settle cycle numbers here found).variables ≡ found.variables
attempts-variables net input settle cycle [] here found = refl
attempts-variables net input settle cycle (number ∷ numbers) here found =
    let front = settle ++ take number cycle in
    let first = with_attempt net input Least front here found in
    attempts-variables net input settle cycle numbers (state_after (get_or cycle number []) here) (with_attempt net input Greatest front here first)
    ∙ (attempt-variables net input Greatest front here first ∙ attempt-variables net input Least front here found)
