-- Runs of which the last one goes on, and the places of their steps.
use Rattle.std.proofs.Common.{◌≡◌, ◌∙◌, ℕ, ◌<◌, ◌≤◌, List, [], ◌∷◌, ◌++◌, Option, Some, zero, suc, length, get_or, map, refl, ap, sym, arith, length-append}
use Rattle.std.specs.List.{All}
use Rattle.std.proofs.lemmas.List.{get_or_append_left, get_or-map}
use Rattle.std.proofs.lemmas.List.Elements.{All-nil, All-cons, All-head, All-tail}
use Rattle.hz_gmw.specs.RunRecord.{RunRecord, no_steps}
use Rattle.hz_run_text.specs.declared.told.Places.{Places}
use Rattle.hz_run_text.specs.RunInside.{steps_at, cycle_at, run_at, IsPlaced, HasMore}
use Rattle.hz_text.specs.RunParts.{RunOf}

-- what is told later leaves a place as it is
pub steps_at-more : (told more : List RunRecord) (place : ℕ) → place < length told → steps_at (told ++ more) place ≡ steps_at told place
steps_at-more told more place l = ap (λ (run : RunRecord). run.steps) (get_or_append_left told more no_steps place l)

pub cycle_at-more : (told more : List RunRecord) (place : ℕ) → place ≤ length told → cycle_at (told ++ more) place ≡ cycle_at told place
cycle_at-more told more zero l = refl
cycle_at-more told more (suc place) l = ap Some (steps_at-more told more place (omega (arith, l)))

run_at-more : (told more : List RunRecord) (places : Places) → IsPlaced (length told) places → run_at (told ++ more) places ≡ run_at told places
run_at-more told more places is =
    rw (steps_at-more told more places.lead is.lead, cycle_at-more told more places.cycle is.cycle) refl

-- it leaves all runs as they are
pub runs-more : (told more : List RunRecord) (all : List Places) → All (IsPlaced (length told)) all → map (run_at (told ++ more)) all ≡ map (run_at told) all
runs-more told more [] h = refl
runs-more told more (first ∷ later) h =
    let head = run_at-more told more first (All-head (IsPlaced (length told)) first later h) in
    let tail = runs-more told more later (All-tail (IsPlaced (length told)) first later h) in
    ap (λ run. run ∷ map (run_at (told ++ more)) later) head ∙ ap (λ runs. run_at told first ∷ runs) tail

-- more was told, and places that were among what was told still are
pub placed-more : (many more : ℕ) (all : List Places) → many ≤ more → All (IsPlaced many) all → All (IsPlaced more) all
placed-more many more all le h = λ k d l. let is = h k d l in record { lead = omega (arith, is.lead, le); cycle = omega (arith, is.cycle, le) }

-- what holds of what was told and of its places, once more was told
pub record StillHolds (old new : List RunRecord) (all : List Places) : Type 0 where
  pub some : 0 < length new
  pub none : steps_at new 0 ≡ []
  pub placed : All (IsPlaced (length new)) all
  pub same : map (run_at new) all ≡ map (run_at old) all
  pub longer : length old ≤ length new

pub still-holds : (old new : List RunRecord) (all : List Places) → HasMore old new → 0 < length old → steps_at old 0 ≡ [] → All (IsPlaced (length old)) all → StillHolds old new all
still-holds old new all more some none placed =
    let is = more.1 in
    let longer : length old ≤ length new = omega (arith, ap length is, length-append old more.0) in
    record {
      some = omega (arith, some, longer);
      none = rw is (steps_at-more old more.0 0 some ∙ none);
      placed = placed-more (length old) (length new) all longer placed;
      same = rw is (runs-more old more.0 all placed);
      longer = longer;
    }

-- the run with a number
pub run_numbered : (told : List RunRecord) (all : List Places) (number : ℕ) (places : Places) (d : RunOf) → number < length all → places ≡ get_or all number places → run_at told places ≡ get_or (map (run_at told) all) number d
run_numbered told all number places d l e = ap (run_at told) e ∙ sym (get_or-map (run_at told) all number places d l)

-- one place more
pub placed-one : (many : ℕ) (all : List Places) (one : Places) → All (IsPlaced many) all → IsPlaced many one → All (IsPlaced many) (all ++ one ∷ [])
placed-one many [] one h is = All-cons (IsPlaced many) one [] is (All-nil (IsPlaced many))
placed-one many (first ∷ later) one h is =
    All-cons (IsPlaced many) first (later ++ one ∷ []) (All-head (IsPlaced many) first later h) (placed-one many later one (All-tail (IsPlaced many) first later h) is)

-- the run whose lead was told before its cycle
pub run-one :
    (old new : List RunRecord) (lead cycle : ℕ) (steps : List (List ℕ)) (those : Option (List (List ℕ))) → HasMore old new → lead < length old → steps_at old lead ≡ steps → cycle_at new cycle ≡ those →
    run_at new (record { lead = lead; cycle = cycle }) ≡ record { lead = steps; cycle = those }
run-one old new lead cycle steps those more l s t =
    let same : steps_at new lead ≡ steps = ap (λ told. steps_at told lead) more.1 ∙ steps_at-more old more.0 lead l ∙ s in
    rw (same, t) refl
