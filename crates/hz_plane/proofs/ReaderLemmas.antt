-- Lists of readers: one reader more.
use Rattle.std.proofs.Common.{◌≡◌, ◌∙◌, ℕ, zero, suc, ◌+◌, ◌-◌, ◌<◌, List, [], ◌∷◌, ◌++◌, length, map, get_or, set, replicate, All, refl, sym, ap, subst, arith, inl, inr}
use Rattle.smallvec.specs.SmallVec.{SmallVec}
use Rattle.std.specs.Prelude.{Contains}
use Rattle.std.proofs.lemmas.Bool.{cases_eq, cases_lt}
use Rattle.std.proofs.lemmas.List.{length-map, map-set, get_or-map, get_or-set_same, get_or-set_other, length-append, get_or_append_left, get_or-append_right, get_or_past}
use Rattle.std.proofs.lemmas.List.Elements.{All-nil, All-push, Contains-append_left, Contains-push}
use Rattle.hz_core.specs.Netlist.{Netlist}
use Rattle.hz_plane.specs.Sweeps.{AreReaders, IsOrder, readers_at}

-- what a push into one list makes of all
pub filed-push :
    (lists : List (SmallVec ℕ)) (node place : ℕ) (old new : SmallVec ℕ) → node < length lists →
    new.items ≡ (get_or lists node old).items ++ place ∷ [] →
    map (λ (list : SmallVec ℕ). list.items) (set lists node new) ≡
    set (map (λ (list : SmallVec ℕ). list.items) lists) node (readers_at (map (λ (list : SmallVec ℕ). list.items) lists) node ++ place ∷ [])
filed-push lists node place old new within pushed =
    let items : SmallVec ℕ → List ℕ = λ list. list.items in
    map-set items lists node new ∙
    ap (set (map items lists) node) (pushed ∙ ap (λ places. places ++ place ∷ []) (sym (get_or-map items lists node old [] within)))

-- empty lists have no reader
pub none-at : (count node : ℕ) → readers_at (replicate count []) node ≡ []
none-at zero node = refl
none-at (suc count) zero = refl
none-at (suc count) (suc node) = none-at count node

module _ (lists : List (List ℕ)) (node place : ℕ) (within : node < length lists) where
  abbrev after : List (List ℕ)
  after = set lists node (readers_at lists node ++ place ∷ [])

  pub filed-here : Contains (readers_at after node) place
  filed-here = subst (λ list. Contains list place) (sym (get_or-set_same lists node (readers_at lists node ++ place ∷ []) [] within)) (Contains-push (readers_at lists node) place)

  pub filed-kept : (other reader : ℕ) → Contains (readers_at lists other) reader → Contains (readers_at after other) reader
  filed-kept other reader there = elim (cases_eq other node) [
    | inl same ↦ subst (λ (n : ℕ). Contains (readers_at after n) reader) (sym same) (subst (λ list. Contains list reader) (sym (get_or-set_same lists node (readers_at lists node ++ place ∷ []) [] within))
        (Contains-append_left (readers_at lists node) (place ∷ []) reader (subst (λ (n : ℕ). Contains (readers_at lists n) reader) same there)))
    | inr differ ↦ subst (λ list. Contains list reader) (sym (get_or-set_other lists node other (readers_at lists node ++ place ∷ []) [] differ)) there
  ]

  pub filed-inside : (end other : ℕ) → All (λ reader. reader < end) (readers_at lists other) → place < end → All (λ reader. reader < end) (readers_at after other)
  filed-inside end other all below = elim (cases_eq other node) [
    | inl same ↦ subst (λ (n : ℕ). All (λ reader. reader < end) (readers_at after n)) (sym same) (subst (All (λ reader. reader < end)) (sym (get_or-set_same lists node (readers_at lists node ++ place ∷ []) [] within))
        (All-push (λ reader. reader < end) (readers_at lists node) place (subst (λ (n : ℕ). All (λ reader. reader < end) (readers_at lists n)) same all) below))
    | inr differ ↦ subst (All (λ reader. reader < end)) (sym (get_or-set_other lists node other (readers_at lists node ++ place ∷ []) [] differ)) all
  ]

-- one source more has its reader
pub one-filed : (lists lists' : List (List ℕ)) (sources : List ℕ) (k node place : ℕ) → node < length lists → node ≡ get_or sources k 0 → lists' ≡ set lists node (readers_at lists node ++ place ∷ []) →
    ((j : ℕ) → j < k → Contains (readers_at lists (get_or sources j 0)) place) → (j : ℕ) → j < k + 1 → Contains (readers_at lists' (get_or sources j 0)) place
one-filed lists lists' sources k node place within is made was j few =
    subst (λ (all : List (List ℕ)). Contains (readers_at all (get_or sources j 0)) place) (sym made)
    (elim (cases_eq j k) [
      | inl same ↦ subst (λ (n : ℕ). Contains (readers_at (set lists node (readers_at lists node ++ place ∷ [])) n) place) (is ∙ ap (λ (n : ℕ). get_or sources n 0) (sym same)) (filed-here lists node place within)
      | inr differ ↦ filed-kept lists node place within (get_or sources j 0) place (was j (omega (arith, few, differ)))
    ])

-- a list at the end
module _ (lists : List (List ℕ)) (list : List ℕ) where
  pub pushed-before : (n : ℕ) → n < length lists → readers_at (lists ++ list ∷ []) n ≡ readers_at lists n
  pushed-before n inside = get_or_append_left lists (list ∷ []) [] n inside

  pub pushed-last : (n : ℕ) → n ≡ length lists → readers_at (lists ++ list ∷ []) n ≡ list
  pushed-last n is = get_or-append_right lists (list ∷ []) (length lists) n [] refl (omega (arith, is)) ∙ (let none : n - length lists ≡ 0 = omega (arith, is) in ap (λ (k : ℕ). get_or (list ∷ []) k []) none)

  pub pushed-all : (P : ℕ → Type 0) → ((n : ℕ) → All P (readers_at lists n)) → All P list → (n : ℕ) → All P (readers_at (lists ++ list ∷ []) n)
  pushed-all P was this n = elim (cases_lt n (length lists)) [
    | inl before ↦ subst (All P) (sym (pushed-before n before)) (was n)
    | inr past ↦ elim (cases_eq n (length lists)) [
      | inl last ↦ subst (All P) (sym (pushed-last n last)) this
      | inr beyond ↦ subst (All P) (sym (get_or_past (lists ++ list ∷ []) n [] (omega (arith, past, beyond, length-append lists (list ∷ []))))) (All-nil P)
    ]
  ]

-- the lists of all nodes, as they are laid out by the places of gates
pub by-place : (netlist : Netlist) (order : List ℕ) (readers lists : List (List ℕ)) → AreReaders netlist order readers → lists ≡ map (readers_at readers) order → IsOrder netlist order lists
by-place netlist order readers lists is are = subst (IsOrder netlist order) (sym are) (record {
  gates = is.gates;
  every = is.every;
  long = length-map order (readers_at readers);
  inside = λ place. elim (cases_lt place (length order)) [
    | inl below ↦ subst (All (λ reader. reader < length order)) (sym (at place below)) (is.inside (get_or order place 0))
    | inr past ↦ (
        let none : readers_at (map (readers_at readers) order) place ≡ [] = get_or_past (map (readers_at readers) order) place [] (omega (arith, past, length-map order (readers_at readers))) in
        subst (All (λ reader. reader < length order)) (sym none) (All-nil (λ reader. reader < length order))
        )
  ];
  reads = λ place reader below within contains. subst (λ (list : List ℕ). Contains list reader) (sym (at place below)) (is.reads reader (get_or order place 0) within contains);
})
  where
    at : (place : ℕ) → place < length order → readers_at (map (readers_at readers) order) place ≡ readers_at readers (get_or order place 0)
    at place below = get_or-map (readers_at readers) order place 0 [] below
