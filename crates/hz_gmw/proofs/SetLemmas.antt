-- Sets of variables: the list has the marked ones, whatever is put in or taken out.
use Rattle.std.proofs.Common.{◌≡◌, ◌≢◌, ℕ, zero, suc, ◌<◌, Bool, true, false, cond, List, [], ◌∷◌, ◌++◌, length, get_or, set, replicate, refl, sym, ap, ◌∙◌, subst, arith, inl, inr}
use Rattle.std.specs.Prelude.{count_by}
use Rattle.std.proofs.lemmas.Bool.{cases_lt, cases_eq, false≢true, false_from_ne_true}
use Rattle.std.proofs.lemmas.List.{length-set, length-replicate, length_push, get_or-set_same, get_or-set_other, get_or_past, get_or_read, get_or-replicate, ext_get_or}
use Rattle.std.proofs.lemmas.List.Elements.{All-nil}
use Rattle.std.proofs.lemmas.List.Sums.{sum_by-set, sum_by-cons, count_by-le-length}
use Rattle.hz_net.specs.Network.{bit_at}
use Rattle.hz_lists.specs.Listed.{is_listed, IsRepeatFree}
use Rattle.hz_gmw.specs.VariableSets.{AreMembers}
use Rattle.hz_gmw.proofs.Counting.{weight}
use Rattle.hz_lists.proofs.ListedLemmas.{All-listed, All-each, is_repeat_free-front, is_repeat_free-push, listed-left, pushed-cases, pushed-last}

-- a fresh set marks nothing
pub unmarked : (count var : ℕ) → bit_at (replicate count false) var ≡ false
unmarked zero var = refl
unmarked (suc count) zero = refl
unmarked (suc count) (suc var) = unmarked count var

-- the empty set
pub AreMembers-none : (count : ℕ) → AreMembers (replicate count false) []
AreMembers-none count = record {
  inside = All-nil (λ (var : ℕ). var < length (replicate count false));
  marked = All-nil (λ (var : ℕ). bit_at (replicate count false) var ≡ true);
  every = λ var marked. absurd (false≢true (sym (unmarked count var) ∙ marked));
  once = tt;
}

pub counted-none : (count : ℕ) → count_by (λ mark. mark) (replicate count false) ≡ 0
counted-none zero = refl
counted-none (suc count) =
    let rest = counted-none count in
    omega (arith, rest, sum_by-cons (λ (mark : Bool). cond mark 1 0) false (replicate count false))

-- a variable that is put in comes last
pub AreMembers-insert : (marks : List Bool) (members : List ℕ) (var : ℕ) → AreMembers marks members → var < length marks → bit_at marks var ≡ false → AreMembers (set marks var true) (members ++ var ∷ [])
AreMembers-insert marks members var are inside new =
    let long = length-set marks var true in
    let at : (i : ℕ) → is_listed (members ++ var ∷ []) i ≡ true → (i < length marks) × (bit_at (set marks var true) i ≡ true) =
    λ i there. elim (pushed-cases members var i there) [
      | inl front ↦ (
          let marked : bit_at marks i ≡ true = All-listed (λ (v : ℕ). bit_at marks v ≡ true) members i are.marked front in
          let differ : i ≢ var = λ same. false≢true (sym new ∙ (ap (bit_at marks) (sym same) ∙ marked)) in
          (All-listed (λ (v : ℕ). v < length marks) members i are.inside front, get_or-set_other marks var i true false differ ∙ marked)
          )
      | inr same ↦ (
        subst (λ (v : ℕ). v < length marks) (sym same) inside,
        ap (bit_at (set marks var true)) same ∙ get_or-set_same marks var true false inside,
      )
    ] in
    record {
      inside = All-each (λ (v : ℕ). v < length (set marks var true)) (members ++ var ∷ []) (λ i there. let below = (at i there).0 in omega (arith, below, long));
      marked = All-each (λ (v : ℕ). bit_at (set marks var true) v ≡ true) (members ++ var ∷ []) (λ i there. (at i there).1);
      every = λ i marked. elim (cases_eq i var) [
        | inl same ↦ ap (is_listed (members ++ var ∷ [])) same ∙ pushed-last members var
        | inr other ↦ listed-left members (var ∷ []) i (are.every i (sym (get_or-set_other marks var i true false other) ∙ marked))
      ];
      once = is_repeat_free-push members var are.once (false_from_ne_true (is_listed members var) (λ there. false≢true (sym new ∙ All-listed (λ (v : ℕ). bit_at marks v ≡ true) members var are.marked there)));
    }

pub counted-insert : (marks : List Bool) (members : List ℕ) (var : ℕ) → var < length marks → bit_at marks var ≡ false → length members ≡ count_by (λ mark. mark) marks → length (members ++ var ∷ []) ≡ count_by (λ mark. mark) (set marks var true)
counted-insert marks members var inside new counted =
    let changed = sum_by-set weight marks var true false inside in
    let was : weight (bit_at marks var) ≡ 0 = ap weight new in
    omega (arith, changed, was, counted, length_push members var)

-- there is room for a variable that is no member
pub room-left : (marks : List Bool) (members : List ℕ) (var : ℕ) → var < length marks → bit_at marks var ≡ false → length members ≡ count_by (λ mark. mark) marks → length members < length marks
room-left marks members var inside new counted =
    let more = counted-insert marks members var inside new counted in
    omega (arith, more, length_push members var, count_by-le-length (λ (mark : Bool). mark) (set marks var true), length-set marks var true)

-- the last member is taken out
pub AreMembers-pop : (marks : List Bool) (members rest : List ℕ) (var : ℕ) → AreMembers marks members → members ≡ rest ++ var ∷ [] → AreMembers (set marks var false) rest
AreMembers-pop marks members rest var are whole =
    let long = length-set marks var false in
    let once = is_repeat_free-front rest var (subst IsRepeatFree whole are.once) in
    let front : (i : ℕ) → is_listed rest i ≡ true → is_listed members i ≡ true =
    λ i there. ap (λ (list : List ℕ). is_listed list i) whole ∙ listed-left rest (var ∷ []) i there in
    record {
      inside = All-each (λ (v : ℕ). v < length (set marks var false)) rest (λ i there.
          let below : i < length marks = All-listed (λ (v : ℕ). v < length marks) members i are.inside (front i there) in
          omega (arith, below, long));
      marked = All-each (λ (v : ℕ). bit_at (set marks var false) v ≡ true) rest (λ i there.
          let differ : i ≢ var = λ same. false≢true (sym once.1 ∙ (ap (is_listed rest) (sym same) ∙ there)) in
          get_or-set_other marks var i false false differ ∙ All-listed (λ (v : ℕ). bit_at marks v ≡ true) members i are.marked (front i there));
      every = λ i marked. elim (cases_eq i var) [
        | inl same ↦ absurd (false≢true (sym (unset marks var) ∙ (ap (bit_at (set marks var false)) (sym same) ∙ marked)))
        | inr other ↦ elim (pushed-cases rest var i (ap (λ (list : List ℕ). is_listed list i) (sym whole) ∙ are.every i (sym (get_or-set_other marks var i false false other) ∙ marked))) [
          | inl there ↦ there
          | inr same ↦ absurd (other same)
        ]
      ];
      once = once.0;
    }
  where
    unset : (marks : List Bool) (var : ℕ) → bit_at (set marks var false) var ≡ false
    unset marks var = elim (cases_lt var (length marks)) [
      | inl inside ↦ get_or-set_same marks var false false inside
      | inr past ↦ get_or_past (set marks var false) var false (omega (arith, past, length-set marks var false))
    ]

pub counted-pop : (marks : List Bool) (members rest : List ℕ) (var : ℕ) → AreMembers marks members → members ≡ rest ++ var ∷ [] → length members ≡ count_by (λ mark. mark) marks → length rest ≡ count_by (λ mark. mark) (set marks var false)
counted-pop marks members rest var are whole counted =
    let there : is_listed members var ≡ true = ap (λ (list : List ℕ). is_listed list var) whole ∙ pushed-last rest var in
    let inside : var < length marks = All-listed (λ (v : ℕ). v < length marks) members var are.inside there in
    let changed = sum_by-set weight marks var false false inside in
    let was : weight (bit_at marks var) ≡ 1 = ap weight (All-listed (λ (v : ℕ). bit_at marks v ≡ true) members var are.marked there) in
    let long : length members ≡ length (rest ++ var ∷ []) = ap (length {A = ℕ}) whole in
    omega (arith, changed, was, counted, long, length_push rest var)

-- the last member is one of the variables
pub last-inside : (marks : List Bool) (members rest : List ℕ) (var : ℕ) → AreMembers marks members → members ≡ rest ++ var ∷ [] → var < length marks
last-inside marks members rest var are whole =
    All-listed (λ (v : ℕ). v < length marks) members var are.inside (ap (λ (list : List ℕ). is_listed list var) whole ∙ pushed-last rest var)

-- without members no variable is marked
pub marks-cleared : (marks : List Bool) (members : List ℕ) → AreMembers marks members → members ≡ [] → marks ≡ replicate (length marks) false
marks-cleared marks members are none =
    ext_get_or false marks (replicate (length marks) false) (sym (length-replicate (length marks) false)) (λ i inside.
    false_from_ne_true (bit_at marks i) (λ marked. false≢true (ap (λ (list : List ℕ). is_listed list i) (sym none) ∙ are.every i marked)) ∙
    sym (get_or-replicate (length marks) i false false inside))

-- what a read of a mark tells
pub unmarked-read : (marks : List Bool) (var : ℕ) (read : Bool) → var < length marks → read ≡ get_or marks var read → read ≡ false → bit_at marks var ≡ false
unmarked-read marks var read inside is missing = sym (get_or_read marks var read inside is false) ∙ missing
