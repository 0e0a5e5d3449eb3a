-- A path that is followed: it begins with no variable, and takes one more that has no mark.
use Rattle.std.proofs.Common.{◌≡◌, ℕ, suc, ◌-◌, ◌<◌, ◌≤◌, ◌≢◌, true, false, Option, Some, None, List, [], ◌∷◌, ◌++◌, length, get_or, set, refl, sym, ap, ◌∙◌, subst, arith, inl, inr, get_or-set_same, get_or-set_other}
use Rattle.std.proofs.lemmas.Bool.{cases_Bool, cases_eq, both_ways}
use Rattle.std.specs.Option.{is_some}
use Rattle.hz_lists.specs.Listed.{is_listed}
use Rattle.hz_free.specs.Paths.{LeadsTo, IsLink, IsPathSoFar}
use Rattle.hz_lists.proofs.ListedLemmas.{listed-cases, listed-left, listed-one, is_repeat_free-push, is_repeat_free-bound, pushed-last}
use Rattle.hz_free.proofs.Kahn.{length-push}
use Rattle.hz_free.proofs.PathLemmas.{not-linked, path-push, link-inside}

pub following-begin : (links : List (Option ℕ)) (start mark : ℕ) (marks : List (Option ℕ)) → IsPathSoFar links start mark [] start marks marks
following-begin links start mark marks =
    record {
      is_path = refl;
      once = tt;
      inside = λ i there. absurd (both_ways false refl there);
      fresh = λ i there. absurd (both_ways false refl there);
      marked = λ i there. absurd (both_ways false refl there);
      others = λ i out. refl;
    }

pub following-more : (links : List (Option ℕ)) (start mark : ℕ) (path : List ℕ) (var next : ℕ) (marks marks' : List (Option ℕ)) → IsPathSoFar links start mark path var marks marks' → length marks' ≡ length links → get_or marks' var None ≡ None → LeadsTo links var next → IsPathSoFar links start mark (path ++ var ∷ []) next marks (set marks' var (Some mark))
following-more links start mark path var next marks marks' is long none leads =
    let few = link-inside links var next leads in
    record {
      is_path = path-push links start path var next is.is_path leads;
      once = is_repeat_free-push path var is.once out;
      inside =
          λ i there.
          elim (listed-cases path (var ∷ []) i there) [
            | inl earlier ↦ is.inside i earlier
            | inr here ↦ subst (λ (m : ℕ). m < length links) (sym (listed-one i var here)) few
          ];
      fresh =
          λ i there.
          elim (listed-cases path (var ∷ []) i there) [
            | inl earlier ↦ is.fresh i earlier
            | inr here ↦ subst (λ (m : ℕ). get_or marks m None ≡ None) (sym (listed-one i var here)) (sym (is.others var out) ∙ none)
          ];
      marked =
          λ i there.
          elim (cases_eq i var) [
            | inl here ↦ subst (λ (m : ℕ). LeadsTo (set marks' var (Some mark)) m mark) (sym here) (get_or-set_same marks' var (Some mark) None (omega arith))
            | inr ne ↦ get_or-set_other marks' var i (Some mark) None ne ∙ marked-earlier i ne there
          ];
      others =
          λ i not_there.
          elim (cases_eq i var) [
            | inl here ↦
                absurd (
                both_ways (is_listed (path ++ var ∷ []) i) not_there
                (subst (λ (m : ℕ). is_listed (path ++ var ∷ []) m ≡ true) (sym here) (pushed-last path var))
                )
            | inr ne ↦ get_or-set_other marks' var i (Some mark) None ne ∙ is.others i (out-earlier i not_there)
          ];
    }
  where
    out : is_listed path var ≡ false
    out =
        elim (cases_Bool (is_listed path var)) [
          | inl there ↦ absurd (not-linked marks' var mark none (is.marked var there))
          | inr not_there ↦ not_there
        ]

    marked-earlier : (i : ℕ) → i ≢ var → is_listed (path ++ var ∷ []) i ≡ true → LeadsTo marks' i mark
    marked-earlier i ne there =
        elim (listed-cases path (var ∷ []) i there) [
          | inl earlier ↦ is.marked i earlier
          | inr here ↦ absurd (ne (listed-one i var here))
        ]

    out-earlier : (i : ℕ) → is_listed (path ++ var ∷ []) i ≡ false → is_listed path i ≡ false
    out-earlier i not_there =
        elim (cases_Bool (is_listed path i)) [
          | inl there ↦ absurd (both_ways (is_listed (path ++ var ∷ []) i) not_there (listed-left path (var ∷ []) i there))
          | inr outside ↦ outside
        ]

-- there are no more variables on it than links
pub following-bound : (links : List (Option ℕ)) (start mark : ℕ) (path : List ℕ) (end : ℕ) (marks marks' : List (Option ℕ)) → IsPathSoFar links start mark path end marks marks' → length path ≤ length links
following-bound links start mark path end marks marks' is = is_repeat_free-bound path (length links) is.once is.inside

pub none-from : (link : Option ℕ) → is_some link ≡ false → link ≡ None
none-from None e = refl
none-from (Some j) e = absurd (both_ways true e refl)

pub following-next : (links : List (Option ℕ)) (start mark : ℕ) (path path' : List ℕ) (var next : ℕ) (marks marks' : List (Option ℕ)) → IsPathSoFar links start mark path var marks marks' → length marks' ≡ length links → is_some (get_or marks' var None) ≡ false → LeadsTo links var next → path' ≡ path ++ var ∷ [] → IsPathSoFar links start mark path' next marks (set marks' var (Some mark))
following-next links start mark path path' var next marks marks' is long none leads same =
    subst (λ (list : List ℕ). IsPathSoFar links start mark list next marks (set marks' var (Some mark))) (sym same)
    (following-more links start mark path var next marks marks' is long (none-from (get_or marks' var None) none) leads)

-- one variable less is left
pub following-less : (links : List (Option ℕ)) (start mark : ℕ) (path path' : List ℕ) (var next : ℕ) (marks marks' : List (Option ℕ)) → IsPathSoFar links start mark path' next marks marks' → path' ≡ path ++ var ∷ [] → length links - length path' < length links - length path
following-less links start mark path path' var next marks marks' is same =
    let bound = following-bound links start mark path' next marks marks' is in
    let long : length path' ≡ suc (length path) = ap length same ∙ length-push path var in
    omega arith

pub some-from : (links : List (Option ℕ)) (i : ℕ) → is_some (get_or links i None) ≡ true → IsLink links i
some-from links i there = of-link (get_or links i None) there
  where
    of-link : (link : Option ℕ) → is_some link ≡ true → (j : ℕ) × (link ≡ Some j)
    of-link None e = absurd (both_ways false refl e)
    of-link (Some j) e = (j, refl)
