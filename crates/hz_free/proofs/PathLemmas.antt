-- Paths along links: one variable more, the way from a variable on a path, what leads to it, and paths that come around.
use Rattle.std.proofs.Common.{◌≡◌, ℕ, ◌<◌, ◌⊎◌, true, false, Option, Some, None, List, [], ◌∷◌, ◌++◌, length, get_or, refl, sym, ◌∙◌, subst, inl, inr, eqb}
use Rattle.std.proofs.lemmas.Bool.{or_cases, or_right, both_ways, eqb-true, cases_lt}
use Rattle.std.proofs.lemmas.List.{get_or_past}
use Rattle.hz_core.proofs.ListLemmas.{get_or-default}
use Rattle.hz_net.specs.Network.{Driver}
use Rattle.hz_lists.specs.Listed.{is_listed, IsRepeatFree}
use Rattle.hz_free.specs.Feedback.{IsChoice, ComesAround, IsWayBack}
use Rattle.hz_free.specs.Paths.{LeadsTo, IsLink, IsPath}
use Rattle.hz_lists.proofs.ListedLemmas.{listed-head, listed-one}

-- a variable leads to one place
pub link-one : (links : List (Option ℕ)) (i j k : ℕ) → LeadsTo links i j → LeadsTo links i k → j ≡ k
link-one links i j k left right =
    let same : Some j ≡ Some k = sym left ∙ right in
    cc

pub not-linked : (links : List (Option ℕ)) (i j : ℕ) → get_or links i None ≡ None → LeadsTo links i j → ⊥
not-linked links i j none leads =
    let wrong : None ≡ Some j = sym none ∙ leads in
    cc

pub link-not-none : (links : List (Option ℕ)) (i : ℕ) → get_or links i None ≡ None → IsLink links i → ⊥
link-not-none links i none link = not-linked links i link.0 none link.1

-- what leads somewhere is in the list
pub link-inside : (links : List (Option ℕ)) (i j : ℕ) → LeadsTo links i j → i < length links
link-inside links i j leads =
    elim (cases_lt i (length links)) [
      | inl few ↦ few
      | inr beyond ↦ absurd (not-linked links i j (get_or_past links i None beyond) leads)
    ]

-- a link that is read
pub read-link : (links : List (Option ℕ)) (i : ℕ) (link : Option ℕ) → i < length links → link ≡ get_or links i link → link ≡ get_or links i None
read-link links i link few is = is ∙ get_or-default links i link None few

-- one variable more at the end
pub path-push : (links : List (Option ℕ)) (start : ℕ) (path : List ℕ) (var next : ℕ) → IsPath links start path var → LeadsTo links var next → IsPath links start (path ++ var ∷ []) next
path-push links start [] var next is leads = (is, next, subst (λ (m : ℕ). LeadsTo links m next) (sym is) leads, refl)
path-push links start (i ∷ path) var next is leads = (is.0, is.1, is.2, path-push links is.1 path var next is.3 leads)

-- one path after the other
pub path-append : (links : List (Option ℕ)) (start : ℕ) (path : List ℕ) (middle : ℕ) (more : List ℕ) (end : ℕ) → IsPath links start path middle → IsPath links middle more end → IsPath links start (path ++ more) end
path-append links start [] middle more end is on = subst (λ (m : ℕ). IsPath links m more end) (sym is) on
path-append links start (i ∷ path) middle more end is on = (is.0, is.1, is.2, path-append links is.1 path middle more end is.3 on)

-- the way from a variable on a path
pub path-from : (links : List (Option ℕ)) (start : ℕ) (path : List ℕ) (end i : ℕ) → IsPath links start path end → is_listed path i ≡ true → (way : List ℕ) × IsPath links i way end
path-from links start [] end i is there = absurd (both_ways false refl there)
path-from links start (v ∷ path) end i is there =
    elim (or_cases (eqb i v) (is_listed path i) there) [
      | inl same ↦ (v ∷ path, subst (λ (m : ℕ). IsPath links m (v ∷ path) end) (is.0 ∙ sym (eqb-true i v same)) is)
      | inr later ↦ path-from links is.1 path end i is.3 later
    ]

-- what leads to a variable on a path
pub record IsLedTo (links : List (Option ℕ)) (path : List ℕ) (i : ℕ) : Type 0 where
  pub from : ℕ
  pub there : is_listed path from ≡ true
  pub leads : LeadsTo links from i

pub path-before : (links : List (Option ℕ)) (start : ℕ) (path : List ℕ) (end i : ℕ) → IsPath links start path end → is_listed path i ≡ true → (i ≡ start) ⊎ IsLedTo links path i
path-before links start [] end i is there = absurd (both_ways false refl there)
path-before links start (v ∷ path) end i is there =
    elim (or_cases (eqb i v) (is_listed path i) there) [
      | inl same ↦ inl (eqb-true i v same ∙ sym is.0)
      | inr later ↦
          elim (path-before links is.1 path end i is.3 later) [
            | inl next ↦
                inr (
                record {
                  from = v;
                  there = listed-head v path;
                  leads = subst (λ (m : ℕ). LeadsTo links m i) is.0 (subst (λ (m : ℕ). LeadsTo links start m) (sym next) is.2);
                }
                )
            | inr led ↦ inr (record { from = led.from; there = or_right _ _ led.there; leads = led.leads })
          ]
    ]

-- the last variable of a path leads to its end
pub path-last : (links : List (Option ℕ)) (start v : ℕ) (rest : List ℕ) (end : ℕ) → IsPath links start (v ∷ rest) end → IsLedTo links (v ∷ rest) end
path-last links start v [] end is =
    record {
      from = v;
      there = listed-head v [];
      leads = subst (λ (m : ℕ). LeadsTo links m end) is.0 (subst (λ (m : ℕ). LeadsTo links start m) is.3 is.2);
    }
path-last links start v (w ∷ rest) end is =
    let led = path-last links is.1 w rest end is.3 in
    record { from = led.from; there = or_right _ _ led.there; leads = led.leads }

-- a path that ends on itself ends in its start, if no two variables lead to its end
pub path-closes : (links : List (Option ℕ)) (start v : ℕ) (rest : List ℕ) (end : ℕ) → ((i j : ℕ) → LeadsTo links i end → LeadsTo links j end → i ≡ j) → IsPath links start (v ∷ rest) end → IsRepeatFree (v ∷ rest) → is_listed (v ∷ rest) end ≡ true → end ≡ start
path-closes links start v [] end one is once there = listed-one end v there ∙ sym is.0
path-closes links start v (w ∷ rest) end one is once there =
    elim (or_cases (eqb end v) (is_listed (w ∷ rest) end) there) [
      | inl same ↦ eqb-true end v same ∙ sym is.0
      | inr later ↦
          let next : end ≡ is.1 = path-closes links is.1 w rest end one is.3 once.1 later in
          let led = path-last links is.1 w rest end is.3 in
          let first : LeadsTo links v end = subst (λ (m : ℕ). LeadsTo links m end) is.0 (subst (λ (m : ℕ). LeadsTo links start m) (sym next) is.2) in
          let same : led.from ≡ v = one led.from v led.leads first in
          absurd (both_ways (is_listed (w ∷ rest) v) once.0 (subst (λ (m : ℕ). is_listed (w ∷ rest) m ≡ true) same led.there))
    ]

-- a path along those that chose comes around
pub path-around : (net : List Driver) (links : List (Option ℕ)) → ((i j : ℕ) → LeadsTo links j i → IsChoice net i j) → (first last v : ℕ) (rest : List ℕ) → IsPath links last (v ∷ rest) first → ComesAround net first last rest
path-around net links chosen first last v [] is = chosen first last (subst (λ (m : ℕ). LeadsTo links last m) is.3 is.2)
path-around net links chosen first last v (w ∷ rest) is = (
  chosen w last (subst (λ (m : ℕ). LeadsTo links last m) is.3.0 is.2),
  path-around net links chosen first w w rest (subst (λ (m : ℕ). IsPath links m (w ∷ rest) first) is.3.0 is.3),
)

-- a path along choices is a way back
pub path-way : (net : List Driver) (links : List (Option ℕ)) → ((i j : ℕ) → LeadsTo links i j → IsChoice net i j) → (start : ℕ) (path : List ℕ) (end : ℕ) → IsPath links start path end → (way : List ℕ) × IsWayBack net start way end
path-way net links some start [] end is = ([], is)
path-way net links some start (v ∷ path) end is =
    let rest = path-way net links some is.1 path end is.3 in
    (is.1 ∷ rest.0, (some start is.1 is.2, rest.1))
