-- Roots: the way back from each variable ends in a variable of a cycle.
use Rattle.std.proofs.Common.{◌≡◌, ℕ, suc, ◌+◌, ◌<◌, ◌⊎◌, true, false, Option, Some, None, List, [], ◌∷◌, ◌++◌, length, get_or, All, refl, sym, ◌∙◌, subst, arith, inl, inr, eqb}
use Rattle.std.proofs.lemmas.Bool.{cases_Bool, cases_eq, or_cases, both_ways, eqb-true}
use Rattle.std.proofs.lemmas.List.Elements.{All-cons, All-nil}
use Rattle.hz_net.specs.Network.{Driver}
use Rattle.hz_net.specs.Reads.{IsWired}
use Rattle.hz_lists.specs.Listed.{is_listed}
use Rattle.hz_free.specs.Paths.{LeadsTo, IsLink, AreLinks, IsPath, IsPathToMark, AreChoices, AreRooted, HasNoLinks, HasRoot, HaveChoosers, IsInside}
use Rattle.hz_lists.proofs.ListedLemmas.{listed-head}
use Rattle.hz_free.proofs.Chains.{reads-inside}
use Rattle.hz_free.proofs.PathLemmas.{link-one, not-linked, link-inside, path-from, path-append, path-before, path-last}

-- a variable leads somewhere, or nowhere
option-cases : (link : Option ℕ) → ((j : ℕ) × (link ≡ Some j)) ⊎ (link ≡ None)
option-cases None = inr refl
option-cases (Some j) = inl (j, refl)

pub link-or-none : (links : List (Option ℕ)) (i : ℕ) → IsLink links i ⊎ (get_or links i None ≡ None)
link-or-none links i = option-cases (get_or links i None)

-- choices lead to variables that choose
pub choices-AreLinks : (net : List Driver) (choices : List (Option ℕ)) → IsWired net → AreChoices net choices → AreLinks choices
choices-AreLinks net choices wired are =
    record {
      inside = λ i j leads. let few = inside i j leads in let long = are.long in omega arith;
      on =
          λ i j leads.
          elim (link-or-none choices j) [
            | inl link ↦ link
            | inr none ↦ absurd ((are.some i j leads).feeds (are.none j (inside i j leads) none))
          ];
    }
  where
    inside : (i j : ℕ) → LeadsTo choices i j → j < length net
    inside i j leads = reads-inside net i j wired (are.some i j leads).reads

-- each variable of a path leads on
pub path-links : (links : List (Option ℕ)) (start : ℕ) (path : List ℕ) (end i : ℕ) → IsPath links start path end → is_listed path i ≡ true → IsLink links i
path-links links start [] end i is there = absurd (both_ways false refl there)
path-links links start (v ∷ path) end i is there =
    elim (or_cases (eqb i v) (is_listed path i) there) [
      | inl same ↦ (is.1, subst (λ (m : ℕ). LeadsTo links m is.1) (is.0 ∙ sym (eqb-true i v same)) is.2)
      | inr later ↦ path-links links is.1 path end i is.3 later
    ]

-- the part of a path from a variable on
path-part : (links : List (Option ℕ)) (start : ℕ) (front : List ℕ) (v : ℕ) (rest : List ℕ) (end : ℕ) → IsPath links start (front ++ v ∷ rest) end → IsPath links v (v ∷ rest) end
path-part links start [] v rest end is = subst (λ (m : ℕ). IsPath links m (v ∷ rest) end) is.0 is
path-part links start (w ∷ front) v rest end is = path-part links is.1 front v rest end is.3

pub rooted-begin : (choices choosers roots : List (Option ℕ)) → HasNoLinks (length choices) choosers → HasNoLinks (length choices) roots → AreRooted choices choosers roots 0
rooted-begin choices choosers roots no_choosers no_roots =
    record {
      choosers_long = no_choosers.long;
      roots_long = no_roots.long;
      chosen = λ i j leads. absurd (not-linked choosers j i (no_choosers.none j) leads);
      again = λ i j leads. absurd (not-linked choosers j i (no_choosers.none j) leads);
      rooted = λ i root leads. absurd (not-linked roots i root (no_roots.none i) leads);
      every = λ i few link. absurd (omega arith);
    }

pub rooted-skip : (choices choosers roots : List (Option ℕ)) (below : ℕ) → AreRooted choices choosers roots below → get_or choices below None ≡ None → AreRooted choices choosers roots (below + 1)
rooted-skip choices choosers roots below are none =
    record {
      choosers_long = are.choosers_long;
      roots_long = are.roots_long;
      chosen = are.chosen;
      again = are.again;
      rooted = are.rooted;
      every =
          λ i few link.
          elim (cases_eq i below) [
            | inl here ↦ absurd (not-linked choices below link.0 none (subst (λ (m : ℕ). LeadsTo choices m link.0) here link.1))
            | inr ne ↦ are.every i (omega arith) link
          ];
    }

-- The root of a path's variables, and what is noted of the cycle.
record IsFound (choices choosers choosers' : List (Option ℕ)) (path : List ℕ) (found : Option ℕ) : Type 0 where
  root : ℕ
  is : found ≡ Some root
  leads : (i : ℕ) → is_listed path i ≡ true → (way : List ℕ) × IsPath choices i way root
  linked : IsLink choosers' root
  stays : (j : ℕ) → IsLink choosers j → IsLink choosers' j
  chosen : (i j : ℕ) → LeadsTo choosers' j i → LeadsTo choices i j
  again : (i j : ℕ) → LeadsTo choosers' j i → IsLink choosers' i

module _ (choices choosers choosers' roots roots1 : List (Option ℕ)) (start below : ℕ) (path : List ℕ) (end : ℕ) (found : Option ℕ) (are : AreRooted choices choosers roots below) (followed : IsPathToMark choices start start path end roots roots1) where
  found-new : (front cycle : List ℕ) → path ≡ front ++ end ∷ cycle → HaveChoosers choices (end ∷ cycle) choosers choosers' → found ≡ Some end → IsFound choices choosers choosers' path found
  found-new front cycle same have is_end =
      record {
        root = end;
        is = is_end;
        leads = λ i there. path-from choices start path end i followed.following.is_path there;
        linked = linked_end;
        stays = have.stays;
        chosen = chosen_new;
        again =
            λ i j leads.
            elim (have.each i j leads) [
              | inl old ↦ have.stays i (are.again i j old)
              | inr new ↦
                  elim (path-before choices end (end ∷ cycle) end i part new.0) [
                    | inl here ↦ subst (λ (m : ℕ). IsLink choosers' m) (sym here) linked_end
                    | inr led ↦ have.noted led.from i led.there led.leads
                  ]
            ];
      }
    where
      part : IsPath choices end (end ∷ cycle) end
      part = path-part choices start front end cycle end (subst (λ (list : List ℕ). IsPath choices start list end) same followed.following.is_path)

      linked_end : IsLink choosers' end
      linked_end = let led = path-last choices end end cycle end part in have.noted led.from end led.there led.leads

      chosen_new : (i j : ℕ) → LeadsTo choosers' j i → LeadsTo choices i j
      chosen_new i j leads = elim (have.each i j leads) [ inl old ↦ are.chosen i j old | inr new ↦ new.1 ]

  found-old : is_listed path end ≡ false → choosers' ≡ choosers → found ≡ get_or roots1 end None → IsFound choices choosers choosers' path found
  found-old out same is_root =
      let before : get_or roots1 end None ≡ get_or roots end None = followed.following.others end out in
      let root = followed.ended.0 in
      let leads : LeadsTo roots end root = sym before ∙ followed.ended.1 in
      let old = are.rooted end root leads in
      record {
        root = root;
        is = is_root ∙ followed.ended.1;
        leads =
            λ i there.
            let way = path-from choices start path end i followed.following.is_path there in
            (way.0 ++ old.0, path-append choices i way.0 end old.0 root way.1 old.1);
        linked = subst (λ (links : List (Option ℕ)). IsLink links root) (sym same) old.2;
        stays = λ j link. subst (λ (links : List (Option ℕ)). IsLink links j) (sym same) link;
        chosen = λ i j leads. are.chosen i j (subst (λ (links : List (Option ℕ)). LeadsTo links j i) same leads);
        again =
            λ i j leads.
            subst (λ (links : List (Option ℕ)). IsLink links i) (sym same)
            (are.again i j (subst (λ (links : List (Option ℕ)). LeadsTo links j i) same leads));
      }

  is-found : HasRoot choices path end choosers choosers' roots1 found → IsFound choices choosers choosers' path found
  is-found has =
      elim has [
        | inl new ↦ found-new new.0 new.1 new.2 new.3 new.4
        | inr old ↦ found-old old.0 old.1 old.2
      ]

  start-rooted : (list : List ℕ) → path ≡ list → is_listed path start ≡ false → IsLink roots1 start
  start-rooted [] same out =
      subst (λ (m : ℕ). IsLink roots1 m) (sym (subst (λ (list : List ℕ). IsPath choices start list end) same followed.following.is_path)) followed.ended
  start-rooted (v ∷ list) same out =
      let first : start ≡ v = (subst (λ (list : List ℕ). IsPath choices start list end) same followed.following.is_path).0 in
      let there : is_listed (v ∷ list) start ≡ true = subst (λ (m : ℕ). is_listed (m ∷ list) start ≡ true) first (listed-head start list) in
      absurd (both_ways (is_listed path start) out (subst (λ (list : List ℕ). is_listed list start ≡ true) (sym same) there))

  module _ (roots2 : List (Option ℕ)) (below_start : below ≡ start) (has : HasRoot choices path end choosers choosers' roots1 found) (choosers_long : length choosers' ≡ length choosers) (roots_long : length roots2 ≡ length roots) (listed : (i : ℕ) → is_listed path i ≡ true → get_or roots2 i None ≡ found) (others : (i : ℕ) → is_listed path i ≡ false → get_or roots2 i None ≡ get_or roots1 i None) where
    rooted-at : (i root : ℕ) → LeadsTo roots2 i root → (way : List ℕ) × IsPath choices i way root × IsLink choosers' root
    rooted-at i root leads =
        elim (cases_Bool (is_listed path i)) [
          | inl there ↦
              let is_found = is-found has in
              let here : LeadsTo roots2 i is_found.root = listed i there ∙ is_found.is in
              let same : is_found.root ≡ root = link-one roots2 i is_found.root root here leads in
              let way = is_found.leads i there in
              (way.0, subst (λ (m : ℕ). IsPath choices i way.0 m) same way.1, subst (λ (m : ℕ). IsLink choosers' m) same is_found.linked)
          | inr out ↦
              let is_found = is-found has in
              let before : LeadsTo roots i root = sym (followed.following.others i out) ∙ (sym (others i out) ∙ leads) in
              let old = are.rooted i root before in
              (old.0, old.1, is_found.stays root old.2)
        ]

    rooted-every : (i : ℕ) → i < start + 1 → IsLink choices i → IsLink roots2 i
    rooted-every i few link =
        elim (cases_Bool (is_listed path i)) [
          | inl there ↦ let is_found = is-found has in (is_found.root, listed i there ∙ is_found.is)
          | inr out ↦
              elim (cases_eq i start) [
                | inl here ↦
                    let rooted = start-rooted path refl (subst (λ (m : ℕ). is_listed path m ≡ false) here out) in
                    let rooted_i : IsLink roots1 i = subst (λ (m : ℕ). IsLink roots1 m) (sym here) rooted in
                    (rooted_i.0, others i out ∙ rooted_i.1)
                | inr ne ↦
                    let old = are.every i (omega arith) link in
                    (old.0, others i out ∙ (followed.following.others i out ∙ old.1))
              ]
        ]

    pub rooted-more : AreRooted choices choosers' roots2 (start + 1)
    rooted-more =
        let is_found = is-found has in
        record {
          choosers_long = choosers_long ∙ are.choosers_long;
          roots_long = roots_long ∙ are.roots_long;
          chosen = is_found.chosen;
          again = is_found.again;
          rooted = rooted-at;
          every = rooted-every;
        }

-- those that chose lead to those that chose
pub choosers-AreLinks : (choices choosers roots : List (Option ℕ)) (below : ℕ) → AreRooted choices choosers roots below → AreLinks choosers
choosers-AreLinks choices choosers roots below are =
    record {
      inside = λ i j leads. let few = link-inside choices j i (are.chosen j i leads) in let long = are.choosers_long in omega arith;
      on = λ i j leads. are.again j i leads;
    }

-- roots are variables
pub roots-inside : (choices choosers roots : List (Option ℕ)) (below count : ℕ) → AreRooted choices choosers roots below → count ≡ length choosers → All (IsInside count) roots
roots-inside choices choosers roots below count are same = all-from roots (λ k few. at k (get_or roots k None) refl)
  where
    at : (k : ℕ) (root : Option ℕ) → get_or roots k None ≡ root → IsInside count (get_or roots k None)
    at k None is = subst (IsInside count) (sym is) tt
    at k (Some root) is =
        let link = (are.rooted k root is).2 in
        let few = link-inside choosers root link.0 link.1 in
        subst (IsInside count) (sym is) (omega arith)

    all-from : (list : List (Option ℕ)) → ((k : ℕ) → k < length list → IsInside count (get_or list k None)) → All (IsInside count) list
    all-from [] each = All-nil (IsInside count)
    all-from (root ∷ list) each = All-cons (IsInside count) root list (each 0 (omega arith)) (all-from list (λ k few. each (suc k) (omega arith)))
