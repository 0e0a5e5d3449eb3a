-- The cycles one after the other: the path from the least variable of a cycle along those that chose is the cycle.
use Rattle.std.proofs.Common.{◌≡◌, ℕ, suc, ◌+◌, ◌<◌, ◌≤◌, true, Option, None, List, [], ◌∷◌, ◌++◌, length, get_or, IsTrue, refl, sym, ap, ◌∙◌, subst, arith, inl, inr, eqb}
use Rattle.std.proofs.lemmas.Bool.{cases_Bool, cases_eq, cases_lt, or_right, both_ways}
use Rattle.std.proofs.lemmas.List.{get_or_push, get_or_append_left}
use Rattle.hz_net.specs.Network.{Driver}
use Rattle.hz_lists.specs.Listed.{is_listed}
use Rattle.hz_free.specs.Feedback.{ComesAround, IsFeedbackCycle}
use Rattle.hz_free.specs.Paths.{LeadsTo, IsLink, IsPathToMark, AreChoosers, AreNumbered, HasNoLinks, AddsCycle}
use Rattle.hz_lists.proofs.ListedLemmas.{listed-head, All-each}
use Rattle.hz_free.proofs.FeedbackCycles.{choice-one}
use Rattle.hz_free.proofs.PathLemmas.{link-one, not-linked, path-before, path-last, path-closes, path-around, IsLedTo}
use Rattle.hz_free.proofs.Roots.{path-links}

pub numbered-begin : (net : List Driver) (choosers numbers : List (Option ℕ)) → HasNoLinks (length choosers) numbers → AreNumbered net choosers numbers 0 []
numbered-begin net choosers numbers none =
    record {
      each = λ number few. absurd (omega arith);
      earlier = λ number few. absurd (omega arith);
      ordered = λ number few. absurd (omega arith);
      numbered = λ i number leads. absurd (not-linked numbers i number (none.none i) leads);
      onward = λ i j leads link. absurd (not-linked numbers i link.0 (none.none i) link.1);
      every = λ i few link. absurd (omega arith);
    }

pub numbered-skip : (net : List Driver) (choosers numbers : List (Option ℕ)) (below : ℕ) (cycles : List (List ℕ)) → AreNumbered net choosers numbers below cycles → (IsLink choosers below → IsLink numbers below) → AreNumbered net choosers numbers (below + 1) cycles
numbered-skip net choosers numbers below cycles are here =
    record {
      each = are.each;
      earlier = λ number few. let less = are.earlier number few in omega arith;
      ordered = are.ordered;
      numbered = are.numbered;
      onward = are.onward;
      every =
          λ i few link.
          elim (cases_eq i below) [
            | inl same ↦ subst (λ (m : ℕ). IsLink numbers m) (sym same) (here (subst (λ (m : ℕ). IsLink choosers m) same link))
            | inr ne ↦ are.every i (omega arith) link
          ];
    }

length-cycles : (cycles : List (List ℕ)) (cycle : List ℕ) → length (cycles ++ cycle ∷ []) ≡ suc (length cycles)
length-cycles [] cycle = refl
length-cycles (first ∷ cycles) cycle = ap suc (length-cycles cycles cycle)

module _ (net : List Driver) (choosers numbers numbers' : List (Option ℕ)) (below : ℕ) (cycles : List (List ℕ)) (v : ℕ) (rest : List ℕ) (end : ℕ) (are_choosers : AreChoosers net choosers) (are : AreNumbered net choosers numbers below cycles) (followed : IsPathToMark choosers below (length cycles) (v ∷ rest) end numbers numbers') where
  one-chooser : (i j k : ℕ) → LeadsTo choosers i k → LeadsTo choosers j k → i ≡ j
  one-chooser i j k left right = choice-one net k i j (are_choosers.chosen k i left) (are_choosers.chosen k j right)

  first-is : below ≡ v
  first-is = followed.following.is_path.0

  last : IsLedTo choosers (v ∷ rest) end
  last = path-last choosers below v rest end followed.following.is_path

  closes : end ≡ below
  closes =
      elim (cases_Bool (is_listed (v ∷ rest) end)) [
        | inl there ↦
            path-closes choosers below v rest end (λ i j left right. one-chooser i j end left right) followed.following.is_path followed.following.once there
        | inr out ↦
            let led = path-last choosers below v rest end followed.following.is_path in
            let old : IsLink numbers end = (followed.ended.0, sym (followed.following.others end out) ∙ followed.ended.1) in
            let on = are.onward end led.from led.leads old in
            absurd (not-linked numbers led.from on.0 (followed.following.fresh led.from led.there) on.1)
      ]

  -- a listed variable is not below the first one
  later : (x : ℕ) → is_listed rest x ≡ true → v < x
  later x there =
      let in_path : is_listed (v ∷ rest) x ≡ true = or_right (eqb x v) (is_listed rest x) there in
      let first = first-is in
      elim (cases_lt v x) [
        | inl less ↦ less
        | inr not_less ↦
            elim (cases_eq x v) [
              | inl same ↦ absurd (both_ways (is_listed rest v) followed.following.once.0 (subst (λ (m : ℕ). is_listed rest m ≡ true) same there))
              | inr ne ↦
                  let link = path-links choosers below (v ∷ rest) end x followed.following.is_path in_path in
                  let old = are.every x (omega arith) link in
                  absurd (not-linked numbers x old.0 (followed.following.fresh x in_path) old.1)
            ]
      ]

  pub is-cycle : IsFeedbackCycle net (v ∷ rest)
  is-cycle =
      let around : ComesAround net end below rest = path-around net choosers (λ i j leads. are_choosers.chosen i j leads) end below v rest followed.following.is_path in
      let at_first : ComesAround net v below rest = subst (λ (m : ℕ). ComesAround net m below rest) (closes ∙ first-is) around in
      (subst (λ (m : ℕ). ComesAround net v m rest) first-is at_first, followed.following.once, All-each (λ x. v < x) rest later)

  keeps : (i : ℕ) → IsLink numbers i → IsLink numbers' i
  keeps i link =
      elim (cases_Bool (is_listed (v ∷ rest) i)) [
        | inl there ↦ (length cycles, followed.following.marked i there)
        | inr out ↦ (link.0, followed.following.others i out ∙ link.1)
      ]

  -- what leads to a variable of the path is on it
  leads-there : (i j : ℕ) → is_listed (v ∷ rest) i ≡ true → LeadsTo choosers j i → is_listed (v ∷ rest) j ≡ true
  leads-there i j there leads =
      elim (path-before choosers below (v ∷ rest) end i followed.following.is_path there) [
        | inl first ↦
            let led = path-last choosers below v rest end followed.following.is_path in
            let to_end : LeadsTo choosers j end = subst (λ (m : ℕ). LeadsTo choosers j m) (first ∙ sym closes) leads in
            subst (λ (m : ℕ). is_listed (v ∷ rest) m ≡ true) (one-chooser led.from j end led.leads to_end) led.there
        | inr led ↦ subst (λ (m : ℕ). is_listed (v ∷ rest) m ≡ true) (one-chooser led.from j i led.leads leads) led.there
      ]

  onward-more : (i j : ℕ) → LeadsTo choosers j i → IsLink numbers' i → IsLink numbers' j
  onward-more i j leads link =
      elim (cases_Bool (is_listed (v ∷ rest) i)) [
        | inl there ↦ (length cycles, followed.following.marked j (leads-there i j there leads))
        | inr out ↦ keeps j (are.onward i j leads (link.0, sym (followed.following.others i out) ∙ link.1))
      ]

  at-old : (number : ℕ) → number < length cycles → get_or (cycles ++ (v ∷ rest) ∷ []) number [] ≡ get_or cycles number []
  at-old number few = get_or_append_left cycles ((v ∷ rest) ∷ []) [] number few

  at-new : (number : ℕ) → length cycles ≡ number → get_or (cycles ++ (v ∷ rest) ∷ []) number [] ≡ v ∷ rest
  at-new number same = get_or_push cycles (v ∷ rest) [] number same

  each-more : (number : ℕ) → number < length (cycles ++ (v ∷ rest) ∷ []) → IsFeedbackCycle net (get_or (cycles ++ (v ∷ rest) ∷ []) number [])
  each-more number few =
      let long = length-cycles cycles (v ∷ rest) in
      elim (cases_lt number (length cycles)) [
        | inl old ↦ subst (IsFeedbackCycle net) (sym (at-old number old)) (are.each number old)
        | inr new ↦ subst (IsFeedbackCycle net) (sym (at-new number (omega arith))) is-cycle
      ]

  earlier-more : (number : ℕ) → number < length (cycles ++ (v ∷ rest) ∷ []) → get_or (get_or (cycles ++ (v ∷ rest) ∷ []) number []) 0 0 < below + 1
  earlier-more number few =
      let long = length-cycles cycles (v ∷ rest) in
      let first = first-is in
      elim (cases_lt number (length cycles)) [
        | inl old ↦ subst (λ (cycle : List ℕ). get_or cycle 0 0 < below + 1) (sym (at-old number old)) (let less = are.earlier number old in omega arith)
        | inr new ↦ subst (λ (cycle : List ℕ). get_or cycle 0 0 < below + 1) (sym (at-new number (omega arith))) (omega arith)
      ]

  ordered-more : (number : ℕ) → suc number < length (cycles ++ (v ∷ rest) ∷ []) → get_or (get_or (cycles ++ (v ∷ rest) ∷ []) number []) 0 0 < get_or (get_or (cycles ++ (v ∷ rest) ∷ []) (suc number) []) 0 0
  ordered-more number few =
      let long = length-cycles cycles (v ∷ rest) in
      let first = first-is in
      let before : number < length cycles = omega arith in
      subst (λ (cycle : List ℕ). get_or cycle 0 0 < get_or (get_or (cycles ++ (v ∷ rest) ∷ []) (suc number) []) 0 0) (sym (at-old number before))
      (
      elim (cases_lt (suc number) (length cycles)) [
        | inl old ↦ subst (λ (cycle : List ℕ). get_or (get_or cycles number []) 0 0 < get_or cycle 0 0) (sym (at-old (suc number) old)) (are.ordered number old)
        | inr new ↦
            subst (λ (cycle : List ℕ). get_or (get_or cycles number []) 0 0 < get_or cycle 0 0) (sym (at-new (suc number) (omega arith)))
            (let less = are.earlier number before in omega arith)
      ]
      )

  numbered-at : (i number : ℕ) → LeadsTo numbers' i number → (number < length (cycles ++ (v ∷ rest) ∷ [])) × IsTrue (is_listed (get_or (cycles ++ (v ∷ rest) ∷ []) number []) i)
  numbered-at i number leads =
      let long = length-cycles cycles (v ∷ rest) in
      elim (cases_Bool (is_listed (v ∷ rest) i)) [
        | inl there ↦
            let same : length cycles ≡ number = link-one numbers' i (length cycles) number (followed.following.marked i there) leads in
            (omega arith, subst (λ (cycle : List ℕ). is_listed cycle i ≡ true) (sym (at-new number same)) there)
        | inr out ↦
            let old = are.numbered i number (sym (followed.following.others i out) ∙ leads) in
            let few = old.0 in
            (omega arith, subst (λ (cycle : List ℕ). is_listed cycle i ≡ true) (sym (at-old number few)) old.1)
      ]

  pub numbered-push : AreNumbered net choosers numbers' (below + 1) (cycles ++ (v ∷ rest) ∷ [])
  numbered-push =
      record {
        each = each-more;
        earlier = earlier-more;
        ordered = ordered-more;
        numbered = numbered-at;
        onward = onward-more;
        every =
            λ i few link.
            elim (cases_eq i below) [
              | inl same ↦
                  (length cycles, followed.following.marked i (subst (λ (m : ℕ). is_listed (v ∷ rest) m ≡ true) (sym (same ∙ first-is)) (listed-head v rest)))
              | inr ne ↦ keeps i (are.every i (omega arith) link)
            ];
      }

pub numbered-more : (net : List Driver) (choosers numbers numbers' : List (Option ℕ)) (below : ℕ) (cycles cycles' : List (List ℕ)) → AreChoosers net choosers → AreNumbered net choosers numbers below cycles → get_or numbers below None ≡ None → AddsCycle choosers below numbers cycles numbers' cycles' → AreNumbered net choosers numbers' (below + 1) cycles'
numbered-more net choosers numbers numbers' below cycles cycles' are_choosers are none listed =
    subst (AreNumbered net choosers numbers' (below + 1)) (sym listed.listed) (by-path listed.cycle listed.followed)
  where
    by-path : (cycle : List ℕ) → IsPathToMark choosers below (length cycles) cycle listed.end numbers numbers' → AreNumbered net choosers numbers' (below + 1) (cycles ++ cycle ∷ [])
    by-path [] followed =
        let same : get_or numbers' listed.end None ≡ get_or numbers listed.end None = followed.following.others listed.end refl in
        let at_end : get_or numbers listed.end None ≡ None = subst (λ (m : ℕ). get_or numbers m None ≡ None) followed.following.is_path none in
        absurd (not-linked numbers' listed.end followed.ended.0 (same ∙ at_end) followed.ended.1)
    by-path (v ∷ rest) followed = numbered-push net choosers numbers numbers' below cycles v rest listed.end are_choosers are followed

-- one more is listed
pub listed-few : (choosers : List (Option ℕ)) (first : ℕ) (numbers : List (Option ℕ)) (cycles : List (List ℕ)) (numbers' : List (Option ℕ)) (cycles' : List (List ℕ)) (below : ℕ) → AddsCycle choosers first numbers cycles numbers' cycles' → length cycles ≤ below → length cycles' ≤ below + 1
listed-few choosers first numbers cycles numbers' cycles' below listed few =
    let long = ap length listed.listed ∙ length-cycles cycles listed.cycle in
    omega arith
