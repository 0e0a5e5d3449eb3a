-- What was found is all: every feedback cycle is listed, and each variable that is not feedback-free has its core.
use Rattle.std.proofs.Common.{◌≡◌, ℕ, suc, ◌<◌, true, Option, Some, None, List, [], ◌∷◌, length, get_or, All, sym, ap, ◌∙◌, subst, arith, inl, inr}
use Rattle.std.specs.Prelude.{Contains}
use Rattle.std.proofs.lemmas.Bool.{cases_lt}
use Rattle.std.proofs.lemmas.List.{get_or_past}
use Rattle.std.proofs.lemmas.List.Elements.{All-cons, All-nil}
use Rattle.hz_net.specs.Network.{Driver, External, driver_at}
use Rattle.hz_net.specs.Reads.{Reads, IsWired}
use Rattle.hz_lists.specs.Listed.{is_listed}
use Rattle.hz_core.proofs.ListLemmas.{get_or-default}
use Rattle.hz_free.specs.Chains.{IsFeedbackFree}
use Rattle.hz_free.specs.Feedback.{IsChoice, ComesAround, IsFeedbackCycle}
use Rattle.hz_free.specs.FreePart.{AreFeedback, IsCoreNumber}
use Rattle.hz_free.specs.Paths.{LeadsTo, IsLink, IsPath, AreChoices, AreRooted, AreChoosers, AreNumbered, HaveNumbers, core_by}
use Rattle.hz_lists.proofs.ListedLemmas.{listed-head}
use Rattle.hz_free.proofs.Chains.{reads-free}
use Rattle.hz_free.proofs.FeedbackCycles.{cycle-closed, same-cycle}
use Rattle.hz_free.proofs.PathLemmas.{link-inside, path-way}
use Rattle.hz_free.proofs.Roots.{link-or-none, choosers-AreLinks}

-- the variables of a cycle choose
pub first-chooses : (net : List Driver) (first last : ℕ) (rest : List ℕ) → ComesAround net first last rest → (j : ℕ) × IsChoice net first j
first-chooses net first last [] around = (last, around)
first-chooses net first last (w ∷ rest) around = first-chooses net first w rest around.1

-- what reads something is in the network
pub reader-inside : (net : List Driver) (i j : ℕ) → Reads (driver_at net i) j → i < length net
reader-inside net i j reads =
    elim (cases_lt i (length net)) [
      | inl few ↦ few
      | inr beyond ↦
          let past : driver_at net i ≡ External 0 = get_or_past net i (External 0) beyond in
          absurd (subst (λ (driver : Driver). Reads driver j) past reads)
    ]

module _ (net : List Driver) (wired : IsWired net) (choices choosers roots numbers : List (Option ℕ)) (cycles : List (List ℕ)) (are_choices : AreChoices net choices) (are_rooted : AreRooted choices choosers roots (length choices)) (are_numbered : AreNumbered net choosers numbers (length choosers) cycles) where
  -- a variable that is not feedback-free has a root, and the root has a number
  record IsRooted (i : ℕ) : Type 0 where
    root : ℕ
    is_root : LeadsTo roots i root
    path : List ℕ
    leads : IsPath choices i path root
    number : ℕ
    is_number : LeadsTo numbers root number

  rooted : (i : ℕ) → i < length net → (IsFeedbackFree net i → ⊥) → IsRooted i
  rooted i few not_free =
      let long = are_choices.long in
      let chooses : IsLink choices i =
      elim (link-or-none choices i) [
        | inl link ↦ link
        | inr none ↦ absurd (not_free (are_choices.none i few none))
      ] in
      let root = are_rooted.every i (omega arith) chooses in
      let way = are_rooted.rooted i root.0 root.1 in
      let number = are_numbered.every root.0 (link-inside choosers root.0 way.2.0 way.2.1) way.2 in
      record { root = root.0; is_root = root.1; path = way.0; leads = way.1; number = number.0; is_number = number.1 }

  -- along choices a cycle is not left
  stays-in : (cycle : List ℕ) (start : ℕ) (path : List ℕ) (end : ℕ) → IsFeedbackCycle net cycle → is_listed cycle start ≡ true → IsPath choices start path end → is_listed cycle end ≡ true
  stays-in cycle start [] end is there path = subst (λ (m : ℕ). is_listed cycle m ≡ true) path there
  stays-in cycle start (v ∷ list) end is there path =
      stays-in cycle path.1 list end is (cycle-closed net cycle start path.1 is there (are_choices.some start path.1 path.2)) path.3

  every-cycle : (cycle : List ℕ) → IsFeedbackCycle net cycle → Contains cycles cycle
  every-cycle [] is = absurd is
  every-cycle (first ∷ rest) is =
      let choice = first-chooses net first first rest is.0 in
      let few = reader-inside net first choice.0 choice.1.reads in
      let of = rooted first few (λ free. choice.1.feeds (reads-free net first choice.0 free choice.1.reads)) in
      let in_cycle = stays-in (first ∷ rest) first of.path of.root is (listed-head first rest) of.leads in
      let listed = are_numbered.numbered of.root of.number of.is_number in
      let same : first ∷ rest ≡ get_or cycles of.number [] =
      same-cycle net (first ∷ rest) (get_or cycles of.number []) of.root is (are_numbered.each of.number listed.0) in_cycle listed.1 in
      (of.number, listed.0, get_or-default cycles of.number (first ∷ rest) [] listed.0 ∙ sym same)

  all-cycles : (list : List (List ℕ)) → ((k : ℕ) → k < length list → IsFeedbackCycle net (get_or list k [])) → All (IsFeedbackCycle net) list
  all-cycles [] each = All-nil (IsFeedbackCycle net)
  all-cycles (cycle ∷ list) each = All-cons (IsFeedbackCycle net) cycle list (each 0 (omega arith)) (all-cycles list (λ k few. each (suc k) (omega arith)))

  core-at : (cores : List (Option ℕ)) → HaveNumbers numbers roots cores (length roots) → (i : ℕ) → i < length net → (IsFeedbackFree net i → ⊥) → IsCoreNumber net cycles i (get_or cores i None)
  core-at cores have i few not_free =
      let of = rooted i few not_free in
      let inside = link-inside roots i of.root of.is_root in
      let listed = are_numbered.numbered of.root of.number of.is_number in
      let way = path-way net choices (λ i j leads. are_choices.some i j leads) i of.path of.root of.leads in
      let core : get_or cores i None ≡ Some of.number =
      have.below_have i inside ∙ (ap (core_by numbers) of.is_root ∙ of.is_number) in
      subst (IsCoreNumber net cycles i) (sym core) (
        listed.0,
        record {
          is_cycle = are_numbered.each of.number listed.0;
          way = way.0;
          last = of.root;
          leads = way.1;
          ends = listed.1;
        },
      )

  pub found-AreFeedback : (cores : List (Option ℕ)) → HaveNumbers numbers roots cores (length roots) → AreFeedback net cycles cores
  found-AreFeedback cores have =
      record {
        are_cycles = record { each = all-cycles cycles are_numbered.each; every = every-cycle; ordered = are_numbered.ordered };
        are_cores = core-at cores have;
      }

-- those that chose, as choices of the network
pub are-AreChoosers : (net : List Driver) (choices choosers roots : List (Option ℕ)) (below : ℕ) → AreChoices net choices → AreRooted choices choosers roots below → AreChoosers net choosers
are-AreChoosers net choices choosers roots below are_choices are_rooted =
    record {
      long = are_rooted.choosers_long ∙ are_choices.long;
      links = choosers-AreLinks choices choosers roots below are_rooted;
      chosen = λ i j leads. are_choices.some i j (are_rooted.chosen i j leads);
    }
