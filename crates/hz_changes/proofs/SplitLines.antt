-- The text of changes, of which the first that leaves a variable unsettled is the last that is made.
use Rattle.std.proofs.Common.{◌≡◌, ◌∙◌, ℕ, ◌+◌, ◌<◌, Bool, true, false, List, [], ◌∷◌, ◌++◌, length, map, take, get_or, codes, Option, None, refl, sym, ap, subst, arith, inl, inr}
use Rattle.hz_changes.proofs.Words.{flat_map, Netlist, Row, FindingOf, values_b, Analysis, Found, Stopped, AreAnalyses, SequenceState, IsFindingOfChange, IsLeftBy}
use Rattle.hz_changes.proofs.Words.{AreFirstAnalyses, all-analyses, run_text, line_of, closed, leaves_unsettled, found_in, SplitsChange, SplitsChanges}
use Rattle.std.specs.List.{list_any, Contains}
use Rattle.std.proofs.lemmas.Bool.{false≢true}
use Rattle.std.proofs.lemmas.List.{append-nil, map-append, take_more}
use Rattle.std.proofs.lemmas.List.Concat.{flat_map-append}
use Rattle.std.proofs.lemmas.List.Elements.{Contains-get_or}
use Rattle.std.proofs.lemmas.List.Folds.{list_any_at}
use Rattle.hz_core.specs.declared.tri.Tri.{Tri}
use Rattle.hz_core.specs.declared.tri.Tri.TheVariants.{Zero, Unknown}
use Rattle.hz_core.specs.Ternary.{tri_of, is_unknown}
use Rattle.hz_seq.specs.Analyses.{all_stopped}
use Rattle.hz_seq.specs.Sequence.{IsFirstUnknown}
use Rattle.hz_seq.proofs.FirstAnalyses.{AreLaterAnalyses}
use Rattle.hz_seq.proofs.Existence.{settled-or-unknown}
use Rattle.hz_refusal.specs.declared.status.Status.{Status}
use Rattle.hz_refusal.specs.declared.status.Status.TheVariants as status
use Rattle.hz_split.specs.Attempts.{outcome_of}
use Rattle.hz_run_text.specs.RunPrinted.{states_text, run_text_printed}
use Rattle.hz_text.specs.RunParts.{RunOf}
use Rattle.hz_changes.specs.Splits.{split_line, changes_text, split_text, AreSplits}
use Rattle.hz_changes.proofs.Writable.{first-inside}

-- changes that leave no variable unsettled
abbrev pub AreQuiet : List Analysis → Type 0
AreQuiet [] = Unit {0}
AreQuiet (Found finding ∷ analyses) = (leaves_unsettled finding ≡ false) × AreQuiet analyses
AreQuiet (Stopped var ∷ analyses) = ⊥

-- they write nothing
quiet-text : (netlist : Netlist) (number : ℕ) (analyses more : List Analysis) → AreQuiet analyses → changes_text netlist number (analyses ++ more) ≡ changes_text netlist (number + length analyses) more
quiet-text netlist number [] more quiet = let same : number ≡ number + 0 = omega arith in ap (λ (n : ℕ). changes_text netlist n more) same
quiet-text netlist number (Found finding ∷ analyses) more quiet =
    let same : number + 1 + length analyses ≡ number + length (Found finding ∷ analyses) = omega arith in
    rw quiet.0 (quiet-text netlist (number + 1) analyses more quiet.1 ∙ ap (λ (n : ℕ). changes_text netlist n more) same)
quiet-text netlist number (Stopped var ∷ analyses) more quiet = absurd quiet

-- and of their runs nothing is said
quiet-splits : (netlist : Netlist) (analyses more : List Analysis) → AreQuiet analyses → AreSplits netlist more → AreSplits netlist (analyses ++ more)
quiet-splits netlist [] more quiet splits = splits
quiet-splits netlist (Found finding ∷ analyses) more quiet splits = inr (quiet.0, quiet-splits netlist analyses more quiet.1 splits)
quiet-splits netlist (Stopped var ∷ analyses) more quiet splits = absurd quiet

pub quiet-more : (finding : FindingOf) (analyses : List Analysis) → AreQuiet analyses → leaves_unsettled finding ≡ false → AreQuiet (analyses ++ Found finding ∷ [])
quiet-more finding [] quiet settles = (settles, tt)
quiet-more finding (Found other ∷ analyses) quiet settles = (quiet.0, quiet-more finding analyses quiet.1 settles)
quiet-more finding (Stopped var ∷ analyses) quiet settles = absurd quiet

-- where a change settles no value is X
settled-known : (state : List Bool) → list_any is_unknown (map tri_of state) ≡ false
settled-known [] = refl
settled-known (false ∷ state) = settled-known state
settled-known (true ∷ state) = settled-known state

-- where a value is X there is a first one
first-unknown : (values : List Tri) → list_any is_unknown values ≡ true → (var : ℕ) × IsFirstUnknown values var
first-unknown values some = elim (settled-or-unknown values) [
  | inl settled ↦ absurd (false≢true (sym (ap (list_any is_unknown) settled.1 ∙ settled-known settled.0) ∙ some))
  | inr first ↦ first
]

pub contains-unknown : (values : List Tri) → list_any is_unknown values ≡ true → Contains values Unknown
contains-unknown values some =
    let first = first-unknown values some in
    subst (Contains values) first.1.here (Contains-get_or values first.0 Zero (first-inside values first.0 first.1))

-- a change that leaves no variable unsettled does not stop the next one
pub goes-on-settled : (finding : FindingOf) (was now : SequenceState) → leaves_unsettled finding ≡ false → IsLeftBy finding was now → now.stopped ≡ None
goes-on-settled finding was now settles left =
    let values = values_b finding.rows in
    elim left.2 [
      | inl settled ↦ settled.0
      | inr unsettled ↦
          absurd (false≢true (sym settles ∙ list_any_at is_unknown values unsettled.0 Zero (first-inside values unsettled.0 unsettled.2) (ap is_unknown unsettled.2.here)))
    ]

module _ (netlist : Netlist) (cap : ℕ) (start : List Bool) (before : List (List (ℕ × Bool))) (analyses : List Analysis) (was : SequenceState) (first : AreFirstAnalyses netlist cap start before analyses was) (long : length analyses ≡ length before) (quiet : AreQuiet analyses) where
  -- the first change that leaves a variable unsettled
  pub ends-unsettled : (later : List (List (ℕ × Bool))) (change : List (ℕ × Bool)) (finding : FindingOf) → was.stopped ≡ None → IsFindingOfChange was.desk.netlist cap was.start change finding → leaves_unsettled finding ≡ true
      → (own : Status) (text : List ℕ) → SplitsChange netlist (length before + 1) finding own text → SplitsChanges cap netlist start (before ++ change ∷ later) own text
  ends-unsettled later change finding going found unsettled own text says =
      let unknown = first-unknown (values_b finding.rows) unsettled in
      let last : List Analysis = Found finding ∷ all_stopped unknown.0 later in
      let right : IsFindingOfChange netlist cap was.start change finding = subst (λ (n : Netlist). IsFindingOfChange n cap was.start change finding) first.same found in
      let are : AreAnalyses netlist cap start (before ++ change ∷ later) (analyses ++ last) =
      first.with_later (change ∷ later) last
      (subst (λ (stopped : Option ℕ). AreLaterAnalyses netlist cap was.start stopped (change ∷ later) last) (sym going) (right, inr (unknown.0, unknown.1, refl))) in
      let number : 1 + length analyses ≡ length before + 1 = omega (arith, long) in
      let line : changes_text netlist (1 + length analyses) last ≡ split_text netlist (length before + 1) finding (found_in netlist finding) =
      rw unsettled (ap (λ (n : ℕ). split_text netlist n finding (found_in netlist finding)) number) in (
        says.0,
        (analyses ++ last, are, quiet-splits netlist analyses last quiet (inl (unsettled, says.1)), says.2 ∙ sym (quiet-text netlist 1 analyses last quiet ∙ line)),
      )

  -- all changes settle
  pub ends-settled : (own : Status) (text : List ℕ) → own ≡ status.Done → text ≡ line_of (codes "split settled" ∷ []) → SplitsChanges cap netlist start before own text
  ends-settled own text done is =
      let line : changes_text netlist 1 analyses ≡ line_of (codes "split settled" ∷ []) = ap (changes_text netlist 1) (sym (append-nil analyses)) ∙ quiet-text netlist 1 analyses [] quiet in (
        done,
        (
          analyses,
          all-analyses netlist cap start before analyses was first,
          subst (AreSplits netlist) (append-nil analyses) (quiet-splits netlist analyses [] quiet tt),
          is ∙ sym line,
        ),
      )

-- one run more
pub closed-more : (text_of : RunOf → List ℕ) (found : List (List (List ℕ))) (number : ℕ) → number < length found
    → flat_map text_of (map closed (take (number + 1) found)) ≡ flat_map text_of (map closed (take number found)) ++ text_of (closed (get_or found number []))
closed-more text_of found number below =
    let run = get_or found number [] in
    ap (λ (runs : List (List (List ℕ))). flat_map text_of (map closed runs)) (take_more found number [] below)
    ∙ (ap (flat_map text_of) (map-append closed (take number found) (run ∷ []))
    ∙ (flat_map-append text_of (map closed (take number found)) (closed run ∷ [])
    ∙ ap (λ (text : List ℕ). flat_map text_of (map closed (take number found)) ++ text) (append-nil (text_of (closed run)))))

-- the lines of a change and of its runs, one after the other
pub split-lines : (netlist : Netlist) (number : ℕ) (finding : FindingOf) (found : List (List (List ℕ)))
    → split_line number (outcome_of found) ++ (states_text netlist (take (length netlist.names) (map (λ (row : Row). row.start) finding.rows)) finding.input ++ flat_map (run_text netlist) (map closed found) ++ codes "end\n")
    ≡ split_text netlist number finding found
unfolding split_text run_text_printed
split-lines netlist number finding found = refl
