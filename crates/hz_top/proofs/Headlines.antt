-- The headline, from the answer of a call.
use Rattle.std.proofs.Common.{◌≡◌, ℕ, zero, suc, ◌+◌, ◌<◌, ◌⊎◌, inl, inr, Bool, true, false, not, cond, List, [], ◌∷◌, length, take, All, Option, Some, refl, subst, sym, ap, ◌∙◌, arith, Contains}
use Rattle.std.specs.Prelude.{slice_get}
use Rattle.std.proofs.lemmas.Bool.{cases_Bool, cases_lt}
use Rattle.std.proofs.lemmas.List.{length-map, get_or_past}
use Rattle.std.proofs.lemmas.List.Sums.{sum_by-cons}
use Rattle.std.proofs.lemmas.Option.{slice_get_within, get_or_from_slice_get}
use Rattle.hz_outside.specs.declared.fault.Place.TheVariants.{First, Second}
use Rattle.hz_core.specs.declared.tri.Tri.{Tri}
use Rattle.hz_core.specs.declared.tri.Tri.TheVariants.{Zero}
use Rattle.hz_core.specs.Netlist.{Netlist, IsCircuit}
use Rattle.hz_net.specs.Network.{network_of, bit_at, value_at}
use Rattle.hz_net.specs.Passes.{IsUnknown}
use Rattle.hz_net.specs.Starts.{IsStableStart, IsAcceptedStart}
use Rattle.hz_lists.specs.Listed.{is_listed}
use Rattle.hz_gmw.specs.Runs.{state_after}
use Rattle.hz_gmw.specs.Cycles.{states_of}
use Rattle.hz_gmw.proofs.Flips.{at-state_after, length-state_after}
use Rattle.hz_reach.specs.Spread.{changes_in}
use Rattle.hz_script.specs.ScriptText.{IsValue}
use Rattle.hz_script.specs.ScriptValue.{ScriptOf}
use Rattle.hz_desk.specs.Finding.{FindingOf, values_a, values_b}
use Rattle.hz_desk.specs.RightFinding.{IsRightFinding}
use Rattle.hz_seq.specs.Sequence.{changed_input, IsSettledAt, IsFirstUnknown}
use Rattle.hz_seq.specs.Analyses.{Analysis, Found, Stopped, AreAnalyses, all_stopped}
use Rattle.hz_seq.proofs.Existence.{length-analyses}
use Rattle.hz_seq.proofs.FirstAnalyses.{input-long}
use Rattle.hz_seq.proofs.NextStart.{next-start}
use Rattle.hz_options.specs.declared.options.Options.{Options}
use Rattle.hz_words.specs.declared.job.Task.TheVariants.{Analyse}
use Rattle.hz_words.specs.Job.{JobOf}
use Rattle.hz_refusal.specs.declared.status.Status.{Status}
use Rattle.hz_refusal.specs.declared.status.Status.TheVariants as status
use Rattle.hz_refusal.specs.Answer.{Answers, WroteWhole}
use Rattle.hz_top.specs.Headline.{TakesBoth, IsExact, StartsAt, IsExactChange, IsStoppedBy, IsExactReport, Headline}
use Rattle.hz_formats.specs.Netlists.{IsNetlistText, TextsAreCircuits}
use Rattle.hz_top.specs.Outcome.{Observation, IsFilesOutcome, IsJobOutcome}
use Rattle.hz_changes.specs.Reports.{AnalysisReplays, IsReport, Reports}
use Rattle.hz_refusal.specs.Second.{OfScript, Started}
use Rattle.hz_top.specs.Tasks.{comes_of}
use Rattle.hz_top.proofs.FaultlessEndings.{told-bytes, not-too-long, files-end, ends-or-memory}

-- the first state of a run is one of its states
contains-first : (steps : List (List ℕ)) (state : List Bool) → Contains (states_of state steps) state
contains-first [] state = (0, omega arith, refl)
contains-first (flips ∷ steps) state = (0, omega arith, refl)

-- and so are those after its first step
contains-later : (flips : List ℕ) (steps : List (List ℕ)) (state member : List Bool) → Contains (states_of (state_after flips state) steps) member → Contains (states_of state (flips ∷ steps)) member
contains-later flips steps state member (k, inside, is) = (suc k, omega (arith, inside), is)

same-or-not : (a b : Bool) → (a ≡ b) ⊎ (a ≡ not b)
same-or-not false false = inl refl
same-or-not false true = inr refl
same-or-not true false = inr refl
same-or-not true true = inl refl

-- whether a step changes a variable, as a number
abbrev once_if : Bool → ℕ
once_if listed = cond listed 1 0

-- how often a run changes a variable, by its first step
changes-first : (flips : List ℕ) (steps : List (List ℕ)) (i : ℕ) → changes_in (flips ∷ steps) i ≡ once_if (is_listed flips i) + changes_in steps i
changes-first flips steps i = sum_by-cons (λ (list : List ℕ). once_if (is_listed list i)) flips steps

-- a variable that a run changes once has the complement of its first bit in some state
changed-shows : (steps : List (List ℕ)) (state : List Bool) (i : ℕ) (bit : Bool) → i < length state → changes_in steps i ≡ 1 → bit ≡ not (bit_at state i) → (member : List Bool) × Contains (states_of state steps) member × (bit_at member i ≡ bit)
changed-shows [] state i bit inside once is = absurd cc
changed-shows (flips ∷ steps) state i bit inside once is =
    let after : bit_at (state_after flips state) i ≡ cond (is_listed flips i) (not (bit_at state i)) (bit_at state i) = at-state_after flips state i inside in
    elim (cases_Bool (is_listed flips i)) [
      | inl there ↦ (
        state_after flips state,
        contains-later flips steps state (state_after flips state) (contains-first steps (state_after flips state)),
        after ∙ (ap (λ (b : Bool). cond b (not (bit_at state i)) (bit_at state i)) there ∙ sym is),
      )
      | inr out ↦ (
          let stays : bit_at (state_after flips state) i ≡ bit_at state i = after ∙ ap (λ (b : Bool). cond b (not (bit_at state i)) (bit_at state i)) out in
          let none : once_if (is_listed flips i) ≡ 0 = ap once_if out in
          let later : changes_in steps i ≡ 1 = omega (arith, once, changes-first flips steps i, none) in
          let rest = changed-shows steps (state_after flips state) i bit (omega (arith, inside, length-state_after flips state)) later (is ∙ ap not (sym stays)) in
          (rest.0, contains-later flips steps state rest.0 rest.1, rest.2)
          )
    ]

-- so it takes both values
takes-both : (steps : List (List ℕ)) (state : List Bool) (i : ℕ) → i < length state → changes_in steps i ≡ 1 → TakesBoth (states_of state steps) i
takes-both steps state i inside once bit =
    elim (same-or-not (bit_at state i) bit) [
      | inl same ↦ (state, contains-first steps state, same)
      | inr other ↦ changed-shows steps state i bit inside once (flip bit (bit_at state i) other)
    ]
  where
    flip : (b first : Bool) → first ≡ not b → b ≡ not first
    flip false first e = cc
    flip true first e = cc

-- what is X is among the values
unknown-inside : (values : List Tri) (i : ℕ) → IsUnknown (value_at values i) → i < length values
unknown-inside values i unknown = elim (cases_lt i (length values)) [
  | inl inside ↦ inside
  | inr past ↦ (let none : value_at values i ≡ Zero = get_or_past values i Zero past in cc)
]

-- a right finding, in the order of the headline's words
pub right-is-exact : (netlist : Netlist) (input start : List Bool) (cap : ℕ) (finding : FindingOf) → IsRightFinding (network_of netlist) input start cap finding → AnalysisReplays netlist (Found finding) → IsExact netlist input start finding
right-is-exact netlist input start cap finding right replays =
    record {
      a = right.a_exact;
      b = right.b_exact;
      rounds_a = right.a_rounds;
      few_a = right.a_bound;
      rounds_b = right.b_rounds;
      few_b = right.b_bound;
      spread = right.spread.run;
      both_a = λ i unknown.
          takes-both finding.spread start i
          (subst (λ (n : ℕ). i < n) (length-map finding.rows (λ row. row.a) ∙ (sym (length-map finding.rows (λ row. row.start)) ∙ ap length right.starts)) (unknown-inside (values_a finding.rows) i unknown))
          (right.spread.unknown i unknown);
      settle = right.settle.run;
      cycle = right.cycle.nontransient;
      both_b = λ i unknown bit. right.cycle.both i bit unknown;
      replays = replays;
    }

-- a change that is stopped was not made
stopped-not-found : (var : ℕ) (changes : List (List (ℕ × Bool))) (number : ℕ) (finding : FindingOf) → slice_get (all_stopped var changes) number ≡ Some (Found finding) → ⊥
stopped-not-found var [] number finding is = absurd cc
stopped-not-found var (change ∷ changes) zero finding is = absurd cc
stopped-not-found var (change ∷ changes) (suc number) finding is = stopped-not-found var changes number finding is

-- where a change of the rest starts, it starts in the whole
starts-later : (start next : List Bool) (finding : FindingOf) (analyses : List Analysis) (number : ℕ) (from : List Bool) → IsSettledAt (values_b finding.rows) next → StartsAt next analyses number from → StartsAt start (Found finding ∷ analyses) (suc number) from
starts-later start next finding analyses zero from settled is =
    (finding, refl, subst (λ (state : List Bool). IsSettledAt (values_b finding.rows) state) (sym is) settled)
starts-later start next finding analyses (suc number) from settled is = is

module _ (netlist : Netlist) (cap : ℕ) (circuit : IsCircuit netlist) where
  -- of each change that is made the headline holds
  pub each-exact : (changes : List (List (ℕ × Bool))) (start : List Bool) (analyses : List Analysis) → IsStableStart netlist start → AreAnalyses netlist cap start changes analyses → ((k : ℕ) (finding : FindingOf) → slice_get analyses k ≡ Some (Found finding) → AnalysisReplays netlist (Found finding)) → (number : ℕ) (change : List (ℕ × Bool)) (finding : FindingOf) → slice_get changes number ≡ Some change → slice_get analyses number ≡ Some (Found finding) → IsExactChange netlist cap start analyses number change finding
  each-exact [] start analyses stable are replay number change finding at found = absurd cc
  each-exact (first ∷ changes) start [] stable are replay number change finding at found = absurd cc
  each-exact (first ∷ changes) start (Stopped var ∷ analyses) stable are replay number change finding at found = absurd are
  each-exact (first ∷ changes) start (Found other ∷ analyses) stable are replay zero change finding at found =
      let same_change : first ≡ change = cc in
      let same_finding : other ≡ finding = cc in
      let right : IsRightFinding (network_of netlist) (changed_input (take netlist.inputs start) change) start cap finding =
      subst (λ (f : FindingOf). IsRightFinding (network_of netlist) (changed_input (take netlist.inputs start) change) start cap f) same_finding
      (subst (λ (c : List (ℕ × Bool)). IsRightFinding (network_of netlist) (changed_input (take netlist.inputs start) c) start cap other) same_change are.0) in
      record {
        from = start;
        starts = refl;
        stable = stable;
        right = right;
        exact = right-is-exact netlist (changed_input (take netlist.inputs start) change) start cap finding right (replay zero finding found);
      }
  each-exact (first ∷ changes) start (Found other ∷ analyses) stable are replay (suc number) change finding at found =
      elim are.1 [
        | inl settled ↦ (
            let next_stable : IsStableStart netlist settled.0 =
            next-start netlist (changed_input (take netlist.inputs start) first) start settled.0 cap other circuit (input-long netlist start first circuit stable) are.0 settled.1 in
            let rest = each-exact changes settled.0 analyses next_stable settled.2 (λ k f is. replay (suc k) f is) number change finding at found in
            record {
              from = rest.from;
              starts = starts-later start settled.0 other analyses number rest.from settled.1 rest.starts;
              stable = rest.stable;
              right = rest.right;
              exact = rest.exact;
            }
            )
        | inr unsettled ↦ (
            let stopped : slice_get (all_stopped unsettled.0 changes) number ≡ Some (Found finding) =
            subst (λ (list : List Analysis). slice_get list number ≡ Some (Found finding)) unsettled.2 found in
            absurd (stopped-not-found unsettled.0 changes number finding stopped)
            )
      ]

-- changes that a variable stops are stopped by it
stopped-by-one : (var : ℕ) (changes : List (List (ℕ × Bool))) (number other : ℕ) → slice_get (all_stopped var changes) number ≡ Some (Stopped other) → var ≡ other
stopped-by-one var [] number other is = absurd cc
stopped-by-one var (change ∷ changes) zero other is = cc
stopped-by-one var (change ∷ changes) (suc number) other is = stopped-by-one var changes number other is

-- why a change of the rest is stopped, it is stopped in the whole
stopped-later : (first : Analysis) (analyses : List Analysis) (number var : ℕ) → IsStoppedBy analyses number var → IsStoppedBy (first ∷ analyses) (suc number) var
stopped-later first analyses number var by =
    record { before = suc by.before; earlier = omega (arith, by.earlier); finding = by.finding; made = by.made; unsettled = by.unsettled }

-- each change that is stopped is so by a variable that an earlier change leaves unsettled
pub each-stopped : (netlist : Netlist) (cap : ℕ) (changes : List (List (ℕ × Bool))) (start : List Bool) (analyses : List Analysis) → AreAnalyses netlist cap start changes analyses → (number var : ℕ) → slice_get analyses number ≡ Some (Stopped var) → IsStoppedBy analyses number var
each-stopped netlist cap [] start [] are number var at = absurd cc
each-stopped netlist cap [] start (analysis ∷ analyses) are number var at = absurd are
each-stopped netlist cap (change ∷ changes) start [] are number var at = absurd are
each-stopped netlist cap (change ∷ changes) start (Stopped other ∷ analyses) are number var at = absurd are
each-stopped netlist cap (change ∷ changes) start (Found finding ∷ analyses) are zero var at = absurd cc
each-stopped netlist cap (change ∷ changes) start (Found finding ∷ analyses) are (suc number) var at = elim are.1 [
  | inl settled ↦ stopped-later (Found finding) analyses number var (each-stopped netlist cap changes settled.0 analyses settled.2 number var at)
  | inr unsettled ↦ (
      let same : unsettled.0 ≡ var =
      stopped-by-one unsettled.0 changes number var (subst (λ (list : List Analysis). slice_get list number ≡ Some (Stopped var)) unsettled.2 at) in
      record {
        before = 0;
        earlier = omega arith;
        finding = finding;
        made = refl;
        unsettled = subst (IsFirstUnknown (values_b finding.rows)) same unsettled.1;
      }
      )
]

-- the run text of each change that is made replays
replays-each : (netlist : Netlist) (analyses : List Analysis) → All (AnalysisReplays netlist) analyses → (k : ℕ) (finding : FindingOf) → slice_get analyses k ≡ Some (Found finding) → AnalysisReplays netlist (Found finding)
replays-each netlist analyses replay k finding is =
    subst (AnalysisReplays netlist) (get_or_from_slice_get analyses k (Found finding) (Found finding) is)
    (replay k (Found finding) (slice_get_within analyses k (Found finding) is))

-- a report is exact
report-exact : TextsAreCircuits → (options : Options) (name first second : List ℕ) (netlist : Netlist) (script : ScriptOf) (start : List Bool) (report : List ℕ) → IsNetlistText name first netlist → IsValue netlist second script → IsAcceptedStart netlist script.start start → IsReport options netlist start script.changes report → IsExactReport options name first second report
report-exact circuits options name first second netlist script start report text value accepted is =
    record {
      netlist = netlist;
      is_netlist = text;
      covers = (circuits name first netlist text).2;
      script = script;
      is_script = value;
      start = start;
      is_start = accepted;
      cycles = is.cycles;
      are_cycles = is.are_cycles;
      analyses = is.analyses;
      one_each = length-analyses netlist options.cap script.changes start is.analyses is.are_analyses;
      lines = is.lines;
      exact =
          each-exact netlist options.cap (circuits name first netlist text).0 script.changes start is.analyses
          (record { long = accepted.completed.long; stable = accepted.stable }) is.are_analyses
          (replays-each netlist is.analyses is.replay);
      stopped = each-stopped netlist options.cap script.changes start is.analyses is.are_analyses;
    }

-- what the second text comes to, if the job is done with it
second-exact : TextsAreCircuits → (options : Options) (name first second : List ℕ) (netlist : Netlist) (report : List ℕ) → IsNetlistText name first netlist → OfScript (Started (Reports options)) netlist second status.Done report → IsExactReport options name first second report
second-exact circuits options name first second netlist report text (inl (fault, least, says)) = absurd cc
second-exact circuits options name first second netlist report text (inr (value, faultless, is, inl (own_is, refused))) = absurd cc
second-exact circuits options name first second netlist report text (inr (value, faultless, is, inr (start, accepted, (done, report_is)))) =
    report-exact circuits options name first second netlist value start report text is accepted report_is

-- what the files come to, if the job is done
files-exact : TextsAreCircuits → (told : Observation) (bytes_of : List ℕ → List ℕ) (options : Options) (first second report : List ℕ) → told.held ≡ Some bytes_of → IsFilesOutcome told (comes_of options Analyse) first second status.Done report → IsExactReport options first (bytes_of first) (bytes_of second) report
files-exact circuits told bytes_of options first second report is_told (inl (stay, inl (rose, says))) = absurd cc
files-exact circuits told bytes_of options first second report is_told (inl (stay, inr (rose, over, says))) = absurd cc
files-exact circuits told bytes_of options first second report is_told (inr (bytes, (is, short), inl (line, refused, stay, says))) = absurd cc
files-exact circuits told bytes_of options first second report is_told (inr (bytes, (is, short), inr (netlist, text, inl (inl (rose, says))))) = absurd cc
files-exact circuits told bytes_of options first second report is_told (inr (bytes, (is, short), inr (netlist, text, inl (inr (rose, over, says))))) = absurd cc
files-exact circuits told bytes_of options first second report is_told (inr (bytes, (is, short), inr (netlist, text, inr (more, (is_more, short_too), comes)))) =
    second-exact circuits options first (bytes_of first) (bytes_of second) netlist report
    (subst (λ (b : List ℕ). IsNetlistText first b netlist) (told-bytes told bytes_of first bytes is_told is) text)
    (subst (λ (b : List ℕ). OfScript (Started (Reports options)) netlist b status.Done report) (told-bytes told bytes_of second more is_told is_more) comes)

-- the headline
pub headline : {S : Type 0} (written : S → Option (List ℕ)) (faults : S → ℕ) (told : Observation) (asked : Option JobOf) (was now : S) (ends : Status) → TextsAreCircuits → Answers written faults (IsJobOutcome told asked) was now ends → Headline written faults told asked was now ends
headline written faults told asked was now ends circuits answers options first second is good short short_too quiet enough =
    let files : (own : Status) (said : List ℕ) → IsJobOutcome told asked own said → IsFilesOutcome told (comes_of options Analyse) first second own said =
    λ own said comes. subst (λ (job : Option JobOf). IsJobOutcome told job own said) is comes in
    let only : (own : Status) (said : List ℕ) → IsJobOutcome told asked own said → own ≡ status.Done =
    λ own said comes. files-end told options Analyse first second status.Done good
    (not-too-long told good.bytes_of First first good.is_told short) (not-too-long told good.bytes_of Second second good.is_told short_too) own said (files own said comes) in
    elim (ends-or-memory written faults (IsJobOutcome told asked) was now ends answers status.Done only quiet) [
      | inl done ↦ (
          let whole : WroteWhole written (IsJobOutcome told asked) was now status.Done = subst (Answers written faults (IsJobOutcome told asked) was now) done answers in
          (done, (whole.0, whole.2, files-exact circuits told good.bytes_of options first second whole.0 good.is_told (files status.Done whole.0 whole.1)))
          )
      | inr out ↦ absurd (enough out)
    ]
