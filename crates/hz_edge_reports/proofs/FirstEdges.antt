-- The changes so far, for a loop that makes one change after the other, and what the changes that are left come to.
use Rattle.std.proofs.Common.{◌≡◌, ◌∙◌, ℕ, ◌≤◌, Bool, true, false, List, [], ◌∷◌, ◌++◌, length, take, All, Option, Some, None, refl, sym, ap, subst, append_assoc, append-nil, length-append, arith, inl, inr}
use Rattle.hz_edge_reports.proofs.Words.{Netlist, IsCircuit, IsWhole, IsStableStart, greatest_cap, Assumption, IsAssumptionOf, changed_input, ChangeRoom, ChangesExist, ChangeOf}
use Rattle.hz_edge_reports.proofs.Words.{EdgeAnalysis, AreEdgeAnalyses, IsNextStart, IsRightChange, IsStopper}
use Rattle.hz_seq.proofs.FirstAnalyses.{input-long}
use Rattle.hz_changes.proofs.Writable.{IsStopInside}
use Rattle.hz_edge_reports.specs.declared.finding.Making.{Making}
use Rattle.hz_edge_reports.specs.EdgeChanges.{Found, Stopped, IsChangeFrom, all_unanalysed}
use Rattle.hz_edge_reports.specs.Going.{GoesOn}
use Rattle.hz_edge_reports.specs.Room.{CanBeMade, Leads}
use Rattle.hz_edge_reports.proofs.Leading.{found-leads, stopper-inside}

-- what changes come to from a state, or from a variable that stops them
abbrev pub AreLaterEdges : Netlist → ℕ → List Assumption → List Bool → Option ℕ → List (List (ℕ × Bool)) → List EdgeAnalysis → Type 0
AreLaterEdges netlist cap assumptions at None changes analyses = AreEdgeAnalyses netlist cap assumptions at changes analyses
AreLaterEdges netlist cap assumptions at (Some var) changes analyses = analyses ≡ all_unanalysed var changes

-- From a start, these are the analyses of these changes, which lead to a state or to a variable that stops. With what any further changes
-- come to from there, they are the analyses of all.
pub record AreFirstEdges (netlist : Netlist) (cap : ℕ) (assumptions : List Assumption) (start : List Bool) (changes : List (List (ℕ × Bool))) (analyses : List EdgeAnalysis) (at : List Bool) (stopped : Option ℕ) : Type 0 where
  pub stable : stopped ≡ None → IsStableStart netlist at
  pub inside : IsStopInside netlist stopped
  pub long : length analyses ≡ length changes
  pub with_later : (later : List (List (ℕ × Bool))) (more : List EdgeAnalysis) → AreLaterEdges netlist cap assumptions at stopped later more →
      AreEdgeAnalyses netlist cap assumptions start (changes ++ later) (analyses ++ more)

-- The same, where a room stands, unless something failed.
pub record AreSoFar (netlist : Netlist) (cap : ℕ) (assumptions : List Assumption) (start : List Bool) (changes : List (List (ℕ × Bool))) (analyses : List EdgeAnalysis) (failed : Bool) (room : ChangeRoom) : Type 0 where
  pub at : List Bool
  pub stopped : Option ℕ
  pub first : AreFirstEdges netlist cap assumptions start changes analyses at stopped
  pub stands : failed ≡ false → at ≡ room.start.items
  pub stops : failed ≡ false → stopped ≡ room.stopped

no-more : (netlist : Netlist) (cap : ℕ) (assumptions : List Assumption) (at : List Bool) (stopped : Option ℕ) → AreLaterEdges netlist cap assumptions at stopped [] []
no-more netlist cap assumptions at None = tt
no-more netlist cap assumptions at (Some var) = refl

module _ (netlist : Netlist) (cap : ℕ) (assumptions : List Assumption) (circuit : IsCircuit netlist) (all : All (IsAssumptionOf netlist) assumptions) where
  module _ (start : List Bool) where
    -- before the first change
    pub none-yet : (failed : Bool) (room : ChangeRoom) → room.stopped ≡ None → room.start.items ≡ start → IsStableStart netlist start → AreSoFar netlist cap assumptions start [] [] failed room
    none-yet failed room goes same stable = record {
      at = start;
      stopped = None;
      first = record { stable = λ none. stable; inside = tt; long = refl; with_later = λ later more are. are };
      stands = λ fine. sym same;
      stops = λ fine. sym goes;
    }

    -- after the last change they are the analyses of all
    pub all-edges : (changes : List (List (ℕ × Bool))) (analyses : List EdgeAnalysis) (failed : Bool) (room : ChangeRoom) → AreSoFar netlist cap assumptions start changes analyses failed room → AreEdgeAnalyses netlist cap assumptions start changes analyses
    all-edges changes analyses failed room so_far =
        subst (λ (list : List (List (ℕ × Bool))). AreEdgeAnalyses netlist cap assumptions start list analyses) (append-nil changes)
        (subst (λ (list : List EdgeAnalysis). AreEdgeAnalyses netlist cap assumptions start (changes ++ []) list) (append-nil analyses)
        (so_far.first.with_later [] [] (no-more netlist cap assumptions so_far.at so_far.stopped)))

  module _ (start : List Bool) (changes : List (List (ℕ × Bool))) (analyses : List EdgeAnalysis) (at : List Bool) (stopped : Option ℕ) (first : AreFirstEdges netlist cap assumptions start changes analyses at stopped) (change : List (ℕ × Bool)) where
    -- one change more, at the end of both lists
    at-end : (analysis : EdgeAnalysis) (later : List (List (ℕ × Bool))) (more : List EdgeAnalysis) → AreLaterEdges netlist cap assumptions at stopped (change ∷ later) (analysis ∷ more) →
        AreEdgeAnalyses netlist cap assumptions start ((changes ++ change ∷ []) ++ later) ((analyses ++ analysis ∷ []) ++ more)
    at-end analysis later more are =
        subst (λ (list : List (List (ℕ × Bool))). AreEdgeAnalyses netlist cap assumptions start list ((analyses ++ analysis ∷ []) ++ more)) (sym (append_assoc changes (change ∷ []) later))
        (subst (λ (list : List EdgeAnalysis). AreEdgeAnalyses netlist cap assumptions start (changes ++ change ∷ later) list) (sym (append_assoc analyses (analysis ∷ []) more))
        (first.with_later (change ∷ later) (analysis ∷ more) are))

    both-longer : (analysis : EdgeAnalysis) → length (analyses ++ analysis ∷ []) ≡ length (changes ++ change ∷ [])
    both-longer analysis = omega (arith, length-append analyses (analysis ∷ []), length-append changes (change ∷ []), first.long)

    -- a change that was made, and leads to a next start
    found-next : (found : ChangeOf) (next : List Bool) → stopped ≡ None → IsChangeFrom netlist at change found → IsRightChange netlist cap assumptions found → IsNextStart netlist found.ends next →
        AreFirstEdges netlist cap assumptions start (changes ++ change ∷ []) (analyses ++ Found found ∷ []) next None
    found-next found next goes from right leads = record {
      stable = λ none. leads.stable;
      inside = tt;
      long = both-longer (Found found);
      with_later = λ later more are.
          at-end (Found found) later more
          (subst (λ (s : Option ℕ). AreLaterEdges netlist cap assumptions at s (change ∷ later) (Found found ∷ more)) (sym goes)
          (from, right, inl (next, leads, are)));
    }

    -- or to a variable that stops
    found-last : (found : ChangeOf) (var : ℕ) (next : List Bool) → stopped ≡ None → IsChangeFrom netlist at change found → IsRightChange netlist cap assumptions found → IsStopper netlist found.input found.ends var →
        AreFirstEdges netlist cap assumptions start (changes ++ change ∷ []) (analyses ++ Found found ∷ []) next (Some var)
    found-last found var next goes from right stops = record {
      stable = λ none. absurd cc;
      inside = stopper-inside netlist cap assumptions at change found circuit all (first.stable goes) from right var stops;
      long = both-longer (Found found);
      with_later = λ later more are.
          at-end (Found found) later more
          (subst (λ (s : Option ℕ). AreLaterEdges netlist cap assumptions at s (change ∷ later) (Found found ∷ more)) (sym goes)
          (from, right, inr (var, stops, are)));
    }

    -- a change that was not made
    one-stopped : (var : ℕ) → stopped ≡ Some var → AreFirstEdges netlist cap assumptions start (changes ++ change ∷ []) (analyses ++ Stopped var ∷ []) at stopped
    one-stopped var stops = record {
      stable = first.stable;
      inside = first.inside;
      long = both-longer (Stopped var);
      with_later = λ later more are.
          at-end (Stopped var) later more
          (subst (λ (s : Option ℕ). AreLaterEdges netlist cap assumptions at s (change ∷ later) (Stopped var ∷ more)) (sym stops)
          (ap (λ (list : List EdgeAnalysis). Stopped var ∷ list) (subst (λ (s : Option ℕ). AreLaterEdges netlist cap assumptions at s later more) stops are)));
    }

    -- a change that was made, where the room then stands, or, once something failed, where it leads anyway
    found-so-far : (found : ChangeOf) (failed : Bool) (now : ChangeRoom) → stopped ≡ None → IsChangeFrom netlist at change found → IsRightChange netlist cap assumptions found → (failed ≡ false → Leads netlist found now) →
        AreSoFar netlist cap assumptions start (changes ++ change ∷ []) (analyses ++ Found found ∷ []) failed now
    found-so-far found false now goes from right leads =
        elim (leads refl) [
          | inl next ↦ record {
            at = now.start.items;
            stopped = None;
            first = found-next found now.start.items goes from right next.1;
            stands = λ fine. refl;
            stops = λ fine. sym next.0;
          }
          | inr last ↦ record {
            at = now.start.items;
            stopped = Some last.0;
            first = found-last found last.0 now.start.items goes from right last.2;
            stands = λ fine. refl;
            stops = λ fine. sym last.1;
          }
        ]
    found-so-far found true now goes from right leads =
        elim (found-leads netlist cap assumptions at change found circuit all (first.stable goes) from right) [
          | inl next ↦ record {
            at = next.0;
            stopped = None;
            first = found-next found next.0 goes from right next.1;
            stands = λ fine. absurd cc;
            stops = λ fine. absurd cc;
          }
          | inr last ↦ record {
            at = at;
            stopped = Some last.0;
            first = found-last found last.0 at goes from right last.1;
            stands = λ fine. absurd cc;
            stops = λ fine. absurd cc;
          }
        ]

-- a room goes on by one change more
pub goes-on : (making : Making) (start : List Bool) (changes : List (List (ℕ × Bool))) (analyses : List EdgeAnalysis) (was now : ChangeRoom) → CanBeMade making →
    AreSoFar making.net.now making.cap making.assumptions.now start changes analyses false was → (change : List (ℕ × Bool)) (analysis : EdgeAnalysis) (failed : Bool) → GoesOn making change analysis failed was now →
    AreSoFar making.net.now making.cap making.assumptions.now start (changes ++ change ∷ []) (analyses ++ analysis ∷ []) failed now
goes-on making start changes analyses was now can so_far change (Found found) failed (goes, from, right, leads) =
    found-so-far making.net.now making.cap making.assumptions.now can.circuit can.assumptions start changes analyses so_far.at so_far.stopped so_far.first change found failed now
    (so_far.stops refl ∙ goes)
    (subst (λ (at : List Bool). IsChangeFrom making.net.now at change found) (sym (so_far.stands refl)) from)
    right leads
goes-on making start changes analyses was now can so_far change (Stopped var) failed (stopped, same) = record {
  at = so_far.at;
  stopped = so_far.stopped;
  first = one-stopped making.net.now making.cap making.assumptions.now can.circuit can.assumptions start changes analyses so_far.at so_far.stopped so_far.first change var (so_far.stops refl ∙ stopped);
  stands = λ fine. so_far.stands refl ∙ ap (λ (room : ChangeRoom). room.start.items) (sym same);
  stops = λ fine. so_far.stops refl ∙ ap (λ (room : ChangeRoom). room.stopped) (sym same);
}

module _ (exist : ChangesExist) (netlist : Netlist) (cap : ℕ) (assumptions : List Assumption) (circuit : IsCircuit netlist) (whole : IsWhole netlist) (all : All (IsAssumptionOf netlist) assumptions) (low : 1 ≤ cap) (high : cap ≤ greatest_cap) where
  -- every change from a stable start comes to something
  pub one-exists : (start : List Bool) (change : List (ℕ × Bool)) → IsStableStart netlist start → (found : ChangeOf) × IsChangeFrom netlist start change found × IsRightChange netlist cap assumptions found
  one-exists start change stable =
      let made = exist netlist assumptions (changed_input (take netlist.inputs start) change) start cap circuit whole all stable (input-long netlist start change circuit stable) low high in
      (made.0, record { begins = made.1; given = made.2 }, made.3)

  -- so do changes one after the other
  pub edges-exist : (changes : List (List (ℕ × Bool))) (start : List Bool) → IsStableStart netlist start → (analyses : List EdgeAnalysis) × AreEdgeAnalyses netlist cap assumptions start changes analyses
  edges-exist [] start stable = ([], tt)
  edges-exist (change ∷ changes) start stable =
      let made = one-exists start change stable in
      elim (found-leads netlist cap assumptions start change made.0 circuit all stable made.1 made.2) [
        | inl next ↦ (
            let rest = edges-exist changes next.0 next.1.stable in
            (Found made.0 ∷ rest.0, (made.1, made.2, inl (next.0, next.1, rest.1)))
            )
        | inr last ↦ (Found made.0 ∷ all_unanalysed last.0 changes, (made.1, made.2, inr (last.0, last.1, refl)))
      ]

  -- and from where the changes so far lead
  pub later-exist : (later : List (List (ℕ × Bool))) (at : List Bool) (stopped : Option ℕ) → (stopped ≡ None → IsStableStart netlist at) → (more : List EdgeAnalysis) × AreLaterEdges netlist cap assumptions at stopped later more
  later-exist later at None stable = edges-exist later at (stable refl)
  later-exist later at (Some var) stable = (all_unanalysed var later, refl)
