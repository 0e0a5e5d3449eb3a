-- The analyses of the changes so far, for a loop that makes one change after the other.
use Rattle.std.proofs.Common.{◌≡◌, ℕ, Bool, List, [], ◌∷◌, ◌++◌, length, take, set, Option, Some, None, refl, sym, ap, ◌∙◌, subst, append_assoc, append-nil, arith, inl, inr}
use Rattle.std.proofs.lemmas.List.{length-set, length-take-le}
use Rattle.hz_core.specs.Netlist.{Netlist, IsCircuit}
use Rattle.hz_net.proofs.Places.{length-network_of}
use Rattle.hz_net.specs.Starts.{IsStableStart}
use Rattle.hz_desk.specs.Finding.{FindingOf}
use Rattle.hz_seq.specs.Sequence.{SequenceState, changed_input, IsFindingOfChange, IsLeftBy}
use Rattle.hz_seq.specs.Analyses.{Analysis, Found, Stopped, AreAnalyses, all_stopped}
use Rattle.hz_seq.proofs.NextStart.{next-start}

-- What changes come to from where a sequence stands: they are analysed from its start, or they are all stopped.
abbrev pub AreLaterAnalyses : Netlist → ℕ → List Bool → Option ℕ → List (List (ℕ × Bool)) → List Analysis → Type 0
AreLaterAnalyses netlist cap start None changes analyses = AreAnalyses netlist cap start changes analyses
AreLaterAnalyses netlist cap start (Some var) changes analyses = analyses ≡ all_stopped var changes

-- From a start, these are the analyses of these changes, and the sequence stands here after them. With what any further changes
-- come to from here, they are the analyses of all.
pub record AreFirstAnalyses (netlist : Netlist) (cap : ℕ) (start : List Bool) (changes : List (List (ℕ × Bool))) (analyses : List Analysis) (now : SequenceState) : Type 0 where
  pub same : now.desk.netlist ≡ netlist
  pub stable : now.stopped ≡ None → IsStableStart netlist now.start
  pub with_later : (later : List (List (ℕ × Bool))) (more : List Analysis) → AreLaterAnalyses netlist cap now.start now.stopped later more → AreAnalyses netlist cap start (changes ++ later) (analyses ++ more)

-- before the first change
pub no-changes : (netlist : Netlist) (cap : ℕ) (now : SequenceState) → now.desk.netlist ≡ netlist → now.stopped ≡ None → IsStableStart netlist now.start → AreFirstAnalyses netlist cap now.start [] [] now
no-changes netlist cap now same going stable =
    record {
      same = same;
      stable = λ none. stable;
      with_later = λ later more are. subst (λ (stopped : Option ℕ). AreLaterAnalyses netlist cap now.start stopped later more) going are;
    }

-- the new input has as many bits as the present one
pub length-changed_input : (input : List Bool) (change : List (ℕ × Bool)) → length (changed_input input change) ≡ length input
length-changed_input input [] = refl
length-changed_input input (assignment ∷ change) =
    length-changed_input (set input assignment.0 assignment.1) change ∙ length-set input assignment.0 assignment.1

-- so it is an input of the circuit, from a stable start
pub input-long : (netlist : Netlist) (start : List Bool) (change : List (ℕ × Bool)) → IsCircuit netlist → IsStableStart netlist start → length (changed_input (take netlist.inputs start) change) ≡ netlist.inputs
input-long netlist start change circuit stable =
    length-changed_input (take netlist.inputs start) change
    ∙ length-take-le netlist.inputs start (omega (arith, stable.long, length-network_of netlist circuit, circuit.nodes))

module _ (netlist : Netlist) (cap : ℕ) (start : List Bool) (changes : List (List (ℕ × Bool))) (analyses : List Analysis) (was : SequenceState) (first : AreFirstAnalyses netlist cap start changes analyses was) (change : List (ℕ × Bool)) where
  -- one change more, at the end of both lists
  at-end : (analysis : Analysis) (later : List (List (ℕ × Bool))) (more : List Analysis) → AreLaterAnalyses netlist cap was.start was.stopped (change ∷ later) (analysis ∷ more) → AreAnalyses netlist cap start ((changes ++ change ∷ []) ++ later) ((analyses ++ analysis ∷ []) ++ more)
  at-end analysis later more are =
      subst (λ (list : List (List (ℕ × Bool))). AreAnalyses netlist cap start list ((analyses ++ analysis ∷ []) ++ more)) (sym (append_assoc changes (change ∷ []) later))
      (subst (λ (list : List Analysis). AreAnalyses netlist cap start (changes ++ change ∷ later) list) (sym (append_assoc analyses (analysis ∷ []) more))
      (first.with_later (change ∷ later) (analysis ∷ more) are))

  -- a change that was made
  pub one-found : (finding : FindingOf) (now : SequenceState) → IsCircuit netlist → was.stopped ≡ None → IsFindingOfChange was.desk.netlist cap was.start change finding → IsLeftBy finding was now → AreFirstAnalyses netlist cap start (changes ++ change ∷ []) (analyses ++ Found finding ∷ []) now
  one-found finding now circuit going found left =
      let right : IsFindingOfChange netlist cap was.start change finding =
      subst (λ (n : Netlist). IsFindingOfChange n cap was.start change finding) first.same found in
      record {
        same = left.0 ∙ first.same;
        stable = λ none. elim left.2 [
          | inl settled ↦ next-start netlist (changed_input (take netlist.inputs was.start) change) was.start now.start cap finding circuit
              (input-long netlist was.start change circuit (first.stable going)) right settled.1
          | inr unsettled ↦ absurd cc
        ];
        with_later = λ later more are.
            at-end (Found finding) later more
            (subst (λ (stopped : Option ℕ). AreLaterAnalyses netlist cap was.start stopped (change ∷ later) (Found finding ∷ more)) (sym going) (
              right,
              elim left.2 [
                | inl settled ↦ inl (now.start, settled.1, subst (λ (stopped : Option ℕ). AreLaterAnalyses netlist cap now.start stopped later more) settled.0 are)
                | inr unsettled ↦ inr (unsettled.0, unsettled.2, subst (λ (stopped : Option ℕ). AreLaterAnalyses netlist cap now.start stopped later more) unsettled.1 are)
              ],
            ));
      }

  -- a change that was not made
  pub one-stopped : (var : ℕ) (now : SequenceState) → was.stopped ≡ Some var → now ≡ was → AreFirstAnalyses netlist cap start (changes ++ change ∷ []) (analyses ++ Stopped var ∷ []) now
  one-stopped var now stopped stays =
      subst (AreFirstAnalyses netlist cap start (changes ++ change ∷ []) (analyses ++ Stopped var ∷ [])) (sym stays)
      (record {
        same = first.same;
        stable = first.stable;
        with_later = λ later more are.
            at-end (Stopped var) later more
            (subst (λ (s : Option ℕ). AreLaterAnalyses netlist cap was.start s (change ∷ later) (Stopped var ∷ more)) (sym stopped)
            (ap (λ (list : List Analysis). Stopped var ∷ list) (subst (λ (s : Option ℕ). AreLaterAnalyses netlist cap was.start s later more) stopped are)));
      })

no-later : (netlist : Netlist) (cap : ℕ) (start : List Bool) (stopped : Option ℕ) → AreLaterAnalyses netlist cap start stopped [] []
no-later netlist cap start None = tt
no-later netlist cap start (Some var) = refl

-- after the last change they are the analyses of all
pub all-analyses : (netlist : Netlist) (cap : ℕ) (start : List Bool) (changes : List (List (ℕ × Bool))) (analyses : List Analysis) (now : SequenceState) → AreFirstAnalyses netlist cap start changes analyses now → AreAnalyses netlist cap start changes analyses
all-analyses netlist cap start changes analyses now first =
    subst (λ (list : List (List (ℕ × Bool))). AreAnalyses netlist cap start list analyses) (append-nil changes)
    (subst (λ (list : List Analysis). AreAnalyses netlist cap start (changes ++ []) list) (append-nil analyses)
    (first.with_later [] [] (no-later netlist cap now.start now.stopped)))
