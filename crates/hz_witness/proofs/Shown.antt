-- What was tried is a witness, if it shows the nodes and has settled; and what a settle run needs to be counted as one.
use Rattle.std.proofs.Common.{◌≡◌, ℕ, ◌<◌, Bool, List, [], ◌∷◌, ◌++◌, length, All, sym, ap, ◌∙◌, subst, arith}
use Rattle.std.proofs.lemmas.List.Elements.{All-nil, All-cons}
use Rattle.hz_lists.specs.Listed.{IsRepeatFree}
use Rattle.hz_lists.proofs.ListedLemmas.{All-each}
use Rattle.hz_core.specs.declared.tri.Tri.{Tri}
use Rattle.hz_core.specs.Ternary.{Refines}
use Rattle.hz_core.proofs.Refinements.{Refines-get_or}
use Rattle.hz_net.specs.Network.{Driver, bit_at, excitation}
use Rattle.hz_gmw.specs.Runs.{IsRun, end_of, state_after}
use Rattle.hz_reach.specs.Spread.{IsSparingRun, changes_in}
use Rattle.hz_witness.specs.Witness.{IsTried, DoNodesChange, AreSettled, ShowsNodes, IsWitness}
use Rattle.hz_witness.proofs.Tried.{changes-append}

pub tried-witness : (net : List Driver) (input start : List Bool) (a b : List Tri) (steps : List (List ℕ)) (state : List Bool) (counts : List ℕ) → length state ≡ length net → length b ≡ length net → IsTried net input start steps state counts → DoNodesChange net a counts → AreSettled net input b state → IsWitness net input start a b steps counts
tried-witness net input start a b steps state counts long long_b tried change settled =
    let last : state ≡ end_of start steps = sym tried.ends in
    let refines : Refines state b = Refines-get_or state b (long ∙ sym long_b) (λ i few. (settled i (omega (arith, few, long))).value) in
    record {
      run = tried.run;
      nodes = λ i few unknown node.
          let shown = change i few unknown node in
          let same = tried.counted i few in
          omega (arith, shown, same);
      values = subst (λ (s : List Bool). Refines s b) last refines;
      stable = λ i few known.
          subst (λ (s : List Bool). bit_at s i ≡ excitation net input s i) last ((settled i few).stable known);
      counted = tried.counted;
    }

-- the steps of a run change variables that are there, and each once
pub run-inside : (net : List Driver) (input state : List Bool) (steps : List (List ℕ)) → IsRun net input state steps → All (All (λ (var : ℕ). var < length net)) steps
run-inside net input state [] run = All-nil (All (λ (var : ℕ). var < length net))
run-inside net input state (flips ∷ steps) run =
    All-cons (All (λ (var : ℕ). var < length net)) flips steps (All-each (λ (var : ℕ). var < length net) flips (λ i listed. run.0.inside i listed))
    (run-inside net input (state_after flips state) steps run.1)

pub run-once : (net : List Driver) (input state : List Bool) (steps : List (List ℕ)) → IsRun net input state steps → All IsRepeatFree steps
run-once net input state [] run = All-nil IsRepeatFree
run-once net input state (flips ∷ steps) run = All-cons IsRepeatFree flips steps run.0.once (run-once net input (state_after flips state) steps run.1)

-- the spread run goes before the rest of the settle run
pub settle-nodes : (net : List Driver) (input start : List Bool) (a : List Tri) (ranks : List ℕ) (sparing made steps : List (List ℕ)) → IsSparingRun net input start a ranks sparing → steps ≡ sparing ++ made → ShowsNodes net a steps
settle-nodes net input start a ranks sparing made steps is same = λ i few unknown node.
    let once = is.nodes i unknown node in
    let sum = changes-append sparing made i in
    let whole = ap (λ (list : List (List ℕ)). changes_in list i) same in
    omega (arith, once, sum, whole)
