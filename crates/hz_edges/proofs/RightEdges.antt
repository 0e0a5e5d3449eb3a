-- Words that are inductive and a witness are right edges.
use Rattle.std.proofs.Common.{◌≡◌, ℕ, ◌<◌, Bool, List, length, get_or, Some, IfSome, Result, Ok, Err, OnOk, refl, ap, ◌∙◌, subst, arith}
use Rattle.std.proofs.lemmas.Option.{same_Some}
use Rattle.hz_core.specs.declared.memory.Memory.{Memory}
use Rattle.hz_core.specs.declared.tri.Tri.{Tri}
use Rattle.hz_core.specs.Netlist.{Netlist, IsCircuit, IsWhole}
use Rattle.hz_net.specs.Network.{Driver, network_of}
use Rattle.hz_net.specs.Starts.{IsStableStart}
use Rattle.hz_word.specs.declared.count.Count.{Count}
use Rattle.hz_word.specs.declared.count.Count.TheVariants.{Exact, Many}
use Rattle.hz_word.specs.Covers.{Bounds}
use Rattle.hz_free.specs.VariableWords.{variable_history}
use Rattle.hz_free.specs.Inductive.{told_at, AreFreeWords, IsInductive}
use Rattle.hz_free.proofs.Inductively.{inductive-covers}
use Rattle.hz_witness.specs.Witness.{IsWitness}
use Rattle.hz_bounds.specs.Ranges.{bound_of, IsMostChanges}
use Rattle.hz_bounds.specs.Telling.{AreStill}
use Rattle.hz_bounds.proofs.Meeting.{exact-met}
use Rattle.hz_edges.specs.Edges.{EdgesOf, AreEdgesOfChange, ChangesAtMost}

module _ (netlist : Netlist) (cap : ℕ) (input start : List Bool) (a b : List Tri) (edges : EdgesOf) (circuit : IsCircuit netlist) (whole : IsWhole netlist) (begins : IsStableStart netlist start) (inductive : IsInductive (network_of netlist) input start cap edges.told) (witness : IsWitness (network_of netlist) input start a b edges.steps edges.counts) where
  abbrev net : List Driver
  net = network_of netlist

  bounded : (i : ℕ) → i < length net → (count : Count) → (told_at edges.told i).changes ≡ count → IfSome (bound_of count) (ChangesAtMost net input start i)
  bounded i few (Exact most) same =
      λ steps run. subst (λ (count : Count). Bounds count (variable_history start steps i)) same
      (inductive-covers netlist circuit whole input start begins cap edges.told inductive steps run i few).bounded
  bounded i few Many same = tt

  met : (i : ℕ) → i < length net → (count : Count) → (told_at edges.told i).changes ≡ count → bound_of count ≡ Some (get_or edges.counts i 0) → IsMostChanges net input start i (get_or edges.counts i 0)
  met i few (Exact most) same is =
      let equal : most ≡ get_or edges.counts i 0 = same_Some most (get_or edges.counts i 0) is in
      exact-met netlist input start a b cap edges.told edges.steps edges.counts i (get_or edges.counts i 0) circuit whole begins inductive witness few
      (same ∙ ap Exact equal) (omega arith)
  met i few Many same is = absurd cc

  pub right-edges : AreFreeWords net input start cap edges.told → AreStill net start a edges.told → AreEdgesOfChange net cap input start a b edges
  right-edges free still = record {
    bound = λ i few. bounded i few (told_at edges.told i).changes refl;
    exact = λ i few is. met i few (told_at edges.told i).changes refl is;
    witness = witness;
    free = free;
    still = still;
  }

-- where a call went well, all that it promises of that holds
pub ok-all : {P Q R S T : Type 0} (result : Result (Unit {0}) Memory) → OnOk result P → OnOk result Q → OnOk result R → OnOk result S → (P → Q → R → S → T) → OnOk result T
ok-all (Ok _) p q r s all = all p q r s
ok-all (Err _) p q r s all = tt
