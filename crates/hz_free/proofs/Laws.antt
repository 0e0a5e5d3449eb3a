-- The laws that callers of this crate use.
use Rattle.std.proofs.Common.{◌≡◌, ◌↔◌, ℕ, ◌<◌, ◌≤◌, Bool, List, [], length, get_or, sym, subst}
use Rattle.hz_core.specs.declared.tri.Tri.{Tri}
use Rattle.hz_core.specs.declared.tri.Tri.TheVariants.{Unknown}
use Rattle.hz_core.specs.Ternary.{tri_of}
use Rattle.hz_core.specs.Netlist.{Netlist, IsCircuit, IsWhole}
use Rattle.hz_net.specs.Network.{network_of, bit_at, value_at}
use Rattle.hz_net.specs.Passes.{algorithm_a, algorithm_b, IsResult}
use Rattle.hz_net.specs.Starts.{IsStableStart}
use Rattle.hz_gmw.specs.Runs.{IsRun}
use Rattle.hz_word.specs.Word.{first_letter, last_letter, change_count}
use Rattle.hz_word.specs.Capped.{capped_word}
use Rattle.hz_word.specs.Covers.{Covers}
use Rattle.hz_free.specs.Chains.{IsFeedbackFree}
use Rattle.hz_free.specs.VariableWords.{AreVariableWords, variable_history}
use Rattle.hz_free.proofs.Covered.{free-followed}
use Rattle.hz_free.proofs.Enough.{free-covered}
use Rattle.hz_free.proofs.Agreement.{IsFixed, fixed-result, free-ends}
use Rattle.hz_free.proofs.Changing.{change-unknown}

pub covered : (netlist : Netlist) (input start : List Bool) (words : List (List Bool)) (cap i : ℕ) (steps : List (List ℕ)) → IsCircuit netlist → IsWhole netlist → IsStableStart netlist start → AreVariableWords (network_of netlist) input start words → i < length (network_of netlist) → IsFeedbackFree (network_of netlist) i → IsRun (network_of netlist) input start steps → Covers (capped_word cap (get_or words i [])) (variable_history start steps i)
covered netlist input start words cap i steps circuit netlist_whole begins are few free run =
    free-covered netlist circuit netlist_whole input start begins words are cap i steps few free run

pub begun : (netlist : Netlist) (input start : List Bool) (words : List (List Bool)) (i : ℕ) → IsCircuit netlist → IsWhole netlist → IsStableStart netlist start → AreVariableWords (network_of netlist) input start words → i < length (network_of netlist) → IsFeedbackFree (network_of netlist) i → first_letter (get_or words i []) ≡ bit_at start i
begun netlist input start words i circuit netlist_whole begins are few free =
    (free-followed netlist circuit input start begins.long begins.stable words are netlist_whole i few free).first

pub ended : (netlist : Netlist) (input start : List Bool) (words : List (List Bool)) (first result : List Tri) (i : ℕ) → IsCircuit netlist → AreVariableWords (network_of netlist) input start words → length first ≡ length (network_of netlist) → IsResult (algorithm_b (network_of netlist) input first) result → i < length (network_of netlist) → IsFeedbackFree (network_of netlist) i → value_at result i ≡ tri_of (last_letter (get_or words i []))
ended netlist input start words first result i circuit are long (rounds, are_rounds, same) few free =
    free-ends netlist circuit input start words are result
    (subst (IsFixed (network_of netlist) input) (sym same) (fixed-result (network_of netlist) input first rounds long are_rounds)) i few free

pub changing : (netlist : Netlist) (input start : List Bool) (words : List (List Bool)) (result : List Tri) (i : ℕ) → IsCircuit netlist → IsWhole netlist → IsStableStart netlist start → AreVariableWords (network_of netlist) input start words → IsResult (algorithm_a (network_of netlist) input start) result → i < length (network_of netlist) → IsFeedbackFree (network_of netlist) i → (1 ≤ change_count (get_or words i [])) ↔ (value_at result i ≡ Unknown)
changing netlist input start words result i circuit netlist_whole begins are (rounds, are_rounds, same) few free =
    subst (λ (values : List Tri). (1 ≤ change_count (get_or words i [])) ↔ (value_at values i ≡ Unknown)) (sym same)
    (change-unknown netlist circuit netlist_whole input start begins.long begins.stable words are rounds are_rounds i few free)
