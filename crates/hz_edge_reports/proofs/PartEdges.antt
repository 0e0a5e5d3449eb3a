-- The parts so far, and what the parts that are left come to.
use Rattle.std.proofs.Common.{◌≡◌, ℕ, zero, suc, ◌<◌, ◌≤◌, Bool, List, [], ◌∷◌, ◌++◌, length, drop, get_or, slice_get, All, Some, refl, ap, subst, arith}
use Rattle.hz_edge_reports.proofs.Words.{get_or_from_slice_get, Netlist, IsCircuit, IsWhole, IsStableStart, greatest_cap, ScriptOf, Assumption, IsAssumptionOf, AreAcceptedStarts}
use Rattle.hz_edge_reports.proofs.Words.{ChangesExist, EdgeAnalysis, ArePartAnalyses}
use Rattle.hz_net.specs.Starts.{IsAcceptedStart}
use Rattle.hz_script.specs.ScriptText.{IsScriptFor}
use Rattle.hz_edge_reports.proofs.FirstEdges.{edges-exist}

-- changes may start at an accepted start
pub accepted-stable : (netlist : Netlist) (part : ScriptOf) (start : List Bool) → IsAcceptedStart netlist part.start start → IsStableStart netlist start
accepted-stable netlist part start accepted = record { long = accepted.completed.long; stable = accepted.stable }

-- each part is one of the circuit
pub part-fits : (netlist : Netlist) (parts : List ScriptOf) (place : ℕ) (part : ScriptOf) → All (IsScriptFor netlist) parts → place < length parts → slice_get parts place ≡ Some part → IsScriptFor netlist part
part-fits netlist parts place part all few there = subst (IsScriptFor netlist) (get_or_from_slice_get parts place part part there) (all place part few)

module _ (netlist : Netlist) where
  -- there is a start for each part
  pub accepted-long : (parts : List ScriptOf) (starts : List (List Bool)) → AreAcceptedStarts netlist parts starts → length starts ≡ length parts
  accepted-long [] [] are = refl
  accepted-long [] (start ∷ starts) are = absurd are
  accepted-long (part ∷ parts) [] are = absurd are
  accepted-long (part ∷ parts) (start ∷ starts) are = ap suc (accepted-long parts starts are.1)

  pub accepted-append : (parts : List ScriptOf) (starts : List (List Bool)) (later : List ScriptOf) (more : List (List Bool)) → AreAcceptedStarts netlist parts starts → AreAcceptedStarts netlist later more → AreAcceptedStarts netlist (parts ++ later) (starts ++ more)
  accepted-append [] [] later more are rest = rest
  accepted-append [] (start ∷ starts) later more are rest = absurd are
  accepted-append (part ∷ parts) [] later more are rest = absurd are
  accepted-append (part ∷ parts) (start ∷ starts) later more are rest = (are.0, accepted-append parts starts later more are.1 rest)

  -- those of the parts from one on
  pub accepted-drop : (n : ℕ) (parts : List ScriptOf) (starts : List (List Bool)) → AreAcceptedStarts netlist parts starts → AreAcceptedStarts netlist (drop n parts) (drop n starts)
  accepted-drop zero parts starts are = are
  accepted-drop (suc n) [] [] are = tt
  accepted-drop (suc n) [] (start ∷ starts) are = absurd are
  accepted-drop (suc n) (part ∷ parts) [] are = absurd are
  accepted-drop (suc n) (part ∷ parts) (start ∷ starts) are = accepted-drop n parts starts are.1

  -- that of one part
  pub accepted-at : (parts : List ScriptOf) (starts : List (List Bool)) (i : ℕ) (part : ScriptOf) → AreAcceptedStarts netlist parts starts → i < length parts → (start : List Bool) × IsAcceptedStart netlist (get_or parts i part).start start
  accepted-at [] starts i other are few = absurd (omega (arith, few))
  accepted-at (part ∷ parts) [] i other are few = absurd are
  accepted-at (part ∷ parts) (start ∷ starts) zero other are few = (start, are.0)
  accepted-at (part ∷ parts) (start ∷ starts) (suc i) other are few = accepted-at parts starts i other are.1 (omega (arith, few))

module _ (netlist : Netlist) (cap : ℕ) (assumptions : List Assumption) where
  -- there are analyses of each part
  pub parts-long : (starts : List (List Bool)) (parts : List ScriptOf) (all : List (List EdgeAnalysis)) → ArePartAnalyses netlist cap assumptions starts parts all → length all ≡ length parts
  parts-long [] [] [] are = refl
  parts-long [] [] (analyses ∷ all) are = absurd are
  parts-long [] (part ∷ parts) all are = absurd are
  parts-long (start ∷ starts) [] all are = absurd are
  parts-long (start ∷ starts) (part ∷ parts) [] are = absurd are
  parts-long (start ∷ starts) (part ∷ parts) (analyses ∷ all) are = ap suc (parts-long starts parts all are.1)

  pub part-edges-append : (starts : List (List Bool)) (parts : List ScriptOf) (all : List (List EdgeAnalysis)) (later_starts : List (List Bool)) (later : List ScriptOf) (more : List (List EdgeAnalysis)) →
      ArePartAnalyses netlist cap assumptions starts parts all → ArePartAnalyses netlist cap assumptions later_starts later more → ArePartAnalyses netlist cap assumptions (starts ++ later_starts) (parts ++ later) (all ++ more)
  part-edges-append [] [] [] later_starts later more are rest = rest
  part-edges-append [] [] (analyses ∷ all) later_starts later more are rest = absurd are
  part-edges-append [] (part ∷ parts) all later_starts later more are rest = absurd are
  part-edges-append (start ∷ starts) [] all later_starts later more are rest = absurd are
  part-edges-append (start ∷ starts) (part ∷ parts) [] later_starts later more are rest = absurd are
  part-edges-append (start ∷ starts) (part ∷ parts) (analyses ∷ all) later_starts later more are rest = (are.0, part-edges-append starts parts all later_starts later more are.1 rest)

-- every part comes to something
pub part-edges-exist : ChangesExist → (netlist : Netlist) (cap : ℕ) (assumptions : List Assumption) → IsCircuit netlist → IsWhole netlist → All (IsAssumptionOf netlist) assumptions → 1 ≤ cap → cap ≤ greatest_cap →
    (parts : List ScriptOf) (starts : List (List Bool)) → AreAcceptedStarts netlist parts starts → (all : List (List EdgeAnalysis)) × ArePartAnalyses netlist cap assumptions starts parts all
part-edges-exist exist netlist cap assumptions circuit whole all low high [] [] are = ([], tt)
part-edges-exist exist netlist cap assumptions circuit whole all low high [] (start ∷ starts) are = absurd are
part-edges-exist exist netlist cap assumptions circuit whole all low high (part ∷ parts) [] are = absurd are
part-edges-exist exist netlist cap assumptions circuit whole all low high (part ∷ parts) (start ∷ starts) are =
    let here = edges-exist exist netlist cap assumptions circuit whole all low high part.changes start (accepted-stable netlist part start are.0) in
    let rest = part-edges-exist exist netlist cap assumptions circuit whole all low high parts starts are.1 in
    (here.0 ∷ rest.0, (here.1, rest.1))
