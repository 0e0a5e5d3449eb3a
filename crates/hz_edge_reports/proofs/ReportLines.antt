-- The lines of changes and of parts, one after the other.
use Rattle.std.proofs.Common.{◌≡◌, ◌∙◌, ℕ, suc, ◌+◌, Bool, List, [], ◌∷◌, ◌++◌, length, sum_by, sym, ap, append_assoc, append-nil, arith}
use Rattle.hz_edge_reports.proofs.Words.{Netlist, start_line, ScriptOf, Assumption, EdgeAnalysis, edge_changes_text, parts_text}
use Rattle.std.proofs.lemmas.List.Sums.{sum_by-cons}
use Rattle.hz_options.specs.declared.show.Show.{Show}
use Rattle.hz_edge_reports.specs.EdgeText.{edge_change_text}

-- how many changes a part has
abbrev pub changes_of : ScriptOf → ℕ
changes_of part = length part.changes

module _ (netlist : Netlist) (show : Show) (assumptions : List Assumption) where
  -- the lines of further analyses come behind those before them
  pub text-append : (number : ℕ) (changes : List (List (ℕ × Bool))) (analyses : List EdgeAnalysis) (later : List (List (ℕ × Bool))) (more : List EdgeAnalysis) → length analyses ≡ length changes
      → edge_changes_text netlist show assumptions number changes analyses ++ edge_changes_text netlist show assumptions (number + length changes) later more
      ≡ edge_changes_text netlist show assumptions number (changes ++ later) (analyses ++ more)
  text-append number [] [] later more same =
      let at : number + 0 ≡ number = omega arith in
      ap (λ (n : ℕ). edge_changes_text netlist show assumptions n later more) at
  text-append number [] (first ∷ analyses) later more same = absurd (omega (arith, same))
  text-append number (first ∷ changes) [] later more same = absurd (omega (arith, same))
  text-append number (first ∷ changes) (one ∷ analyses) later more same =
      let at : number + suc (length changes) ≡ number + 1 + length changes = omega arith in
      append_assoc (edge_change_text netlist show assumptions number first one) (edge_changes_text netlist show assumptions (number + 1) changes analyses)
      (edge_changes_text netlist show assumptions (number + suc (length changes)) later more)
      ∙ ap (λ (n : ℕ). edge_change_text netlist show assumptions number first one ++ (edge_changes_text netlist show assumptions (number + 1) changes analyses ++ edge_changes_text netlist show assumptions n later more)) at
      ∙ ap (λ (rest : List ℕ). edge_change_text netlist show assumptions number first one ++ rest) (text-append (number + 1) changes analyses later more (omega (arith, same)))

  -- and so do those of one more
  pub text-more : (number : ℕ) (changes : List (List (ℕ × Bool))) (analyses : List EdgeAnalysis) (change : List (ℕ × Bool)) (one : EdgeAnalysis) → length analyses ≡ length changes
      → edge_changes_text netlist show assumptions number changes analyses ++ edge_change_text netlist show assumptions (number + length changes) change one
      ≡ edge_changes_text netlist show assumptions number (changes ++ change ∷ []) (analyses ++ one ∷ [])
  text-more number changes analyses change one same =
      ap (λ (text : List ℕ). edge_changes_text netlist show assumptions number changes analyses ++ text) (sym (append-nil (edge_change_text netlist show assumptions (number + length changes) change one)))
      ∙ text-append number changes analyses (change ∷ []) (one ∷ []) same

  -- the lines of further parts come behind those before them
  pub parts-append : (number : ℕ) (starts : List (List Bool)) (parts : List ScriptOf) (all : List (List EdgeAnalysis)) (later_starts : List (List Bool)) (later : List ScriptOf) (more : List (List EdgeAnalysis))
      → length starts ≡ length parts → length all ≡ length parts
      → parts_text netlist show assumptions number starts parts all ++ parts_text netlist show assumptions (number + sum_by changes_of parts) later_starts later more
      ≡ parts_text netlist show assumptions number (starts ++ later_starts) (parts ++ later) (all ++ more)
  parts-append number [] [] [] later_starts later more same_starts same =
      let at : number + sum_by changes_of [] ≡ number = omega arith in
      ap (λ (n : ℕ). parts_text netlist show assumptions n later_starts later more) at
  parts-append number [] [] (analyses ∷ all) later_starts later more same_starts same = absurd (omega (arith, same))
  parts-append number [] (part ∷ parts) all later_starts later more same_starts same = absurd (omega (arith, same_starts))
  parts-append number (start ∷ starts) [] all later_starts later more same_starts same = absurd (omega (arith, same_starts))
  parts-append number (start ∷ starts) (part ∷ parts) [] later_starts later more same_starts same = absurd (omega (arith, same))
  parts-append number (start ∷ starts) (part ∷ parts) (analyses ∷ all) later_starts later more same_starts same =
      let head : List ℕ = start_line netlist start ++ edge_changes_text netlist show assumptions number part.changes analyses in
      let next : ℕ = number + length part.changes in
      let at : number + sum_by changes_of (part ∷ parts) ≡ next + sum_by changes_of parts = omega (arith, sum_by-cons changes_of part parts) in
      append_assoc head (parts_text netlist show assumptions next starts parts all) (parts_text netlist show assumptions (number + sum_by changes_of (part ∷ parts)) later_starts later more)
      ∙ ap (λ (n : ℕ). head ++ (parts_text netlist show assumptions next starts parts all ++ parts_text netlist show assumptions n later_starts later more)) at
      ∙ ap (λ (rest : List ℕ). head ++ rest) (parts-append next starts parts all later_starts later more (omega (arith, same_starts)) (omega (arith, same)))

  -- and so do those of one more
  pub parts-more : (number : ℕ) (starts : List (List Bool)) (parts : List ScriptOf) (all : List (List EdgeAnalysis)) (start : List Bool) (part : ScriptOf) (analyses : List EdgeAnalysis)
      → length starts ≡ length parts → length all ≡ length parts
      → parts_text netlist show assumptions number starts parts all ++ (start_line netlist start ++ edge_changes_text netlist show assumptions (number + sum_by changes_of parts) part.changes analyses)
      ≡ parts_text netlist show assumptions number (starts ++ start ∷ []) (parts ++ part ∷ []) (all ++ analyses ∷ [])
  parts-more number starts parts all start part analyses same_starts same =
      let here : List ℕ = start_line netlist start ++ edge_changes_text netlist show assumptions (number + sum_by changes_of parts) part.changes analyses in
      ap (λ (text : List ℕ). parts_text netlist show assumptions number starts parts all ++ text) (sym (append-nil here))
      ∙ parts-append number starts parts all (start ∷ []) (part ∷ []) (analyses ∷ []) same_starts same
