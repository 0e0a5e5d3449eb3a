-- The lines of one analysis more.
use Rattle.std.proofs.Common.{◌≡◌, ◌∙◌, ℕ, suc, ◌+◌, Bool, List, [], ◌∷◌, ◌++◌, length, sym, ap, append_assoc, append-nil, arith}
use Rattle.hz_changes.proofs.Words.{Netlist, Analysis, analyses_text}
use Rattle.hz_options.specs.declared.show.Show.{Show}
use Rattle.hz_changes.specs.Reports.{analysis_text}

-- they come behind those of the analyses before it
pub text-more : (netlist : Netlist) (show : Show) (number : ℕ) (changes : List (List (ℕ × Bool))) (analyses : List Analysis) (change : List (ℕ × Bool)) (analysis : Analysis) → length analyses ≡ length changes
    → analyses_text netlist show number changes analyses ++ analysis_text netlist show (number + length changes) change analysis ≡ analyses_text netlist show number (changes ++ change ∷ []) (analyses ++ analysis ∷ [])
text-more netlist show number [] [] change analysis same =
    let at : number + 0 ≡ number = omega arith in
    ap (λ n. analysis_text netlist show n change analysis) at ∙ sym (append-nil (analysis_text netlist show number change analysis))
text-more netlist show number [] (first ∷ analyses) change analysis same = absurd (omega (arith, same))
text-more netlist show number (first ∷ changes) [] change analysis same = absurd (omega (arith, same))
text-more netlist show number (first ∷ changes) (one ∷ analyses) change analysis same =
    let at : number + suc (length changes) ≡ number + 1 + length changes = omega arith in
    append_assoc (analysis_text netlist show number first one) (analyses_text netlist show (number + 1) changes analyses) (analysis_text netlist show (number + suc (length changes)) change analysis)
    ∙ ap (λ n. analysis_text netlist show number first one ++ (analyses_text netlist show (number + 1) changes analyses ++ analysis_text netlist show n change analysis)) at
    ∙ ap (λ rest. analysis_text netlist show number first one ++ rest) (text-more netlist show (number + 1) changes analyses change analysis (omega (arith, same)))

-- the lines of further analyses come behind those before them
pub text-append : (netlist : Netlist) (show : Show) (number : ℕ) (changes : List (List (ℕ × Bool))) (analyses : List Analysis) (later : List (List (ℕ × Bool))) (more : List Analysis) → length analyses ≡ length changes
    → analyses_text netlist show number changes analyses ++ analyses_text netlist show (number + length changes) later more ≡ analyses_text netlist show number (changes ++ later) (analyses ++ more)
text-append netlist show number [] [] later more same =
    let at : number + 0 ≡ number = omega arith in
    ap (λ n. analyses_text netlist show n later more) at
text-append netlist show number [] (first ∷ analyses) later more same = absurd (omega (arith, same))
text-append netlist show number (first ∷ changes) [] later more same = absurd (omega (arith, same))
text-append netlist show number (first ∷ changes) (one ∷ analyses) later more same =
    let at : number + suc (length changes) ≡ number + 1 + length changes = omega arith in
    append_assoc (analysis_text netlist show number first one) (analyses_text netlist show (number + 1) changes analyses) (analyses_text netlist show (number + suc (length changes)) later more)
    ∙ ap (λ n. analysis_text netlist show number first one ++ (analyses_text netlist show (number + 1) changes analyses ++ analyses_text netlist show n later more)) at
    ∙ ap (λ rest. analysis_text netlist show number first one ++ rest) (text-append netlist show (number + 1) changes analyses later more (omega (arith, same)))
