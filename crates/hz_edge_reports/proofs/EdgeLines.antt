-- The lines of variables, line by line.
use Rattle.std.proofs.Common.{◌≡◌, ◌∙◌, sym, ap, ℕ, ◌+◌, ◌<◌, Bool, List, [], ◌∷◌, ◌++◌, length, take, suc, get_or, arith, append_assoc}
use Rattle.hz_edge_reports.proofs.Words.{append-nil, length-take-le, Tri, Netlist, EdgesOf}
use Rattle.std.proofs.lemmas.List.{take_more}
use Rattle.hz_edges.specs.Edges.{range_at}
use Rattle.hz_edge_reports.specs.EdgeText.{edge_line, edge_lines}

abbrev line_at : Netlist → EdgesOf → ℕ → Bool → Tri → List ℕ
line_at netlist edges var bit end = edge_line netlist var bit end (range_at edges var)

lines-append : (netlist : Netlist) (edges : EdgesOf) (var : ℕ) (start : List Bool) (ends : List Tri) (bit : Bool) (end : Tri) → length start ≡ length ends
    → edge_lines netlist var (start ++ bit ∷ []) (ends ++ end ∷ []) edges ≡ edge_lines netlist var start ends edges ++ line_at netlist edges (var + length start) bit end
lines-append netlist edges var [] [] bit end same =
    let here : var ≡ var + 0 = omega arith in
    append-nil (line_at netlist edges var bit end) ∙ ap (λ (n : ℕ). line_at netlist edges n bit end) here
lines-append netlist edges var [] (other ∷ ends) bit end same = absurd (omega (arith, same))
lines-append netlist edges var (first ∷ start) [] bit end same = absurd (omega (arith, same))
lines-append netlist edges var (first ∷ start) (other ∷ ends) bit end same =
    let here : (var + 1) + length start ≡ var + suc (length start) = omega arith in
    ap (λ (rest : List ℕ). line_at netlist edges var first other ++ rest) (lines-append netlist edges (var + 1) start ends bit end (omega (arith, same)))
    ∙ sym (append_assoc (line_at netlist edges var first other) (edge_lines netlist (var + 1) start ends edges) (line_at netlist edges ((var + 1) + length start) bit end))
    ∙ ap (λ (n : ℕ). (line_at netlist edges var first other ++ edge_lines netlist (var + 1) start ends edges) ++ line_at netlist edges n bit end) here

-- one line more
pub lines_more : (netlist : Netlist) (edges : EdgesOf) (start : List Bool) (ends : List Tri) (i : ℕ) (bit : Bool) (end : Tri) → i < length start → i < length ends → bit ≡ get_or start i bit → end ≡ get_or ends i end
    → edge_lines netlist 0 (take (i + 1) start) (take (i + 1) ends) edges
    ≡ edge_lines netlist 0 (take i start) (take i ends) edges ++ edge_line netlist i bit end (range_at edges i)
lines_more netlist edges start ends i bit end few_bits few_ends bit_is end_is =
    let long : length (take i start) ≡ i = length-take-le i start (omega (arith, few_bits)) in
    let same : length (take i start) ≡ length (take i ends) = long ∙ sym (length-take-le i ends (omega (arith, few_ends))) in
    let number : 0 + length (take i start) ≡ i = omega (arith, long) in
    ap (λ (list : List Bool). edge_lines netlist 0 list (take (i + 1) ends) edges) (take_more start i bit few_bits ∙ ap (λ (last : Bool). take i start ++ last ∷ []) (sym bit_is))
    ∙ ap (λ (list : List Tri). edge_lines netlist 0 (take i start ++ bit ∷ []) list edges) (take_more ends i end few_ends ∙ ap (λ (last : Tri). take i ends ++ last ∷ []) (sym end_is))
    ∙ lines-append netlist edges 0 (take i start) (take i ends) bit end same
    ∙ ap (λ (n : ℕ). edge_lines netlist 0 (take i start) (take i ends) edges ++ line_at netlist edges n bit end) number
