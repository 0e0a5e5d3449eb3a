-- The lines of rows, row by row, and which rows are shown.
use Rattle.std.proofs.Common.{◌≡◌, ◌∙◌, refl, sym, ap, ℕ, ◌+◌, ◌≤◌, List, [], ◌∷◌, ◌++◌, length, take, suc, get_or, slice_get, Some, arith, append_assoc, codes}
use Rattle.std.proofs.lemmas.List.{append-nil, take_more, length-take-le}
use Rattle.std.proofs.lemmas.Option.{get_or_from_slice_get, slice_get_within}
use Rattle.std.proofs.Math.Seq.{take-length}
use Rattle.hz_core.specs.Netlist.{Netlist, IsCircuit}
use Rattle.hz_net.specs.Network.{network_of}
use Rattle.hz_net.proofs.Places.{length-network_of}
use Rattle.hz_desk.specs.declared.finding.Row.{Row}
use Rattle.hz_options.specs.declared.show.Show.{Show}
use Rattle.hz_options.specs.declared.show.Show.TheVariants.{Nodes, All}
use Rattle.hz_report.specs.Report.{row_line, row_lines, shown_count, shown_rows}

-- six lists, grouped in pairs or one after the other
grouped : (s t u v w x : List ℕ) → (s ++ (t ++ u)) ++ ((v ++ w) ++ x) ≡ ((((s ++ t) ++ u) ++ v) ++ w) ++ x
grouped s t u v w x = simp append_assoc

-- the pieces of what stands after the variable
pub row-pieces : (start : ℕ) (a b changes class : List ℕ)
    → (((codes " start " ++ start ∷ []) ++ (codes " A " ++ a) ++ (codes " B " ++ b ++ codes " changes ")) ++ changes) ++ (32 ∷ class)
    ≡ codes " start " ++ (start ∷ []) ++ codes " A " ++ a ++ codes " B " ++ b ++ codes " changes " ++ changes ++ 32 ∷ class
row-pieces start a b changes class =
    ap (λ (front : List ℕ). (front ++ changes) ++ (32 ∷ class)) (grouped (codes " start " ++ start ∷ []) (codes " A ") a (codes " B ") b (codes " changes "))

row_lines-append : (netlist : Netlist) (var : ℕ) (rows : List Row) (row : Row) → row_lines netlist var (rows ++ row ∷ []) ≡ row_lines netlist var rows ++ row_line netlist (var + length rows) row
row_lines-append netlist var [] row =
    let here : var ≡ var + 0 = omega arith in
    append-nil (row_line netlist var row) ∙ ap (λ (n : ℕ). row_line netlist n row) here
row_lines-append netlist var (first ∷ rows) row =
    let here : (var + 1) + length rows ≡ var + suc (length rows) = omega arith in
    ap (λ (rest : List ℕ). row_line netlist var first ++ rest) (row_lines-append netlist (var + 1) rows row)
    ∙ sym (append_assoc (row_line netlist var first) (row_lines netlist (var + 1) rows) (row_line netlist ((var + 1) + length rows) row))
    ∙ ap (λ (n : ℕ). (row_line netlist var first ++ row_lines netlist (var + 1) rows) ++ row_line netlist n row) here

-- one row more
pub row_lines_more : (netlist : Netlist) (rows : List Row) (i : ℕ) (row : Row) → slice_get rows i ≡ Some row
    → row_lines netlist 0 (take (i + 1) rows) ≡ row_lines netlist 0 (take i rows) ++ row_line netlist i row
row_lines_more netlist rows i row there =
    let within = slice_get_within rows i row there in
    let is = get_or_from_slice_get rows i row row there in
    let number : 0 + length (take i rows) ≡ i = omega (arith, length-take-le i rows (omega arith)) in
    ap (row_lines netlist 0) (take_more rows i row within) ∙ row_lines-append netlist 0 (take i rows) (get_or rows i row)
    ∙ ap (λ (n : ℕ). row_lines netlist 0 (take i rows) ++ row_line netlist n (get_or rows i row)) number
    ∙ ap (λ (last : Row). row_lines netlist 0 (take i rows) ++ row_line netlist i last) is

-- what is shown is a variable
pub shown-within : (netlist : Netlist) (show : Show) → IsCircuit netlist → shown_count netlist show ≤ length (network_of netlist)
shown-within netlist Nodes circuit = omega (arith, length-network_of netlist circuit)
shown-within netlist All circuit = omega arith

-- the rows that are shown are so many
pub take-shown : (netlist : Netlist) (show : Show) (rows : List Row) → length rows ≡ length (network_of netlist)
    → take (shown_count netlist show) rows ≡ shown_rows netlist show rows
take-shown netlist Nodes rows long = refl
take-shown netlist All rows long = ap (λ (n : ℕ). take n rows) (sym long) ∙ take-length rows
