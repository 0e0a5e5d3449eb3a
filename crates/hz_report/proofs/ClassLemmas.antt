-- Counts of classes, row by row.
use Rattle.std.proofs.Common.{◌≡◌, ◌∙◌, sym, ap, ℕ, ◌+◌, ◌<◌, List, length, take, get_or, slice_get, set, Some, inl, inr, arith, get_or-set_other}
use Rattle.std.specs.Prelude.{nat_eq}
use Rattle.std.proofs.Math.ListN.{length-set}
use Rattle.std.proofs.lemmas.Bool.{cases_eq, eq-eqb, ne_eqb}
use Rattle.std.proofs.lemmas.Grind.{get_or-set_at}
use Rattle.std.proofs.lemmas.List.Sums.{count_by_more_no, count_by_more_yes}
use Rattle.std.proofs.lemmas.Option.{get_or_from_slice_get, slice_get_within}
use Rattle.hz_desk.specs.declared.finding.Row.{Row}
use Rattle.hz_report.specs.Report.{class_place, count_at}

-- one row more is one more at the place of its class
pub counted-more : (rows : List Row) (i : ℕ) (row : Row) (totals : List ℕ) (place : ℕ) → slice_get rows i ≡ Some row → place ≡ class_place row.class
    → ((other : ℕ) → other < length totals → get_or totals other 0 ≡ count_at (take i rows) other)
    → (other : ℕ) → other < length (set totals place (get_or totals place 0 + 1))
    → get_or (set totals place (get_or totals place 0 + 1)) other 0 ≡ count_at (take (i + 1) rows) other
counted-more rows i row totals place there of_class counted other inside =
    let within = slice_get_within rows i row there in
    let is = get_or_from_slice_get rows i row row there in
    let has_place = λ (row : Row). nat_eq (class_place row.class) other in
    let known : other < length totals = simp length-set at inside in
    elim (cases_eq other place) [
      | inl same ↦
          (let yes = ap has_place is ∙ eq-eqb (class_place row.class) other (sym of_class ∙ sym same) in
          get_or-set_at totals place other (get_or totals place 0 + 1) 0 same (omega (arith, same, known)) ∙ ap (λ (n : ℕ). get_or totals n 0 + 1) (sym same)
          ∙ ap (λ (n : ℕ). n + 1) (counted other known) ∙ sym (count_by_more_yes has_place rows i row within yes))
      | inr differ ↦
          (let no = ap has_place is ∙ ne_eqb (class_place row.class) other (λ eq. differ (sym eq ∙ sym of_class)) in
          get_or-set_other totals place other (get_or totals place 0 + 1) 0 differ ∙ counted other known
          ∙ sym (count_by_more_no has_place rows i row within no))
    ]
