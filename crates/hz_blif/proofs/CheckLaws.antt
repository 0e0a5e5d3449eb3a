-- The faults that were noted, in their order.
use Rattle.std.proofs.Common.{◌≡◌, ◌∙◌, sym, ap, ℕ, not, List, [], ◌∷◌, map, Option, Some, None, option_map}
use Rattle.std.specs.Prelude.{◌&&◌}
use Rattle.std.specs.List.{find, list_any}
use Rattle.hz_lists.specs.Least.{option_min}
use Rattle.hz_line.specs.LeastFault.{first_found}
use Rattle.hz_line.specs.Statement.{first_passing_line}
use Rattle.hz_netlist.specs.Element.{variable_total}
use Rattle.hz_blif.specs.declared.draft.Draft.{Draft}
use Rattle.hz_blif.specs.declared.fault.BlifFault.{BlifFault}
use Rattle.hz_blif.specs.declared.fault.BlifFault.TheVariants as fault
use Rattle.hz_blif.specs.declared.notes.Excess.{Excess}
use Rattle.hz_blif.specs.declared.notes.Redefinition.{Redefinition}
use Rattle.hz_blif.specs.Check.{count_of, first_fault, first_of, least_of, too_many, twice_after, undefined_use, wrong_form_after, wrong_row}
use Rattle.hz_blif.specs.Circuit.{elements_of_lines}
use Rattle.hz_blif.specs.Cover.{Cover, covers_of, definitions_of, is_constant, is_skipped, is_too_large, uses_of}
use Rattle.hz_blif.specs.Draft.{IsClean, IsDraftOf, pins_fault, twice_fault}
use Rattle.hz_blif.specs.Fault.{IsLeastFault, line_has_long_name, is_forbidden}
use Rattle.hz_blif.specs.Line.{is_construct, lines_in}
use Rattle.hz_blif.specs.Text.{joined_lines}
use Rattle.hz_blif.proofs.FoundFaults.{answer-least}
use Rattle.hz_blif.proofs.ReadLaws.{is-read}
use Rattle.hz_netlist.specs.Names.{names_of}

skip : (one : Option BlifFault) (rest : List (Option BlifFault)) → one ≡ None → first_found (one ∷ rest) ≡ first_found rest
skip one rest none = ap (λ one. first_found (one ∷ rest)) none

pub stop : (one : Option BlifFault) (rest : List (Option BlifFault)) (found : BlifFault) → one ≡ Some found → first_found (one ∷ rest) ≡ Some found
stop one rest found is = ap (λ one. first_found (one ∷ rest)) is

-- the notes are the first faults of their numbers
pub record AreNoted (text : List ℕ) (draft : Draft) : Type 0 where
  pub form : option_map fault.Form (option_min (first_passing_line (list_any is_forbidden) (joined_lines text)) (wrong_form_after [] (lines_in text))) ≡ None
  pub name : option_map fault.Name (first_passing_line line_has_long_name (lines_in text)) ≡ option_map fault.Name draft.notes.long_name
  pub construct : option_map fault.Construct (first_passing_line is_construct (lines_in text)) ≡ option_map fault.Construct draft.notes.construct
  pub twice : twice_after [] (definitions_of (lines_in text)) ≡ option_map twice_fault draft.notes.again
  pub cover : option_map fault.Cover (first_of (map wrong_row (covers_of (lines_in text)))) ≡ option_map fault.Cover draft.notes.wrong_row
  pub pins : draft.notes.wrong_row ≡ None → option_map (λ (cover : Cover). fault.Pins cover.line (count_of cover)) (find is_too_large (covers_of (lines_in text))) ≡ option_map pins_fault draft.notes.excess

pub are-noted : (text : List ℕ) (draft : Draft) → IsDraftOf text draft → AreNoted text draft
are-noted text draft is =
    let lines = lines_in text in
    let read = is-read lines in
    let held = is.holds in
    record {
      form = ap (option_map fault.Form) is.formed;
      name = ap (option_map fault.Name) (sym (held.long_name ∙ read.long_name));
      construct = ap (option_map fault.Construct) (sym (held.construct ∙ read.construct));
      twice = sym (held.again ∙ ap (twice_after []) read.definitions);
      cover = ap (option_map fault.Cover) (sym (held.wrong_row_is ∙ ap (λ covers. first_of (map wrong_row covers)) read.done));
      pins = λ right. sym (held.excess_is right ∙ ap (λ covers. option_map (λ (cover : Cover). fault.Pins cover.line (count_of cover)) (find is_too_large covers)) read.done);
    }

pub found-name : (text : List ℕ) (draft : Draft) (line : ℕ) → IsDraftOf text draft → draft.notes.long_name ≡ Some line → IsLeastFault text (fault.Name line)
found-name text draft line is at =
    let n = are-noted text draft is in
    answer-least text (fault.Name line) (skip _ _ n.form ∙ stop _ _ (fault.Name line) (n.name ∙ ap (option_map fault.Name) at))

pub found-construct : (text : List ℕ) (draft : Draft) (line : ℕ) → IsDraftOf text draft → draft.notes.long_name ≡ None → draft.notes.construct ≡ Some line → IsLeastFault text (fault.Construct line)
found-construct text draft line is name at =
    let n = are-noted text draft is in
    answer-least text (fault.Construct line) (skip _ _ n.form ∙ (skip _ _ (n.name ∙ ap (option_map fault.Name) name) ∙ stop _ _ (fault.Construct line) (n.construct ∙ ap (option_map fault.Construct) at)))

pub found-again : (text : List ℕ) (draft : Draft) (again : Redefinition) → IsDraftOf text draft → draft.notes.long_name ≡ None → draft.notes.construct ≡ None → draft.notes.again ≡ Some again
    → IsLeastFault text (fault.Twice again.line again.first)
found-again text draft again is name construct at =
    let n = are-noted text draft is in
    answer-least text (fault.Twice again.line again.first) (skip _ _ n.form ∙ (skip _ _ (n.name ∙ ap (option_map fault.Name) name) ∙ (skip _ _ (n.construct ∙ ap (option_map fault.Construct) construct)
    ∙ stop _ _ (twice_fault again) (n.twice ∙ ap (option_map twice_fault) at))))

pub found-row : (text : List ℕ) (draft : Draft) (line : ℕ) → IsDraftOf text draft → draft.notes.long_name ≡ None → draft.notes.construct ≡ None → draft.notes.again ≡ None → draft.notes.wrong_row ≡ Some line
    → IsLeastFault text (fault.Cover line)
found-row text draft line is name construct again at =
    let n = are-noted text draft is in
    answer-least text (fault.Cover line) (skip _ _ n.form ∙ (skip _ _ (n.name ∙ ap (option_map fault.Name) name) ∙ (skip _ _ (n.construct ∙ ap (option_map fault.Construct) construct)
    ∙ (skip _ _ (n.twice ∙ ap (option_map twice_fault) again) ∙ stop _ _ (fault.Cover line) (n.cover ∙ ap (option_map fault.Cover) at)))))

pub found-excess : (text : List ℕ) (draft : Draft) (excess : Excess) → IsDraftOf text draft → draft.notes.long_name ≡ None → draft.notes.construct ≡ None → draft.notes.again ≡ None → draft.notes.wrong_row ≡ None
    → draft.notes.excess ≡ Some excess → IsLeastFault text (fault.Pins excess.line excess.count)
found-excess text draft excess is name construct again right at =
    let n = are-noted text draft is in
    answer-least text (fault.Pins excess.line excess.count) (skip _ _ n.form ∙ (skip _ _ (n.name ∙ ap (option_map fault.Name) name) ∙ (skip _ _ (n.construct ∙ ap (option_map fault.Construct) construct)
    ∙ (skip _ _ (n.twice ∙ ap (option_map twice_fault) again) ∙ (skip _ _ (n.cover ∙ ap (option_map fault.Cover) right) ∙ stop _ _ (pins_fault excess) (n.pins right ∙ ap (option_map pins_fault) at))))))

-- behind these the last three are asked
pub found-last : (text : List ℕ) (draft : Draft) → IsDraftOf text draft → IsClean draft → first_fault text ≡ first_found (
    option_map (λ (cover : Cover). fault.Constant cover.line) (find (λ cover. is_constant cover && not (is_skipped (lines_in text) cover)) (covers_of (lines_in text)))
    ∷ option_map fault.Undefined (least_of (map (undefined_use (names_of (definitions_of (lines_in text)))) (uses_of (lines_in text))))
    ∷ too_many (variable_total (elements_of_lines (lines_in text)))
    ∷ []
    )
found-last text draft is clean =
    let n = are-noted text draft is in
    skip _ _ n.form ∙ (skip _ _ (n.name ∙ ap (option_map fault.Name) clean.long_name) ∙ (skip _ _ (n.construct ∙ ap (option_map fault.Construct) clean.construct)
    ∙ (skip _ _ (n.twice ∙ ap (option_map twice_fault) clean.again) ∙ (skip _ _ (n.cover ∙ ap (option_map fault.Cover) clean.wrong_row) ∙ skip _ _ (n.pins clean.wrong_row ∙ ap (option_map pins_fault) clean.excess)))))
