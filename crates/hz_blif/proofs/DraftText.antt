-- The elements of a draft of a text without fault are those of the text, and the draft can be built.
use Rattle.std.proofs.Common.{◌≡◌, ◌∙◌, sym, ap, subst, ℕ, List, ◌++◌, map}
use Rattle.std.specs.List.{flat_map}
use Rattle.std.proofs.lemmas.Simd.{map-map}
use Rattle.hz_line.specs.Statement.{Numbered}
use Rattle.hz_netlist.specs.Build.{AreWired}
use Rattle.hz_netlist.specs.Element.{Element, Input, Output}
use Rattle.hz_blif.specs.declared.draft.Draft.{Draft}
use Rattle.hz_blif.specs.Built.{IsBuildable, elements_of_draft}
use Rattle.hz_blif.specs.Circuit.{elements_of_lines}
use Rattle.hz_blif.specs.Cover.{inputs_of, kept_covers, outputs_of}
use Rattle.hz_blif.specs.Draft.{HoldsElements}
use Rattle.hz_blif.specs.Entries.{elements_by}
use Rattle.hz_blif.specs.Fault.{IsFaultless}
use Rattle.hz_blif.specs.Gates.{cover_gates}
use Rattle.hz_blif.specs.Line.{lines_in}
use Rattle.hz_blif.proofs.WiredText.{wired-text}
use Rattle.hz_netlist.specs.Names.{names_at, name_at}

pub elements-of-text : (text : List ℕ) (draft : Draft) → HoldsElements text draft → elements_of_draft draft ≡ elements_of_lines (lines_in text)
elements-of-text text draft holds =
    let gates = elements_by (name_at draft.names) draft.gates in
    let outputs = names_at draft.names draft.outputs.items in
    let lines = lines_in text in
    let text_gates = flat_map cover_gates (kept_covers lines) in
    ap (λ names. map Input names ++ (gates ++ map Output outputs)) holds.inputs
    ∙ ap (λ (gates : List Element). map Input (inputs_of lines) ++ (gates ++ map Output outputs)) holds.gates
    ∙ ap (λ (outputs : List Element). map Input (inputs_of lines) ++ (text_gates ++ outputs))
    (ap (map Output) holds.outputs ∙ map-map Output (λ (output : Numbered (List ℕ)). output.statement) (outputs_of lines))

pub buildable : (text : List ℕ) (draft : Draft) → IsFaultless text → HoldsElements text draft → IsBuildable draft
buildable text draft faultless holds = record {
  wired = subst AreWired (sym (elements-of-text text draft holds)) (wired-text text faultless);
  distinct = holds.distinct;
  input_numbers = holds.input_numbers;
  output_numbers = holds.output_numbers;
  gate_numbers = holds.gate_numbers;
  holds = holds.holds;
}
