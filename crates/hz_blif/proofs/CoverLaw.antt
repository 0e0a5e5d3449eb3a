-- In every stable state each cover that is not skipped has its cover function at its output.
use Rattle.std.proofs.Common.{◌≡◌, refl, subst, ℕ, zero, suc, ◌<◌, Bool, true, false, not, List, [], ◌∷◌, ◌++◌, length, map, arith}
use Rattle.std.specs.List.{flat_map, slice_index_or}
use Rattle.hz_line.specs.Statement.{Numbered}
use Rattle.hz_netlist.proofs.Circuits.{built_circuit}
use Rattle.hz_netlist.specs.Element.{Element, Input, Output}
use Rattle.hz_blif.specs.Line.{lines_in}
use Rattle.hz_blif.specs.Cover.{Cover, covers_of, inputs_of, is_skipped, kept_covers, outputs_of}
use Rattle.hz_blif.specs.Gates.{cover_gates}
use Rattle.hz_blif.specs.Circuit.{blif_circuit, elements_of_lines}
use Rattle.hz_blif.specs.Fault.{IsFaultless}
use Rattle.hz_blif.specs.Law.{node_value, KeepsCovers}
use Rattle.hz_blif.proofs.KeptCovers.{kept-member, kept-terms}
use Rattle.hz_blif.proofs.TwoLevel.{AgreeWithAll, agree-front, agree-back, cover-two_level}
use Rattle.hz_blif.proofs.StableElements.{stable-elements}
use Rattle.hz_blif.proofs.WiredText.{wired-text}

-- the gates of each of these covers agree
agree-cover : (value : List ℕ → Bool) (covers : List Cover) (k : ℕ) (cover : Cover) → k < length covers → slice_index_or covers k cover ≡ cover
    → AgreeWithAll value (flat_map cover_gates covers) → AgreeWithAll value (cover_gates cover)
agree-cover value [] k cover few here agree = absurd (omega (arith, few))
agree-cover value (first ∷ rest) zero cover few here agree =
    subst (λ one. AgreeWithAll value (cover_gates one)) here (agree-front value (cover_gates first) (flat_map cover_gates rest) agree)
agree-cover value (first ∷ rest) (suc k) cover few here agree =
    agree-cover value rest k cover (omega (arith, few)) here (agree-back value (cover_gates first) (flat_map cover_gates rest) agree)

-- the law of covers, where the text has no fault
pub keeps-covers : (text : List ℕ) → IsFaultless text → KeepsCovers text
keeps-covers text faultless input state long stable cover member =
    let lines = lines_in text in
    let value = node_value (blif_circuit text) state in
    let kept = kept-member (λ cover. not (is_skipped lines cover)) (covers_of lines) member.0 cover member.1 member.2 in
    let terms = kept-terms text faultless cover kept.0 (not-true (is_skipped lines cover) kept.1) in
    let all = stable-elements (elements_of_lines lines) input state (built_circuit (elements_of_lines lines) (wired-text text faultless)) long stable in
    let outputs : List Element = map (λ (output : Numbered (List ℕ)). Output output.statement) (outputs_of lines) in
    let gates = agree-front value (flat_map cover_gates (kept_covers lines)) outputs
    (agree-back value (map Input (inputs_of lines)) (flat_map cover_gates (kept_covers lines) ++ outputs) all) in
    cover-two_level value cover terms.0 terms.1 (agree-cover value (kept_covers lines) member.0 cover member.1 member.2 gates)
  where
    not-true : (b : Bool) → not b ≡ true → b ≡ false
    not-true true h = let e : false ≡ true = h in cc
    not-true false h = refl
