use Rattle.std.proofs.Common.{◌∙◌, [], ap, refl, subst, sym, List, ℕ}
use Rattle.std.specs.Borrow.{Bor}
use Rattle.std.proofs.lemmas.List.{map_push}
use Rattle.hz_blif.specs.Cover.{Cover}
use Rattle.hz_blif.specs.Draft.{Holds, Read, with_begun, with_cover}
use Rattle.hz_blif.specs.Reading.{bytes_of}
use Rattle.hz_blif.proofs.CoverSteps.{with_cover-split}
use Rattle.hz_blif.proofs.draft.Draft.open_cover.Goals as goal

pub returns : goal.returns
returns c = λ read none held.
    (let pins = c.in-Some.pins.now in
    let output = c.in-Some.output.now in
    let one : Cover = record { line = c.args.line; pins = []; output = output.now; rows = [] } in
    let begun = c.in_ok-begin_cover.ensures read none held in
    let grown = c.in_ok-add_pins.ensures (with_begun c.args.line [] output.now read) one refl refl begun in
    subst (λ (read : Read). Holds read c.add_pins.new.self)
    (sym (ap (λ (words : List (Bor (List ℕ))). with_cover c.args.line (bytes_of words) read) c.in-Some.ensures.cases.0
    ∙ (ap (λ (names : List (List ℕ)). with_cover c.args.line names read) (map_push (λ (word : Bor (List ℕ)). word.now) pins output) ∙ with_cover-split c.args.line (bytes_of pins) output.now read))) grown)
