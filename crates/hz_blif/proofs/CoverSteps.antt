-- What a draft holds, step by step: the cover that is being read.
use Rattle.std.proofs.Common.{◌≡◌, ◌∙◌, refl, sym, ap, subst, ℕ, ◌+◌, ◌<◌, Bool, true, false, not, cond, List, [], ◌∷◌, ◌++◌, map, length, take, get_or, Option, Some, None, is_some, option_map, arith, append_assoc}
use Rattle.std.specs.List.{IsDistinct, find}
use Rattle.std.specs.Option.{option_or}
use Rattle.std.specs.Prelude.{◌&&◌}
use Rattle.std.specs.Str.{bytes_eq}
use Rattle.std.proofs.lemmas.List.{length-map, map-append, take_more}
use Rattle.std.proofs.lemmas.List.Elements.{All-nil, All-same}
use Rattle.std.proofs.lemmas.List.Folds.{find-append}
use Rattle.hz_line.specs.LeastFault.{first_found}
use Rattle.hz_line.specs.Statement.{Numbered, first_passing_line}
use Rattle.hz_netlist.specs.Names.{Names, AreNamesOf, seen_names, on_line, AreNumbers, names_at, name_at}
use Rattle.hz_blif.specs.declared.cover.Cover.{Cover as CoverRead}
use Rattle.hz_blif.specs.declared.draft.Draft.{Draft}
use Rattle.hz_blif.specs.declared.notes.Notes.{Notes}
use Rattle.hz_blif.specs.Check.{first_of, wrong_row}
use Rattle.hz_blif.specs.Cover.{Cover, all_but_last, first_column, is_row, is_wrong_row, last_token}
use Rattle.hz_blif.specs.Draft.{Holds, HoldsCover, HoldsCurrent, Read, closed, constant_by, covers_with, no_notes, nothing_read, pins_fault, row_added, twice_fault, uses_with, with_begun, with_cover, with_row}
use Rattle.hz_blif.specs.Entries.{HoldsGates}
use Rattle.hz_blif.specs.Reading.{KeepsRows, bytes_of}
use Rattle.std.specs.Borrow.{Bor}
use Rattle.hz_blif.proofs.RowLemmas.{last_token_last}
use Rattle.hz_blif.proofs.EntryLemmas.{elements-none, named-none}
use Rattle.hz_blif.proofs.DraftSteps.{names-push, numbers-push}

-- at first nothing is held
pub holds-nothing : (draft : Draft) → draft.names ≡ [] → draft.inputs.items ≡ [] → draft.outputs.items ≡ [] → draft.variables ≡ 0 → HoldsGates draft.gates → draft.gates.gates.items ≡ []
    → draft.gates.sources.items ≡ [] → draft.constants.items ≡ [] → draft.constant_pins.items ≡ [] → draft.notes ≡ no_notes → draft.is_open ≡ false → Holds nothing_read draft
unfolding IsDistinct
holds-nothing draft names inputs outputs variables holds gates sources constants pins notes is_open = record {
  long_name = ap (λ (notes : Notes). notes.long_name) notes;
  construct = ap (λ (notes : Notes). notes.construct) notes;
  distinct = subst (λ names. IsDistinct bytes_eq (seen_names names)) (sym names) tt;
  used = [];
  named = subst (AreNamesOf [] []) (sym names) (record { definer = λ name. refl; user = λ name. refl });
  again = ap (λ (notes : Notes). option_map twice_fault notes.again) notes;
  inputs = ap (names_at draft.names) inputs;
  input_numbers = All-same (λ number. number < length draft.names) draft.inputs.items [] inputs (All-nil (λ number. number < length draft.names));
  outputs = ap (names_at draft.names) outputs;
  output_numbers = All-same (λ number. number < length draft.names) draft.outputs.items [] outputs (All-nil (λ number. number < length draft.names));
  wrong_row_is = ap (λ (notes : Notes). notes.wrong_row) notes;
  is_open = is_open;
  current = λ right. tt;
  excess_is = λ right. ap (λ (notes : Notes). option_map pins_fault notes.excess) notes;
  few = omega (arith, variables);
  uses = λ right small. refl;
  covers = λ right small. record {
    gates = λ few. elements-none (name_at draft.names) draft.gates gates;
    holds = holds;
    gate_numbers = named-none (length draft.names) draft.gates gates sources;
    counted = variables;
    constants = ap (map (constant_by draft.names)) constants;
    constant_numbers = All-same (λ constant. constant.output < length draft.names) draft.constants.items [] constants (All-nil (λ constant. constant.output < length draft.names));
    pins = ap (names_at draft.names) pins;
    pin_numbers = All-same (λ number. number < length draft.names) draft.constant_pins.items [] pins (All-nil (λ number. number < length draft.names));
  };
}

-- wrong rows of covers one after the other
first-append : (one other : List (Option ℕ)) → first_found (one ++ other) ≡ option_or (first_found one) (first_found other)
first-append [] other = refl
first-append (None ∷ rest) other = first-append rest other
first-append (Some line ∷ rest) other = refl

or-none : {A : Type 0} (one : Option A) → option_or one None ≡ one
or-none None = refl
or-none (Some item) = refl

pub wrong-last : (done : List Cover) (cover : Cover) → first_of (map wrong_row (done ++ cover ∷ [])) ≡ option_or (first_of (map wrong_row done)) (wrong_row cover)
wrong-last done cover =
    ap first_found (map-append wrong_row done (cover ∷ [])) ∙ first-append (map wrong_row done) (wrong_row cover ∷ [])
    ∙ ap (option_or (first_of (map wrong_row done))) (by_row (wrong_row cover))
  where
    by_row : (row : Option ℕ) → first_found (row ∷ []) ≡ row
    by_row None = refl
    by_row (Some line) = refl

wrong-without_rows : (done : List Cover) (cover : Cover) → cover.rows ≡ [] → first_of (map wrong_row (done ++ cover ∷ [])) ≡ first_of (map wrong_row done)
wrong-without_rows done cover none =
    wrong-last done cover ∙ ap (λ rows. option_or (first_of (map wrong_row done)) (first_passing_line (is_wrong_row cover) rows)) none ∙ or-none (first_of (map wrong_row done))

-- a cover begins
pub holds-begun : (read : Read) (old : Draft) (cover : CoverRead) (number line : ℕ) → read.current ≡ None → cover.line ≡ line → cover.pins.items ≡ [] → cover.output ≡ number → KeepsRows [] cover.rows
    → number < length old.names → Holds read old
    → Holds (record read { current = Some (record { line = line; pins = []; output = name_at old.names number; rows = [] }) }) (record old { cover = cover; is_open = true })
holds-begun read old cover number line closed line_is pins output rows few held =
    let one : Cover = record { line = line; pins = []; output = name_at old.names number; rows = [] } in
    record {
      long_name = held.long_name;
      construct = held.construct;
      distinct = held.distinct;
      used = held.used;
      named = held.named;
      again = held.again;
      inputs = held.inputs;
      input_numbers = held.input_numbers;
      outputs = held.outputs;
      output_numbers = held.output_numbers;
      wrong_row_is = held.wrong_row_is ∙ (ap (λ current. first_of (map wrong_row (covers_with read.done current))) closed ∙ sym (wrong-without_rows read.done one refl));
      is_open = refl;
      current = λ right. record {
        line = line_is;
        pins = ap (names_at old.names) pins;
        pin_numbers = All-same (λ number. number < length old.names) cover.pins.items [] pins (All-nil (λ number. number < length old.names));
        output = ap (name_at old.names) output;
        output_number = omega (arith, output, few);
        rows = rows;
      };
      excess_is = held.excess_is;
      few = held.few;
      uses = held.uses;
      covers = λ right small. (let is = held.covers right small in record { gates = is.gates; holds = is.holds; gate_numbers = is.gate_numbers; counted = is.counted; constants = is.constants; constant_numbers = is.constant_numbers; pins = is.pins; pin_numbers = is.pin_numbers });
    }

current-at : (names : Names) (current : Option Cover) (one : Cover) (cover : CoverRead) → current ≡ Some one → HoldsCurrent names current cover → HoldsCover names one cover
current-at names current one cover is held = subst (λ current. HoldsCurrent names current cover) is held

-- a pin more
pub holds-pin : (read : Read) (one : Cover) (old : Draft) (cover : CoverRead) (number : ℕ) → read.current ≡ Some one → one.rows ≡ [] → cover ≡ record old.cover { pins = cover.pins }
    → cover.pins.items ≡ old.cover.pins.items ++ number ∷ [] → number < length old.names → Holds read old
    → Holds (record read { current = Some (record one { pins = one.pins ++ name_at old.names number ∷ [] }) }) (record old { cover = cover })
holds-pin read one old cover number current none same is few held =
    let more : Cover = record one { pins = one.pins ++ name_at old.names number ∷ [] } in
    record {
      long_name = held.long_name;
      construct = held.construct;
      distinct = held.distinct;
      used = held.used;
      named = held.named;
      again = held.again;
      inputs = held.inputs;
      input_numbers = held.input_numbers;
      outputs = held.outputs;
      output_numbers = held.output_numbers;
      wrong_row_is = held.wrong_row_is ∙ (ap (λ current. first_of (map wrong_row (covers_with read.done current))) current ∙ (wrong-without_rows read.done one none ∙ sym (wrong-without_rows read.done more none)));
      is_open = held.is_open ∙ ap is_some current;
      current = λ right. (
          let was = current-at old.names read.current one old.cover current (held.current right) in
          record {
            line = ap (λ (cover : CoverRead). cover.line) same ∙ was.line;
            pins = names-push old.names old.cover.pins.items cover.pins.items number one.pins is was.pins;
            pin_numbers = numbers-push old.names old.cover.pins.items cover.pins.items number is few was.pin_numbers;
            output = ap (λ (cover : CoverRead). name_at old.names cover.output) same ∙ was.output;
            output_number = (let few = was.output_number in omega (arith, few, ap (λ (cover : CoverRead). cover.output) same));
            rows = subst (λ (cover : CoverRead). KeepsRows one.rows cover.rows) (sym same) was.rows;
          }
          );
      excess_is = held.excess_is;
      few = held.few;
      uses = held.uses;
      covers = λ right small. (let is = held.covers right small in record { gates = is.gates; holds = is.holds; gate_numbers = is.gate_numbers; counted = is.counted; constants = is.constants; constant_numbers = is.constant_numbers; pins = is.pins; pin_numbers = is.pin_numbers });
    }

-- rows
with-more : Cover → Numbered (List (List ℕ)) → Cover
with-more one row = record one { rows = one.rows ++ row ∷ [] }

line-if : (passes : Bool) (row : Numbered (List (List ℕ))) → option_map (λ (numbered : Numbered (List (List ℕ))). numbered.line) (cond passes (Some row) None) ≡ cond passes (Some row.line) None
line-if true row = refl
line-if false row = refl

line-or : (one other : Option (Numbered (List (List ℕ)))) → option_map (λ (numbered : Numbered (List (List ℕ))). numbered.line) (option_or one other)
    ≡ option_or (option_map (λ (numbered : Numbered (List (List ℕ))). numbered.line) one) (option_map (λ (numbered : Numbered (List (List ℕ))). numbered.line) other)
line-or None other = refl
line-or (Some one) other = refl

wrong-more : (line : ℕ) (pins : List (List ℕ)) (output : List ℕ) (rows : List (Numbered (List (List ℕ)))) (row : Numbered (List (List ℕ)))
    → wrong_row (record { line = line; pins = pins; output = output; rows = rows ++ row ∷ [] })
    ≡ option_or (wrong_row (record { line = line; pins = pins; output = output; rows = rows }))
    (cond (is_wrong_row (record { line = line; pins = pins; output = output; rows = rows ++ row ∷ [] }) row.statement) (Some row.line) None)
wrong-more line pins output [] row = line-if (is_wrong_row (record { line = line; pins = pins; output = output; rows = row ∷ [] }) row.statement) row
wrong-more line pins output (first ∷ rest) row =
    let test = is_wrong_row (record { line = line; pins = pins; output = output; rows = first ∷ rest }) in
    ap (option_map (λ (numbered : Numbered (List (List ℕ))). numbered.line)) (find-append (λ (numbered : Numbered (List (List ℕ))). test numbered.statement) (first ∷ rest) (row ∷ []))
    ∙ line-or (find (λ (numbered : Numbered (List (List ℕ))). test numbered.statement) (first ∷ rest)) (cond (test row.statement) (Some row) None)
    ∙ ap (option_or (first_passing_line test (first ∷ rest))) (line-if (test row.statement) row)

-- the wrong rows with one row more in the last cover
wrong-with_row : (done : List Cover) (one : Cover) (row : Numbered (List (List ℕ))) (noted : Option ℕ) → noted ≡ first_of (map wrong_row (done ++ one ∷ []))
    → first_of (map wrong_row (done ++ record one { rows = one.rows ++ row ∷ [] } ∷ []))
    ≡ option_or noted (cond (is_wrong_row (record one { rows = one.rows ++ row ∷ [] }) row.statement) (Some row.line) None)
wrong-with_row done one row noted is =
    let more : Cover = record one { rows = one.rows ++ row ∷ [] } in
    let last : Option ℕ = cond (is_wrong_row more row.statement) (Some row.line) None in
    wrong-last done more ∙ ap (option_or (first_of (map wrong_row done))) (wrong-more one.line one.pins one.output one.rows row)
    ∙ or-assoc (first_of (map wrong_row done)) (wrong_row one) last
    ∙ ap (λ all. option_or all last) (sym (is ∙ wrong-last done one))
  where
    or-assoc : (a b c : Option ℕ) → option_or a (option_or b c) ≡ option_or (option_or a b) c
    or-assoc None b c = refl
    or-assoc (Some line) b c = refl

-- a row where no cover is read
pub holds-row_apart : (read : Read) (old : Draft) (line : ℕ) (tokens : List (List ℕ)) → old.is_open ≡ false → Holds read old → Holds (with_row line tokens read) old
holds-row_apart read old line tokens closed held = subst (λ current. Holds (record read { current = current }) old) (sym (by_current read.current (sym held.is_open ∙ closed))) held
  where
    by_current : (current : Option Cover) → is_some current ≡ false → row_added line tokens current ≡ current
    by_current None h = refl
    by_current (Some cover) h = let e : true ≡ false = h in cc

-- a row behind one that is not as said
pub holds-row_behind : (read : Read) (old : Draft) (line wrong : ℕ) (tokens : List (List ℕ)) → old.notes.wrong_row ≡ Some wrong → Holds read old → Holds (with_row line tokens read) old
holds-row_behind read old line wrong tokens noted held =
    let lost : old.notes.wrong_row ≡ None → ⊥ = λ right. (let e : Some wrong ≡ None = sym noted ∙ right in cc) in
    record {
      long_name = held.long_name;
      construct = held.construct;
      distinct = held.distinct;
      used = held.used;
      named = held.named;
      again = held.again;
      inputs = held.inputs;
      input_numbers = held.input_numbers;
      outputs = held.outputs;
      output_numbers = held.output_numbers;
      wrong_row_is = by_current read.current held.wrong_row_is;
      is_open = held.is_open ∙ same-open read.current;
      current = λ right. absurd (lost right);
      excess_is = held.excess_is;
      few = held.few;
      uses = held.uses;
      covers = held.covers;
    }
  where
    same-open : (current : Option Cover) → is_some current ≡ is_some (row_added line tokens current)
    same-open None = refl
    same-open (Some cover) = refl

    by_current : (current : Option Cover) → old.notes.wrong_row ≡ first_of (map wrong_row (covers_with read.done current)) → old.notes.wrong_row ≡ first_of (map wrong_row (covers_with read.done (row_added line tokens current)))
    by_current None is = is
    by_current (Some one) is =
        let row : Numbered (List (List ℕ)) = record { line = line; statement = tokens } in
        noted ∙ sym (wrong-with_row read.done one row old.notes.wrong_row is
        ∙ ap (λ known. option_or known (cond (is_wrong_row (record one { rows = one.rows ++ row ∷ [] }) tokens) (Some line) None)) noted)

-- a row that is looked at: its cover keeps it if it is as said, and else it is noted
pub holds-row : (read : Read) (old : Draft) (cover : CoverRead) (line : ℕ) (tokens : List (List ℕ)) (right : Bool) (wrong : Option ℕ)
    → old.is_open ≡ true → old.notes.wrong_row ≡ None → cover.line ≡ old.cover.line → cover.pins ≡ old.cover.pins → cover.output ≡ old.cover.output
    → ((rows : List (Numbered (List (List ℕ)))) (line : ℕ) (names : List (List ℕ)) → KeepsRows rows old.cover.rows → length names ≡ length old.cover.pins.items
    → right ≡ (is_row names tokens && bytes_eq (last_token tokens) (first_column (rows ++ record { line = line; statement = tokens } ∷ []))))
    → (right ≡ true → (rows : List (Numbered (List (List ℕ)))) (line : ℕ) → KeepsRows rows old.cover.rows → KeepsRows (rows ++ record { line = line; statement = tokens } ∷ []) cover.rows)
    → wrong ≡ cond right None (Some line) → Holds read old → Holds (with_row line tokens read) (record old { cover = cover; notes = record old.notes { wrong_row = wrong } })
holds-row read old cover line tokens right wrong opened none line_is pins output right_is kept wrong_is held =
    by_current read.current refl
  where
    by_current : (current : Option Cover) → read.current ≡ current
        → Holds (record read { current = row_added line tokens current }) (record old { cover = cover; notes = record old.notes { wrong_row = wrong } })
    by_current None at = let e : true ≡ false = sym opened ∙ (held.is_open ∙ ap is_some at) in absurd (let x = e in cc)
    by_current (Some one) at =
        let was = current-at old.names read.current one old.cover at (held.current none) in
        let row : Numbered (List (List ℕ)) = record { line = line; statement = tokens } in
        let more : Cover = record one { rows = one.rows ++ row ∷ [] } in
        let many : length one.pins ≡ length old.cover.pins.items = ap length (sym was.pins) ∙ length-map old.cover.pins.items (name_at old.names) in
        let told : right ≡ (is_row one.pins tokens && bytes_eq (last_token tokens) (first_column more.rows)) = right_is one.rows line one.pins was.rows many in
        let last : first_of (map wrong_row (read.done ++ more ∷ [])) ≡ cond (not right) (Some line) None =
        wrong-with_row read.done one row old.notes.wrong_row (held.wrong_row_is ∙ ap (λ current. first_of (map wrong_row (covers_with read.done current))) at)
        ∙ ap (λ known. option_or known (cond (is_wrong_row more tokens) (Some line) None)) none ∙ ap (λ right. cond (not right) (Some line) None) (sym told) in
        let wrong-none : wrong ≡ None → right ≡ true = λ e. by_right right (sym wrong_is ∙ e) in
        record {
          long_name = held.long_name;
          construct = held.construct;
          distinct = held.distinct;
          used = held.used;
          named = held.named;
          again = held.again;
          inputs = held.inputs;
          input_numbers = held.input_numbers;
          outputs = held.outputs;
          output_numbers = held.output_numbers;
          wrong_row_is = wrong_is ∙ (turned right ∙ sym last);
          is_open = opened;
          current = λ e. record {
            line = line_is ∙ was.line;
            pins = ap (λ pins. names_at old.names pins.items) pins ∙ was.pins;
            pin_numbers = subst (λ pins. AreNumbers old.names pins.items) (sym pins) was.pin_numbers;
            output = ap (name_at old.names) output ∙ was.output;
            output_number = (let few = was.output_number in omega (arith, few, output));
            rows = kept (wrong-none e) one.rows line was.rows;
          };
          excess_is = λ e. held.excess_is none;
          few = held.few;
          uses = λ e small. held.uses none small;
          covers = λ e small. (let is = held.covers none small in record { gates = is.gates; holds = is.holds; gate_numbers = is.gate_numbers; counted = is.counted; constants = is.constants; constant_numbers = is.constant_numbers; pins = is.pins; pin_numbers = is.pin_numbers });
        }
      where
        by_right : (right : Bool) → cond right None (Some line) ≡ None → right ≡ true
        by_right true e = refl
        by_right false e = let x : Some line ≡ None = e in cc

        turned : (right : Bool) → cond right None (Some line) ≡ cond (not right) (Some line) None
        turned true = refl
        turned false = refl

-- the cover is closed where none is read
pub holds-closed_apart : (read : Read) (old : Draft) → old.is_open ≡ false → Holds read old → Holds (closed read) old
holds-closed_apart read old shut held = by_current read.current refl (sym held.is_open ∙ shut)
  where
    by_current : (current : Option Cover) → read.current ≡ current → is_some current ≡ false → Holds (closed read) old
    by_current None at h =
        subst (λ (current : Option Cover). Holds (record read { done = covers_with read.done current; used = uses_with read.used current; current = None }) old) (sym at)
        (subst (λ (current : Option Cover). Holds (record read { current = current }) old) at held)
    by_current (Some cover) at h = let e : true ≡ false = h in cc

-- uses of numbers one after the other
pub uses-step : (line : ℕ) (names : Names) (numbers : List ℕ) (index : ℕ) (used : List (Numbered (List ℕ))) → index < length numbers
    → (used ++ on_line line (names_at names (take index numbers))) ++ record { line = line; statement = name_at names (get_or numbers index 0) } ∷ []
    ≡ used ++ on_line line (names_at names (take (index + 1) numbers))
uses-step line names numbers index used few =
    append_assoc used (on_line line (names_at names (take index numbers))) (record { line = line; statement = name_at names (get_or numbers index 0) } ∷ [])
    ∙ ap (λ all. used ++ all)
    (sym (map-append (λ (name : List ℕ). record { line = line; statement = name }) (names_at names (take index numbers)) (name_at names (get_or numbers index 0) ∷ []))
    ∙ ap (on_line line) (sym (map-append (name_at names) (take index numbers) (get_or numbers index 0 ∷ [])) ∙ ap (names_at names) (sym (take_more numbers index 0 few))))

-- a cover by its pins and its output
all_but-last : (pins : List (List ℕ)) (output : List ℕ) → all_but_last (pins ++ output ∷ []) ≡ pins
all_but-last [] output = refl
all_but-last (pin ∷ []) output = refl
all_but-last (pin ∷ next ∷ rest) output = ap (λ (all : List (List ℕ)). pin ∷ all) (all_but-last (next ∷ rest) output)

pub with_cover-split : (line : ℕ) (pins : List (List ℕ)) (output : List ℕ) (read : Read) → with_cover line (pins ++ output ∷ []) read ≡ with_begun line pins output read
with_cover-split line [] output read = refl
with_cover-split line (pin ∷ pins) output read =
    ap (λ some. with_begun line some (last_token ((pin ∷ pins) ++ output ∷ [])) read) (all_but-last (pin ∷ pins) output)
    ∙ ap (λ output. with_begun line (pin ∷ pins) output read) (last_token_last (pin ∷ pins) output)

pub pins-step : (pins : List (Bor (List ℕ))) (front : List (List ℕ)) (index : ℕ) (default : Bor (List ℕ)) → index < length pins
    → (front ++ bytes_of (take index pins)) ++ (get_or pins index default).now ∷ [] ≡ front ++ bytes_of (take (index + 1) pins)
pins-step pins front index default few =
    append_assoc front (bytes_of (take index pins)) ((get_or pins index default).now ∷ [])
    ∙ ap (λ all. front ++ all) (sym (ap bytes_of (take_more pins index default few) ∙ map-append (λ (word : Bor (List ℕ)). word.now) (take index pins) (get_or pins index default ∷ [])))
