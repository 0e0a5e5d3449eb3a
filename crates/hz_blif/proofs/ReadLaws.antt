-- What lines are, read one by one, is what they are as a whole.
use Rattle.std.proofs.Common.{◌≡◌, ◌∙◌, refl, sym, ap, ℕ, ◌+◌, ◌≤◌, Bool, true, false, cond, List, [], ◌∷◌, ◌++◌, fold, length, Option, Some, None, option_map, arith, append_assoc}
use Rattle.std.specs.List.{find, flat_map, sum_by}
use Rattle.std.specs.Option.{option_or}
use Rattle.std.proofs.lemmas.List.{append-nil, map-append}
use Rattle.std.proofs.lemmas.List.Sums.{sum_by-append, sum_by-cons}
use Rattle.hz_line.specs.Statement.{Numbered, first_passing_line}
use Rattle.hz_blif.specs.Cover.{Cover, all_but_last, covers_of, definitions_of, inputs_of, last_token, leading_rows, outputs_of, plane_of}
use Rattle.hz_blif.specs.Draft.{Read, closed, cover_room, cover_uses, covers_with, note_if, noting, nothing_read, read_of, row_added, taking, uses_in_order, uses_with, with_next}
use Rattle.hz_blif.specs.Fault.{line_has_long_name}
use Rattle.hz_blif.specs.Line.{Line, Blank, Model, Inputs, Outputs, Names, Row, End, Construct, is_construct}
use Rattle.hz_netlist.specs.Names.{names_of, on_line}

-- the last cover with the rows that come, before the covers of these lines
abbrev pub with_rows : Option Cover → List (Numbered (List (List ℕ))) → List Cover
with_rows None rows = []
with_rows (Some cover) rows = record cover { rows = cover.rows ++ rows } ∷ []

-- what is read of lines behind others
pub record ReadsOn (read all : Read) (lines : List (Numbered Line)) : Type 0 where
  pub long_name : all.long_name ≡ option_or read.long_name (first_passing_line line_has_long_name lines)
  pub construct : all.construct ≡ option_or read.construct (first_passing_line is_construct lines)
  pub definitions : all.definitions ≡ read.definitions ++ definitions_of lines
  pub inputs : all.inputs ≡ read.inputs ++ inputs_of lines
  pub outputs : all.outputs ≡ read.outputs ++ names_of (outputs_of lines)
  pub used : all.used ≡ read.used ++ (flat_map cover_uses (with_rows read.current (leading_rows lines)) ++ uses_in_order lines)
  pub done : all.done ≡ read.done ++ (with_rows read.current (leading_rows lines) ++ covers_of lines)

or-none : {A : Type 0} (one : Option A) → option_or one None ≡ one
or-none None = refl
or-none (Some item) = refl

first-cons : (test : Line → Bool) (known : Option ℕ) (first : Numbered Line) (rest : List (Numbered Line))
    → option_or (note_if known (test first.statement) first.line) (first_passing_line test rest) ≡ option_or known (first_passing_line test (first ∷ rest))
first-cons test known first rest = by_known known (test first.statement)
  where
    by_known : (known : Option ℕ) (passes : Bool) → option_or (note_if known passes first.line) (first_passing_line test rest)
        ≡ option_or known (option_map (λ (numbered : Numbered Line). numbered.line) (cond passes (Some first) (find (λ numbered. test numbered.statement) rest)))
    by_known None true = refl
    by_known None false = refl
    by_known (Some line) passes = refl

-- a cover that ends, before other covers and uses
ended-covers : (done : List Cover) (current : Option Cover) (more : List Cover) → covers_with done current ++ more ≡ done ++ (with_rows current [] ++ more)
ended-covers done None more = refl
ended-covers done (Some cover) more =
    append_assoc done (cover ∷ []) more ∙ ap (λ rows. done ++ record cover { rows = rows } ∷ more) (sym (append-nil cover.rows))

ended-uses : (used : List (Numbered (List ℕ))) (current : Option Cover) (more : List (Numbered (List ℕ))) → uses_with used current ++ more ≡ used ++ (flat_map cover_uses (with_rows current []) ++ more)
ended-uses used None more = refl
ended-uses used (Some cover) more =
    append_assoc used (cover_uses cover) more
    ∙ ap (λ uses. used ++ (uses ++ more)) (ap (λ rows. cover_uses (record cover { rows = rows })) (sym (append-nil cover.rows)) ∙ sym (append-nil (cover_uses (record cover { rows = cover.rows ++ [] }))))

-- a line that ends the cover that is read, and says nothing else
reads-closing : (read all : Read) (line : ℕ) (it : Line) (rest : List (Numbered Line)) → let lines = record { line = line; statement = it } ∷ rest in
    definitions_of lines ≡ definitions_of rest → inputs_of lines ≡ inputs_of rest → outputs_of lines ≡ outputs_of rest → uses_in_order lines ≡ uses_in_order rest → covers_of lines ≡ covers_of rest → leading_rows lines ≡ []
    → ReadsOn (closed (noting line it read)) all rest → ReadsOn read all lines
reads-closing read all line it rest definitions inputs outputs uses covers rows is = record {
  long_name = is.long_name ∙ first-cons line_has_long_name read.long_name (record { line = line; statement = it }) rest;
  construct = is.construct ∙ first-cons is_construct read.construct (record { line = line; statement = it }) rest;
  definitions = is.definitions ∙ ap (λ more. read.definitions ++ more) (sym definitions);
  inputs = is.inputs ∙ ap (λ more. read.inputs ++ more) (sym inputs);
  outputs = is.outputs ∙ ap (λ more. read.outputs ++ names_of more) (sym outputs);
  used = is.used ∙ ended-uses read.used read.current (uses_in_order rest)
      ∙ ap (λ rows. read.used ++ (flat_map cover_uses (with_rows read.current rows) ++ uses_in_order rest)) (sym rows) ∙ ap (λ more. read.used ++ (flat_map cover_uses (with_rows read.current (leading_rows (record { line = line; statement = it } ∷ rest))) ++ more)) (sym uses);
  done = is.done ∙ ended-covers read.done read.current (covers_of rest)
      ∙ ap (λ rows. read.done ++ (with_rows read.current rows ++ covers_of rest)) (sym rows) ∙ ap (λ more. read.done ++ (with_rows read.current (leading_rows (record { line = line; statement = it } ∷ rest)) ++ more)) (sym covers);
}

-- one line more in front
reads-step : (read all : Read) (line : ℕ) (it : Line) (rest : List (Numbered Line)) → ReadsOn (taking line it (noting line it read)) all rest → ReadsOn read all (record { line = line; statement = it } ∷ rest)
reads-step read all line Blank rest is = record {
  long_name = is.long_name ∙ first-cons line_has_long_name read.long_name (record { line = line; statement = Blank }) rest;
  construct = is.construct ∙ first-cons is_construct read.construct (record { line = line; statement = Blank }) rest;
  definitions = is.definitions;
  inputs = is.inputs;
  outputs = is.outputs;
  used = is.used;
  done = is.done;
}
reads-step read all line (Row tokens) rest is = record {
  long_name = is.long_name ∙ first-cons line_has_long_name read.long_name (record { line = line; statement = Row tokens }) rest;
  construct = is.construct ∙ first-cons is_construct read.construct (record { line = line; statement = Row tokens }) rest;
  definitions = is.definitions;
  inputs = is.inputs;
  outputs = is.outputs;
  used = is.used ∙ ap (λ covers. read.used ++ (flat_map cover_uses covers ++ uses_in_order rest)) (by_current read.current);
  done = is.done ∙ ap (λ covers. read.done ++ (covers ++ covers_of rest)) (by_current read.current);
}
  where
    by_current : (current : Option Cover) → with_rows (row_added line tokens current) (leading_rows rest) ≡ with_rows current (record { line = line; statement = tokens } ∷ leading_rows rest)
    by_current None = refl
    by_current (Some cover) = ap (λ rows. record cover { rows = rows } ∷ []) (append_assoc cover.rows (record { line = line; statement = tokens } ∷ []) (leading_rows rest))
reads-step read all line (Model names) rest is = reads-closing read all line (Model names) rest refl refl refl refl refl refl is
reads-step read all line (End tokens) rest is = reads-closing read all line (End tokens) rest refl refl refl refl refl refl is
reads-step read all line Construct rest is = reads-closing read all line Construct rest refl refl refl refl refl refl is
reads-step read all line (Inputs names) rest is = record {
  long_name = is.long_name ∙ first-cons line_has_long_name read.long_name (record { line = line; statement = Inputs names }) rest;
  construct = is.construct ∙ first-cons is_construct read.construct (record { line = line; statement = Inputs names }) rest;
  definitions = is.definitions ∙ append_assoc read.definitions (on_line line names) (definitions_of rest);
  inputs = is.inputs ∙ append_assoc read.inputs names (inputs_of rest);
  outputs = is.outputs;
  used = is.used ∙ ended-uses read.used read.current (uses_in_order rest);
  done = is.done ∙ ended-covers read.done read.current (covers_of rest);
}
reads-step read all line (Outputs names) rest is = record {
  long_name = is.long_name ∙ first-cons line_has_long_name read.long_name (record { line = line; statement = Outputs names }) rest;
  construct = is.construct ∙ first-cons is_construct read.construct (record { line = line; statement = Outputs names }) rest;
  definitions = is.definitions;
  inputs = is.inputs;
  outputs = is.outputs ∙ append_assoc read.outputs names (names_of (outputs_of rest))
      ∙ ap (λ more. read.outputs ++ more) (sym (map-append (λ (name : Numbered (List ℕ)). name.statement) (on_line line names) (outputs_of rest) ∙ ap (λ names. names ++ names_of (outputs_of rest)) (names-on_line line names)));
  used = is.used ∙ append_assoc (uses_with read.used read.current) (on_line line names) (uses_in_order rest) ∙ ended-uses read.used read.current (on_line line names ++ uses_in_order rest);
  done = is.done ∙ ended-covers read.done read.current (covers_of rest);
}
  where
    names-on_line : (line : ℕ) (names : List (List ℕ)) → names_of (on_line line names) ≡ names
    names-on_line line [] = refl
    names-on_line line (name ∷ names) = ap (λ (all : List (List ℕ)). name ∷ all) (names-on_line line names)
reads-step read all line (Names []) rest is = reads-closing read all line (Names []) rest refl refl refl refl refl refl is
reads-step read all line (Names (name ∷ names)) rest is = record {
  long_name = is.long_name ∙ first-cons line_has_long_name read.long_name (record { line = line; statement = Names (name ∷ names) }) rest;
  construct = is.construct ∙ first-cons is_construct read.construct (record { line = line; statement = Names (name ∷ names) }) rest;
  definitions = is.definitions ∙ append_assoc read.definitions (record { line = line; statement = last_token (name ∷ names) } ∷ []) (definitions_of rest);
  inputs = is.inputs;
  outputs = is.outputs;
  used = is.used ∙ ended-uses read.used read.current (flat_map cover_uses (begun ∷ []) ++ uses_in_order rest);
  done = is.done ∙ ended-covers read.done read.current (begun ∷ covers_of rest);
}
  where
    begun : Cover
    begun = record { line = line; pins = all_but_last (name ∷ names); output = last_token (name ∷ names); rows = leading_rows rest }

reads-end : (read : Read) → ReadsOn read (closed read) []
reads-end read = record {
  long_name = sym (or-none read.long_name);
  construct = sym (or-none read.construct);
  definitions = sym (append-nil read.definitions);
  inputs = sym (append-nil read.inputs);
  outputs = sym (append-nil read.outputs);
  used = sym (append-nil (uses_with read.used read.current)) ∙ ended-uses read.used read.current [];
  done = sym (append-nil (covers_with read.done read.current)) ∙ ended-covers read.done read.current [];
}

pub reads-on : (lines : List (Numbered Line)) (read : Read) → ReadsOn read (closed (fold with_next read lines)) lines
reads-on [] read = reads-end read
reads-on (first ∷ rest) read = reads-step read (closed (fold with_next read (first ∷ rest))) first.line first.statement rest (reads-on rest (with_next read first))

-- what is read of all lines
pub record IsReadOf (lines : List (Numbered Line)) (read : Read) : Type 0 where
  pub long_name : read.long_name ≡ first_passing_line line_has_long_name lines
  pub construct : read.construct ≡ first_passing_line is_construct lines
  pub definitions : read.definitions ≡ definitions_of lines
  pub inputs : read.inputs ≡ inputs_of lines
  pub outputs : read.outputs ≡ names_of (outputs_of lines)
  pub used : read.used ≡ uses_in_order lines
  pub done : read.done ≡ covers_of lines

pub is-read : (lines : List (Numbered Line)) → IsReadOf lines (closed (read_of lines))
is-read lines = let is = reads-on lines nothing_read in record {
  long_name = is.long_name;
  construct = is.construct;
  definitions = is.definitions;
  inputs = is.inputs;
  outputs = is.outputs;
  used = is.used;
  done = is.done;
}

-- the covers so far take no more room than all
with_rows-room : (current : Option Cover) (rows : List (Numbered (List (List ℕ)))) (done : List Cover) → sum_by cover_room (covers_with done current) ≤ sum_by cover_room (done ++ with_rows current rows)
with_rows-room None rows done = (let e = ap (sum_by cover_room) (append-nil done) in omega (arith, e))
with_rows-room (Some cover) rows done =
    let more : Cover = record cover { rows = cover.rows ++ rows } in
    let one = sum_by-append cover_room done (cover ∷ []) in
    let other = sum_by-append cover_room done (more ∷ []) in
    let a = sum_by-cons cover_room cover [] in
    let b = sum_by-cons cover_room more [] in
    let c = sum_by-append (λ (row : Numbered (List (List ℕ))). 2 + length (plane_of row.statement)) cover.rows rows in
    omega (arith, one, other, a, b, c)

pub room-so-far : (before rest : List (Numbered Line)) → sum_by cover_room (covers_with (read_of before).done (read_of before).current) ≤ sum_by cover_room (covers_of (before ++ rest))
room-so-far before rest =
    let read = read_of before in
    let is = reads-on rest read in
    let all = is-read (before ++ rest) in
    let whole : closed (read_of (before ++ rest)) ≡ closed (fold with_next read rest) = ap closed (fold-append before nothing_read) in
    let split : covers_of (before ++ rest) ≡ read.done ++ (with_rows read.current (leading_rows rest) ++ covers_of rest) = sym all.done ∙ ap (λ (read : Read). read.done) whole ∙ is.done in
    let total = ap (sum_by cover_room) (split ∙ sym (append_assoc read.done (with_rows read.current (leading_rows rest)) (covers_of rest))) in
    let parts = sum_by-append cover_room (read.done ++ with_rows read.current (leading_rows rest)) (covers_of rest) in
    let less = with_rows-room read.current (leading_rows rest) read.done in
    omega (arith, total, parts, less)
  where
    fold-append : (before : List (Numbered Line)) (read : Read) → fold with_next read (before ++ rest) ≡ fold with_next (fold with_next read before) rest
    fold-append [] read = refl
    fold-append (first ∷ before) read = fold-append before (with_next read first)
