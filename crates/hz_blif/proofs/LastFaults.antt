-- The last three faults, by what is kept: constant covers that are used, undefined names, and too many variables.
use Rattle.std.proofs.Common.{◌≡◌, ◌∙◌, refl, sym, ap, subst, ℕ, suc, ◌+◌, ◌<◌, ◌≤◌, inl, inr, ◌||◌, Bool, true, false, not, cond, List, [], ◌∷◌, ◌++◌, map, filter, length, Option, Some, None, is_some, option_map, arith, append_assoc}
use Rattle.std.specs.Prelude.{Contains, ◌&&◌, ◌^◌, nat_eq, nat_lt}
use Rattle.std.proofs.lemmas.Bool.Decides.{nat_tests}
use Rattle.std.specs.List.{find, flat_map, list_any}
use Rattle.std.specs.Str.{bytes_eq}
use Rattle.std.proofs.lemmas.List.{append-nil, length-map}
use Rattle.std.proofs.lemmas.List.Elements.{All-head, All-tail, Contains-append_cases, Contains-append_left, Contains-append_right}
use Rattle.std.proofs.lemmas.List.Sums.{sum_by-append, sum_by-cons}
use Rattle.hz_lists.specs.Least.{IsLeastOf}
use Rattle.hz_lists.proofs.LeastLemmas.{IsLeastOf-same}
use Rattle.hz_line.specs.LeastFault.{first_found}
use Rattle.hz_line.specs.Statement.{Numbered, first_passing_line}
use Rattle.hz_line.proofs.StatementLemmas.{Ascends}
use Rattle.hz_netlist.specs.Element.{Input, Output, element_variables, variable_total}
use Rattle.hz_netlist.specs.Names.{AreNamesOf, first_undefined, seen_at, is_among, names_of, on_line, name_at}
use Rattle.hz_core.specs.Limits.{most_variables}
use Rattle.hz_line.specs.Line.{most_text_bytes}
use Rattle.hz_blif.specs.declared.draft.Constant.{Constant}
use Rattle.hz_blif.specs.declared.draft.Draft.{Draft}
use Rattle.hz_blif.specs.Fault.{IsLeastFault, IsFaultless}
use Rattle.hz_blif.proofs.CheckLaws.{found-last, stop}
use Rattle.hz_blif.proofs.Growing.{varying-room}
use Rattle.hz_blif.proofs.TextRoom.{text-room}
use Rattle.hz_blif.specs.declared.fault.BlifFault.TheVariants as fault
use Rattle.hz_blif.specs.Check.{first_fault, least_of, undefined_use, too_many}
use Rattle.hz_blif.specs.Circuit.{elements_of_lines}
use Rattle.hz_blif.specs.Cover.{Cover, all_but_last, cover_of_line, covers_of, definitions_of, inputs_of, is_constant, is_skipped, is_used, kept_covers, last_token, leading_rows, outputs_of, outputs_with, uses_of}
use Rattle.hz_blif.specs.Draft.{IsClean, IsDraftOf, constant_by, cover_uses, first_used, is_used_number, output_on, uses_in_order, varying}
use Rattle.hz_blif.specs.Gates.{cover_gates}
use Rattle.hz_blif.specs.Line.{Line, Blank, Model, Inputs, Outputs, Names, Row, End, Construct, lines_in}
use Rattle.hz_blif.proofs.Ascending.{lines_in-ascend}
use Rattle.hz_blif.proofs.FoundFaults.{answer-faultless, answer-least, undefined-least}
use Rattle.hz_blif.proofs.NumberSteps.{AreConstantNumbers, user-at}
use Rattle.hz_blif.proofs.ReadLaws.{is-read}
use Rattle.hz_blif.proofs.UseLaws.{constants-used, kept-varying, number-among, some-line, used-parts}
use Rattle.hz_netlist.proofs.Undefined.{Climbs, IsUndefinedIn, climbs-weaker, first-undefined-least, least-one, climbs-on_line}

-- uses ascend by their lines
uses-climb : (lines : List (Numbered Line)) (low : ℕ) → Ascends low lines → Climbs low (uses_in_order lines)
uses-climb [] low h = tt
uses-climb (first ∷ rest) low h = by_line first.statement (uses-climb rest (suc first.line) h.1)
  where
    none : Climbs (suc first.line) (uses_in_order rest) → Climbs low (uses_in_order rest)
    none ih = climbs-weaker low (suc first.line) (uses_in_order rest) (omega (arith, h.0)) ih

    by_cover : (names : List (List ℕ)) (constant : Bool) → Climbs (suc first.line) (uses_in_order rest) → Climbs low ((cond constant [] (on_line first.line names) ++ []) ++ uses_in_order rest)
    by_cover names true ih = none ih
    by_cover names false ih =
        subst (λ front. Climbs low (front ++ uses_in_order rest)) (sym (append-nil (on_line first.line names)))
        (climbs-weaker low first.line (on_line first.line names ++ uses_in_order rest) h.0 (climbs-on_line first.line (suc first.line) names (uses_in_order rest) (omega arith) ih))

    by_line : (it : Line) → Climbs (suc first.line) (uses_in_order rest)
        → Climbs low (flat_map cover_uses (cover_of_line first.line it (leading_rows rest) []) ++ (outputs_with first.line it ++ uses_in_order rest))
    by_line Blank ih = none ih
    by_line (Model names) ih = none ih
    by_line (Inputs names) ih = none ih
    by_line (Outputs names) ih = climbs-weaker low first.line (on_line first.line names ++ uses_in_order rest) h.0 (climbs-on_line first.line (suc first.line) names (uses_in_order rest) (omega arith) ih)
    by_line (Names []) ih = none ih
    by_line (Names (one ∷ names)) ih =
        by_cover (all_but_last (one ∷ names)) (is_constant (record { line = first.line; pins = all_but_last (one ∷ names); output = last_token (one ∷ names); rows = leading_rows rest })) ih
    by_line (Row tokens) ih = none ih
    by_line (End tokens) ih = none ih
    by_line Construct ih = none ih

-- the uses of covers that are not constant, and the outputs, in two lists
abbrev uses_by_kind : List (Numbered Line) → List (Numbered (List ℕ))
uses_by_kind lines = flat_map (λ cover. on_line cover.line cover.pins) (varying (covers_of lines)) ++ outputs_of lines

swap-in : {A : Type 0} (a b c : List A) (x : A) → Contains (a ++ (b ++ c)) x → Contains (b ++ (a ++ c)) x
swap-in a b c x h = elim (Contains-append_cases a (b ++ c) x h) [
  | inl left ↦ Contains-append_right b (a ++ c) x (Contains-append_left a c x left)
  | inr right ↦ elim (Contains-append_cases b c x right) [
    | inl middle ↦ Contains-append_left b (a ++ c) x middle
    | inr last ↦ Contains-append_right b (a ++ c) x (Contains-append_right a c x last)
  ]
]

front-in : {A : Type 0} (a b c : List A) (x : A) → (Contains b x → Contains c x) → Contains (a ++ b) x → Contains (a ++ c) x
front-in a b c x to h = elim (Contains-append_cases a b x h) [
  | inl left ↦ Contains-append_left a c x left
  | inr right ↦ Contains-append_right a c x (to right)
]

uses-there : (lines : List (Numbered Line)) (x : Numbered (List ℕ)) → Contains (uses_in_order lines) x → Contains (uses_by_kind lines) x
uses-there [] x c = c
uses-there (first ∷ rest) x c = by_line first.statement c (uses-there rest x)
  where
    by_cover : (cover : Cover) (constant : Bool) → Contains ((cond constant [] (on_line cover.line cover.pins) ++ []) ++ uses_in_order rest) x → (Contains (uses_in_order rest) x → Contains (uses_by_kind rest) x)
        → Contains (flat_map (λ cover. on_line cover.line cover.pins) (cond (not constant) (cover ∷ varying (covers_of rest)) (varying (covers_of rest))) ++ outputs_of rest) x
    by_cover cover true c ih = ih c
    by_cover cover false c ih =
        subst (λ all. Contains all x) (sym (append_assoc (on_line cover.line cover.pins) (flat_map (λ cover. on_line cover.line cover.pins) (varying (covers_of rest))) (outputs_of rest)))
        (front-in (on_line cover.line cover.pins) (uses_in_order rest) (uses_by_kind rest) x ih (subst (λ front. Contains (front ++ uses_in_order rest) x) (append-nil (on_line cover.line cover.pins)) c))

    by_line : (it : Line) → Contains (flat_map cover_uses (cover_of_line first.line it (leading_rows rest) []) ++ (outputs_with first.line it ++ uses_in_order rest)) x → (Contains (uses_in_order rest) x → Contains (uses_by_kind rest) x)
        → Contains (flat_map (λ cover. on_line cover.line cover.pins) (varying (cover_of_line first.line it (leading_rows rest) (covers_of rest))) ++ (outputs_with first.line it ++ outputs_of rest)) x
    by_line Blank c ih = ih c
    by_line (Model names) c ih = ih c
    by_line (Inputs names) c ih = ih c
    by_line (Outputs names) c ih =
        swap-in (on_line first.line names) (flat_map (λ cover. on_line cover.line cover.pins) (varying (covers_of rest))) (outputs_of rest) x (front-in (on_line first.line names) (uses_in_order rest) (uses_by_kind rest) x ih c)
    by_line (Names []) c ih = ih c
    by_line (Names (one ∷ names)) c ih =
        let cover : Cover = record { line = first.line; pins = all_but_last (one ∷ names); output = last_token (one ∷ names); rows = leading_rows rest } in
        by_cover cover (is_constant cover) c ih
    by_line (Row tokens) c ih = ih c
    by_line (End tokens) c ih = ih c
    by_line Construct c ih = ih c

uses-back : (lines : List (Numbered Line)) (x : Numbered (List ℕ)) → Contains (uses_by_kind lines) x → Contains (uses_in_order lines) x
uses-back [] x c = c
uses-back (first ∷ rest) x c = by_line first.statement c (uses-back rest x)
  where
    by_cover : (cover : Cover) (constant : Bool) → Contains (flat_map (λ cover. on_line cover.line cover.pins) (cond (not constant) (cover ∷ varying (covers_of rest)) (varying (covers_of rest))) ++ outputs_of rest) x
        → (Contains (uses_by_kind rest) x → Contains (uses_in_order rest) x) → Contains ((cond constant [] (on_line cover.line cover.pins) ++ []) ++ uses_in_order rest) x
    by_cover cover true c ih = ih c
    by_cover cover false c ih =
        subst (λ front. Contains (front ++ uses_in_order rest) x) (sym (append-nil (on_line cover.line cover.pins)))
        (front-in (on_line cover.line cover.pins) (uses_by_kind rest) (uses_in_order rest) x ih
        (subst (λ all. Contains all x) (append_assoc (on_line cover.line cover.pins) (flat_map (λ cover. on_line cover.line cover.pins) (varying (covers_of rest))) (outputs_of rest)) c))

    by_line : (it : Line) → Contains (flat_map (λ cover. on_line cover.line cover.pins) (varying (cover_of_line first.line it (leading_rows rest) (covers_of rest))) ++ (outputs_with first.line it ++ outputs_of rest)) x
        → (Contains (uses_by_kind rest) x → Contains (uses_in_order rest) x) → Contains (flat_map cover_uses (cover_of_line first.line it (leading_rows rest) []) ++ (outputs_with first.line it ++ uses_in_order rest)) x
    by_line Blank c ih = ih c
    by_line (Model names) c ih = ih c
    by_line (Inputs names) c ih = ih c
    by_line (Outputs names) c ih =
        front-in (on_line first.line names) (uses_by_kind rest) (uses_in_order rest) x ih (swap-in (flat_map (λ cover. on_line cover.line cover.pins) (varying (covers_of rest))) (on_line first.line names) (outputs_of rest) x c)
    by_line (Names []) c ih = ih c
    by_line (Names (one ∷ names)) c ih =
        let cover : Cover = record { line = first.line; pins = all_but_last (one ∷ names); output = last_token (one ∷ names); rows = leading_rows rest } in
        by_cover cover (is_constant cover) c ih
    by_line (Row tokens) c ih = ih c
    by_line (End tokens) c ih = ih c
    by_line Construct c ih = ih c

-- where nothing is noted and no constant cover is used, the table tells the first undefined name
pub undefined-told : (text : List ℕ) (draft : Draft) → IsDraftOf text draft → IsClean draft
    → find (λ cover. is_constant cover && not (is_skipped (lines_in text) cover)) (covers_of (lines_in text)) ≡ None
    → least_of (map (undefined_use (names_of (definitions_of (lines_in text)))) (uses_of (lines_in text))) ≡ first_undefined draft.names
undefined-told text draft is clean none =
    let lines = lines_in text in
    let read = is-read lines in
    let held = is.holds in
    let uses : held.used ≡ uses_in_order lines = held.uses clean.wrong_row clean.excess ∙ read.used in
    let named = subst (λ used. AreNamesOf (definitions_of lines) used draft.names) uses (subst (λ definitions. AreNamesOf definitions held.used draft.names) read.definitions held.named) in
    let table = first-undefined-least (definitions_of lines) (uses_in_order lines) draft.names 1 (uses-climb lines 1 (lines_in-ascend text)) held.distinct named in
    let kept : uses_of lines ≡ uses_by_kind lines = ap (λ covers. flat_map (λ cover. on_line cover.line cover.pins) covers ++ outputs_of lines) (kept-varying lines (covers_of lines) none) in
    let computed = subst (λ uses. IsLeastOf (IsUndefinedIn (names_of (definitions_of lines)) uses) (least_of (map (undefined_use (names_of (definitions_of lines))) uses))) kept
    (undefined-least (names_of (definitions_of lines)) (uses_of lines)) in
    ap (λ uses. least_of (map (undefined_use (names_of (definitions_of lines))) uses)) kept
    ∙ least-one (IsUndefinedIn (names_of (definitions_of lines)) (uses_by_kind lines)) _ _ computed
    (IsLeastOf-same (IsUndefinedIn (names_of (definitions_of lines)) (uses_in_order lines)) (IsUndefinedIn (names_of (definitions_of lines)) (uses_by_kind lines)) (first_undefined draft.names)
    (λ line p. (p.0, uses-there lines (record { line = line; statement = p.0 }) p.1, p.2)) (λ line p. (p.0, uses-back lines (record { line = line; statement = p.0 }) p.1, p.2)) table)

-- the count of variables
inputs-total : (names : List (List ℕ)) → variable_total (map Input names) ≡ length names
inputs-total [] = refl
inputs-total (name ∷ names) = (let a = sum_by-cons element_variables (Input name) (map Input names) in let b = inputs-total names in omega (arith, a, b))

outputs-total : (outputs : List (Numbered (List ℕ))) → variable_total (map (λ output. Output output.statement) outputs) ≡ 0
outputs-total [] = refl
outputs-total (one ∷ rest) = (let a = sum_by-cons element_variables (Output one.statement) (map (λ output. Output output.statement) rest) in let b = outputs-total rest in omega (arith, a, b))

pub variables-told : (text : List ℕ) (draft : Draft) → IsDraftOf text draft → IsClean draft
    → find (λ cover. is_constant cover && not (is_skipped (lines_in text) cover)) (covers_of (lines_in text)) ≡ None
    → variable_total (elements_of_lines (lines_in text)) ≡ length draft.inputs.items + draft.variables
variables-told text draft is clean none =
    let lines = lines_in text in
    let read = is-read lines in
    let held = is.holds in
    let counted = (held.covers clean.wrong_row clean.excess).counted in
    let kept = ap (λ covers. variable_total (flat_map cover_gates covers)) (kept-varying lines (covers_of lines) none) in
    let done = ap (λ covers. variable_total (flat_map cover_gates (varying covers))) read.done in
    let a = sum_by-append element_variables (map Input (inputs_of lines)) (flat_map cover_gates (kept_covers lines) ++ map (λ output. Output output.statement) (outputs_of lines)) in
    let b = sum_by-append element_variables (flat_map cover_gates (kept_covers lines)) (map (λ output. Output output.statement) (outputs_of lines)) in
    let c = inputs-total (inputs_of lines) in
    let d = outputs-total (outputs_of lines) in
    let e = length-map draft.inputs.items (name_at draft.names) in
    let f = ap length (held.inputs ∙ read.inputs) in
    omega (arith, counted, kept, done, a, b, c, d, e, f)

-- the first constant cover that is used
pub constant-told : (text : List ℕ) (draft : Draft) → IsDraftOf text draft → IsClean draft
    → option_map (λ (cover : Cover). cover.line) (find (λ cover. is_constant cover && not (is_skipped (lines_in text) cover)) (covers_of (lines_in text)))
    ≡ first_passing_line (is_used (lines_in text)) (map (constant_by draft.names) draft.constants.items)
constant-told text draft is clean =
    let lines = lines_in text in
    let held = is.holds in
    let covers = held.covers clean.wrong_row clean.excess in
    constants-used lines (covers_of lines)
    ∙ sym (ap (first_passing_line (is_used lines)) (covers.constants ∙ ap (λ covers. map output_on (filter is_constant covers)) (is-read lines).done))

-- whether the name with a number is used: it is a pin of a constant cover, or it has a user
pub used-told : (text : List ℕ) (draft : Draft) (number : ℕ) → IsDraftOf text draft → IsClean draft → number < length draft.names
    → is_used (lines_in text) (name_at draft.names number) ≡ (list_any (nat_eq number) draft.constant_pins.items || is_some (seen_at draft.names number).user)
used-told text draft number is clean few =
    let lines = lines_in text in
    let read = is-read lines in
    let held = is.holds in
    let covers = held.covers clean.wrong_row clean.excess in
    let name = name_at draft.names number in
    let uses : held.used ≡ uses_in_order lines = held.uses clean.wrong_row clean.excess ∙ read.used in
    let user : (seen_at draft.names number).user ≡ first_passing_line (bytes_eq name) (uses_in_order lines) =
    user-at draft.names number held.distinct few ∙ (held.named.user name ∙ ap (first_passing_line (bytes_eq name)) uses) in
    let pins : list_any (nat_eq number) draft.constant_pins.items ≡ is_among (flat_map (λ cover. cover.pins) (filter is_constant (covers_of lines))) name =
    number-among draft.names number draft.constant_pins.items held.distinct few covers.pin_numbers
    ∙ ap (λ pins. is_among pins name) (covers.pins ∙ ap (λ covers. flat_map (λ cover. cover.pins) (filter is_constant covers)) read.done) in
    used-parts lines name
    ∙ (ap (λ front. front || list_any (λ (one : Numbered (List ℕ)). bytes_eq name one.statement) (uses_in_order lines)) (sym pins)
    ∙ ap (λ back. list_any (nat_eq number) draft.constant_pins.items || back) (sym (ap is_some user ∙ some-line (bytes_eq name) (uses_in_order lines))))

pub first-used-told : (text : List ℕ) (draft : Draft) (constants : List Constant) → IsDraftOf text draft → IsClean draft → AreConstantNumbers draft.names constants
    → first_used draft constants ≡ first_passing_line (is_used (lines_in text)) (map (constant_by draft.names) constants)
first-used-told text draft [] is clean are = refl
first-used-told text draft (constant ∷ rest) is clean are =
    let here = used-told text draft constant.output is clean (All-head (λ constant. constant.output < length draft.names) constant rest are) in
    let later = first-used-told text draft rest is clean (All-tail (λ constant. constant.output < length draft.names) constant rest are) in
    ap (λ later. cond (is_used_number draft constant.output) (Some constant.line) later) later
    ∙ (ap (λ used. cond used (Some constant.line) (first_passing_line (is_used (lines_in text)) (map (constant_by draft.names) rest))) (sym here)
    ∙ by_used (is_used (lines_in text) (name_at draft.names constant.output)))
  where
    by_used : (used : Bool) → cond used (Some constant.line) (first_passing_line (is_used (lines_in text)) (map (constant_by draft.names) rest))
        ≡ option_map (λ (one : Numbered (List ℕ)). one.line) (cond used (Some (constant_by draft.names constant)) (find (λ one. is_used (lines_in text) one.statement) (map (constant_by draft.names) rest)))
    by_used true = refl
    by_used false = refl

-- the last faults by what is kept
pub constant-found : (text : List ℕ) (draft : Draft) → IsDraftOf text draft → IsClean draft → AreConstantNumbers draft.names draft.constants.items
    → option_map (λ (cover : Cover). fault.Constant cover.line) (find (λ cover. is_constant cover && not (is_skipped (lines_in text) cover)) (covers_of (lines_in text)))
    ≡ option_map fault.Constant (first_used draft draft.constants.items)
constant-found text draft is clean are =
    map-twice (find (λ cover. is_constant cover && not (is_skipped (lines_in text) cover)) (covers_of (lines_in text)))
    ∙ ap (option_map fault.Constant) (constant-told text draft is clean ∙ sym (first-used-told text draft draft.constants.items is clean are))
  where
    map-twice : (found : Option Cover) → option_map (λ (cover : Cover). fault.Constant cover.line) found ≡ option_map fault.Constant (option_map (λ (cover : Cover). cover.line) found)
    map-twice None = refl
    map-twice (Some cover) = refl

-- the answers
pub refuse-constant : (text : List ℕ) (draft : Draft) (line : ℕ) → IsDraftOf text draft → IsClean draft → first_used draft draft.constants.items ≡ Some line → IsLeastFault text (fault.Constant line)
refuse-constant text draft line is clean at =
    let are = (is.holds.covers clean.wrong_row clean.excess).constant_numbers in
    answer-least text (fault.Constant line) (found-last text draft is clean ∙ stop _ _ (fault.Constant line) (constant-found text draft is clean are ∙ ap (option_map fault.Constant) at))

no-cover : (text : List ℕ) (draft : Draft) → IsDraftOf text draft → IsClean draft → first_used draft draft.constants.items ≡ None
    → find (λ cover. is_constant cover && not (is_skipped (lines_in text) cover)) (covers_of (lines_in text)) ≡ None
no-cover text draft is clean at =
    let are = (is.holds.covers clean.wrong_row clean.excess).constant_numbers in
    by_found (find (λ cover. is_constant cover && not (is_skipped (lines_in text) cover)) (covers_of (lines_in text))) (constant-found text draft is clean are ∙ ap (option_map fault.Constant) at)
  where
    by_found : (found : Option Cover) → option_map (λ (cover : Cover). fault.Constant cover.line) found ≡ None → found ≡ None
    by_found None e = refl
    by_found (Some cover) e = cc

last-two : (text : List ℕ) (draft : Draft) → IsDraftOf text draft → IsClean draft → first_used draft draft.constants.items ≡ None
    → first_fault text ≡ first_found (option_map fault.Undefined (first_undefined draft.names) ∷ too_many (length draft.inputs.items + draft.variables) ∷ [])
last-two text draft is clean at =
    let none = no-cover text draft is clean at in
    let lines = lines_in text in
    found-last text draft is clean
    ∙ (ap (λ found. first_found (option_map (λ (cover : Cover). fault.Constant cover.line) found
    ∷ option_map fault.Undefined (least_of (map (undefined_use (names_of (definitions_of lines))) (uses_of lines))) ∷ too_many (variable_total (elements_of_lines lines)) ∷ [])) none
    ∙ (ap (λ line. first_found (option_map fault.Undefined line ∷ too_many (variable_total (elements_of_lines lines)) ∷ [])) (undefined-told text draft is clean none)
    ∙ ap (λ variables. first_found (option_map fault.Undefined (first_undefined draft.names) ∷ too_many variables ∷ [])) (variables-told text draft is clean none)))

pub refuse-undefined : (text : List ℕ) (draft : Draft) (line : ℕ) → IsDraftOf text draft → IsClean draft → first_used draft draft.constants.items ≡ None → first_undefined draft.names ≡ Some line → IsLeastFault text (fault.Undefined line)
refuse-undefined text draft line is clean none at =
    answer-least text (fault.Undefined line) (last-two text draft is clean none ∙ ap (λ found. first_found (option_map fault.Undefined found ∷ too_many (length draft.inputs.items + draft.variables) ∷ [])) at)

pub refuse-many : (text : List ℕ) (draft : Draft) (variables : ℕ) → IsDraftOf text draft → IsClean draft → first_used draft draft.constants.items ≡ None → first_undefined draft.names ≡ None
    → variables ≡ length draft.inputs.items + draft.variables → most_variables < variables → IsLeastFault text (fault.TooMany variables)
refuse-many text draft variables is clean none known total many =
    let t : nat_lt most_variables variables ≡ true = grind (arith, nat_tests, many) in
    answer-least text (fault.TooMany variables) (last-two text draft is clean none
    ∙ (ap (λ found. first_found (option_map fault.Undefined found ∷ too_many (length draft.inputs.items + draft.variables) ∷ [])) known
    ∙ (ap (λ variables. first_found (too_many variables ∷ [])) (sym total) ∙ ap (λ many. first_found (cond many (Some (fault.TooMany variables)) None ∷ [])) t)))

pub accept : (text : List ℕ) (draft : Draft) → IsDraftOf text draft → IsClean draft → first_used draft draft.constants.items ≡ None → first_undefined draft.names ≡ None
    → length draft.inputs.items + draft.variables ≤ most_variables → IsFaultless text
accept text draft is clean none known few =
    let t : nat_lt most_variables (length draft.inputs.items + draft.variables) ≡ false = grind (arith, nat_tests, few) in
    answer-faultless text (last-two text draft is clean none
    ∙ (ap (λ found. first_found (option_map fault.Undefined found ∷ too_many (length draft.inputs.items + draft.variables) ∷ [])) known
    ∙ ap (λ many. first_found (cond many (Some (fault.TooMany (length draft.inputs.items + draft.variables))) None ∷ [])) t))

-- the count fits
pub count-small : (text : List ℕ) (draft : Draft) → IsDraftOf text draft → length text ≤ most_text_bytes → length draft.inputs.items + draft.variables < 2 ^ 32
count-small text draft is small =
    let held = is.holds in
    let read = is-read (lines_in text) in
    let few = held.few in
    let room = varying-room (covers_of (lines_in text)) in
    let done = ap (λ covers. variable_total (flat_map cover_gates (varying covers))) read.done in
    let e = length-map draft.inputs.items (name_at draft.names) in
    let f = ap length (held.inputs ∙ read.inputs) in
    let whole = text-room text in
    omega (arith, small, few, room, done, e, f, whole)
