-- Names that pins and outputs use: which constant covers are used, and which names are undefined.
use Rattle.std.proofs.Common.{◌≡◌, ◌∙◌, refl, sym, ap, ℕ, ◌<◌, ◌||◌, Bool, true, false, not, cond, List, [], ◌∷◌, ◌++◌, map, filter, length, Some, None, is_some, option_map, arith}
use Rattle.std.specs.Prelude.{◌&&◌, nat_eq}
use Rattle.std.specs.List.{IsDistinct, find, flat_map, list_any}
use Rattle.std.specs.Str.{bytes_eq}
use Rattle.std.proofs.lemmas.List.Elements.{All-head, All-tail}
use Rattle.std.proofs.lemmas.List.{append-nil, map-append}
use Rattle.std.proofs.lemmas.List.Folds.{list_any-append}
use Rattle.std.proofs.lemmas.Bool.Decides.{nat_tests}
use Rattle.std.proofs.lemmas.Slice.Eq.{bytes_eq-Decides}
use Rattle.hz_line.specs.Statement.{Numbered, first_passing_line}
use Rattle.hz_netlist.specs.Names.{Names, seen_names, is_among, names_of, on_line, AreNumbers, names_at, name_at}
use Rattle.hz_blif.specs.Cover.{Cover, all_but_last, cover_of_line, covers_of, is_constant, is_skipped, is_used, last_token, leading_rows, outputs_of, outputs_with}
use Rattle.hz_blif.specs.Draft.{cover_uses, output_on, uses_in_order, varying}
use Rattle.hz_blif.specs.Line.{Line, Blank, Model, Inputs, Outputs, Names as NamesLine, Row, End, Construct}
use Rattle.hz_netlist.proofs.NameTableLemmas.{same-number}

abbrev uses_name : List ℕ → List (Numbered (List ℕ)) → Bool
uses_name name uses = list_any (λ (one : Numbered (List ℕ)). bytes_eq name one.statement) uses

abbrev covers_use : List ℕ → List Cover → Bool
covers_use name covers = list_any (λ cover. is_among cover.pins name) covers

on_line-uses : (name : List ℕ) (line : ℕ) (names : List (List ℕ)) → uses_name name (on_line line names) ≡ is_among names name
on_line-uses name line [] = refl
on_line-uses name line (first ∷ rest) = ap (λ later. bytes_eq name first || later) (on_line-uses name line rest)

names_of-on_line : (line : ℕ) (names : List (List ℕ)) → names_of (on_line line names) ≡ names
names_of-on_line line [] = refl
names_of-on_line line (name ∷ names) = ap (λ (all : List (List ℕ)). name ∷ all) (names_of-on_line line names)

or-turn : (a b c : Bool) → (a || (b || c)) ≡ (b || (a || c))
or-turn true true c = refl
or-turn true false c = refl
or-turn false b c = refl

or-join : (a b c : Bool) → (a || (b || c)) ≡ ((a || b) || c)
or-join true b c = refl
or-join false b c = refl

or-false : (a : Bool) → (a || false) ≡ a
or-false true = refl
or-false false = refl

-- what lines use is used by covers that are not constant, or an output
uses-parts : (name : List ℕ) (lines : List (Numbered Line)) → uses_name name (uses_in_order lines) ≡ (covers_use name (varying (covers_of lines)) || is_among (names_of (outputs_of lines)) name)
uses-parts name [] = refl
uses-parts name (first ∷ rest) = by_line first.statement (uses-parts name rest)
  where
    by_cover : (cover : Cover) → uses_name name (uses_in_order rest) ≡ (covers_use name (varying (covers_of rest)) || is_among (names_of (outputs_of rest)) name)
        → uses_name name ((cover_uses cover ++ []) ++ uses_in_order rest) ≡ (covers_use name (varying (cover ∷ covers_of rest)) || is_among (names_of (outputs_of rest)) name)
    by_cover cover ih =
        ap (λ front. uses_name name (front ++ uses_in_order rest)) (append-nil (cover_uses cover))
        ∙ (list_any-append (λ (one : Numbered (List ℕ)). bytes_eq name one.statement) (cover_uses cover) (uses_in_order rest)
        ∙ (ap (λ back. uses_name name (cover_uses cover) || back) ih ∙ by_constant (is_constant cover)))
      where
        by_constant : (constant : Bool)
            → (uses_name name (cond constant [] (on_line cover.line cover.pins)) || (covers_use name (varying (covers_of rest)) || is_among (names_of (outputs_of rest)) name))
            ≡ (covers_use name (cond (not constant) (cover ∷ varying (covers_of rest)) (varying (covers_of rest))) || is_among (names_of (outputs_of rest)) name)
        by_constant true = refl
        by_constant false =
            ap (λ front. front || (covers_use name (varying (covers_of rest)) || is_among (names_of (outputs_of rest)) name)) (on_line-uses name cover.line cover.pins)
            ∙ or-join (is_among cover.pins name) (covers_use name (varying (covers_of rest))) (is_among (names_of (outputs_of rest)) name)

    by_line : (it : Line) → uses_name name (uses_in_order rest) ≡ (covers_use name (varying (covers_of rest)) || is_among (names_of (outputs_of rest)) name)
        → uses_name name (flat_map cover_uses (cover_of_line first.line it (leading_rows rest) []) ++ (outputs_with first.line it ++ uses_in_order rest))
        ≡ (covers_use name (varying (cover_of_line first.line it (leading_rows rest) (covers_of rest))) || is_among (names_of (outputs_with first.line it ++ outputs_of rest)) name)
    by_line Blank ih = ih
    by_line (Model names) ih = ih
    by_line (Inputs names) ih = ih
    by_line (Outputs names) ih =
        list_any-append (λ (one : Numbered (List ℕ)). bytes_eq name one.statement) (on_line first.line names) (uses_in_order rest)
        ∙ (ap (λ front. front || uses_name name (uses_in_order rest)) (on_line-uses name first.line names)
        ∙ (ap (λ back. is_among names name || back) ih
        ∙ (or-turn (is_among names name) (covers_use name (varying (covers_of rest))) (is_among (names_of (outputs_of rest)) name)
        ∙ ap (λ outputs. covers_use name (varying (covers_of rest)) || outputs) (sym (ap (λ names. is_among names name) (map-append (λ (one : Numbered (List ℕ)). one.statement) (on_line first.line names) (outputs_of rest)
        ∙ ap (λ front. front ++ names_of (outputs_of rest)) (names_of-on_line first.line names)) ∙ list_any-append (bytes_eq name) names (names_of (outputs_of rest)))))))
    by_line (NamesLine []) ih = ih
    by_line (NamesLine (one ∷ names)) ih = by_cover (record { line = first.line; pins = all_but_last (one ∷ names); output = last_token (one ∷ names); rows = leading_rows rest }) ih
    by_line (Row tokens) ih = ih
    by_line (End tokens) ih = ih
    by_line Construct ih = ih

-- all covers
covers-parts : (name : List ℕ) (covers : List Cover) → covers_use name covers ≡ (is_among (flat_map (λ cover. cover.pins) (filter is_constant covers)) name || covers_use name (varying covers))
covers-parts name [] = refl
covers-parts name (cover ∷ rest) = by_constant (is_constant cover) (covers-parts name rest)
  where
    by_constant : (constant : Bool) → covers_use name rest ≡ (is_among (flat_map (λ cover. cover.pins) (filter is_constant rest)) name || covers_use name (varying rest))
        → (is_among cover.pins name || covers_use name rest)
        ≡ (is_among (flat_map (λ cover. cover.pins) (cond constant (cover ∷ filter is_constant rest) (filter is_constant rest))) name || covers_use name (cond (not constant) (cover ∷ varying rest) (varying rest)))
    by_constant true ih =
        ap (λ later. is_among cover.pins name || later) ih
        ∙ (or-join (is_among cover.pins name) (is_among (flat_map (λ cover. cover.pins) (filter is_constant rest)) name) (covers_use name (varying rest))
        ∙ ap (λ front. front || covers_use name (varying rest)) (sym (list_any-append (bytes_eq name) cover.pins (flat_map (λ cover. cover.pins) (filter is_constant rest)))))
    by_constant false ih =
        ap (λ later. is_among cover.pins name || later) ih
        ∙ or-turn (is_among cover.pins name) (is_among (flat_map (λ cover. cover.pins) (filter is_constant rest)) name) (covers_use name (varying rest))

-- a name is used by a pin of a constant cover, or it is among the uses
pub used-parts : (lines : List (Numbered Line)) (name : List ℕ)
    → is_used lines name ≡ (is_among (flat_map (λ cover. cover.pins) (filter is_constant (covers_of lines))) name || uses_name name (uses_in_order lines))
used-parts lines name =
    ap (λ covers. covers || is_among (names_of (outputs_of lines)) name) (covers-parts name (covers_of lines))
    ∙ (sym (or-join (is_among (flat_map (λ cover. cover.pins) (filter is_constant (covers_of lines))) name) (covers_use name (varying (covers_of lines))) (is_among (names_of (outputs_of lines)) name))
    ∙ ap (λ uses. is_among (flat_map (λ cover. cover.pins) (filter is_constant (covers_of lines))) name || uses) (sym (uses-parts name lines)))

-- a first line is there where some item passes
pub some-line : (test : List ℕ → Bool) (items : List (Numbered (List ℕ))) → is_some (first_passing_line test items) ≡ list_any (λ item. test item.statement) items
some-line test [] = refl
some-line test (first ∷ rest) = by_test (test first.statement) (some-line test rest)
  where
    by_test : (passes : Bool) → is_some (first_passing_line test rest) ≡ list_any (λ item. test item.statement) rest
        → is_some (option_map (λ (numbered : Numbered (List ℕ)). numbered.line) (cond passes (Some first) (find (λ numbered. test numbered.statement) rest))) ≡ (passes || list_any (λ item. test item.statement) rest)
    by_test true ih = refl
    by_test false ih = ih

-- a number is among others where its name is among theirs
pub number-among : (names : Names) (number : ℕ) (numbers : List ℕ) → IsDistinct bytes_eq (seen_names names) → number < length names → AreNumbers names numbers
    → list_any (nat_eq number) numbers ≡ is_among (names_at names numbers) (name_at names number)
number-among names number [] distinct few are = refl
number-among names number (first ∷ rest) distinct few are =
    let here = All-head (λ number. number < length names) first rest are in
    let later = number-among names number rest distinct few (All-tail (λ number. number < length names) first rest are) in
    ap (λ later. nat_eq number first || later) later ∙ ap (λ same. same || is_among (names_at names rest) (name_at names number)) (by_test (nat_eq number first) (bytes_eq (name_at names number) (name_at names first)) refl refl here)
  where
    by_test : (a b : Bool) → nat_eq number first ≡ a → bytes_eq (name_at names number) (name_at names first) ≡ b → first < length names → a ≡ b
    by_test true true p q here = refl
    by_test false false p q here = refl
    by_test true false p q here =
        let same : number ≡ first = grind (arith, nat_tests, p) in
        let e : bytes_eq (name_at names number) (name_at names first) ≡ true = (bytes_eq-Decides (name_at names number) (name_at names first)).1 (ap (name_at names) same) in
        sym e ∙ q
    by_test false true p q here =
        let same : number ≡ first = same-number names number first distinct few here ((bytes_eq-Decides (name_at names number) (name_at names first)).0 q) in
        absurd (grind (arith, nat_tests, p, same))

-- the first constant cover that is used
pub constants-used : (lines : List (Numbered Line)) (covers : List Cover)
    → option_map (λ (cover : Cover). cover.line) (find (λ cover. is_constant cover && not (is_skipped lines cover)) covers) ≡ first_passing_line (is_used lines) (map output_on (filter is_constant covers))
constants-used lines [] = refl
constants-used lines (cover ∷ rest) = by_constant (is_constant cover) (is_used lines cover.output) refl (constants-used lines rest)
  where
    by_used : (used : Bool)
        → option_map (λ (cover : Cover). cover.line) (find (λ cover. is_constant cover && not (is_skipped lines cover)) rest) ≡ first_passing_line (is_used lines) (map output_on (filter is_constant rest))
        → option_map (λ (cover : Cover). cover.line) (cond (not (not used)) (Some cover) (find (λ cover. is_constant cover && not (is_skipped lines cover)) rest))
        ≡ option_map (λ (one : Numbered (List ℕ)). one.line) (cond used (Some (output_on cover)) (find (λ one. is_used lines one.statement) (map output_on (filter is_constant rest))))
    by_used true ih = refl
    by_used false ih = ih

    by_constant : (constant used : Bool) → is_used lines cover.output ≡ used
        → option_map (λ (cover : Cover). cover.line) (find (λ cover. is_constant cover && not (is_skipped lines cover)) rest) ≡ first_passing_line (is_used lines) (map output_on (filter is_constant rest))
        → option_map (λ (cover : Cover). cover.line) (cond (constant && not (constant && not used)) (Some cover) (find (λ cover. is_constant cover && not (is_skipped lines cover)) rest))
        ≡ first_passing_line (is_used lines) (map output_on (cond constant (cover ∷ filter is_constant rest) (filter is_constant rest)))
    by_constant false used is ih = ih
    by_constant true used is ih =
        by_used used ih
        ∙ ap (λ used. option_map (λ (one : Numbered (List ℕ)). one.line) (cond used (Some (output_on cover)) (find (λ one. is_used lines one.statement) (map output_on (filter is_constant rest))))) (sym is)

-- where none is used the covers that are kept are those that are not constant
pub kept-varying : (lines : List (Numbered Line)) (covers : List Cover) → find (λ cover. is_constant cover && not (is_skipped lines cover)) covers ≡ None
    → filter (λ cover. not (is_skipped lines cover)) covers ≡ varying covers
kept-varying lines [] none = refl
kept-varying lines (cover ∷ rest) none = by_constant (is_constant cover) (is_used lines cover.output) none (kept-varying lines rest)
  where
    by_constant : (constant used : Bool) → cond (constant && not (constant && not used)) (Some cover) (find (λ cover. is_constant cover && not (is_skipped lines cover)) rest) ≡ None
        → (find (λ cover. is_constant cover && not (is_skipped lines cover)) rest ≡ None → filter (λ cover. not (is_skipped lines cover)) rest ≡ varying rest)
        → cond (not (constant && not used)) (cover ∷ filter (λ cover. not (is_skipped lines cover)) rest) (filter (λ cover. not (is_skipped lines cover)) rest) ≡ cond (not constant) (cover ∷ varying rest) (varying rest)
    by_constant true true none ih = let e : Some cover ≡ None = none in absurd (let x = e in cc)
    by_constant true false none ih = ih none
    by_constant false used none ih = ap (λ (all : List Cover). cover ∷ all) (ih none)
