-- What is computed of a text number by number is its least fault, and there is no other.
use Rattle.std.proofs.Common.{◌≡◌, ◌∙◌, refl, sym, ap, subst, ℕ, zero, suc, ◌<◌, ◌≤◌, ◌⊎◌, inl, inr, Bool, true, false, not, cond, List, [], ◌∷◌, ◌++◌, map, length, fold, Option, Some, None, option_map, arith, lit≤}
use Rattle.std.specs.Prelude.{Contains, ◌&&◌, nat_lt, ◌||◌}
use Rattle.std.specs.List.{find, list_any}
use Rattle.std.specs.Str.{bytes_eq}
use Rattle.std.proofs.lemmas.Bool.Decides.{nat_tests}
use Rattle.std.proofs.lemmas.List.{append-nil}
use Rattle.hz_lists.specs.Least.{IsLeastOf, option_min}
use Rattle.hz_core.specs.Limits.{most_variables, most_gate_pins}
use Rattle.hz_lists.proofs.LeastLemmas.{IsLeastOf-either, IsLeastOf-same}
use Rattle.hz_line.specs.LeastFault.{AreFound, IsAnswer, IsLeastOfNumber}
use Rattle.hz_line.specs.Statement.{Numbered, first_passing_line}
use Rattle.hz_line.proofs.LeastLaws.{found-least, both-first}
use Rattle.hz_netlist.specs.Element.{variable_total}
use Rattle.hz_netlist.proofs.NameTableLemmas.{min_assoc, min_none}
use Rattle.hz_blif.specs.declared.fault.BlifFault.{BlifFault}
use Rattle.hz_blif.specs.declared.fault.BlifFault.TheVariants as fault
use Rattle.hz_blif.specs.Text.{joined_lines}
use Rattle.hz_blif.specs.Line.{Line, Inputs, Outputs, Names, Row, Model, End, Blank, Construct as ConstructLine, lines_in, is_construct}
use Rattle.hz_blif.specs.Cover.{Cover, covers_of, definitions_of, definitions_with, uses_of, is_wrong_row, is_skipped, is_constant, is_too_large}
use Rattle.hz_blif.specs.Circuit.{elements_of_lines}
use Rattle.hz_blif.specs.Fault.{Stands, IsSecondDefinition, HasFault, HasForbidden, HasWrongForm, HasThat, HasCover, IsTooLarge, UsesUndefined, IsFaultless, IsLeastFault, IsBlifRefusal, blif_faults, blif_fault_number, blif_fault_line, line_has_long_name, is_forbidden}
use Rattle.hz_blif.specs.Check.{wrong_form_after, twice_after, wrong_row, first_of, least_of, count_of, undefined_use, faults_in, first_fault}
use Rattle.hz_line.proofs.StatementLemmas.{Ascends}
use Rattle.hz_blif.proofs.Ascending.{HasRowAt, covers-ascend, find-cover, find-no_cover, first-least, first-row-least, joined_lines-ascend, lines_in-ascend, one-line}
use Rattle.hz_blif.proofs.FaultLaws.{IsTwiceAfter, IsTwiceFound, stands-cases, stands-contained, twice-found, wrong-form-least}
use Rattle.hz_netlist.specs.Names.{is_among, names_of, on_line}
use Rattle.hz_netlist.proofs.Undefined.{one_of, none_of, the_first, a_later, Climbs, IsUndefinedIn, climbs-to, climbs-weaker, climbs-on_line}

-- what stands in a text where a fault with this number, line and count stands
abbrev pub ByNumber : List ℕ → ℕ → ℕ → ℕ → Type 0
ByNumber text zero line count = ⊥
ByNumber text (suc zero) line count = (HasForbidden text line ⊎ HasWrongForm text line) × (count ≡ 0)
ByNumber text (suc (suc zero)) line count = HasThat line_has_long_name text line × (count ≡ 0)
ByNumber text (suc (suc (suc zero))) line count = HasThat is_construct text line × (count ≡ 0)
ByNumber text (suc (suc (suc (suc zero)))) line count = IsSecondDefinition (definitions_of (lines_in text)) line count
ByNumber text (suc (suc (suc (suc (suc zero))))) line count = HasRowAt is_wrong_row (covers_of (lines_in text)) line × (count ≡ 0)
ByNumber text (suc (suc (suc (suc (suc (suc zero)))))) line count = (cover : Cover) × HasCover text cover × (cover.line ≡ line) × IsTooLarge cover count
ByNumber text (suc (suc (suc (suc (suc (suc (suc zero))))))) line count =
    ((cover : Cover) × HasCover text cover × (cover.line ≡ line) × (is_constant cover ≡ true) × (is_skipped (lines_in text) cover ≡ false)) × (count ≡ 0)
ByNumber text (suc (suc (suc (suc (suc (suc (suc (suc zero)))))))) line count = UsesUndefined (definitions_of (lines_in text)) (uses_of (lines_in text)) line × (count ≡ 0)
ByNumber text (suc (suc (suc (suc (suc (suc (suc (suc (suc zero))))))))) line count = (line ≡ 0) × (most_variables < count) × (variable_total (elements_of_lines (lines_in text)) ≡ count)
ByNumber text (suc (suc (suc (suc (suc (suc (suc (suc (suc (suc more)))))))))) line count = ⊥

abbrev pub fault_count : BlifFault → ℕ
fault_count (fault.Form line) = 0
fault_count (fault.Name line) = 0
fault_count (fault.Construct line) = 0
fault_count (fault.Twice line first) = first
fault_count (fault.Cover line) = 0
fault_count (fault.Pins line count) = count
fault_count (fault.Constant line) = 0
fault_count (fault.Undefined line) = 0
fault_count (fault.TooMany variables) = variables
fault_count fault.Memory = 0

by_number : (text : List ℕ) (one : BlifFault) → HasFault text one → ByNumber text (blif_fault_number one) (blif_fault_line one) (fault_count one)
by_number text (fault.Form line) p = (p, refl)
by_number text (fault.Name line) p = (p, refl)
by_number text (fault.Construct line) p = (p, refl)
by_number text (fault.Twice line first) p = p
by_number text (fault.Cover line) p = (p, refl)
by_number text (fault.Pins line count) p = p
by_number text (fault.Constant line) p = (p, refl)
by_number text (fault.Undefined line) p = (p, refl)
by_number text (fault.TooMany variables) p = (refl, p.0, p.1)
by_number text fault.Memory p = p

-- at another number that is the same
at_number : (text : List ℕ) (one : BlifFault) (number : ℕ) → HasFault text one → blif_fault_number one ≡ number → ByNumber text number (blif_fault_line one) (fault_count one)
at_number text one number p same = subst (λ number. ByNumber text number (blif_fault_line one) (fault_count one)) same (by_number text one p)

-- a fault of a number that is found by its line
found-line : (text : List ℕ) (number : ℕ) (fault_at : ℕ → BlifFault) (P : ℕ → Type 0) (found : Option ℕ) (rest : List (Option BlifFault))
    → ((line : ℕ) → blif_fault_number (fault_at line) ≡ number) → ((line : ℕ) → blif_fault_line (fault_at line) ≡ line) → ((line : ℕ) → P line → HasFault text (fault_at line))
    → ((line count : ℕ) → ByNumber text number line count → P line) → IsLeastOf P found → AreFound (blif_faults text) (suc number) rest → AreFound (blif_faults text) number (option_map fault_at found ∷ rest)
found-line text number fault_at P None rest is at stands by least more = (λ other p same. least (blif_fault_line other) (by (blif_fault_line other) (fault_count other) (at_number text other number p same)), more)
found-line text number fault_at P (Some line) rest is at stands by least more = record {
  stands = stands line least.here;
  number_is = is line;
  least = λ other p same. (let up = least.least (blif_fault_line other) (by (blif_fault_line other) (fault_count other) (at_number text other number p same)) in omega (arith, up, at line));
}

-- names defined twice
definitions-climb : (lines : List (Numbered Line)) (low : ℕ) → Ascends low lines → Climbs low (definitions_of lines)
definitions-climb [] low h = tt
definitions-climb (first ∷ rest) low h = by_line first.statement (definitions-climb rest (suc first.line) h.1)
  where
    none : Climbs (suc first.line) (definitions_of rest) → Climbs low (definitions_of rest)
    none ih = climbs-weaker low (suc first.line) (definitions_of rest) (omega (arith, h.0)) ih

    by_line : (it : Line) → Climbs (suc first.line) (definitions_of rest) → Climbs low (definitions_with first.line it ++ definitions_of rest)
    by_line Blank ih = none ih
    by_line (Model names) ih = none ih
    by_line (Inputs names) ih = climbs-weaker low first.line (on_line first.line names ++ definitions_of rest) h.0 (climbs-on_line first.line (suc first.line) names (definitions_of rest) (omega arith) ih)
    by_line (Outputs names) ih = none ih
    by_line (Names []) ih = none ih
    by_line (Names (name ∷ names)) ih = (h.0, climbs-weaker first.line (suc first.line) (definitions_of rest) (omega arith) ih)
    by_line (Row tokens) ih = none ih
    by_line (End tokens) ih = none ih
    by_line ConstructLine ih = none ih

climbs-behind : (low : ℕ) (front : List (Numbered (List ℕ))) (next : Numbered (List ℕ)) (later : List (Numbered (List ℕ))) → Climbs low (front ++ next ∷ later) → Climbs next.line later
climbs-behind low [] next later h = h.1
climbs-behind low (first ∷ front) next later h = climbs-behind first.line front next later h.1

Some-None : (line : ℕ) → Some line ≡ None → ⊥
Some-None line e = cc

-- where two second definitions stand, the one that was found and another
second-place : (definitions : List (Numbered (List ℕ))) (line first other_line other_first : ℕ) → Climbs 1 definitions → IsTwiceAfter [] definitions line first → IsSecondDefinition definitions other_line other_first
    → line ≤ other_line
second-place definitions line first other_line other_first up is other =
    elim (stands-cases is.middle (record { line = line; statement = is.name } ∷ is.stands.after) other.before other_line other.name (record { after = other.stands.after; split = sym is.stands.split ∙ other.stands.split })) [
      | inl front ↦ absurd (Some-None other_first (sym other.first_is ∙ is.earliest other.before other_line other.name front))
      | inr back ↦ (
          let high = climbs-behind 1 is.middle (record { line = line; statement = is.name }) is.stands.after (subst (Climbs 1) is.stands.split up) in
          climbs-to line (record { line = line; statement = is.name } ∷ is.stands.after) (record { line = other_line; statement = other.name }) (omega arith, high)
          (stands-contained (record { line = line; statement = is.name } ∷ is.stands.after) back.0 other_line other.name back.2)
          )
    ]

found-twice : (text : List ℕ) (found : Option BlifFault) (rest : List (Option BlifFault)) → IsTwiceFound [] (definitions_of (lines_in text)) found
    → AreFound (blif_faults text) 5 rest → AreFound (blif_faults text) 4 (found ∷ rest)
found-twice text None rest none more = (λ other p same. (let is = at_number text other 4 p same in Some-None (fault_count other) (sym is.first_is ∙ none is.before (blif_fault_line other) is.name is.stands)), more)
found-twice text (Some one) rest (line, first, is, it) more =
    subst (λ (one : BlifFault). IsLeastOfNumber (blif_faults text) 4 one) (sym is)
    (record {
      stands = record { before = it.middle; name = it.name; stands = it.stands; first_is = it.first_is; earliest = λ earlier other s. it.earliest earlier line other s };
      number_is = refl;
      least = λ other p same. second-place (definitions_of (lines_in text)) line first (blif_fault_line other) (fault_count other) (definitions-climb (lines_in text) 1 (lines_in-ascend text)) it (at_number text other 4 p same);
    })

-- covers that are too large, and constant covers that are used
either-true : (a b : Bool) → (a || b) ≡ true → (a ≡ true) ⊎ ((a ≡ false) × (b ≡ true))
either-true true b h = inl refl
either-true false b h = inr (refl, h)

is-large : (cover : Cover) → is_too_large cover ≡ true → IsTooLarge cover (count_of cover)
is-large cover h = elim (either-true (nat_lt most_gate_pins (length cover.pins)) (nat_lt most_gate_pins (length cover.rows)) h) [
  | inl pins ↦ inl (grind (arith, nat_tests, pins), ap (λ large. cond large (length cover.pins) (length cover.rows)) pins)
  | inr rows ↦ (let few = rows.0 in let many = rows.1 in inr (grind (arith, nat_tests, few), grind (arith, nat_tests, many), ap (λ large. cond large (length cover.pins) (length cover.rows)) few))
]

large-is : (cover : Cover) (count : ℕ) → IsTooLarge cover count → is_too_large cover ≡ true
large-is cover count (inl pins) = (let many = pins.0 in let t : nat_lt most_gate_pins (length cover.pins) ≡ true = grind (arith, nat_tests, many) in ap (λ large. large || nat_lt most_gate_pins (length cover.rows)) t)
large-is cover count (inr rows) = (let many = rows.1 in let few = rows.0 in let t : nat_lt most_gate_pins (length cover.rows) ≡ true = grind (arith, nat_tests, many) in let f : nat_lt most_gate_pins (length cover.pins) ≡ false = grind (arith, nat_tests, few) in ap (λ large. large || nat_lt most_gate_pins (length cover.rows)) f ∙ t)

found-pins : (text : List ℕ) (found : Option Cover) (rest : List (Option BlifFault)) → find is_too_large (covers_of (lines_in text)) ≡ found
    → AreFound (blif_faults text) 7 rest → AreFound (blif_faults text) 6 (option_map (λ (cover : Cover). fault.Pins cover.line (count_of cover)) found ∷ rest)
found-pins text None rest e more =
    (λ other p same. (let is = at_number text other 6 p same in find-no_cover is_too_large (covers_of (lines_in text)) e is.0 is.1 (large-is is.0 (fault_count other) is.3)), more)
found-pins text (Some cover) rest e more =
    let is = find-cover is_too_large (covers_of (lines_in text)) 1 cover (covers-ascend text) e in
    record {
      stands = (cover, is.among, refl, is-large cover is.passes);
      number_is = refl;
      least = λ other p same. (let it = at_number text other 6 p same in let up = is.least it.0 it.1 (large-is it.0 (fault_count other) it.3) in omega (arith, up, it.2));
    }

abbrev pub is_used_constant : List (Numbered Line) → Cover → Bool
is_used_constant lines cover = is_constant cover && not (is_skipped lines cover)

both : (a b : Bool) → (a && b) ≡ true → (a ≡ true) × (b ≡ true)
both true b h = (refl, h)
both false b h = let e : false ≡ true = h in cc

both-is : (a b : Bool) → a ≡ true → b ≡ true → (a && b) ≡ true
both-is a b x y = ap (λ a. a && b) x ∙ y

not-true : (b : Bool) → not b ≡ true → b ≡ false
not-true true h = let e : false ≡ true = h in cc
not-true false h = refl

found-constant : (text : List ℕ) (found : Option Cover) (rest : List (Option BlifFault)) → find (λ cover. is_constant cover && not (is_skipped (lines_in text) cover)) (covers_of (lines_in text)) ≡ found
    → AreFound (blif_faults text) 8 rest → AreFound (blif_faults text) 7 (option_map (λ (cover : Cover). fault.Constant cover.line) found ∷ rest)
found-constant text None rest e more = (
  λ other p same. (let is = (at_number text other 7 p same).0 in
      find-no_cover (is_used_constant (lines_in text)) (covers_of (lines_in text)) e is.0 is.1 (both-is (is_constant is.0) (not (is_skipped (lines_in text) is.0)) is.3 (ap not is.4))),
  more,
)
found-constant text (Some cover) rest e more =
    let is = find-cover (is_used_constant (lines_in text)) (covers_of (lines_in text)) 1 cover (covers-ascend text) e in
    let parts = both (is_constant cover) (not (is_skipped (lines_in text) cover)) is.passes in
    record {
      stands = (cover, is.among, refl, parts.0, not-true (is_skipped (lines_in text) cover) parts.1);
      number_is = refl;
      least = λ other p same. (
          let it = (at_number text other 7 p same).0 in
          let up = is.least it.0 it.1 (both-is (is_constant it.0) (not (is_skipped (lines_in text) it.0)) it.3 (ap not it.4)) in omega (arith, up, it.2)
          );
    }

-- names that are undefined
min-fold : (known : Option ℕ) (lines : List (Option ℕ)) → fold option_min known lines ≡ option_min known (fold option_min None lines)
min-fold known [] = sym (min_none known)
min-fold known (first ∷ rest) = min-fold (option_min known first) rest ∙ (min_assoc known first (fold option_min None rest) ∙ ap (option_min known) (sym (min-fold first rest)))

abbrev IsHere : List (List ℕ) → Numbered (List ℕ) → ℕ → Type 0
IsHere defined first line = (first.line ≡ line) × (is_among defined first.statement ≡ false)

undefined-there : (defined : List (List ℕ)) (first : Numbered (List ℕ)) (rest : List (Numbered (List ℕ))) (line : ℕ) → IsHere defined first line ⊎ IsUndefinedIn defined rest line → IsUndefinedIn defined (first ∷ rest) line
undefined-there defined first rest line (inl here) = (
  first.statement,
  subst (λ line. Contains (first ∷ rest) (record { line = line; statement = first.statement })) here.0 (the_first first rest),
  here.1,
)
undefined-there defined first rest line (inr later) = (later.0, a_later first rest (record { line = line; statement = later.0 }) later.1, later.2)

undefined-back : (defined : List (List ℕ)) (first : Numbered (List ℕ)) (rest : List (Numbered (List ℕ))) (line : ℕ) → IsUndefinedIn defined (first ∷ rest) line → IsHere defined first line ⊎ IsUndefinedIn defined rest line
undefined-back defined first rest line (name, c, none) = elim (one_of first rest (record { line = line; statement = name }) c) [
  | inl here ↦ inl (ap (λ (one : Numbered (List ℕ)). one.line) here, ap (λ (one : Numbered (List ℕ)). is_among defined one.statement) here ∙ none)
  | inr later ↦ inr (name, later, none)
]

here-least : (defined : List (List ℕ)) (first : Numbered (List ℕ)) (known : Bool) → is_among defined first.statement ≡ known → IsLeastOf (IsHere defined first) (cond known None (Some first.line))
here-least defined first true is = λ line h. (let e : true ≡ false = sym is ∙ h.1 in cc)
here-least defined first false is = record { here = (refl, is); least = λ other h. omega (arith, h.0) }

pub undefined-least : (defined : List (List ℕ)) (uses : List (Numbered (List ℕ))) → IsLeastOf (IsUndefinedIn defined uses) (least_of (map (undefined_use defined) uses))
undefined-least defined [] = λ line p. none_of _ p.1
undefined-least defined (first ∷ rest) =
    subst (IsLeastOf (IsUndefinedIn defined (first ∷ rest))) (sym (min-fold (undefined_use defined first) (map (undefined_use defined) rest)))
    (IsLeastOf-same (λ line. IsHere defined first line ⊎ IsUndefinedIn defined rest line) (IsUndefinedIn defined (first ∷ rest))
    (option_min (undefined_use defined first) (least_of (map (undefined_use defined) rest)))
    (undefined-there defined first rest) (undefined-back defined first rest)
    (IsLeastOf-either (IsHere defined first) (IsUndefinedIn defined rest) (undefined_use defined first) (least_of (map (undefined_use defined) rest))
    (here-least defined first (is_among defined first.statement) refl) (undefined-least defined rest)))

-- the numbers begin with 1 and end with 9
number-bounds : (text : List ℕ) (one : BlifFault) → HasFault text one → (1 ≤ blif_fault_number one) × (blif_fault_number one < 10)
number-bounds text (fault.Form line) p = (lit≤ tt, lit≤ tt)
number-bounds text (fault.Name line) p = (lit≤ tt, lit≤ tt)
number-bounds text (fault.Construct line) p = (lit≤ tt, lit≤ tt)
number-bounds text (fault.Twice line first) p = (lit≤ tt, lit≤ tt)
number-bounds text (fault.Cover line) p = (lit≤ tt, lit≤ tt)
number-bounds text (fault.Pins line count) p = (lit≤ tt, lit≤ tt)
number-bounds text (fault.Constant line) p = (lit≤ tt, lit≤ tt)
number-bounds text (fault.Undefined line) p = (lit≤ tt, lit≤ tt)
number-bounds text (fault.TooMany variables) p = (lit≤ tt, lit≤ tt)
number-bounds text fault.Memory p = absurd p

-- too many variables
found-many : (text : List ℕ) (variables : ℕ) (many : Bool) → nat_lt most_variables variables ≡ many → variable_total (elements_of_lines (lines_in text)) ≡ variables
    → AreFound (blif_faults text) 9 (cond many (Some (fault.TooMany variables)) None ∷ [])
found-many text variables true t is = record {
  stands = (grind (arith, nat_tests, t), is);
  number_is = refl;
  least = λ other p same. omega arith;
}
found-many text variables false t is =
    let few : variables ≤ most_variables = grind (arith, nat_tests, t) in
    (λ other p same. (let it = at_number text other 9 p same in omega (arith, few, is, it.1, it.2)), λ one p. (number-bounds text one p).1)

-- all of them
pub are-found : (text : List ℕ) → AreFound (blif_faults text) 1 (faults_in text)
are-found text =
    let lines = lines_in text in
    let covers = covers_of lines in
    found-line text 1 fault.Form (λ line. HasForbidden text line ⊎ HasWrongForm text line)
    (option_min (first_passing_line (list_any is_forbidden) (joined_lines text)) (wrong_form_after [] lines)) _ (λ line. refl) (λ line. refl) (λ line p. p) (λ line count p. p.0)
    (IsLeastOf-either (HasForbidden text) (HasWrongForm text) (first_passing_line (list_any is_forbidden) (joined_lines text)) (wrong_form_after [] lines)
    (first-least (list_any is_forbidden) (joined_lines text) 1 (joined_lines-ascend text)) (wrong-form-least [] lines 1 (lines_in-ascend text)))
    (found-line text 2 fault.Name (HasThat line_has_long_name text) (first_passing_line line_has_long_name lines) _ (λ line. refl) (λ line. refl) (λ line p. p) (λ line count p. p.0)
    (first-least line_has_long_name lines 1 (lines_in-ascend text))
    (found-line text 3 fault.Construct (HasThat is_construct text) (first_passing_line is_construct lines) _ (λ line. refl) (λ line. refl) (λ line p. p) (λ line count p. p.0)
    (first-least is_construct lines 1 (lines_in-ascend text))
    (found-twice text (twice_after [] (definitions_of lines)) _ (twice-found [] (definitions_of lines))
    (found-line text 5 fault.Cover (HasRowAt is_wrong_row covers) (first_of (map wrong_row covers)) _ (λ line. refl) (λ line. refl) (λ line p. p) (λ line count p. p.0)
    (first-row-least is_wrong_row covers 1 (covers-ascend text))
    (found-pins text (find is_too_large covers) _ refl
    (found-constant text (find (λ cover. is_constant cover && not (is_skipped lines cover)) covers) _ refl
    (found-line text 8 fault.Undefined (UsesUndefined (definitions_of lines) (uses_of lines)) (least_of (map (undefined_use (names_of (definitions_of lines))) (uses_of lines))) _ (λ line. refl) (λ line. refl) (λ line p. p) (λ line count p. p.0)
    (undefined-least (names_of (definitions_of lines)) (uses_of lines))
    (found-many text (variable_total (elements_of_lines lines)) (nat_lt most_variables (variable_total (elements_of_lines lines))) refl refl))))))))

pub first-answer : (text : List ℕ) → IsAnswer (blif_faults text) (first_fault text)
first-answer text = found-least (blif_faults text) 1 (faults_in text) (λ one p. (number-bounds text one p).0) (are-found text)

-- what is answered
pub answer-least : (text : List ℕ) (one : BlifFault) → first_fault text ≡ Some one → IsLeastFault text one
answer-least text one is = subst (IsAnswer (blif_faults text)) is (first-answer text)

pub answer-faultless : (text : List ℕ) → first_fault text ≡ None → IsFaultless text
answer-faultless text is = subst (IsAnswer (blif_faults text)) is (first-answer text)

-- the least fault is one
-- two second definitions that are the earliest of one line are one
same-second : (definitions : List (Numbered (List ℕ))) (line one other : ℕ) → IsSecondDefinition definitions line one → IsSecondDefinition definitions line other → one ≡ other
same-second definitions line one other a b =
    elim (stands-cases a.before (record { line = line; statement = a.name } ∷ a.stands.after) b.before line b.name (record { after = b.stands.after; split = sym a.stands.split ∙ b.stands.split })) [
      | inl front ↦ absurd (Some-None other (sym b.first_is ∙ a.earliest b.before b.name front))
      | inr back ↦ by_middle back.0 back.1 back.2
    ]
  where
    Some-same : Some one ≡ Some other → one ≡ other
    Some-same e = cc

    by_middle : (middle : List (Numbered (List ℕ))) → b.before ≡ a.before ++ middle → Stands (record { line = line; statement = a.name } ∷ a.stands.after) middle line b.name → one ≡ other
    by_middle [] is s =
        let e = s.split in
        let same : record { line = line; statement = a.name } ≡ record { line = line; statement = b.name } = cc e in
        let name : a.name ≡ b.name = ap (λ (one : Numbered (List ℕ)). one.statement) same in
        let before : b.before ≡ a.before = is ∙ append-nil a.before in
        Some-same (sym a.first_is ∙ (ap (λ name. first_passing_line (bytes_eq name) a.before) name ∙ (ap (first_passing_line (bytes_eq b.name)) (sym before) ∙ b.first_is)))
    by_middle (head ∷ middle) is s =
        let e = s.split in
        let same : record { line = line; statement = a.name } ≡ head = cc e in
        absurd (Some-None one (sym a.first_is ∙ b.earliest a.before a.name (record { after = middle; split = is ∙ ap (λ (one : Numbered (List ℕ)). a.before ++ one ∷ middle) (sym same) })))

same-large : (cover : Cover) (one other : ℕ) → IsTooLarge cover one → IsTooLarge cover other → one ≡ other
same-large cover one other (inl a) (inl b) = a.1 ∙ sym b.1
same-large cover one other (inl a) (inr b) = absurd (omega (arith, a.0, b.0))
same-large cover one other (inr a) (inl b) = absurd (omega (arith, a.0, b.0))
same-large cover one other (inr a) (inr b) = a.2 ∙ sym b.2

same-count : (text : List ℕ) (number line one other : ℕ) → ByNumber text number line one → ByNumber text number line other → one ≡ other
same-count text zero line one other a b = absurd a
same-count text (suc zero) line one other a b = a.1 ∙ sym b.1
same-count text (suc (suc zero)) line one other a b = a.1 ∙ sym b.1
same-count text (suc (suc (suc zero))) line one other a b = a.1 ∙ sym b.1
same-count text (suc (suc (suc (suc zero)))) line one other a b = same-second (definitions_of (lines_in text)) line one other a b
same-count text (suc (suc (suc (suc (suc zero))))) line one other a b = a.1 ∙ sym b.1
same-count text (suc (suc (suc (suc (suc (suc zero)))))) line one other a b =
    let same : a.0 ≡ b.0 = one-line (covers_of (lines_in text)) 1 a.0 b.0 (covers-ascend text) a.1 b.1 (a.2 ∙ sym b.2) in
    same-large b.0 one other (subst (λ cover. IsTooLarge cover one) same a.3) b.3
same-count text (suc (suc (suc (suc (suc (suc (suc zero))))))) line one other a b = a.1 ∙ sym b.1
same-count text (suc (suc (suc (suc (suc (suc (suc (suc zero)))))))) line one other a b = a.1 ∙ sym b.1
same-count text (suc (suc (suc (suc (suc (suc (suc (suc (suc zero))))))))) line one other a b = sym a.2 ∙ b.2
same-count text (suc (suc (suc (suc (suc (suc (suc (suc (suc (suc more)))))))))) line one other a b = absurd a

abbrev fault_of : ℕ → ℕ → ℕ → BlifFault
fault_of zero line count = fault.Memory
fault_of (suc zero) line count = fault.Form line
fault_of (suc (suc zero)) line count = fault.Name line
fault_of (suc (suc (suc zero))) line count = fault.Construct line
fault_of (suc (suc (suc (suc zero)))) line count = fault.Twice line count
fault_of (suc (suc (suc (suc (suc zero))))) line count = fault.Cover line
fault_of (suc (suc (suc (suc (suc (suc zero)))))) line count = fault.Pins line count
fault_of (suc (suc (suc (suc (suc (suc (suc zero))))))) line count = fault.Constant line
fault_of (suc (suc (suc (suc (suc (suc (suc (suc zero)))))))) line count = fault.Undefined line
fault_of (suc (suc (suc (suc (suc (suc (suc (suc (suc zero))))))))) line count = fault.TooMany count
fault_of (suc (suc (suc (suc (suc (suc (suc (suc (suc (suc more)))))))))) line count = fault.Memory

fault_of-back : (one : BlifFault) → fault_of (blif_fault_number one) (blif_fault_line one) (fault_count one) ≡ one
fault_of-back (fault.Form line) = refl
fault_of-back (fault.Name line) = refl
fault_of-back (fault.Construct line) = refl
fault_of-back (fault.Twice line first) = refl
fault_of-back (fault.Cover line) = refl
fault_of-back (fault.Pins line count) = refl
fault_of-back (fault.Constant line) = refl
fault_of-back (fault.Undefined line) = refl
fault_of-back (fault.TooMany variables) = refl
fault_of-back fault.Memory = refl

pub least-unique : (text : List ℕ) (one other : BlifFault) → IsLeastFault text one → IsLeastFault text other → one ≡ other
least-unique text one other a b =
    let same = both-first (blif_faults text) one other (a.least other b.stands) (b.least one a.stands) in
    let counts : fault_count one ≡ fault_count other =
    same-count text (blif_fault_number one) (blif_fault_line one) (fault_count one) (fault_count other) (by_number text one a.stands)
    (subst (λ line. ByNumber text (blif_fault_number one) line (fault_count other)) (sym same.1) (at_number text other (blif_fault_number one) b.stands (sym same.0))) in
    sym (fault_of-back one) ∙ ap (λ number. fault_of number (blif_fault_line one) (fault_count one)) same.0 ∙ ap (λ line. fault_of (blif_fault_number other) line (fault_count one)) same.1
    ∙ ap (fault_of (blif_fault_number other) (blif_fault_line other)) counts ∙ fault_of-back other

pub answer-exact : (text : List ℕ) (one other : BlifFault) → IsBlifRefusal text one → IsLeastFault text other → (one ≡ other) ⊎ (one ≡ fault.Memory)
answer-exact text one other (inl memory) least = inr memory
answer-exact text one other (inr h) least = inl (least-unique text one other h least)
