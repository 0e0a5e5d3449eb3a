-- Names keep their numbers while more of them are seen, defined and used.
use Rattle.std.proofs.Common.{◌≡◌, ◌∙◌, refl, sym, ap, subst, ℕ, zero, suc, ◌<◌, ◌≤◌, Bool, true, false, cond, List, [], ◌∷◌, ◌++◌, map, length, get_or, position, is_some, Option, Some, None, arith, length-append}
use Rattle.std.specs.List.{All, IsDistinct}
use Rattle.std.specs.Str.{bytes_eq}
use Rattle.std.specs.Cmp.Lexicographic.{nat_list_eq_equiv}
use Rattle.std.proofs.lemmas.List.{append-nil, get_or_append_left, length-map, map-append}
use Rattle.std.proofs.lemmas.List.Elements.{All-head, All-tail, All-weaker}
use Rattle.std.proofs.lemmas.Map.Keys.{IsDistinct-head, IsDistinct-push, IsDistinct-tail}
use Rattle.std.proofs.lemmas.Slice.Eq.{bytes_eq-Decides}
use Rattle.hz_core.proofs.ListLemmas.{list_any-from_position_none}
use Rattle.hz_line.specs.Statement.{Numbered}
use Rattle.hz_netlist.proofs.NameTableLemmas.{apart-at}
use Rattle.hz_netlist.specs.Names.{Names, Seen, AreNamesOf, definer_in, first_line, fresh, seen_at, seen_names, user_in, with_change, with_definition, with_sight, with_use, AreNumbers, names_at, name_at}
use Rattle.hz_blif.specs.declared.draft.Constant.{Constant}
use Rattle.hz_blif.specs.Draft.{constant_by}

-- names with more behind them
pub record KeepsNames (old new : Names) : Type 0 where
  pub more : List (List ℕ)
  pub is : seen_names new ≡ seen_names old ++ more

pub keeps-same : (old new : Names) → seen_names new ≡ seen_names old → KeepsNames old new
keeps-same old new same = record { more = []; is = same ∙ sym (append-nil (seen_names old)) }

pub name_at-get : (names : Names) (number : ℕ) → name_at names number ≡ get_or (seen_names names) number []
name_at-get [] number = refl
name_at-get (seen ∷ rest) zero = refl
name_at-get (seen ∷ rest) (suc number) = name_at-get rest number

pub seen-length : (names : Names) → length (seen_names names) ≡ length names
seen-length names = length-map names (λ (seen : Seen). seen.name)

pub kept-length : (old new : Names) → KeepsNames old new → length old ≤ length new
kept-length old new kept = omega (arith, seen-length old, seen-length new, ap length kept.is, length-append (seen_names old) kept.more)

pub name-kept : (old new : Names) (number : ℕ) → KeepsNames old new → number < length old → name_at new number ≡ name_at old number
name-kept old new number kept few =
    let short : number < length (seen_names old) = omega (arith, seen-length old, few) in
    name_at-get new number ∙ ap (λ names. get_or names number []) kept.is ∙ get_or_append_left (seen_names old) kept.more [] number short ∙ sym (name_at-get old number)

pub numbers-kept : (old new : Names) (numbers : List ℕ) → KeepsNames old new → AreNumbers old numbers → AreNumbers new numbers
numbers-kept old new numbers kept are =
    let longer = kept-length old new kept in
    All-weaker (λ number. number < length old) (λ number. number < length new) (λ number few. omega (arith, few, longer)) numbers are

pub names-kept : (old new : Names) (numbers : List ℕ) → KeepsNames old new → AreNumbers old numbers → names_at new numbers ≡ names_at old numbers
names-kept old new [] kept are = refl
names-kept old new (number ∷ rest) kept are =
    let here = name-kept old new number kept (All-head (λ number. number < length old) number rest are) in
    let later = names-kept old new rest kept (All-tail (λ number. number < length old) number rest are) in
    cc (here, later)

abbrev pub AreConstantNumbers : Names → List Constant → Type 0
AreConstantNumbers names constants = All (λ constant. constant.output < length names) constants

pub constants-kept : (old new : Names) (constants : List Constant) → KeepsNames old new → AreConstantNumbers old constants
    → map (constant_by new) constants ≡ map (constant_by old) constants
constants-kept old new [] kept are = refl
constants-kept old new (constant ∷ rest) kept are =
    let here = name-kept old new constant.output kept (All-head (λ constant. constant.output < length old) constant rest are) in
    let later = constants-kept old new rest kept (All-tail (λ constant. constant.output < length old) constant rest are) in
    ap (λ name. record { line = constant.line; statement = name } ∷ map (constant_by new) rest) here
    ∙ ap (λ (all : List (Numbered (List ℕ))). record { line = constant.line; statement = name_at old constant.output } ∷ all) later

pub constant-numbers-kept : (old new : Names) (constants : List Constant) → KeepsNames old new → AreConstantNumbers old constants → AreConstantNumbers new constants
constant-numbers-kept old new constants kept are =
    let longer = kept-length old new kept in
    All-weaker (λ constant. constant.output < length old) (λ constant. constant.output < length new) (λ constant few. omega (arith, few, longer)) constants are

-- a name that is seen
pub sight-keeps : (old : Names) (name : List ℕ) → KeepsNames old (with_sight old name)
sight-keeps old name = by_place (position (bytes_eq name) (seen_names old))
  where
    by_place : (place : Option ℕ) → KeepsNames old (cond (is_some place) old (old ++ fresh name ∷ []))
    by_place (Some place) = keeps-same old old refl
    by_place None = record { more = name ∷ []; is = map-append (λ (seen : Seen). seen.name) old (fresh name ∷ []) }

pub sight-distinct : (old : Names) (name : List ℕ) → IsDistinct bytes_eq (seen_names old) → IsDistinct bytes_eq (seen_names (with_sight old name))
sight-distinct old name distinct = by_place (position (bytes_eq name) (seen_names old)) refl
  where
    by_place : (place : Option ℕ) → position (bytes_eq name) (seen_names old) ≡ place → IsDistinct bytes_eq (seen_names (cond (is_some place) old (old ++ fresh name ∷ [])))
    by_place (Some place) at = distinct
    by_place None at =
        subst (IsDistinct bytes_eq) (sym (map-append (λ (seen : Seen). seen.name) old (fresh name ∷ [])))
        (IsDistinct-push nat_list_eq_equiv (seen_names old) name distinct (list_any-from_position_none (bytes_eq name) (seen_names old) at))

none-either : (same : Bool) (line : Option ℕ) → cond same line line ≡ line
none-either true line = refl
none-either false line = refl

definer-fresh : (old : Names) (name other : List ℕ) → definer_in (old ++ fresh name ∷ []) other ≡ definer_in old other
definer-fresh [] name other = none-either (bytes_eq name other) None
definer-fresh (seen ∷ rest) name other = ap (λ found. cond (bytes_eq seen.name other) seen.definer found) (definer-fresh rest name other)

user-fresh : (old : Names) (name other : List ℕ) → user_in (old ++ fresh name ∷ []) other ≡ user_in old other
user-fresh [] name other = none-either (bytes_eq name other) None
user-fresh (seen ∷ rest) name other = ap (λ found. cond (bytes_eq seen.name other) seen.user found) (user-fresh rest name other)

pub sight-named : (definitions uses : List (Numbered (List ℕ))) (old : Names) (name : List ℕ) → AreNamesOf definitions uses old → AreNamesOf definitions uses (with_sight old name)
sight-named definitions uses old name are = by_place (position (bytes_eq name) (seen_names old))
  where
    by_place : (place : Option ℕ) → AreNamesOf definitions uses (cond (is_some place) old (old ++ fresh name ∷ []))
    by_place (Some place) = are
    by_place None = record {
      definer = λ other. definer-fresh old name other ∙ are.definer other;
      user = λ other. user-fresh old name other ∙ are.user other;
    }

-- a change of what is known of a name that was seen leaves the names
change-names : (change : Seen → Seen) (names : Names) (number : ℕ) → ((seen : Seen) → (change seen).name ≡ seen.name) → number < length names
    → seen_names (with_change change names (name_at names number)) ≡ seen_names names
change-names change [] number same few = absurd (omega (arith, few))
change-names change (seen ∷ rest) zero same few =
    ap (λ here. seen_names (cond here (change seen ∷ rest) (seen ∷ with_change change rest seen.name))) ((bytes_eq-Decides seen.name seen.name).1 refl)
    ∙ ap (λ name. name ∷ seen_names rest) (same seen)
change-names change (seen ∷ rest) (suc number) same few =
    by_here (bytes_eq seen.name (name_at rest number)) (change-names change rest number same (omega (arith, few)))
  where
    by_here : (here : Bool) → seen_names (with_change change rest (name_at rest number)) ≡ seen_names rest
        → seen_names (cond here (change seen ∷ rest) (seen ∷ with_change change rest (name_at rest number))) ≡ seen_names (seen ∷ rest)
    by_here true ih = ap (λ name. name ∷ seen_names rest) (same seen)
    by_here false ih = ap (λ names. seen.name ∷ names) ih

pub definition-names : (names : Names) (number line : ℕ) → number < length names → seen_names (with_definition names (name_at names number) line) ≡ seen_names names
definition-names names number line few = change-names (λ seen. record seen { definer = first_line seen.definer line }) names number (λ seen. refl) few

pub use-names : (names : Names) (number line : ℕ) → number < length names → seen_names (with_use names (name_at names number) line) ≡ seen_names names
use-names names number line few = change-names (λ seen. record seen { user = first_line seen.user line }) names number (λ seen. refl) few

-- what is known of a name is known of its number
told-at : (told : Names → List ℕ → Option ℕ) (of : Seen → Option ℕ) → ((seen : Seen) (rest : Names) (name : List ℕ) → told (seen ∷ rest) name ≡ cond (bytes_eq seen.name name) (of seen) (told rest name))
    → (names : Names) (number : ℕ) → IsDistinct bytes_eq (seen_names names) → number < length names → of (seen_at names number) ≡ told names (name_at names number)
told-at told of next [] number distinct few = absurd (omega (arith, few))
told-at told of next (seen ∷ rest) zero distinct few = sym (next seen rest seen.name ∙ ap (λ same. cond same (of seen) (told rest seen.name)) ((bytes_eq-Decides seen.name seen.name).1 refl))
told-at told of next (seen ∷ rest) (suc number) distinct few =
    let apart = apart-at seen.name rest number (IsDistinct-head bytes_eq seen.name (seen_names rest) distinct) (omega (arith, few)) in
    told-at told of next rest number (IsDistinct-tail bytes_eq seen.name (seen_names rest) distinct) (omega (arith, few))
    ∙ sym (next seen rest (name_at rest number) ∙ ap (λ same. cond same (of seen) (told rest (name_at rest number))) apart)

pub definer-at : (names : Names) (number : ℕ) → IsDistinct bytes_eq (seen_names names) → number < length names → (seen_at names number).definer ≡ definer_in names (name_at names number)
definer-at = told-at definer_in (λ (seen : Seen). seen.definer) (λ seen rest name. refl)

pub user-at : (names : Names) (number : ℕ) → IsDistinct bytes_eq (seen_names names) → number < length names → (seen_at names number).user ≡ user_in names (name_at names number)
user-at = told-at user_in (λ (seen : Seen). seen.user) (λ seen rest name. refl)
