-- What a parse of the command says of the arguments that `clap` reads.
use Rattle.std.proofs.Common.{◌≡◌, ◌∙◌, true, false, List, [], ◌∷◌, Option, Some, None, refl, sym, ap, subst, inl, inr, cond, arith}
use Rattle.std.proofs.lemmas.Bool.{ne_eqb}
use Rattle.clap.specs.Words.{App, Row, Text, HasKind, Kinds, fault_of, is_simple, is_simple_and_free, kind_of, matches_of}
use Rattle.clap.specs.Walk.{is_empty}
use Rattle.clap.specs.declared.error.Error.{Error}
use Rattle.clap.specs.declared.error.kind.ErrorKind.{ErrorKind}
use Rattle.clap.specs.declared.error.kind.ErrorKind.TheVariants.{OutOfMemory}
use Rattle.clap.proofs.OnLiterals.{clap_on_literals}
use Rattle.hz_words.specs.Command.{Texts, hazard_app, arguments_in, arguments_of}

-- `clap` says exactly what a parse of the command comes to
hazard-is_simple : is_simple hazard_app ≡ true
unfolding clap_on_literals
hazard-is_simple = refl

hazard-is_simple_and_free : is_simple_and_free hazard_app ≡ true
unfolding clap_on_literals
hazard-is_simple_and_free = refl

-- the arguments of words with these faults
abbrev arguments_by : List Text → Kinds → Option Texts
arguments_by words faults = cond (is_empty faults) (Some (arguments_in (matches_of hazard_app words))) None

-- words that a parse takes give the arguments in its rows
pub taken : (app : App) (words : List Text) (rows : List Row) {Other : Type 0} → app ≡ hazard_app
    → (is_simple app ≡ true → (rows ≡ matches_of app words) × Other)
    → (is_simple_and_free app ≡ true → fault_of app words ≡ [])
    → arguments_of words ≡ Some (arguments_in rows)
unfolding arguments_of
taken app words rows is matches kinds =
    let free = ap is_simple_and_free is ∙ hazard-is_simple_and_free in
    let simple = ap is_simple is ∙ hazard-is_simple in
    let none : fault_of hazard_app words ≡ [] = subst (λ (a : App). fault_of a words ≡ []) is (kinds free) in
    let same : rows ≡ matches_of hazard_app words = subst (λ (a : App). rows ≡ matches_of a words) is (matches simple).0 in
    ap (arguments_by words) none ∙ ap (λ (all : List Row). Some (arguments_in all)) (sym same)

not_empty : (kind : ErrorKind) (kinds : Kinds) → is_empty (kind ∷ kinds) ≡ false
not_empty kind kinds = ne_eqb _ _ (λ e. omega (arith, e))

-- without a fault an error says that memory ran out
no_fault : (error : Error) → HasKind [] error → kind_of error ≡ OutOfMemory
no_fault error has = elim has [ inl memory ↦ memory | inr none ↦ absurd none ]

-- words that a parse refuses for another cause than memory give none
pub refused : (app : App) (words : List Text) (error : Error) → app ≡ hazard_app
    → (is_simple_and_free app ≡ true → HasKind (fault_of app words) error)
    → (kind_of error ≡ OutOfMemory → ⊥)
    → arguments_of words ≡ None
unfolding arguments_of
refused app words error is kinds other =
    let free = ap is_simple_and_free is ∙ hazard-is_simple_and_free in
    go (fault_of hazard_app words) refl (subst (λ (a : App). HasKind (fault_of a words) error) is (kinds free))
  where
    go : (faults : Kinds) → fault_of hazard_app words ≡ faults → HasKind (fault_of hazard_app words) error
        → arguments_of words ≡ None
    go [] e has = absurd (other (no_fault error (subst (λ (ks : Kinds). HasKind ks error) e has)))
    go (k ∷ ks) e has = ap (arguments_by words) e ∙ rw (not_empty k ks) refl
