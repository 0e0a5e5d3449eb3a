-- Passes that answer the least place of their kind, one after the other, answer the least fault.
use Rattle.std.proofs.Common.{◌≡◌, ◌∙◌, ℕ, ◌+◌, List, Option, Some, None, refl, ap, sym, subst, inl, inr, arith, Bool, Result, Ok, Err}
use Rattle.std.specs.Option.{option_map, option_or}
use Rattle.std.specs.Prelude.{◌⊎◌, ◌==◌, if◌then◌else◌, IfOk, MatchResult}
use Rattle.std.proofs.lemmas.Bool.{cases_eq}
use Rattle.std.proofs.lemmas.Option.{same_Some, none-some}
use Rattle.hz_lists.specs.Least.{IsLeastOf}
use Rattle.hz_line.specs.LeastFault.{ComesFirst}
use Rattle.hz_line.specs.Reading.{AreStatementsOf}
use Rattle.hz_line.specs.Token.{TokenOf}
use Rattle.hz_line.specs.Statement.{Numbered, PassesOn, first_passing_line}
use Rattle.hz_line.proofs.LeastLaws as least
use Rattle.hz_line.proofs.StatementLemmas.{Ascends, first_passing_line-Some, first_passing_line-None}
use Rattle.hz_text.specs.declared.fault.TextFault.{TextFault}
use Rattle.hz_text.specs.declared.fault.TextFault.TheVariants.{Form, Unknown, Twice, Missing, Bit, Order, TooMany, Memory, Mismatch}
use Rattle.hz_text.specs.declared.fault.Mismatch.{Mismatch as Wrong}
use Rattle.hz_text.specs.Fault.{fault_number, place_of, faults_that, IsLeastFaultOf, IsLeastFaultOrMemory}
use Rattle.hz_text.specs.Rules.{Rules, mismatch_at, first_fault_in, first_fault_of, IsFaultOrMemory, IsChecked}

-- no fault with a number below this one stands
abbrev pub NoneBelow : (TextFault → Type 0) → ℕ → Type 0
NoneBelow stands number = least.NoneBelow (faults_that stands) number

-- what an answer says: no fault stands, or this one is the least
abbrev pub Outcome : (TextFault → Type 0) → Option TextFault → Type 0
Outcome stands None = (fault : TextFault) → stands fault → ⊥
Outcome stands (Some fault) = IsLeastFaultOf stands fault

-- what a fault carries besides: the count that is told and the network's own, where it has them
abbrev pub told_of : TextFault → ℕ
told_of (Mismatch line told real) = told
told_of _ = 0

abbrev pub real_of : TextFault → ℕ
real_of (Mismatch line told real) = real
real_of _ = 0

-- the fault with this number, this place and these counts
abbrev pub fault_of : ℕ → ℕ → ℕ → ℕ → TextFault
fault_of number place told real =
    if number == 1 then Form place
    else (if number == 2 then Unknown place
    else (if number == 3 then Twice place
    else (if number == 4 then Missing place
    else (if number == 5 then Bit place
    else (if number == 6 then Order place
    else (if number == 7 then TooMany place
    else (if number == 9 then Mismatch place told real else Memory)))))))

pub fault_of-back : (fault : TextFault) → fault_of (fault_number fault) (place_of fault) (told_of fault) (real_of fault) ≡ fault
fault_of-back (Form line) = refl
fault_of-back (Unknown line) = refl
fault_of-back (Twice line) = refl
fault_of-back (Missing node) = refl
fault_of-back (Bit line) = refl
fault_of-back (Order line) = refl
fault_of-back (TooMany line) = refl
fault_of-back Memory = refl
fault_of-back (Mismatch line told real) = refl

-- a fault by its number
same_fault : (fault : TextFault) (number : ℕ) → fault_number fault ≡ number → fault ≡ fault_of number (place_of fault) (told_of fault) (real_of fault)
same_fault fault number e = sym (fault_of-back fault) ∙ ap (λ n. fault_of n (place_of fault) (told_of fault) (real_of fault)) e

-- a kind of fault that carries a place alone
abbrev pub IsKind : (ℕ → TextFault) → ℕ → Type 0
IsKind kind number =
    (place told real : ℕ) → (fault_number (kind place) ≡ number) × (place_of (kind place) ≡ place) × (kind place ≡ fault_of number place told real)

-- the pass for one kind, where no fault with a lesser number stands
pub outcome-step :
    (stands : TextFault → Type 0) (kind : ℕ → TextFault) (number : ℕ) (answer : Option ℕ) (rest : Option TextFault) → IsKind kind number →
    NoneBelow stands number → IsLeastOf (λ place. stands (kind place)) answer →
    (answer ≡ None → NoneBelow stands (number + 1) → Outcome stands rest) → Outcome stands (option_or (option_map kind answer) rest)
outcome-step stands kind number None rest is below none next =
    next refl (λ fault s. omega (arith, least.none_below-next (faults_that stands) number below (λ fault s same. none (place_of fault) (of_kind fault same s)) fault s))
  where
    of_kind : (fault : TextFault) → fault_number fault ≡ number → stands fault → stands (kind (place_of fault))
    of_kind fault same s = subst stands (same_fault fault number same ∙ sym (is (place_of fault) (told_of fault) (real_of fault)).2) s
outcome-step stands kind number (Some place) rest is below found next =
    least.least-from (faults_that stands) number (kind place) below (record {
      stands = found.here;
      number_is = (is place 0 0).0;
      least = λ fault s same. omega (arith, found.least (place_of fault) (of_kind fault same s), (is place 0 0).1);
    })
  where
    of_kind : (fault : TextFault) → fault_number fault ≡ number → stands fault → stands (kind (place_of fault))
    of_kind fault same s = subst stands (same_fault fault number same ∙ sym (is (place_of fault) (told_of fault) (real_of fault)).2) s

pub any_number : (stands : TextFault → Type 0) → NoneBelow stands 1
any_number stands (Form line) s = omega arith
any_number stands (Unknown line) s = omega arith
any_number stands (Twice line) s = omega arith
any_number stands (Missing node) s = omega arith
any_number stands (Bit line) s = omega arith
any_number stands (Order line) s = omega arith
any_number stands (TooMany line) s = omega arith
any_number stands Memory s = omega arith
any_number stands (Mismatch line told real) s = omega arith

-- counts that are told wrongly are of one line, and the same
abbrev pub OneMismatch : (TextFault → Type 0) → Type 0
OneMismatch stands =
    (line told real other_line other_told other_real : ℕ) → stands (Mismatch line told real) → stands (Mismatch other_line other_told other_real) →
    Mismatch line told real ≡ Mismatch other_line other_told other_real

-- what the pass over the size answers: no count is told wrongly, or this one is
abbrev pub AnswersMismatch : (TextFault → Type 0) → Option Wrong → Type 0
AnswersMismatch stands None = (line told real : ℕ) → ¬ stands (Mismatch line told real)
AnswersMismatch stands (Some wrong) = stands (mismatch_at wrong)

-- the pass over the size, where no fault with a lesser number stands
pub outcome-mismatch :
    (stands : TextFault → Type 0) (answer : Option Wrong) → OneMismatch stands → ¬ stands Memory → NoneBelow stands 8 → AnswersMismatch stands answer →
    Outcome stands (option_map mismatch_at answer)
outcome-mismatch stands None one never below none = only
  where
    only : (fault : TextFault) → stands fault → ⊥
    only Memory s = never s
    only (Mismatch line told real) s = none line told real s
    only (Form line) s = absurd (omega (arith, below (Form line) s))
    only (Unknown line) s = absurd (omega (arith, below (Unknown line) s))
    only (Twice line) s = absurd (omega (arith, below (Twice line) s))
    only (Missing node) s = absurd (omega (arith, below (Missing node) s))
    only (Bit line) s = absurd (omega (arith, below (Bit line) s))
    only (Order line) s = absurd (omega (arith, below (Order line) s))
    only (TooMany line) s = absurd (omega (arith, below (TooMany line) s))
outcome-mismatch stands (Some wrong) one never below here = record { stands = here; least = first }
  where
    first : (other : TextFault) → stands other → ComesFirst (faults_that stands) (mismatch_at wrong) other
    first Memory s = absurd (never s)
    first (Mismatch line told real) s =
        let P : TextFault → Type 0 = ComesFirst (faults_that stands) (mismatch_at wrong) in
        subst P (one wrong.line wrong.told wrong.real line told real here s) (inr (refl, omega arith))
    first (Form line) s = absurd (omega (arith, below (Form line) s))
    first (Unknown line) s = absurd (omega (arith, below (Unknown line) s))
    first (Twice line) s = absurd (omega (arith, below (Twice line) s))
    first (Missing node) s = absurd (omega (arith, below (Missing node) s))
    first (Bit line) s = absurd (omega (arith, below (Bit line) s))
    first (Order line) s = absurd (omega (arith, below (Order line) s))
    first (TooMany line) s = absurd (omega (arith, below (TooMany line) s))

-- the first statement that passes a test is the least line of those that do
pub answers_first : {S : Type 0} (test : S → Bool) (statements : List (Numbered S)) (answer : Option ℕ) → Ascends 1 statements → first_passing_line test statements ≡ answer → IsLeastOf (PassesOn test statements) answer
answers_first test statements None up e = first_passing_line-None test statements e
answers_first test statements (Some line) up e = let is = first_passing_line-Some test statements 1 line up e in record { here = is.passes; least = is.least }

-- an equation has its own answer
pub answers_itself : (answer : Option ℕ) → IsLeastOf (λ place. answer ≡ Some place) answer
answers_itself None = λ place e. none-some place e
answers_itself (Some least) = record { here = refl; least = λ place e. omega (arith, same_Some least place e) }

-- a fault by the number of those that carry counts
is_mismatch : (fault : TextFault) → fault_number fault ≡ 9 → fault ≡ Mismatch (place_of fault) (told_of fault) (real_of fault)
is_mismatch fault e = same_fault fault 9 e

-- the other faults carry no counts
no_counts : (fault : TextFault) → ¬ (fault_number fault ≡ 9) → (told_of fault ≡ 0) × (real_of fault ≡ 0)
no_counts (Form line) n = (refl, refl)
no_counts (Unknown line) n = (refl, refl)
no_counts (Twice line) n = (refl, refl)
no_counts (Missing node) n = (refl, refl)
no_counts (Bit line) n = (refl, refl)
no_counts (Order line) n = (refl, refl)
no_counts (TooMany line) n = (refl, refl)
no_counts Memory n = (refl, refl)
no_counts (Mismatch line told real) n = absurd (n refl)

-- the least fault is one
pub least-unique : (stands : TextFault → Type 0) (fault other : TextFault) → OneMismatch stands → IsLeastFaultOf stands fault → IsLeastFaultOf stands other → fault ≡ other
least-unique stands fault other one a b =
    let same = least.both-first (faults_that stands) fault other (a.least other b.stands) (b.least fault a.stands) in
    elim (cases_eq (fault_number fault) 9) [
      | inl nine ↦ (
          let left = is_mismatch fault nine in
          let right = is_mismatch other (sym same.0 ∙ nine) in
          left ∙ one (place_of fault) (told_of fault) (real_of fault) (place_of other) (told_of other) (real_of other) (subst stands left a.stands) (subst stands right b.stands) ∙ sym right
          )
      | inr none ↦ (
          let left = no_counts fault none in
          let right = no_counts other (λ e. none (same.0 ∙ e)) in
          sym (fault_of-back fault)
          ∙ ap (λ number. fault_of number (place_of fault) (told_of fault) (real_of fault)) same.0
          ∙ ap (λ place. fault_of (fault_number other) place (told_of fault) (real_of fault)) same.1
          ∙ ap (λ told. fault_of (fault_number other) (place_of other) told (real_of fault)) (left.0 ∙ sym right.0)
          ∙ ap (λ real. fault_of (fault_number other) (place_of other) (told_of other) real) (left.1 ∙ sym right.1)
          ∙ fault_of-back other
          )
    ]

-- the answer is the least fault, or memory ran out
pub exact : (stands : TextFault → Type 0) (fault other : TextFault) → OneMismatch stands → IsLeastFaultOrMemory stands fault → IsLeastFaultOf stands other → (fault ≡ other) ⊎ (fault ≡ Memory)
exact stands fault other one (inl memory) least = inr memory
exact stands fault other one (inr h) least = inl (least-unique stands fault other one h least)

-- what an answer of the passes says of the fault that it gives
pub answered : (stands : TextFault → Type 0) (answer : Option TextFault) (fault : TextFault) → Outcome stands answer → IsFaultOrMemory answer fault → IsLeastFaultOrMemory stands fault
answered stands answer fault outcome (inl memory) = inl memory
answered stands answer fault outcome (inr found) = let P : Option TextFault → Type 0 = Outcome stands in inr (subst P found outcome)

-- a text whose passes have no answer has no fault
pub unanswered : (stands : TextFault → Type 0) (answer : Option TextFault) → Outcome stands answer → answer ≡ None → (fault : TextFault) → ¬ stands fault
unanswered stands answer outcome none = let P : Option TextFault → Type 0 = Outcome stands in subst P none outcome

-- a text in which the passes find nothing has no malformed line
pub checked-none :
    {S : Type 0} (grammar : List TokenOf → Option S) (rules : Rules S) (text : List ℕ) (statements : List (Numbered S)) → IsChecked grammar rules text statements → first_fault_of grammar rules text ≡ None
checked-none grammar rules text statements h = rw (h.read.formed, h.read.statements, h.clear) refl

-- what the passes answer is the first that the text has, where no line is malformed
pub answered_first :
    {S : Type 0} (grammar : List TokenOf → Option S) (rules : Rules S) (text : List ℕ) (statements : List (Numbered S)) (fault : TextFault) → AreStatementsOf grammar text statements →
    IsFaultOrMemory (first_fault_in rules statements) fault → IsFaultOrMemory (first_fault_of grammar rules text) fault
answered_first grammar rules text statements fault read (inl memory) = inl memory
answered_first grammar rules text statements fault read (inr found) = inr (rw (read.formed, read.statements) found)

-- a result by what two clauses say of it
pub result_by :
    {V : Type 0} {P P' below : V → Type 0} {Q Q' : TextFault → Type 0} (result : Result V TextFault) → MatchResult result P Q → IfOk result below →
    ((value : V) → P value → below value → P' value) → ((fault : TextFault) → Q fault → Q' fault) → MatchResult result P' Q'
result_by (Ok value) h b f g = f value h b
result_by (Err fault) h b f g = g fault h
