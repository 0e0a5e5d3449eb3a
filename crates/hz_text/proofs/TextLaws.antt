-- What each text of statements has: where each pass answers the least place of its kind, what is answered is the least fault.
use Rattle.std.proofs.Common.{◌≡◌, ◌∙◌, ℕ, Bool, true, false, cond, List, [], ◌∷◌, Option, Some, None, map, refl, ap, sym, subst}
use Rattle.std.specs.Option.{option_map, option_or}
use Rattle.hz_lists.specs.Least.{IsLeastOf}
use Rattle.hz_line.specs.Line.{lines_of}
use Rattle.hz_line.specs.Statement.{Numbered, Malformed, meaning_at, first_passing_line, numbered_statements, first_malformed}
use Rattle.hz_line.specs.Token.{TokenOf}
use Rattle.hz_line.proofs.StatementLemmas.{Ascends, numbered_from-Ascends, meaning_at-first, meaning_at-none, numbered_from-map, first_malformed-map}
use Rattle.hz_text.specs.declared.fault.TextFault.{TextFault}
use Rattle.hz_text.specs.declared.fault.TextFault.TheVariants.{Form, Unknown, Twice, Missing, Bit, Order, TooMany, Memory}
use Rattle.hz_text.specs.Rules.{Rules, repeats_node, first_fault_in, first_fault_of}
use Rattle.hz_text.proofs.LeastFault.{NoneBelow, Outcome, outcome-step, any_number, OneMismatch, AnswersMismatch, outcome-mismatch}

pub first_passing_line-cons : {S : Type 0} (test : S → Bool) (first : Numbered S) (later : List (Numbered S)) → first_passing_line test (first ∷ later) ≡ cond (test first.statement) (Some first.line) (first_passing_line test later)
first_passing_line-cons test first later = by_test (test first.statement) refl
  where
    by_test : (b : Bool) → test first.statement ≡ b → first_passing_line test (first ∷ later) ≡ cond b (Some first.line) (first_passing_line test later)
    by_test true t = rw t refl
    by_test false t = rw t refl

-- each pass answers the least place at which its fault stands, where those before it have no answer
pub record Judged {L : Type 0} (stands : TextFault → Type 0) (rules : Rules L) (malformed : Option ℕ) (statements : List (Numbered L)) : Type 0 where
  pub form : IsLeastOf (λ line. stands (Form line)) malformed
  pub unknown : IsLeastOf (λ line. stands (Unknown line)) (first_passing_line rules.unknown statements)
  pub twice :
      first_passing_line rules.unknown statements ≡ None → IsLeastOf (λ line. stands (Twice line)) (first_passing_line (λ statement. repeats_node (rules.assigned statement)) statements)
  pub missing : IsLeastOf (λ node. stands (Missing node)) (rules.missing statements)
  pub bit : IsLeastOf (λ line. stands (Bit line)) (first_passing_line rules.bitless statements)
  pub order : IsLeastOf (λ line. stands (Order line)) (rules.order statements)
  pub beyond : rules.order statements ≡ None → IsLeastOf (λ line. stands (TooMany line)) (rules.beyond statements)
  pub mismatch : AnswersMismatch stands (rules.mismatch statements)
  pub one : OneMismatch stands
  pub memory : ¬ stands Memory

judged-outcome :
    {L : Type 0} (stands : TextFault → Type 0) (rules : Rules L) (malformed : Option ℕ) (statements : List (Numbered L)) → Judged stands rules malformed statements →
    Outcome stands (option_or (option_map Form malformed) (first_fault_in rules statements))
judged-outcome stands rules malformed statements judged =
    let wrong = λ (below8 : NoneBelow stands 8). outcome-mismatch stands (rules.mismatch statements) judged.one judged.memory below8 judged.mismatch in
    let last = λ (ordered : rules.order statements ≡ None) (below7 : NoneBelow stands 7).
    outcome-step stands TooMany 7 (rules.beyond statements) _ (λ place told real. (refl, refl, refl)) below7 (judged.beyond ordered) (λ e. wrong) in
    let order = λ (below6 : NoneBelow stands 6). outcome-step stands Order 6 (rules.order statements) _ (λ place told real. (refl, refl, refl)) below6 judged.order last in
    let bit = λ (below5 : NoneBelow stands 5). outcome-step stands Bit 5 (first_passing_line rules.bitless statements) _ (λ place told real. (refl, refl, refl)) below5 judged.bit (λ e. order) in
    let missing = λ (below4 : NoneBelow stands 4). outcome-step stands Missing 4 (rules.missing statements) _ (λ place told real. (refl, refl, refl)) below4 judged.missing (λ e. bit) in
    let twice = λ (known : first_passing_line rules.unknown statements ≡ None) (below3 : NoneBelow stands 3).
    outcome-step stands Twice 3 (first_passing_line (λ statement. repeats_node (rules.assigned statement)) statements) _ (λ place told real. (refl, refl, refl)) below3 (judged.twice known) (λ e. missing) in
    let unknown = λ (below2 : NoneBelow stands 2). outcome-step stands Unknown 2 (first_passing_line rules.unknown statements) _ (λ place told real. (refl, refl, refl)) below2 judged.unknown twice in
    outcome-step stands Form 1 malformed _ (λ place told real. (refl, refl, refl)) (any_number stands) judged.form (λ e. unknown)

-- statements that are read as they are written, and looked up
module _ {S L : Type 0} (look : S → L) (grammar : List TokenOf → Option S) (text : List ℕ) where
  -- the grammar that looks up
  abbrev pub looking : List TokenOf → Option L
  looking tokens = option_map look (grammar tokens)

  -- a statement, looked up, with its line
  abbrev pub look_up : Numbered S → Numbered L
  look_up numbered = record { line = numbered.line; statement = look numbered.statement }

  pub looked-Ascends : Ascends 1 (map look_up (numbered_statements grammar text))
  looked-Ascends = subst (Ascends 1) (numbered_from-map look grammar 1 (lines_of text)) (numbered_from-Ascends looking 1 (lines_of text))

  -- the first malformed line is the least
  pub answers_malformed : IsLeastOf (λ line. meaning_at grammar text line ≡ Malformed) (first_malformed looking 1 (lines_of text))
  answers_malformed = by_answer (first_malformed looking 1 (lines_of text)) (sym (first_malformed-map look grammar 1 (lines_of text)))
    where
      by_answer : (answer : Option ℕ) → first_malformed grammar 1 (lines_of text) ≡ answer → IsLeastOf (λ line. meaning_at grammar text line ≡ Malformed) answer
      by_answer None e = meaning_at-none grammar text e
      by_answer (Some line) e = let at = meaning_at-first grammar text line e in record { here = at.0; least = at.1 }

  -- what the reader and the passes answer
  pub text-outcome :
      (rules : Rules L) (stands : TextFault → Type 0) → Judged stands rules (first_malformed looking 1 (lines_of text)) (map look_up (numbered_statements grammar text)) →
      Outcome stands (first_fault_of looking rules text)
  text-outcome rules stands judged =
      let P : List (Numbered L) → Type 0 = λ statements. Outcome stands (option_or (option_map Form (first_malformed looking 1 (lines_of text))) (first_fault_in rules statements)) in
      subst P (sym (numbered_from-map look grammar 1 (lines_of text))) (judged-outcome stands rules (first_malformed looking 1 (lines_of text)) (map look_up (numbered_statements grammar text)) judged)

-- where no name is unknown, a name is assigned twice on the line where its node is
pub twice-line :
    {S L : Type 0} (look : S → L) (unknown nodes : L → Bool) (names : S → Bool) → ((statement : S) → unknown (look statement) ≡ false → nodes (look statement) ≡ names statement) →
    (statements : List (Numbered S)) → first_passing_line unknown (map (λ numbered. record { line = numbered.line; statement = look numbered.statement }) statements) ≡ None →
    first_passing_line nodes (map (λ numbered. record { line = numbered.line; statement = look numbered.statement }) statements) ≡ first_passing_line names statements
twice-line {S} {L} look unknown nodes names same [] e = refl
twice-line {S} {L} look unknown nodes names same (first ∷ later) e =
    by_test (unknown (look first.statement)) refl (sym (first_passing_line-cons unknown (up first) (map up later)) ∙ e) (twice-line look unknown nodes names same later)
  where
    up : Numbered S → Numbered L
    up numbered = record { line = numbered.line; statement = look numbered.statement }

    by_test :
        (b : Bool) → unknown (look first.statement) ≡ b → cond b (Some first.line) (first_passing_line unknown (map up later)) ≡ None →
        (first_passing_line unknown (map up later) ≡ None → first_passing_line nodes (map up later) ≡ first_passing_line names later) → first_passing_line nodes (map up (first ∷ later)) ≡ first_passing_line names (first ∷ later)
    by_test true t w ih = cc
    by_test false t w ih =
        first_passing_line-cons nodes (up first) (map up later)
        ∙ ap (λ b. cond b (Some first.line) (first_passing_line nodes (map up later))) (same first.statement t)
        ∙ ap (λ rest. cond (names first.statement) (Some first.line) rest) (ih w)
        ∙ sym (first_passing_line-cons names first later)
