-- The table of names, statement by statement.
use Rattle.std.proofs.Common.{◌≡◌, ◌∙◌, ℕ, List, [], ◌∷◌, ◌++◌, Bool, true, false, Option, Some, None, cond, refl, sym, ap, append_assoc}
use Rattle.std.specs.Option.{option_or}
use Rattle.std.proofs.lemmas.List.{append-nil}
use Rattle.hz_line.specs.Statement.{Numbered}
use Rattle.hz_bench.specs.Definition.{defines, definer, defined_names}
use Rattle.hz_bench.specs.Statement.{Statement, Input, Output, FlipFlop, Gate, defined_name}
use Rattle.hz_bench.specs.Twice.{twice_or, earlier_line, twice_after, twice_fault}
use Rattle.hz_bench.specs.Text.{plain}

pub definer-cons : (first : Numbered Statement) (rest : List (Numbered Statement)) (name : List ℕ) → definer (first ∷ rest) name ≡ cond (defines name first.statement) (Some first.line) (definer rest name)
definer-cons first rest name = by_test (defines name first.statement) refl
  where
    by_test : (b : Bool) → defines name first.statement ≡ b → definer (first ∷ rest) name ≡ cond b (Some first.line) (definer rest name)
    by_test true t = rw t refl
    by_test false t = rw t refl

pub definer-append : (front back : List (Numbered Statement)) (name : List ℕ) → definer (front ++ back) name ≡ option_or (definer front name) (definer back name)
definer-append [] back name = refl
definer-append (first ∷ rest) back name =
    definer-cons first (rest ++ back) name ∙ ap (cond (defines name first.statement) (Some first.line)) (definer-append rest back name)
    ∙ option_or-cond (defines name first.statement) first.line (definer rest name) (definer back name) ∙ sym (ap (λ line. option_or line (definer back name)) (definer-cons first rest name))
  where
    option_or-cond : (test : Bool) (line : ℕ) (some later : Option ℕ) → cond test (Some line) (option_or some later) ≡ option_or (cond test (Some line) some) later
    option_or-cond true line some later = refl
    option_or-cond false line some later = refl

pub option_or-none : (line : Option ℕ) → option_or line None ≡ line
option_or-none None = refl
option_or-none (Some line) = refl

pub defined_names-push : (seen : List (Numbered Statement)) (next : Numbered Statement) → defined_names (plain (seen ++ next ∷ [])) ≡ defined_names (plain seen) ++ defined_names (next.statement ∷ [])
defined_names-push [] next = refl
defined_names-push (first ∷ seen) next = by_statement first.statement (defined_names-push seen next)
  where
    by_statement : (statement : Statement) → defined_names (plain (seen ++ next ∷ [])) ≡ defined_names (plain seen) ++ defined_names (next.statement ∷ []) → defined_names (statement ∷ plain (seen ++ next ∷ [])) ≡ defined_names (statement ∷ plain seen) ++ defined_names (next.statement ∷ [])
    by_statement (Input name) ih = ap (λ rest. name ∷ rest) ih
    by_statement (Output name) ih = ih
    by_statement (FlipFlop name sources) ih = ap (λ rest. name ∷ rest) ih
    by_statement (Gate name kind sources) ih = ap (λ rest. name ∷ rest) ih

-- the first line that defines a name again, with one statement more
twice_after-push : (seen rest : List (Numbered Statement)) (one : Numbered Statement) → twice_after seen (rest ++ one ∷ []) ≡ option_or (twice_after seen rest) (twice_or one.line (earlier_line (seen ++ rest) (defined_name one.statement)) None)
twice_after-push seen [] one = ap (λ all. twice_or one.line (earlier_line all (defined_name one.statement)) None) (sym (append-nil seen))
twice_after-push seen (first ∷ rest) one =
    by_line (earlier_line seen (defined_name first.statement))
    (twice_after-push (seen ++ first ∷ []) rest one ∙ ap (λ all. option_or (twice_after (seen ++ first ∷ []) rest) (twice_or one.line (earlier_line all (defined_name one.statement)) None)) (append_assoc seen (first ∷ []) rest))
  where
    by_line : (line : Option ℕ) → twice_after (seen ++ first ∷ []) (rest ++ one ∷ []) ≡ option_or (twice_after (seen ++ first ∷ []) rest) (twice_or one.line (earlier_line (seen ++ first ∷ rest) (defined_name one.statement)) None)
        → twice_or first.line line (twice_after (seen ++ first ∷ []) (rest ++ one ∷ [])) ≡ option_or (twice_or first.line line (twice_after (seen ++ first ∷ []) rest)) (twice_or one.line (earlier_line (seen ++ first ∷ rest) (defined_name one.statement)) None)
    by_line None ih = ih
    by_line (Some line) ih = refl

pub twice_fault-push : (done : List (Numbered Statement)) (one : Numbered Statement) → twice_fault (done ++ one ∷ []) ≡ option_or (twice_fault done) (twice_or one.line (earlier_line done (defined_name one.statement)) None)
twice_fault-push done one = twice_after-push [] done one

-- a name as a list, if there is one
abbrev option_or_list : Option (List ℕ) → List (List ℕ)
option_or_list None = []
option_or_list (Some name) = name ∷ []

-- the names of a statement that defines one
pub names-more : (statement : Statement) (name : List ℕ) → defined_name statement ≡ Some name → defined_names (statement ∷ []) ≡ name ∷ []
names-more (Input other) name h = ap (λ defined. option_or_list defined) h
names-more (Output other) name h = cc
names-more (FlipFlop other sources) name h = ap (λ defined. option_or_list defined) h
names-more (Gate other kind sources) name h = ap (λ defined. option_or_list defined) h
