-- Steps one after the other.
use Rattle.std.proofs.Common.{◌≡◌, ◌∙◌, ℕ, suc, ◌+◌, ◌<◌, ◌≤◌, Bool, List, [], ◌∷◌, ◌++◌, length, drop, get_or, refl, sym, ap, arith}
use Rattle.hz_split.proofs.Words.{flip_count, state_after, end_of, flips_alone, length-state_after}
use Rattle.std.proofs.Math.Seq.{drop-cons}
use Rattle.std.proofs.lemmas.List.{drop_all}
use Rattle.std.proofs.lemmas.List.Sums.{sum_by-cons, sum_by-append}

-- the next step, and the steps after it
pub next-step : {X : Type 0} (list : List X) (number : ℕ) (x d : X) → number < length list → x ≡ get_or list number d → drop number list ≡ x ∷ drop (number + 1) list
next-step {X} list number x d below is =
    let after : suc number ≡ number + 1 = omega arith in
    drop-cons list number d below ∙ (ap (λ (n : ℕ). get_or list number d ∷ drop n list) after ∙ ap (λ (y : X). y ∷ drop (number + 1) list) (sym is))

-- A run is made so far: what is left leads to its end.
pub record IsMadeSoFar (steps : List (List ℕ)) (first state : List Bool) (number : ℕ) : Type 0 where
  pub long : length state ≡ length first
  pub ends : end_of state (drop number steps) ≡ end_of first steps

pub made-more : (steps : List (List ℕ)) (first state next : List Bool) (number : ℕ) (flips : List ℕ) → number < length steps → flips ≡ get_or steps number [] → next ≡ state_after flips state → IsMadeSoFar steps first state number
    → IsMadeSoFar steps first next (number + 1)
made-more steps first state next number flips below is made so_far = record {
  long = ap (length {A = Bool}) made ∙ (length-state_after flips state ∙ so_far.long);
  ends = ap (λ (s : List Bool). end_of s (drop (number + 1) steps)) made
      ∙ (ap (λ (rest : List (List ℕ)). end_of state rest) (sym (next-step steps number flips [] below is)) ∙ so_far.ends);
}

pub made-all : (steps : List (List ℕ)) (first state : List Bool) (number : ℕ) → length steps ≤ number → IsMadeSoFar steps first state number → state ≡ end_of first steps
made-all steps first state number end so_far =
    ap (λ (rest : List (List ℕ)). end_of state rest) (sym (drop_all number steps end)) ∙ so_far.ends

-- the steps of turns have a flip each
pub flips-of-turns : (turns : List ℕ) → flip_count (flips_alone turns) ≡ length turns
flips-of-turns [] = refl
flips-of-turns (var ∷ turns) = omega (arith, sum_by-cons (length {A = ℕ}) (var ∷ []) (flips_alone turns), flips-of-turns turns)

-- the flips of a run in three parts
pub flips-of-parts : (run first second : List (List ℕ)) (turns : List ℕ) (before : List (List ℕ)) → before ≡ first ++ second → run ≡ before ++ flips_alone turns → flip_count run ≡ flip_count first + flip_count second + length turns
flips-of-parts run first second turns before is whole =
    let all : flip_count run ≡ flip_count before + flip_count (flips_alone turns) = ap flip_count whole ∙ sum_by-append (length {A = ℕ}) before (flips_alone turns) in
    let two : flip_count before ≡ flip_count first + flip_count second = ap flip_count is ∙ sum_by-append (length {A = ℕ}) first second in
    omega (arith, all, two, flips-of-turns turns)
