-- The numbers of assumptions, one after the other.
use Rattle.std.proofs.Common.{◌≡◌, ◌∙◌, sym, ap, ℕ, suc, ◌+◌, ◌<◌, List, [], ◌∷◌, ◌++◌, length, take, get_or, append_assoc, append-nil, arith, add-one}
use Rattle.hz_explore.proofs.Words.{length-take-le, Order, Assumption}
use Rattle.std.proofs.Math.Seq.{take-suc}
use Rattle.hz_explore.specs.ExploreText.{used_number, used_numbers}

-- that of one assumption more stands at the end
pub numbers-next : (number : ℕ) (first : List Assumption) (one : Assumption) (used : List Order) → used_numbers number first used ++ used_number (number + length first) one used ≡ used_numbers number (first ++ one ∷ []) used
numbers-next number [] one used =
    let at : number + 0 ≡ number = omega arith in
    ap (λ (n : ℕ). used_number n one used) at ∙ sym (append-nil (used_number number one used))
numbers-next number (given ∷ first) one used =
    let at : number + suc (length first) ≡ number + 1 + length first = omega arith in
    append_assoc (used_number number given used) (used_numbers (number + 1) first used) (used_number (number + suc (length first)) one used)
    ∙ (ap (λ (n : ℕ). used_number number given used ++ (used_numbers (number + 1) first used ++ used_number n one used)) at
    ∙ ap (λ (rest : List ℕ). used_number number given used ++ rest) (numbers-next (number + 1) first one used))

-- those of the first ones, and that of the next
pub numbers-more : (all : List Assumption) (place : ℕ) (d : Assumption) (used : List Order) → place < length all → used_numbers 1 (take place all) used ++ used_number (place + 1) (get_or all place d) used ≡ used_numbers 1 (take (place + 1) all) used
numbers-more all place d used few =
    let long : 1 + length (take place all) ≡ place + 1 = omega (arith, length-take-le place all (omega (arith, few))) in
    let taken : take (place + 1) all ≡ take place all ++ get_or all place d ∷ [] = rw add-one (take-suc all place d few) in
    ap (λ (n : ℕ). used_numbers 1 (take place all) used ++ used_number n (get_or all place d) used) (sym long)
    ∙ (numbers-next 1 (take place all) (get_or all place d) used ∙ ap (λ (list : List Assumption). used_numbers 1 list used) (sym taken))
