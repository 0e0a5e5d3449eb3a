-- The lines of states, one state after the other.
use Rattle.std.proofs.Common.{◌≡◌, ◌∙◌, sym, ap, ℕ, suc, ◌+◌, Bool, List, [], ◌∷◌, ◌++◌, length, append_assoc, append-nil, arith}
use Rattle.hz_explore.proofs.Words.{Netlist, Assumption, Explored, all_explored_text}
use Rattle.hz_explore.specs.ExploreText.{explored_text}

-- the lines of further states come behind
pub text-append : (netlist : Netlist) (assumptions : List Assumption) (states : List (List Bool)) (number : ℕ) (explored more : List Explored) →
    all_explored_text netlist assumptions states number explored ++ all_explored_text netlist assumptions states (number + length explored) more ≡ all_explored_text netlist assumptions states number (explored ++ more)
text-append netlist assumptions states number [] more =
    let at : number + 0 ≡ number = omega arith in
    ap (λ (n : ℕ). all_explored_text netlist assumptions states n more) at
text-append netlist assumptions states number (one ∷ explored) more =
    let at : number + suc (length explored) ≡ number + 1 + length explored = omega arith in
    append_assoc (explored_text netlist assumptions states number one) (all_explored_text netlist assumptions states (number + 1) explored) (all_explored_text netlist assumptions states (number + suc (length explored)) more)
    ∙ (ap (λ (n : ℕ). explored_text netlist assumptions states number one ++ (all_explored_text netlist assumptions states (number + 1) explored ++ all_explored_text netlist assumptions states n more)) at
    ∙ ap (λ (rest : List ℕ). explored_text netlist assumptions states number one ++ rest) (text-append netlist assumptions states (number + 1) explored more))

-- those of one more
pub text-more : (netlist : Netlist) (assumptions : List Assumption) (states : List (List Bool)) (number : ℕ) (explored : List Explored) (one : Explored) →
    all_explored_text netlist assumptions states number explored ++ explored_text netlist assumptions states (number + length explored) one ≡ all_explored_text netlist assumptions states number (explored ++ one ∷ [])
text-more netlist assumptions states number explored one =
    ap (λ (text : List ℕ). all_explored_text netlist assumptions states number explored ++ text) (sym (append-nil (explored_text netlist assumptions states (number + length explored) one)))
    ∙ text-append netlist assumptions states number explored (one ∷ [])
