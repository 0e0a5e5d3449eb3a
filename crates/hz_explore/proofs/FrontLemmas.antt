-- Where an exploration stands.
use Rattle.std.proofs.Common.{◌≡◌, ◌∙◌, refl, sym, ap, subst, ℕ, ◌<◌, ◌≤◌, Bool, List, [], ◌∷◌, ◌++◌, length, take, append-nil, length-append, arith}
use Rattle.hz_explore.proofs.Words.{Netlist, expansion_of, state_at, nodes_of}

-- one state alone
pub single-state : (states : List (List Bool)) → length states ≡ 1 → states ≡ state_at states 0 ∷ []
single-state [] one = absurd (omega (arith, one))
single-state (first ∷ []) one = refl
single-state (first ∷ second ∷ states) one = absurd (omega (arith, one))

take-front : {X : Type 0} (xs ys : List X) → take (length xs) (xs ++ ys) ≡ xs
take-front [] ys = refl
take-front (x ∷ xs) ys = ap (λ (list : _). x ∷ list) (take-front xs ys)

-- the nodes of a state that is made from its nodes
pub nodes-expansion : (netlist : Netlist) (nodes : List Bool) → length nodes ≡ length netlist.names → nodes_of netlist (expansion_of netlist nodes) ≡ nodes
nodes-expansion netlist nodes long =
    ap (λ (n : ℕ). take n (expansion_of netlist nodes)) (sym long) ∙ take-front nodes _

at-length : (xs : List (List Bool)) (next : List Bool) (others : List (List Bool)) → state_at (xs ++ next ∷ others) (length xs) ≡ next
at-length [] next others = refl
at-length (x ∷ xs) next others = at-length xs next others

-- the state that comes behind those that are explored
pub front-at : (done later found : List (List Bool)) (number : ℕ) → found ≡ done ++ later → length done ≡ number → number < length found → (others : List (List Bool)) × (found ≡ done ++ state_at found number ∷ others)
front-at done [] found number front long more = absurd (omega (arith, long, more, ap (length {A = List Bool}) front, ap (length {A = List Bool}) (append-nil done)))
front-at done (next ∷ others) found number front long more =
    let here : state_at found number ≡ next = ap (λ (list : List (List Bool)). state_at list number) front ∙ behind done number long in
    (others, front ∙ ap (λ (nodes : List Bool). done ++ nodes ∷ others) (sym here))
  where
    behind : (xs : List (List Bool)) (n : ℕ) → length xs ≡ n → state_at (xs ++ next ∷ others) n ≡ next
    behind xs n same = subst (λ (k : ℕ). state_at (xs ++ next ∷ others) k ≡ next) same (at-length xs next others)

-- all are explored
pub none-behind : (done later found : List (List Bool)) → found ≡ done ++ later → length found ≤ length done → found ≡ done
none-behind done [] found front few = front ∙ append-nil done
none-behind done (next ∷ others) found front few =
    absurd (omega (arith, few, ap (length {A = List Bool}) front, length-append done (next ∷ others)))
