-- The bursts of a script: how many there are, and which inputs they name.
use Rattle.std.proofs.Common.{◌≡◌, ◌∙◌, refl, sym, ap, ℕ, zero, suc, ◌+◌, ◌-◌, ◌*◌, ◌<◌, ◌≤◌, Bool, true, false, List, [], ◌∷◌, ◌++◌, length, take, drop, get_or, slice_get, Some, All, flat_map, append-nil, arith}
use Rattle.hz_explore.proofs.Words.{list_all, range_with_len, length-map, flat_map-append, All-nil, All-cons, applies, each_alone, each_input}
use Rattle.std.proofs.lemmas.List.{map-id}
use Rattle.std.proofs.lemmas.List.Elements.{All-map}
use Rattle.std.proofs.lemmas.List.FromFn.{map-range_with_len_more}
use Rattle.hz_explore.specs.Bursts.{bursts_of, bursts_or, is_changed}

-- both changes of one input
abbrev both : ℕ → List (ℕ × Bool)
both i = (i, false) ∷ (i, true) ∷ []

-- the changes of one input more
pub inputs-more : (n : ℕ) → each_input (n + 1) ≡ each_input n ++ ((n, false) ∷ (n, true) ∷ [])
inputs-more n =
    let more : range_with_len 0 (n + 1) ≡ range_with_len 0 n ++ n ∷ [] =
    sym (map-id (range_with_len 0 (n + 1))) ∙ map-range_with_len_more (λ i. i) 0 n n (omega arith)
    ∙ ap (λ (numbers : List ℕ). numbers ++ n ∷ []) (map-id (range_with_len 0 n)) in
    ap (flat_map both) more ∙ (flat_map-append both (range_with_len 0 n) (n ∷ []) ∙ ap (λ (pairs : List (ℕ × Bool)). flat_map both (range_with_len 0 n) ++ pairs) (append-nil (both n)))

long-from : (first n : ℕ) → length (flat_map both (range_with_len first n)) ≡ 2 * n
long-from first zero = refl
long-from first (suc n) =
    let rest = long-from (first + 1) n in
    omega (arith, rest)

inside-from : (first n limit : ℕ) → first + n ≤ limit → All (λ (pair : ℕ × Bool). pair.0 < limit) (flat_map both (range_with_len first n))
inside-from first zero limit few = All-nil (λ (pair : ℕ × Bool). pair.0 < limit)
inside-from first (suc n) limit few =
    All-cons (λ (pair : ℕ × Bool). pair.0 < limit) (first, false) ((first, true) ∷ flat_map both (range_with_len (first + 1) n)) (omega (arith, few))
    (All-cons (λ (pair : ℕ × Bool). pair.0 < limit) (first, true) (flat_map both (range_with_len (first + 1) n)) (omega (arith, few)) (inside-from (first + 1) n limit (omega (arith, few))))

-- there are not too many bursts
pub bursts-few : (inputs most : ℕ) (changes : List (List (ℕ × Bool))) → 2 * inputs ≤ most → length changes ≤ most → length (bursts_of inputs changes) ≤ most
bursts-few inputs most [] few short = omega (arith, few, length-map (each_input inputs) (λ (pair : ℕ × Bool). pair ∷ []), long-from 0 inputs)
bursts-few inputs most (change ∷ changes) few short = short

alone-inside : (limit : ℕ) (pairs : List (ℕ × Bool)) → All (λ (pair : ℕ × Bool). pair.0 < limit) pairs → All (All (λ (pair : ℕ × Bool). pair.0 < limit)) (each_alone pairs)
alone-inside limit pairs inside =
    All-map (All (λ (pair : ℕ × Bool). pair.0 < limit)) (λ (pair : ℕ × Bool). pair ∷ []) pairs (λ k d few.
    All-cons (λ (pair : ℕ × Bool). pair.0 < limit) (get_or pairs k d) [] (inside k d few) (All-nil (λ (pair : ℕ × Bool). pair.0 < limit)))

-- they name inputs alone
pub bursts-inside : (inputs : ℕ) (changes : List (List (ℕ × Bool))) → All (All (λ (pair : ℕ × Bool). pair.0 < inputs)) changes → All (All (λ (pair : ℕ × Bool). pair.0 < inputs)) (bursts_of inputs changes)
bursts-inside inputs [] inside = alone-inside inputs (each_input inputs) (inside-from 0 inputs inputs (omega arith))
bursts-inside inputs (change ∷ changes) inside = inside

-- a burst that has an assignment applies if each input changes
pub applies-some : (state : List Bool) (burst : List (ℕ × Bool)) → 0 < length burst → applies state burst ≡ list_all (is_changed state) burst
applies-some state [] some = absurd (omega (arith, some))
applies-some state (pair ∷ burst) some = refl

pub applies-none : (state : List Bool) (burst : List (ℕ × Bool)) → length burst ≡ 0 → applies state burst ≡ false
applies-none state [] none = refl
applies-none state (pair ∷ burst) none = absurd (omega (arith, none))

-- without changes each input alone is a burst
pub no-changes : (changes alone : List (List (ℕ × Bool))) → length changes ≡ 0 → bursts_or changes alone ≡ alone
no-changes [] alone none = refl
no-changes (change ∷ changes) alone none = absurd (omega (arith, none))

-- which one it is
pub one-alone : (pairs : List (ℕ × Bool)) (n : ℕ) → n < length pairs → slice_get (each_alone pairs) n ≡ Some (take ((n + 1) - n) (drop n pairs))
one-alone [] n few = absurd (omega (arith, few))
one-alone (pair ∷ pairs) zero few = refl
one-alone (pair ∷ pairs) (suc n) few =
    let same : (suc n + 1) - suc n ≡ (n + 1) - n = omega arith in
    one-alone pairs n (omega (arith, few)) ∙ ap (λ (k : ℕ). Some (take k (drop n pairs))) (sym same)
