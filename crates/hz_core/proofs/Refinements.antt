-- Refinement and the order of ternary values, place by place: what callers need for lists of values and their parts.
use Rattle.std.proofs.Common.{◌≡◌, ℕ, zero, suc, ◌-◌, ◌<◌, Bool, true, false, List, [], ◌∷◌, ◌++◌, map, length, get_or, set, take, drop, IsTrue, refl, arith}
use Rattle.std.specs.List.{slice_range}
use Rattle.std.proofs.lemmas.Bool.{false≢true}
use Rattle.hz_core.specs.declared.tri.Tri.{Tri}
use Rattle.hz_core.specs.declared.tri.Tri.TheVariants.{Zero, One, Unknown}
use Rattle.hz_core.specs.Ternary.{tri_of, admits, is_below, join_of, AllBelow, Refines}

-- a known value admits its bit
pub admits-tri_of : (bit : Bool) → IsTrue (admits (tri_of bit) bit)
admits-tri_of false = refl
admits-tri_of true = refl

-- a known value admits its bit alone
pub known-admits : (known bit : Bool) → IsTrue (admits (tri_of known) bit) → bit ≡ known
known-admits false false h = refl
known-admits false true h = absurd (false≢true h)
known-admits true false h = absurd (false≢true h)
known-admits true true h = refl

-- what a value admits, every value above it admits
pub admits-is_below : (small large : Tri) (bit : Bool) → IsTrue (is_below small large) → IsTrue (admits small bit) → IsTrue (admits large bit)
admits-is_below Zero Zero false below admitted = refl
admits-is_below Zero Zero true below admitted = absurd (false≢true admitted)
admits-is_below Zero One false below admitted = absurd (false≢true below)
admits-is_below Zero One true below admitted = absurd (false≢true below)
admits-is_below Zero Unknown false below admitted = refl
admits-is_below Zero Unknown true below admitted = refl
admits-is_below One Zero false below admitted = absurd (false≢true below)
admits-is_below One Zero true below admitted = absurd (false≢true below)
admits-is_below One One false below admitted = absurd (false≢true admitted)
admits-is_below One One true below admitted = refl
admits-is_below One Unknown false below admitted = refl
admits-is_below One Unknown true below admitted = refl
admits-is_below Unknown Zero false below admitted = absurd (false≢true below)
admits-is_below Unknown Zero true below admitted = absurd (false≢true below)
admits-is_below Unknown One false below admitted = absurd (false≢true below)
admits-is_below Unknown One true below admitted = absurd (false≢true below)
admits-is_below Unknown Unknown false below admitted = refl
admits-is_below Unknown Unknown true below admitted = refl

-- the order: every value is below itself, and what is below a lower value is below
pub is_below-same : (value : Tri) → IsTrue (is_below value value)
is_below-same Zero = refl
is_below-same One = refl
is_below-same Unknown = refl

pub is_below-through : (small middle large : Tri) → IsTrue (is_below small middle) → IsTrue (is_below middle large) → IsTrue (is_below small large)
is_below-through Zero Zero Zero first second = refl
is_below-through Zero Zero One first second = absurd (false≢true second)
is_below-through Zero Zero Unknown first second = refl
is_below-through Zero One Zero first second = refl
is_below-through Zero One One first second = absurd (false≢true first)
is_below-through Zero One Unknown first second = refl
is_below-through Zero Unknown Zero first second = refl
is_below-through Zero Unknown One first second = absurd (false≢true second)
is_below-through Zero Unknown Unknown first second = refl
is_below-through One Zero Zero first second = absurd (false≢true first)
is_below-through One Zero One first second = refl
is_below-through One Zero Unknown first second = refl
is_below-through One One Zero first second = absurd (false≢true second)
is_below-through One One One first second = refl
is_below-through One One Unknown first second = refl
is_below-through One Unknown Zero first second = absurd (false≢true second)
is_below-through One Unknown One first second = refl
is_below-through One Unknown Unknown first second = refl
is_below-through Unknown Zero Zero first second = absurd (false≢true first)
is_below-through Unknown Zero One first second = absurd (false≢true first)
is_below-through Unknown Zero Unknown first second = refl
is_below-through Unknown One Zero first second = absurd (false≢true first)
is_below-through Unknown One One first second = absurd (false≢true first)
is_below-through Unknown One Unknown first second = refl
is_below-through Unknown Unknown Zero first second = absurd (false≢true second)
is_below-through Unknown Unknown One first second = absurd (false≢true second)
is_below-through Unknown Unknown Unknown first second = refl

-- two values that lie below each other are equal
pub same-is_below : (s t : Tri) → IsTrue (is_below s t) → IsTrue (is_below t s) → s ≡ t
same-is_below Zero Zero there back = refl
same-is_below Zero One there back = absurd (false≢true there)
same-is_below Zero Unknown there back = absurd (false≢true back)
same-is_below One Zero there back = absurd (false≢true there)
same-is_below One One there back = refl
same-is_below One Unknown there back = absurd (false≢true back)
same-is_below Unknown Zero there back = absurd (false≢true there)
same-is_below Unknown One there back = absurd (false≢true there)
same-is_below Unknown Unknown there back = refl

-- the join is above both, and the least such value
pub is_below-join_of-left : (s t : Tri) → IsTrue (is_below s (join_of s t))
is_below-join_of-left Zero Zero = refl
is_below-join_of-left Zero One = refl
is_below-join_of-left Zero Unknown = refl
is_below-join_of-left One Zero = refl
is_below-join_of-left One One = refl
is_below-join_of-left One Unknown = refl
is_below-join_of-left Unknown Zero = refl
is_below-join_of-left Unknown One = refl
is_below-join_of-left Unknown Unknown = refl

pub is_below-join_of-right : (s t : Tri) → IsTrue (is_below t (join_of s t))
is_below-join_of-right Zero Zero = refl
is_below-join_of-right Zero One = refl
is_below-join_of-right Zero Unknown = refl
is_below-join_of-right One Zero = refl
is_below-join_of-right One One = refl
is_below-join_of-right One Unknown = refl
is_below-join_of-right Unknown Zero = refl
is_below-join_of-right Unknown One = refl
is_below-join_of-right Unknown Unknown = refl

pub join_of-is_below : (s t large : Tri) → IsTrue (is_below s large) → IsTrue (is_below t large) → IsTrue (is_below (join_of s t) large)
join_of-is_below Zero Zero Zero left right = refl
join_of-is_below Zero Zero One left right = absurd (false≢true left)
join_of-is_below Zero Zero Unknown left right = refl
join_of-is_below Zero One Zero left right = absurd (false≢true right)
join_of-is_below Zero One One left right = absurd (false≢true left)
join_of-is_below Zero One Unknown left right = refl
join_of-is_below Zero Unknown Zero left right = absurd (false≢true right)
join_of-is_below Zero Unknown One left right = absurd (false≢true left)
join_of-is_below Zero Unknown Unknown left right = refl
join_of-is_below One Zero Zero left right = absurd (false≢true left)
join_of-is_below One Zero One left right = absurd (false≢true right)
join_of-is_below One Zero Unknown left right = refl
join_of-is_below One One Zero left right = absurd (false≢true left)
join_of-is_below One One One left right = refl
join_of-is_below One One Unknown left right = refl
join_of-is_below One Unknown Zero left right = absurd (false≢true left)
join_of-is_below One Unknown One left right = absurd (false≢true right)
join_of-is_below One Unknown Unknown left right = refl
join_of-is_below Unknown Zero Zero left right = absurd (false≢true left)
join_of-is_below Unknown Zero One left right = absurd (false≢true left)
join_of-is_below Unknown Zero Unknown left right = refl
join_of-is_below Unknown One Zero left right = absurd (false≢true left)
join_of-is_below Unknown One One left right = absurd (false≢true left)
join_of-is_below Unknown One Unknown left right = refl
join_of-is_below Unknown Unknown Zero left right = absurd (false≢true left)
join_of-is_below Unknown Unknown One left right = absurd (false≢true left)
join_of-is_below Unknown Unknown Unknown left right = refl

-- Refinement: lists of one length, whose parts and places keep the relation
pub length-Refines : (bits : List Bool) (values : List Tri) → Refines bits values → length bits ≡ length values
length-Refines [] [] h = refl
length-Refines [] (y ∷ ys) h = absurd h
length-Refines (x ∷ xs) [] h = absurd h
length-Refines (x ∷ xs) (y ∷ ys) h = omega (arith, length-Refines xs ys h.1)

-- past the ends both defaults are the known 0
pub get_or-Refines : (bits : List Bool) (values : List Tri) → Refines bits values → (i : ℕ) → IsTrue (admits (get_or values i Zero) (get_or bits i false))
get_or-Refines [] [] h i = refl
get_or-Refines [] (y ∷ ys) h i = absurd h
get_or-Refines (x ∷ xs) [] h i = absurd h
get_or-Refines (x ∷ xs) (y ∷ ys) h zero = h.0
get_or-Refines (x ∷ xs) (y ∷ ys) h (suc i) = get_or-Refines xs ys h.1 i

pub Refines-get_or : (bits : List Bool) (values : List Tri) → length bits ≡ length values → ((i : ℕ) → i < length bits → IsTrue (admits (get_or values i Zero) (get_or bits i false))) → Refines bits values
Refines-get_or [] [] e each = tt
Refines-get_or [] (y ∷ ys) e each = absurd (omega arith)
Refines-get_or (x ∷ xs) [] e each = absurd (omega arith)
Refines-get_or (x ∷ xs) (y ∷ ys) e each = (each 0 (omega arith), Refines-get_or xs ys (omega arith) (λ i h. each (suc i) (omega arith)))

pub Refines-take : (n : ℕ) (bits : List Bool) (values : List Tri) → Refines bits values → Refines (take n bits) (take n values)
Refines-take zero xs ys h = tt
Refines-take (suc n) [] [] h = tt
Refines-take (suc n) [] (y ∷ ys) h = absurd h
Refines-take (suc n) (x ∷ xs) [] h = absurd h
Refines-take (suc n) (x ∷ xs) (y ∷ ys) h = (h.0, Refines-take n xs ys h.1)

pub Refines-drop : (n : ℕ) (bits : List Bool) (values : List Tri) → Refines bits values → Refines (drop n bits) (drop n values)
Refines-drop zero xs ys h = h
Refines-drop (suc n) [] [] h = tt
Refines-drop (suc n) [] (y ∷ ys) h = absurd h
Refines-drop (suc n) (x ∷ xs) [] h = absurd h
Refines-drop (suc n) (x ∷ xs) (y ∷ ys) h = Refines-drop n xs ys h.1

pub Refines-slice_range : (bits : List Bool) (values : List Tri) (a b : ℕ) → Refines bits values → Refines (slice_range bits a b) (slice_range values a b)
Refines-slice_range xs ys a b h = Refines-take (b - a) (drop a xs) (drop a ys) (Refines-drop a xs ys h)

pub Refines-append : (bits more_bits : List Bool) (values more_values : List Tri) → Refines bits values → Refines more_bits more_values → Refines (bits ++ more_bits) (values ++ more_values)
Refines-append [] more_xs [] more_ys h more = more
Refines-append [] more_xs (y ∷ ys) more_ys h more = absurd h
Refines-append (x ∷ xs) more_xs [] more_ys h more = absurd h
Refines-append (x ∷ xs) more_xs (y ∷ ys) more_ys h more = (h.0, Refines-append xs more_xs ys more_ys h.1 more)

pub Refines-set : (bits : List Bool) (values : List Tri) (i : ℕ) (x : Bool) (y : Tri) → Refines bits values → IsTrue (admits y x) → Refines (set bits i x) (set values i y)
Refines-set [] [] i x y h at = tt
Refines-set [] (v ∷ ys) i x y h at = absurd h
Refines-set (u ∷ xs) [] i x y h at = absurd h
Refines-set (u ∷ xs) (v ∷ ys) zero x y h at = (at, h.1)
Refines-set (u ∷ xs) (v ∷ ys) (suc i) x y h at = (h.0, Refines-set xs ys i x y h.1 at)

-- The order of lists: lists of one length, whose parts and places keep the relation
pub length-AllBelow : (small : List Tri) (large : List Tri) → AllBelow small large → length small ≡ length large
length-AllBelow [] [] h = refl
length-AllBelow [] (y ∷ ys) h = absurd h
length-AllBelow (x ∷ xs) [] h = absurd h
length-AllBelow (x ∷ xs) (y ∷ ys) h = omega (arith, length-AllBelow xs ys h.1)

-- past the ends both defaults are the known 0
pub get_or-AllBelow : (small : List Tri) (large : List Tri) → AllBelow small large → (i : ℕ) → IsTrue (is_below (get_or small i Zero) (get_or large i Zero))
get_or-AllBelow [] [] h i = refl
get_or-AllBelow [] (y ∷ ys) h i = absurd h
get_or-AllBelow (x ∷ xs) [] h i = absurd h
get_or-AllBelow (x ∷ xs) (y ∷ ys) h zero = h.0
get_or-AllBelow (x ∷ xs) (y ∷ ys) h (suc i) = get_or-AllBelow xs ys h.1 i

pub AllBelow-get_or : (small : List Tri) (large : List Tri) → length small ≡ length large → ((i : ℕ) → i < length small → IsTrue (is_below (get_or small i Zero) (get_or large i Zero))) → AllBelow small large
AllBelow-get_or [] [] e each = tt
AllBelow-get_or [] (y ∷ ys) e each = absurd (omega arith)
AllBelow-get_or (x ∷ xs) [] e each = absurd (omega arith)
AllBelow-get_or (x ∷ xs) (y ∷ ys) e each = (each 0 (omega arith), AllBelow-get_or xs ys (omega arith) (λ i h. each (suc i) (omega arith)))

pub AllBelow-take : (n : ℕ) (small : List Tri) (large : List Tri) → AllBelow small large → AllBelow (take n small) (take n large)
AllBelow-take zero xs ys h = tt
AllBelow-take (suc n) [] [] h = tt
AllBelow-take (suc n) [] (y ∷ ys) h = absurd h
AllBelow-take (suc n) (x ∷ xs) [] h = absurd h
AllBelow-take (suc n) (x ∷ xs) (y ∷ ys) h = (h.0, AllBelow-take n xs ys h.1)

pub AllBelow-drop : (n : ℕ) (small : List Tri) (large : List Tri) → AllBelow small large → AllBelow (drop n small) (drop n large)
AllBelow-drop zero xs ys h = h
AllBelow-drop (suc n) [] [] h = tt
AllBelow-drop (suc n) [] (y ∷ ys) h = absurd h
AllBelow-drop (suc n) (x ∷ xs) [] h = absurd h
AllBelow-drop (suc n) (x ∷ xs) (y ∷ ys) h = AllBelow-drop n xs ys h.1

pub AllBelow-slice_range : (small : List Tri) (large : List Tri) (a b : ℕ) → AllBelow small large → AllBelow (slice_range small a b) (slice_range large a b)
AllBelow-slice_range xs ys a b h = AllBelow-take (b - a) (drop a xs) (drop a ys) (AllBelow-drop a xs ys h)

pub AllBelow-append : (small more_small : List Tri) (large more_large : List Tri) → AllBelow small large → AllBelow more_small more_large → AllBelow (small ++ more_small) (large ++ more_large)
AllBelow-append [] more_xs [] more_ys h more = more
AllBelow-append [] more_xs (y ∷ ys) more_ys h more = absurd h
AllBelow-append (x ∷ xs) more_xs [] more_ys h more = absurd h
AllBelow-append (x ∷ xs) more_xs (y ∷ ys) more_ys h more = (h.0, AllBelow-append xs more_xs ys more_ys h.1 more)

pub AllBelow-set : (small : List Tri) (large : List Tri) (i : ℕ) (x : Tri) (y : Tri) → AllBelow small large → IsTrue (is_below x y) → AllBelow (set small i x) (set large i y)
AllBelow-set [] [] i x y h at = tt
AllBelow-set [] (v ∷ ys) i x y h at = absurd h
AllBelow-set (u ∷ xs) [] i x y h at = absurd h
AllBelow-set (u ∷ xs) (v ∷ ys) zero x y h at = (at, h.1)
AllBelow-set (u ∷ xs) (v ∷ ys) (suc i) x y h at = (h.0, AllBelow-set xs ys i x y h.1 at)

pub AllBelow-same : (values : List Tri) → AllBelow values values
AllBelow-same [] = tt
AllBelow-same (value ∷ values) = (is_below-same value, AllBelow-same values)

pub AllBelow-through : (small middle large : List Tri) → AllBelow small middle → AllBelow middle large → AllBelow small large
AllBelow-through [] [] large p q = q
AllBelow-through [] (m ∷ ms) large p q = absurd p
AllBelow-through (s ∷ ss) [] large p q = absurd p
AllBelow-through (s ∷ ss) (m ∷ ms) [] p q = absurd q
AllBelow-through (s ∷ ss) (m ∷ ms) (l ∷ ls) p q = (is_below-through s m l p.0 q.0, AllBelow-through ss ms ls p.1 q.1)

-- two lists that lie below each other are equal
pub same-AllBelow : (xs ys : List Tri) → AllBelow xs ys → AllBelow ys xs → xs ≡ ys
same-AllBelow [] [] p q = refl
same-AllBelow [] (y ∷ ys) p q = absurd p
same-AllBelow (x ∷ xs) [] p q = absurd p
same-AllBelow (x ∷ xs) (y ∷ ys) p q =
    let head = same-is_below x y p.0 q.0 in
    let tail = same-AllBelow xs ys p.1 q.1 in
    cc

-- what refines the lower list refines the greater one
pub Refines-AllBelow : (bits : List Bool) (small large : List Tri) → AllBelow small large → Refines bits small → Refines bits large
Refines-AllBelow [] [] large below h = elim large as (λ l. AllBelow [] l → Refines [] l) [ [] ↦ λ b. tt | (l ∷ ls) ↦ λ b. absurd b ] below
Refines-AllBelow [] (s ∷ small) large below h = absurd h
Refines-AllBelow (bit ∷ bits) [] large below h = absurd h
Refines-AllBelow (bit ∷ bits) (s ∷ small) [] below h = absurd below
Refines-AllBelow (bit ∷ bits) (s ∷ small) (l ∷ large) below h =
    (admits-is_below s l bit below.0 h.0, Refines-AllBelow bits small large below.1 h.1)

-- a known list is refined by its bits
pub Refines-map : (bits : List Bool) → Refines bits (map tri_of bits)
Refines-map [] = tt
Refines-map (bit ∷ bits) = (admits-tri_of bit, Refines-map bits)

-- a known list is refined by its bits alone
pub same-Refines : (bits known : List Bool) → Refines bits (map tri_of known) → bits ≡ known
same-Refines [] [] h = refl
same-Refines [] (k ∷ known) h = absurd h
same-Refines (bit ∷ bits) [] h = absurd h
same-Refines (bit ∷ bits) (k ∷ known) h =
    let head = known-admits k bit h.0 in
    let tail = same-Refines bits known h.1 in
    cc
