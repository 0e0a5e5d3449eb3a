-- Joins of sets of bits: what a join says, joins over more bits, and the join of a function's values over all refining lists.
use Rattle.std.proofs.Common.{◌≡◌, Bool, true, false, List, [], ◌∷◌, IsTrue, refl, ◌⊎◌, inl, inr}
use Rattle.std.proofs.lemmas.Bool.{false≢true}
use Rattle.hz_core.specs.declared.tri.Tri.{Tri}
use Rattle.hz_core.specs.declared.tri.Tri.TheVariants.{Zero, One, Unknown}
use Rattle.hz_core.specs.Ternary.{tri_of, admits, is_below, join_of, Refines, IsJoinOf}
use Rattle.hz_core.specs.Extension.{join_over}

-- the values of f over the lists of bits that refine the values
abbrev pub IsTaken : (List Bool → Bool) → List Tri → Bool → Type 0
IsTaken f values bit = (bits : List Bool) × Refines bits values × (f bits ≡ bit)

-- sets with the same bits have the same join
pub IsJoinOf-same : (A B : Bool → Type 0) (value : Tri) → ((b : Bool) → A b → B b) → ((b : Bool) → B b → A b) → IsJoinOf A value → IsJoinOf B value
IsJoinOf-same A B Zero there back join = (there false join.0, λ h. join.1 (back true h))
IsJoinOf-same A B One there back join = (there true join.0, λ h. join.1 (back false h))
IsJoinOf-same A B Unknown there back join = (there false join.0, there true join.1)

-- the join of two sets together
pub IsJoinOf-either : (A B : Bool → Type 0) (s t : Tri) → IsJoinOf A s → IsJoinOf B t → IsJoinOf (λ b. A b ⊎ B b) (join_of s t)
IsJoinOf-either A B Zero Zero p q = (inl p.0, λ h. elim h [ inl a ↦ p.1 a | inr b ↦ q.1 b ])
IsJoinOf-either A B Zero One p q = (inl p.0, inr q.0)
IsJoinOf-either A B Zero Unknown p q = (inl p.0, inr q.1)
IsJoinOf-either A B One Zero p q = (inr q.0, inl p.0)
IsJoinOf-either A B One One p q = (inl p.0, λ h. elim h [ inl a ↦ p.1 a | inr b ↦ q.1 b ])
IsJoinOf-either A B One Unknown p q = (inr q.0, inl p.0)
IsJoinOf-either A B Unknown Zero p q = (inl p.0, inl p.1)
IsJoinOf-either A B Unknown One p q = (inl p.0, inl p.1)
IsJoinOf-either A B Unknown Unknown p q = (inl p.0, inl p.1)

-- a set of one bit
IsJoinOf-one : (bit : Bool) → IsJoinOf (λ b. bit ≡ b) (tri_of bit)
IsJoinOf-one false = (refl, λ h. cc)
IsJoinOf-one true = (refl, λ h. cc)

-- the join admits each bit of its set
pub admits-IsJoinOf : (A : Bool → Type 0) (value : Tri) (b : Bool) → IsJoinOf A value → A b → IsTrue (admits value b)
admits-IsJoinOf A Zero false join a = refl
admits-IsJoinOf A Zero true join a = absurd (join.1 a)
admits-IsJoinOf A One false join a = absurd (join.1 a)
admits-IsJoinOf A One true join a = refl
admits-IsJoinOf A Unknown false join a = refl
admits-IsJoinOf A Unknown true join a = refl

-- the join of a smaller set is below
pub is_below-IsJoinOf : (A B : Bool → Type 0) (s t : Tri) → ((b : Bool) → A b → B b) → IsJoinOf A s → IsJoinOf B t → IsTrue (is_below s t)
is_below-IsJoinOf A B Zero Zero sub p q = refl
is_below-IsJoinOf A B Zero One sub p q = absurd (q.1 (sub false p.0))
is_below-IsJoinOf A B Zero Unknown sub p q = refl
is_below-IsJoinOf A B One Zero sub p q = absurd (q.1 (sub true p.0))
is_below-IsJoinOf A B One One sub p q = refl
is_below-IsJoinOf A B One Unknown sub p q = refl
is_below-IsJoinOf A B Unknown Zero sub p q = absurd (q.1 (sub true p.1))
is_below-IsJoinOf A B Unknown One sub p q = absurd (q.1 (sub false p.0))
is_below-IsJoinOf A B Unknown Unknown sub p q = refl

-- a list that refines none has the function's one value
taken_none : (f : List Bool → Bool) (b : Bool) (bits : List Bool) → Refines bits [] → f bits ≡ b → f [] ≡ b
taken_none f b [] r e = e
taken_none f b (bit ∷ bits) r e = absurd r

-- a list that refines one with a known head begins with this bit
taken_zero : (f : List Bool → Bool) (values : List Tri) (b : Bool) (bits : List Bool) → Refines bits (Zero ∷ values) → f bits ≡ b → IsTaken (λ rest. f (false ∷ rest)) values b
taken_zero f values b [] r e = absurd r
taken_zero f values b (false ∷ bits) r e = (bits, r.1, e)
taken_zero f values b (true ∷ bits) r e = absurd (false≢true r.0)

taken_one : (f : List Bool → Bool) (values : List Tri) (b : Bool) (bits : List Bool) → Refines bits (One ∷ values) → f bits ≡ b → IsTaken (λ rest. f (true ∷ rest)) values b
taken_one f values b [] r e = absurd r
taken_one f values b (false ∷ bits) r e = absurd (false≢true r.0)
taken_one f values b (true ∷ bits) r e = (bits, r.1, e)

-- a list that refines one with X at its head begins with either bit
taken_unknown : (f : List Bool → Bool) (values : List Tri) (b : Bool) (bits : List Bool) → Refines bits (Unknown ∷ values) → f bits ≡ b → IsTaken (λ rest. f (false ∷ rest)) values b ⊎ IsTaken (λ rest. f (true ∷ rest)) values b
taken_unknown f values b [] r e = absurd r
taken_unknown f values b (false ∷ bits) r e = inl (bits, r.1, e)
taken_unknown f values b (true ∷ bits) r e = inr (bits, r.1, e)

-- `join_over` is the join, as a set, of the function's values over all lists of bits that refine the values
pub IsJoinOf-join_over : (f : List Bool → Bool) (values : List Tri) → IsJoinOf (IsTaken f values) (join_over f values)
IsJoinOf-join_over f [] =
    IsJoinOf-same (λ b. f [] ≡ b) (IsTaken f []) (tri_of (f []))
    (λ b e. ([], tt, e))
    (λ b h. taken_none f b h.0 h.1 h.2)
    (IsJoinOf-one (f []))
IsJoinOf-join_over f (Zero ∷ values) =
    IsJoinOf-same (IsTaken (λ bits. f (false ∷ bits)) values) (IsTaken f (Zero ∷ values)) (join_over (λ bits. f (false ∷ bits)) values)
    (λ b h. (false ∷ h.0, (refl, h.1), h.2))
    (λ b h. taken_zero f values b h.0 h.1 h.2)
    (IsJoinOf-join_over (λ bits. f (false ∷ bits)) values)
IsJoinOf-join_over f (One ∷ values) =
    IsJoinOf-same (IsTaken (λ bits. f (true ∷ bits)) values) (IsTaken f (One ∷ values)) (join_over (λ bits. f (true ∷ bits)) values)
    (λ b h. (true ∷ h.0, (refl, h.1), h.2))
    (λ b h. taken_one f values b h.0 h.1 h.2)
    (IsJoinOf-join_over (λ bits. f (true ∷ bits)) values)
IsJoinOf-join_over f (Unknown ∷ values) =
    IsJoinOf-same
    (λ b. IsTaken (λ bits. f (false ∷ bits)) values b ⊎ IsTaken (λ bits. f (true ∷ bits)) values b)
    (IsTaken f (Unknown ∷ values))
    (join_over f (Unknown ∷ values))
    (λ b h. elim h [ inl a ↦ (false ∷ a.0, (refl, a.1), a.2) | inr a ↦ (true ∷ a.0, (refl, a.1), a.2) ])
    (λ b h. taken_unknown f values b h.0 h.1 h.2)
    (IsJoinOf-either
    (IsTaken (λ bits. f (false ∷ bits)) values)
    (IsTaken (λ bits. f (true ∷ bits)) values)
    (join_over (λ bits. f (false ∷ bits)) values)
    (join_over (λ bits. f (true ∷ bits)) values)
    (IsJoinOf-join_over (λ bits. f (false ∷ bits)) values)
    (IsJoinOf-join_over (λ bits. f (true ∷ bits)) values))
