-- Kleene's connectives, folded over the pins, give the ternary extension.
use Rattle.std.proofs.Common.{◌≡◌, ℕ, ◌+◌, ◌%◌, Bool, true, false, not, ◌==◌, cond, List, [], ◌∷◌, refl, sym, ap, ◌∙◌, arith, suc, zero}
use Rattle.std.proofs.lemmas.List.Sums.{sum_by-cons}
use Rattle.std.specs.List.{fold, count_by, list_all, list_any}
use Rattle.hz_core.specs.declared.kind.Kind.TheVariants.{And, Nand, Or, Nor, Xor, Xnor}
use Rattle.hz_core.specs.declared.tri.Tri.{Tri}
use Rattle.hz_core.specs.declared.tri.Tri.TheVariants.{Zero, One, Unknown}
use Rattle.hz_core.specs.Ternary.{tri_of, join_of, admits}
use Rattle.hz_core.specs.Gate.{every_pin, some_pin, odd_pins}
use Rattle.hz_core.specs.Kleene.{complement_of, and_of, or_of, xor_of}
use Rattle.hz_core.specs.Extension.{join_over, extension}

-- functions with the same values have the same join
join_over-same : (f g : List Bool → Bool) (values : List Tri) → ((bits : List Bool) → f bits ≡ g bits) → join_over f values ≡ join_over g values
join_over-same f g [] same = ap tri_of (same [])
join_over-same f g (Zero ∷ values) same =
    join_over-same (λ bits. f (false ∷ bits)) (λ bits. g (false ∷ bits)) values (λ bits. same (false ∷ bits))
join_over-same f g (One ∷ values) same =
    join_over-same (λ bits. f (true ∷ bits)) (λ bits. g (true ∷ bits)) values (λ bits. same (true ∷ bits))
join_over-same f g (Unknown ∷ values) same =
    let zero_case = join_over-same (λ bits. f (false ∷ bits)) (λ bits. g (false ∷ bits)) values (λ bits. same (false ∷ bits)) in
    let one_case = join_over-same (λ bits. f (true ∷ bits)) (λ bits. g (true ∷ bits)) values (λ bits. same (true ∷ bits)) in
    ap (λ t. join_of t (join_over (λ bits. f (true ∷ bits)) values)) zero_case
    ∙ ap (λ t. join_of (join_over (λ bits. g (false ∷ bits)) values) t) one_case

join_of-tri_of : (b : Bool) → join_of (tri_of b) (tri_of b) ≡ tri_of b
join_of-tri_of false = refl
join_of-tri_of true = refl

-- a constant is its own join
join_over-constant : (b : Bool) (values : List Tri) → join_over (λ bits. b) values ≡ tri_of b
join_over-constant b [] = refl
join_over-constant b (Zero ∷ values) = join_over-constant b values
join_over-constant b (One ∷ values) = join_over-constant b values
join_over-constant b (Unknown ∷ values) =
    ap (λ t. join_of t t) (join_over-constant b values) ∙ join_of-tri_of b

complement_of-tri_of : (b : Bool) → tri_of (not b) ≡ complement_of (tri_of b)
complement_of-tri_of false = refl
complement_of-tri_of true = refl

complement_of-join_of : (s t : Tri) → join_of (complement_of s) (complement_of t) ≡ complement_of (join_of s t)
complement_of-join_of Zero Zero = refl
complement_of-join_of Zero One = refl
complement_of-join_of Zero Unknown = refl
complement_of-join_of One Zero = refl
complement_of-join_of One One = refl
complement_of-join_of One Unknown = refl
complement_of-join_of Unknown Zero = refl
complement_of-join_of Unknown One = refl
complement_of-join_of Unknown Unknown = refl

-- the join of the complements is the complement of the join
pub join_over-not : (f : List Bool → Bool) (values : List Tri) → join_over (λ bits. not (f bits)) values ≡ complement_of (join_over f values)
join_over-not f [] = complement_of-tri_of (f [])
join_over-not f (Zero ∷ values) = join_over-not (λ bits. f (false ∷ bits)) values
join_over-not f (One ∷ values) = join_over-not (λ bits. f (true ∷ bits)) values
join_over-not f (Unknown ∷ values) =
    ap (λ t. join_of t (join_over (λ bits. not (f (true ∷ bits))) values)) (join_over-not (λ bits. f (false ∷ bits)) values)
    ∙ ap (λ t. join_of (complement_of (join_over (λ bits. f (false ∷ bits)) values)) t) (join_over-not (λ bits. f (true ∷ bits)) values)
    ∙ complement_of-join_of (join_over (λ bits. f (false ∷ bits)) values) (join_over (λ bits. f (true ∷ bits)) values)

zero_or : (value : Tri) → join_of Zero value ≡ and_of Unknown value
zero_or Zero = refl
zero_or One = refl
zero_or Unknown = refl

or_one : (value : Tri) → join_of value One ≡ or_of Unknown value
or_one Zero = refl
or_one One = refl
or_one Unknown = refl

both : (value : Tri) → join_of value (complement_of value) ≡ Unknown
both Zero = refl
both One = refl
both Unknown = refl

-- of two numbers whose sum is 1, one is 1
pub flipped : (m n : ℕ) → m + n ≡ 1 → (m == 1) ≡ not (n == 1)
flipped zero n sum = let e : n ≡ 1 = omega arith in rw e refl
flipped (suc zero) n sum = let e : n ≡ 0 = omega arith in rw e refl
flipped (suc (suc m)) n sum = absurd (omega arith)

-- one more pin that is 1 changes the parity
pub odd_pins-true : (bits : List Bool) → odd_pins (true ∷ bits) ≡ not (odd_pins bits)
odd_pins-true bits =
    let e = sum_by-cons (λ pin. cond pin 1 0) true bits in
    flipped (count_by (λ pin. pin) (true ∷ bits) % 2) (count_by (λ pin. pin) bits % 2) (omega (arith, e))

-- one pin more, for each connective
join_over-every : (value : Tri) (values : List Tri) → join_over every_pin (value ∷ values) ≡ and_of value (join_over every_pin values)
join_over-every Zero values = join_over-constant false values
join_over-every One values = refl
join_over-every Unknown values =
    ap (λ t. join_of t (join_over every_pin values)) (join_over-constant false values) ∙ zero_or (join_over every_pin values)

join_over-some : (value : Tri) (values : List Tri) → join_over some_pin (value ∷ values) ≡ or_of value (join_over some_pin values)
join_over-some Zero values = refl
join_over-some One values = join_over-constant true values
join_over-some Unknown values =
    ap (λ t. join_of (join_over some_pin values) t) (join_over-constant true values) ∙ or_one (join_over some_pin values)

join_over-odd-one : (values : List Tri) → join_over (λ bits. odd_pins (true ∷ bits)) values ≡ complement_of (join_over odd_pins values)
join_over-odd-one values =
    join_over-same (λ bits. odd_pins (true ∷ bits)) (λ bits. not (odd_pins bits)) values odd_pins-true
    ∙ join_over-not odd_pins values

join_over-odd : (value : Tri) (values : List Tri) → join_over odd_pins (value ∷ values) ≡ xor_of value (join_over odd_pins values)
join_over-odd Zero values = refl
join_over-odd One values = join_over-odd-one values
join_over-odd Unknown values =
    ap (λ t. join_of (join_over odd_pins values) t) (join_over-odd-one values) ∙ both (join_over odd_pins values)

-- the connectives are associative, and their starts change nothing
and_of-assoc : (a b c : Tri) → and_of (and_of a b) c ≡ and_of a (and_of b c)
and_of-assoc Zero b c = refl
and_of-assoc One b c = refl
and_of-assoc Unknown Zero c = refl
and_of-assoc Unknown One c = refl
and_of-assoc Unknown Unknown Zero = refl
and_of-assoc Unknown Unknown One = refl
and_of-assoc Unknown Unknown Unknown = refl

or_of-assoc : (a b c : Tri) → or_of (or_of a b) c ≡ or_of a (or_of b c)
or_of-assoc Zero b c = refl
or_of-assoc One b c = refl
or_of-assoc Unknown Zero c = refl
or_of-assoc Unknown One c = refl
or_of-assoc Unknown Unknown Zero = refl
or_of-assoc Unknown Unknown One = refl
or_of-assoc Unknown Unknown Unknown = refl

xor_of-assoc : (a b c : Tri) → xor_of (xor_of a b) c ≡ xor_of a (xor_of b c)
xor_of-assoc Zero b c = refl
xor_of-assoc One Zero c = refl
xor_of-assoc One One Zero = refl
xor_of-assoc One One One = refl
xor_of-assoc One One Unknown = refl
xor_of-assoc One Unknown c = refl
xor_of-assoc Unknown b c = refl

and_of-one : (a : Tri) → a ≡ and_of a One
and_of-one Zero = refl
and_of-one One = refl
and_of-one Unknown = refl

or_of-zero : (a : Tri) → a ≡ or_of a Zero
or_of-zero Zero = refl
or_of-zero One = refl
or_of-zero Unknown = refl

xor_of-zero : (a : Tri) → a ≡ xor_of a Zero
xor_of-zero Zero = refl
xor_of-zero One = refl
xor_of-zero Unknown = refl

-- the conjunction, by whether all pins admit 1 and some admits 0
abbrev conjunction_by : Bool → Bool → Tri
conjunction_by false zeros = Zero
conjunction_by true false = One
conjunction_by true true = Unknown

-- the disjunction, by whether all pins admit 0 and some admits 1
abbrev disjunction_by : Bool → Bool → Tri
disjunction_by false ones = One
disjunction_by true false = Zero
disjunction_by true true = Unknown

and_of-unknown : (ones zeros : Bool) → and_of Unknown (conjunction_by ones zeros) ≡ conjunction_by ones true
and_of-unknown false zeros = refl
and_of-unknown true false = refl
and_of-unknown true true = refl

or_of-unknown : (zeros ones : Bool) → or_of Unknown (disjunction_by zeros ones) ≡ disjunction_by zeros true
or_of-unknown false ones = refl
or_of-unknown true false = refl
or_of-unknown true true = refl

abbrev all_admit : Bool → List Tri → Bool
all_admit bit pins = list_all (λ (pin : Tri). admits pin bit) pins

abbrev some_admits : Bool → List Tri → Bool
some_admits bit pins = list_any (λ (pin : Tri). admits pin bit) pins

and_of-admitted :
    (pin : Tri) (pins : List Tri) →
    and_of pin (conjunction_by (all_admit true pins) (some_admits false pins)) ≡ conjunction_by (all_admit true (pin ∷ pins)) (some_admits false (pin ∷ pins))
and_of-admitted Zero pins = refl
and_of-admitted One pins = refl
and_of-admitted Unknown pins = and_of-unknown (all_admit true pins) (some_admits false pins)

or_of-admitted :
    (pin : Tri) (pins : List Tri) →
    or_of pin (disjunction_by (all_admit false pins) (some_admits true pins)) ≡ disjunction_by (all_admit false (pin ∷ pins)) (some_admits true (pin ∷ pins))
or_of-admitted Zero pins = refl
or_of-admitted One pins = refl
or_of-admitted Unknown pins = or_of-unknown (all_admit false pins) (some_admits true pins)

fold-and_of-admitted :
    (so_far : Tri) (pins : List Tri) →
    fold and_of so_far pins ≡ and_of so_far (conjunction_by (all_admit true pins) (some_admits false pins))
fold-and_of-admitted so_far [] = and_of-one so_far
fold-and_of-admitted so_far (pin ∷ pins) =
    fold-and_of-admitted (and_of so_far pin) pins
    ∙ and_of-assoc so_far pin (conjunction_by (all_admit true pins) (some_admits false pins))
    ∙ ap (λ t. and_of so_far t) (and_of-admitted pin pins)

fold-or_of-admitted :
    (so_far : Tri) (pins : List Tri) →
    fold or_of so_far pins ≡ or_of so_far (disjunction_by (all_admit false pins) (some_admits true pins))
fold-or_of-admitted so_far [] = or_of-zero so_far
fold-or_of-admitted so_far (pin ∷ pins) =
    fold-or_of-admitted (or_of so_far pin) pins
    ∙ or_of-assoc so_far pin (disjunction_by (all_admit false pins) (some_admits true pins))
    ∙ ap (λ t. or_of so_far t) (or_of-admitted pin pins)

-- the folds by which bits the pins admit
and_of-by :
    (pins : List Tri) (ones zeros : Bool) → ones ≡ list_all (λ pin. admits pin true) pins →
    zeros ≡ list_any (λ pin. admits pin false) pins → fold and_of One pins ≡ conjunction_by ones zeros
and_of-by pins ones zeros all some =
    fold-and_of-admitted One pins
    ∙ ap (λ (b : Bool). conjunction_by b (some_admits false pins)) (sym all)
    ∙ ap (conjunction_by ones) (sym some)

or_of-by :
    (pins : List Tri) (zeros ones : Bool) → zeros ≡ list_all (λ pin. admits pin false) pins →
    ones ≡ list_any (λ pin. admits pin true) pins → fold or_of Zero pins ≡ disjunction_by zeros ones
or_of-by pins zeros ones all some =
    fold-or_of-admitted Zero pins
    ∙ ap (λ (b : Bool). disjunction_by b (some_admits true pins)) (sym all)
    ∙ ap (disjunction_by zeros) (sym some)

pub and-zero : (pins : List Tri) (ones : Bool) → ones ≡ list_all (λ pin. admits pin true) pins → ones ≡ false → Zero ≡ fold and_of One pins
and-zero pins false all test = sym (and_of-by pins false (some_admits false pins) all refl)
and-zero pins true all test = cc

pub and-unknown :
    (pins : List Tri) (ones zeros : Bool) → ones ≡ list_all (λ pin. admits pin true) pins → ones ≡ true →
    zeros ≡ list_any (λ pin. admits pin false) pins → zeros ≡ true → Unknown ≡ fold and_of One pins
and-unknown pins true true all test some is = sym (and_of-by pins true true all some)
and-unknown pins true false all test some is = cc
and-unknown pins false zeros all test some is = cc

pub and-one :
    (pins : List Tri) (ones zeros : Bool) → ones ≡ list_all (λ pin. admits pin true) pins → ones ≡ true →
    zeros ≡ list_any (λ pin. admits pin false) pins → zeros ≡ false → One ≡ fold and_of One pins
and-one pins true false all test some is = sym (and_of-by pins true false all some)
and-one pins true true all test some is = cc
and-one pins false zeros all test some is = cc

pub or-one : (pins : List Tri) (zeros : Bool) → zeros ≡ list_all (λ pin. admits pin false) pins → zeros ≡ false → One ≡ fold or_of Zero pins
or-one pins false all test = sym (or_of-by pins false (some_admits true pins) all refl)
or-one pins true all test = cc

pub or-unknown :
    (pins : List Tri) (zeros ones : Bool) → zeros ≡ list_all (λ pin. admits pin false) pins → zeros ≡ true →
    ones ≡ list_any (λ pin. admits pin true) pins → ones ≡ true → Unknown ≡ fold or_of Zero pins
or-unknown pins true true all test some is = sym (or_of-by pins true true all some)
or-unknown pins true false all test some is = cc
or-unknown pins false ones all test some is = cc

pub or-zero :
    (pins : List Tri) (zeros ones : Bool) → zeros ≡ list_all (λ pin. admits pin false) pins → zeros ≡ true →
    ones ≡ list_any (λ pin. admits pin true) pins → ones ≡ false → Zero ≡ fold or_of Zero pins
or-zero pins true false all test some is = sym (or_of-by pins true false all some)
or-zero pins true true all test some is = cc
or-zero pins false ones all test some is = cc

-- what is folded so far, and the pins that are left
fold-every : (so_far : Tri) (pins : List Tri) → fold and_of so_far pins ≡ and_of so_far (join_over every_pin pins)
fold-every so_far [] = and_of-one so_far
fold-every so_far (pin ∷ pins) =
    fold-every (and_of so_far pin) pins
    ∙ and_of-assoc so_far pin (join_over every_pin pins)
    ∙ ap (λ t. and_of so_far t) (sym (join_over-every pin pins))

fold-some : (so_far : Tri) (pins : List Tri) → fold or_of so_far pins ≡ or_of so_far (join_over some_pin pins)
fold-some so_far [] = or_of-zero so_far
fold-some so_far (pin ∷ pins) =
    fold-some (or_of so_far pin) pins
    ∙ or_of-assoc so_far pin (join_over some_pin pins)
    ∙ ap (λ t. or_of so_far t) (sym (join_over-some pin pins))

fold-odd : (so_far : Tri) (pins : List Tri) → fold xor_of so_far pins ≡ xor_of so_far (join_over odd_pins pins)
fold-odd so_far [] = xor_of-zero so_far
fold-odd so_far (pin ∷ pins) =
    fold-odd (xor_of so_far pin) pins
    ∙ xor_of-assoc so_far pin (join_over odd_pins pins)
    ∙ ap (λ t. xor_of so_far t) (sym (join_over-odd pin pins))

pub fold-and_of : (pins : List Tri) → fold and_of One pins ≡ extension And pins
fold-and_of pins = fold-every One pins

pub fold-or_of : (pins : List Tri) → fold or_of Zero pins ≡ extension Or pins
fold-or_of pins = fold-some Zero pins

pub fold-xor_of : (pins : List Tri) → fold xor_of Zero pins ≡ extension Xor pins
fold-xor_of pins = fold-odd Zero pins

pub extension-nand : (pins : List Tri) → complement_of (fold and_of One pins) ≡ extension Nand pins
extension-nand pins = ap complement_of (fold-and_of pins) ∙ sym (join_over-not every_pin pins)

pub extension-nor : (pins : List Tri) → complement_of (fold or_of Zero pins) ≡ extension Nor pins
extension-nor pins = ap complement_of (fold-or_of pins) ∙ sym (join_over-not some_pin pins)

pub extension-xnor : (pins : List Tri) → complement_of (fold xor_of Zero pins) ≡ extension Xnor pins
extension-xnor pins = ap complement_of (fold-xor_of pins) ∙ sym (join_over-not odd_pins pins)

-- the extension of each kind by its connective
pub ruleset kleene = (fold-and_of, fold-or_of, fold-xor_of, extension-nand, extension-nor, extension-xnor)
