-- Derivations: what they force, that a node is forced to one bit at most, and how forced pins force a gate.
use Rattle.std.proofs.Common.{◌≡◌, ℕ, zero, suc, ◌<◌, ◌⊎◌, Bool, true, false, Option, Some, None, List, [], ◌∷◌, ◌++◌, length, map, slice_get, IsTrue, refl, sym, ap, ◌∙◌, subst, arith, inl, inr}
use Rattle.std.specs.Prelude.{Contains, nat_eq, if◌then◌else◌, ◌==◌}
use Rattle.std.proofs.lemmas.Bool.{cases_eq, eq-eqb}
use Rattle.std.proofs.lemmas.Bool.Decides.{nat_tests}
use Rattle.std.proofs.lemmas.List.Elements.{Contains-append_left, Contains-append_right}
use Rattle.hz_core.specs.declared.tri.Tri.{Tri}
use Rattle.hz_core.specs.declared.tri.Tri.TheVariants.{Zero, One, Unknown}
use Rattle.hz_core.specs.Ternary.{tri_of, admits, Refines, IsJoinOf}
use Rattle.hz_core.specs.Gate.{gate_value}
use Rattle.hz_core.specs.Extension.{extension, IsValueOver}
use Rattle.hz_core.specs.Netlist.{Netlist, IsCutNumber, IsGateNumber, data_of, gate_at}
use Rattle.hz_core.proofs.Refinements.{known-admits}
use Rattle.hz_core.proofs.Extensions.{IsExtension-extension, admits-extension}
use Rattle.hz_net.specs.Starts.{AgreeWith, TakesData, Follows, IsGiven, IsDerivation, IsForced}

-- a pair of a node and its bit
abbrev pub Pair : Type 0
Pair = ℕ × Bool

-- every pair of one list is in another
abbrev pub IsWithin : List Pair → List Pair → Type 0
IsWithin few many = (pair : Pair) → Contains few pair → Contains many pair

pub Contains-head : (pair : Pair) (pairs : List Pair) → Contains (pair ∷ pairs) pair
Contains-head pair pairs = (0, omega arith, refl)

pub Contains-tail : (pair other : Pair) (pairs : List Pair) → Contains pairs pair → Contains (other ∷ pairs) pair
Contains-tail pair other pairs h = (suc h.0, (let inside : h.0 < length pairs = h.1 in omega arith), h.2)

-- an element is the head or in the tail
pub Contains-cases : (pair other : Pair) (pairs : List Pair) → Contains (other ∷ pairs) pair → (other ≡ pair) ⊎ Contains pairs pair
Contains-cases pair other pairs (zero, inside, e) = inl e
Contains-cases pair other pairs (suc k, inside, e) = inr (k, omega (arith, inside), e)

-- bits that agree with more pairs agree with fewer
AgreeWith-within : (few many : List Pair) (sources : List ℕ) (bits : List Bool) → IsWithin few many → AgreeWith many sources bits → AgreeWith few sources bits
AgreeWith-within few many [] [] within agree = tt
AgreeWith-within few many [] (bit ∷ bits) within agree = agree
AgreeWith-within few many (source ∷ sources) [] within agree = agree
AgreeWith-within few many (source ∷ sources) (bit ∷ bits) within agree =
    (λ other there. agree.0 other (within (source, other) there), AgreeWith-within few many sources bits within agree.1)

-- what follows from some pairs follows from more
Follows-within : (netlist : Netlist) (listed : List (Option Bool)) (few many : List Pair) (gate : ℕ) (bit : Bool) → IsWithin few many → Follows netlist listed few gate bit → Follows netlist listed many gate bit
Follows-within netlist listed few many gate bit within follows =
    record {
      is_gate = follows.is_gate;
      unlisted = follows.unlisted;
      always = λ bits agree. follows.always bits (AgreeWith-within few many (gate_at netlist gate).sources bits within agree);
    }

TakesData-within : (netlist : Netlist) (listed : List (Option Bool)) (few many : List Pair) (cut : ℕ) (bit : Bool) → IsWithin few many → TakesData netlist listed few cut bit → TakesData netlist listed many cut bit
TakesData-within netlist listed few many cut bit within takes =
    record { node = takes.node; is_cut = takes.is_cut; is_data = takes.is_data; unlisted = takes.unlisted; given = within (takes.node, bit) takes.given }

IsGiven-within : (netlist : Netlist) (listed : List (Option Bool)) (few many : List Pair) (node : ℕ) (bit : Bool) → IsWithin few many → IsGiven netlist listed few node bit → IsGiven netlist listed many node bit
IsGiven-within netlist listed few many node bit within (inl value) = inl value
IsGiven-within netlist listed few many node bit within (inr (inl takes)) = inr (inl (TakesData-within netlist listed few many node bit within takes))
IsGiven-within netlist listed few many node bit within (inr (inr follows)) = inr (inr (Follows-within netlist listed few many node bit within follows))

-- two derivations one after the other are one
pub IsDerivation-append : (netlist : Netlist) (listed : List (Option Bool)) (later earlier : List Pair) → IsDerivation netlist listed later → IsDerivation netlist listed earlier → IsDerivation netlist listed (later ++ earlier)
IsDerivation-append netlist listed [] earlier d e = e
IsDerivation-append netlist listed (pair ∷ later) earlier d e = (
  IsGiven-within netlist listed later (later ++ earlier) pair.0 pair.1 (λ other there. Contains-append_left later earlier other there) d.0,
  IsDerivation-append netlist listed later earlier d.1 e,
)

-- each pair of a derivation is given by the whole of it
IsGiven-derivation : (netlist : Netlist) (listed : List (Option Bool)) (pairs : List Pair) (node : ℕ) (bit : Bool) → IsDerivation netlist listed pairs → Contains pairs (node, bit) → IsGiven netlist listed pairs node bit
IsGiven-derivation netlist listed [] node bit d there = absurd (omega (arith, there.1))
IsGiven-derivation netlist listed (pair ∷ pairs) node bit d there =
    let within : IsWithin pairs (pair ∷ pairs) = λ other h. Contains-tail other pair pairs h in
    elim (Contains-cases (node, bit) pair pairs there) [
      | inl e ↦ subst (λ (p : Pair). IsGiven netlist listed (pair ∷ pairs) p.0 p.1) e (IsGiven-within netlist listed pairs (pair ∷ pairs) pair.0 pair.1 within d.0)
      | inr later ↦ IsGiven-within netlist listed pairs (pair ∷ pairs) node bit within (IsGiven-derivation netlist listed pairs node bit d.1 later)
    ]

-- each pair of a derivation is forced
pub IsForced-derivation : (netlist : Netlist) (listed : List (Option Bool)) (pairs : List Pair) (node : ℕ) (bit : Bool) → IsDerivation netlist listed pairs → Contains pairs (node, bit) → IsForced netlist listed node bit
IsForced-derivation netlist listed pairs node bit d there =
    (pairs, (IsGiven-derivation netlist listed pairs node bit d there, d))

-- no node has both bits
IsConsistent : List Pair → Type 0
IsConsistent pairs = (node : ℕ) (bit other : Bool) → Contains pairs (node, bit) → Contains pairs (node, other) → bit ≡ other

-- the bit of a node's first pair
bit_among : List Pair → ℕ → Bool
bit_among [] node = false
bit_among (pair ∷ pairs) node = if pair.0 == node then pair.1 else bit_among pairs node

Contains-bit_among : (pairs : List Pair) (node : ℕ) (bit : Bool) → Contains pairs (node, bit) → Contains pairs (node, bit_among pairs node)
unfolding bit_among
Contains-bit_among [] node bit there = absurd (omega (arith, there.1))
Contains-bit_among (pair ∷ pairs) node bit there = elim (cases_eq pair.0 node) [
  | inl same ↦ (
      let test : nat_eq pair.0 node ≡ true = eq-eqb pair.0 node same in
      rw test (subst (λ (n : ℕ). Contains (pair ∷ pairs) (n, pair.1)) same (Contains-head pair pairs))
      )
  | inr other ↦ (
      let test : nat_eq pair.0 node ≡ false = grind (arith, nat_tests) in
      rw test (elim (Contains-cases (node, bit) pair pairs there) [
        | inl e ↦ absurd (other (ap (λ (p : Pair). p.0) e))
        | inr later ↦ Contains-tail (node, bit_among pairs node) pair pairs (Contains-bit_among pairs node bit later)
      ])
      )
]

-- bits that agree with consistent pairs
AgreeWith-consistent : (pairs : List Pair) (sources : List ℕ) → IsConsistent pairs → AgreeWith pairs sources (map (bit_among pairs) sources)
unfolding IsConsistent
AgreeWith-consistent pairs [] consistent = tt
AgreeWith-consistent pairs (source ∷ sources) consistent = (
  λ other there. consistent source other (bit_among pairs source) there (Contains-bit_among pairs source other there),
  AgreeWith-consistent pairs sources consistent,
)

-- a cut has one data node
same_data : (netlist : Netlist) (cut node other : ℕ) → data_of netlist cut ≡ Some node → data_of netlist cut ≡ Some other → node ≡ other
same_data netlist cut node other e f = let same : Some node ≡ Some other = sym e ∙ f in cc

-- two bits that consistent pairs give to a node are equal
IsGiven-once : (netlist : Netlist) (listed : List (Option Bool)) (pairs : List Pair) (node : ℕ) (bit other : Bool) → IsConsistent pairs → IsGiven netlist listed pairs node bit → IsGiven netlist listed pairs node other → bit ≡ other
unfolding IsConsistent
IsGiven-once netlist listed pairs node bit other consistent (inl e) (inl f) = cc
IsGiven-once netlist listed pairs node bit other consistent (inl e) (inr (inl f)) = let g = f.unlisted in cc
IsGiven-once netlist listed pairs node bit other consistent (inl e) (inr (inr f)) = let g = f.unlisted in cc
IsGiven-once netlist listed pairs node bit other consistent (inr (inl e)) (inl f) = let g = e.unlisted in cc
IsGiven-once netlist listed pairs node bit other consistent (inr (inr e)) (inl f) = let g = e.unlisted in cc
IsGiven-once netlist listed pairs node bit other consistent (inr (inl e)) (inr (inr f)) = absurd (omega (arith, e.is_cut.1, f.is_gate.0))
IsGiven-once netlist listed pairs node bit other consistent (inr (inr e)) (inr (inl f)) = absurd (omega (arith, f.is_cut.1, e.is_gate.0))
IsGiven-once netlist listed pairs node bit other consistent (inr (inl e)) (inr (inl f)) =
    let same = same_data netlist node f.node e.node f.is_data e.is_data in
    consistent e.node bit other e.given (subst (λ (n : ℕ). Contains pairs (n, other)) same f.given)
IsGiven-once netlist listed pairs node bit other consistent (inr (inr e)) (inr (inr f)) =
    let sources = (gate_at netlist node).sources in
    let agree = AgreeWith-consistent pairs sources consistent in
    sym (e.always (map (bit_among pairs) sources) agree) ∙ f.always (map (bit_among pairs) sources) agree

-- derivations are consistent
IsConsistent-derivation : (netlist : Netlist) (listed : List (Option Bool)) (pairs : List Pair) → IsDerivation netlist listed pairs → IsConsistent pairs
unfolding IsConsistent
IsConsistent-derivation netlist listed [] d node bit other here there = absurd (omega (arith, here.1))
IsConsistent-derivation netlist listed (pair ∷ pairs) d node bit other here there =
    let earlier : IsConsistent pairs = IsConsistent-derivation netlist listed pairs d.1 in
    elim (Contains-cases (node, bit) pair pairs here) [
      | inl e ↦ elim (Contains-cases (node, other) pair pairs there) [
        | inl f ↦ ap (λ (p : Pair). p.1) (sym e ∙ f)
        | inr g ↦ IsGiven-once netlist listed pairs node bit other earlier (subst (λ (p : Pair). IsGiven netlist listed pairs p.0 p.1) e d.0) (IsGiven-derivation netlist listed pairs node other d.1 g)
      ]
      | inr g ↦ elim (Contains-cases (node, other) pair pairs there) [
        | inl f ↦ IsGiven-once netlist listed pairs node bit other earlier (IsGiven-derivation netlist listed pairs node bit d.1 g) (subst (λ (p : Pair). IsGiven netlist listed pairs p.0 p.1) f d.0)
        | inr h ↦ earlier node bit other g h
      ]
    ]

-- a node is forced to one bit at most
pub forced_once : (netlist : Netlist) (listed : List (Option Bool)) (node : ℕ) (bit other : Bool) → IsForced netlist listed node bit → IsForced netlist listed node other → bit ≡ other
unfolding IsConsistent
forced_once netlist listed node bit other f g =
    let first = (node, bit) ∷ f.0 in
    let second = (node, other) ∷ g.0 in
    IsConsistent-derivation netlist listed (first ++ second) (IsDerivation-append netlist listed first second f.1 g.1) node bit other
    (Contains-append_left first second (node, bit) (Contains-head (node, bit) f.0))
    (Contains-append_right first second (node, other) (Contains-head (node, other) g.0))

-- a listed value is forced
pub forced-listed : (netlist : Netlist) (listed : List (Option Bool)) (node : ℕ) (bit : Bool) → slice_get listed node ≡ Some (Some bit) → IsForced netlist listed node bit
forced-listed netlist listed node bit value = ([], (inl value, tt))

-- the values of pins are forced: where a pin is known, its source is forced to its bit
abbrev pub AreForced : Netlist → List (Option Bool) → List ℕ → List Tri → Type 0
AreForced netlist listed [] [] = Unit {0}
AreForced netlist listed [] (pin ∷ pins) = ⊥
AreForced netlist listed (source ∷ sources) [] = ⊥
AreForced netlist listed (source ∷ sources) (pin ∷ pins) =
    ((bit : Bool) → pin ≡ tri_of bit → IsForced netlist listed source bit) × AreForced netlist listed sources pins

-- one derivation for pins: bits that agree with it refine them
abbrev DerivesPins : Netlist → List (Option Bool) → List ℕ → List Tri → Type 0
DerivesPins netlist listed sources pins =
    (pairs : List Pair) × IsDerivation netlist listed pairs × ((bits : List Bool) → AgreeWith pairs sources bits → Refines bits pins)

admits-unknown : (bit : Bool) → IsTrue (admits Unknown bit)
admits-unknown false = refl
admits-unknown true = refl

admits-same : (known bit : Bool) → known ≡ bit → IsTrue (admits (tri_of known) bit)
admits-same false false e = refl
admits-same false true e = cc
admits-same true false e = cc
admits-same true true e = refl

none-refines : (bits : List Bool) → AgreeWith [] [] bits → Refines bits []
none-refines [] agree = tt
none-refines (bit ∷ bits) agree = agree

-- a pin that is open needs no derivation
open-refines : (pairs : List Pair) (source : ℕ) (sources : List ℕ) (pins : List Tri) (bits : List Bool) → ((bits : List Bool) → AgreeWith pairs sources bits → Refines bits pins) → AgreeWith pairs (source ∷ sources) bits → Refines bits (Unknown ∷ pins)
open-refines pairs source sources pins [] rest agree = agree
open-refines pairs source sources pins (bit ∷ bits) rest agree = (admits-unknown bit, rest bits agree.1)

known-refines : (pairs more : List Pair) (source : ℕ) (known : Bool) (sources : List ℕ) (pins : List Tri) (bits : List Bool) → IsWithin pairs more → Contains more (source, known) → ((bits : List Bool) → AgreeWith pairs sources bits → Refines bits pins) → AgreeWith more (source ∷ sources) bits → Refines bits (tri_of known ∷ pins)
known-refines pairs more source known sources pins [] within there rest agree = agree
known-refines pairs more source known sources pins (bit ∷ bits) within there rest agree =
    (admits-same known bit (agree.0 known there), rest bits (AgreeWith-within pairs more sources bits within agree.1))

-- a known pin brings the derivation of its source
known-derives : (netlist : Netlist) (listed : List (Option Bool)) (source : ℕ) (known : Bool) (sources : List ℕ) (pins : List Tri) → IsForced netlist listed source known → DerivesPins netlist listed sources pins → DerivesPins netlist listed (source ∷ sources) (tri_of known ∷ pins)
known-derives netlist listed source known sources pins forced rest =
    let here = (source, known) ∷ forced.0 in (
      here ++ rest.0,
      IsDerivation-append netlist listed here rest.0 forced.1 rest.1,
      λ bits agree. known-refines rest.0 (here ++ rest.0) source known sources pins bits
          (λ pair there. Contains-append_right here rest.0 pair there)
          (Contains-append_left here rest.0 (source, known) (Contains-head (source, known) forced.0)) rest.2 agree,
    )

derives-pins : (netlist : Netlist) (listed : List (Option Bool)) (sources : List ℕ) (pins : List Tri) → AreForced netlist listed sources pins → DerivesPins netlist listed sources pins
derives-pins netlist listed [] [] forced = ([], tt, none-refines)
derives-pins netlist listed [] (pin ∷ pins) forced = absurd forced
derives-pins netlist listed (source ∷ sources) [] forced = absurd forced
derives-pins netlist listed (source ∷ sources) (Zero ∷ pins) forced =
    known-derives netlist listed source false sources pins (forced.0 false refl) (derives-pins netlist listed sources pins forced.1)
derives-pins netlist listed (source ∷ sources) (One ∷ pins) forced =
    known-derives netlist listed source true sources pins (forced.0 true refl) (derives-pins netlist listed sources pins forced.1)
derives-pins netlist listed (source ∷ sources) (Unknown ∷ pins) forced =
    let rest = derives-pins netlist listed sources pins forced.1 in
    (rest.0, rest.1, λ bits agree. open-refines rest.0 source sources pins bits rest.2 agree)

-- a gate that is not listed is forced to its extension on forced pins, where that is known
pub forced-extension : (netlist : Netlist) (listed : List (Option Bool)) (gate : ℕ) (pins : List Tri) (bit : Bool) → IsGateNumber netlist gate → slice_get listed gate ≡ Some None → AreForced netlist listed (gate_at netlist gate).sources pins → extension (gate_at netlist gate).kind pins ≡ tri_of bit → IsForced netlist listed gate bit
forced-extension netlist listed gate pins bit is_gate unlisted forced known =
    let kind = (gate_at netlist gate).kind in
    let derived = derives-pins netlist listed (gate_at netlist gate).sources pins forced in (
      derived.0,
      (
        inr (inr (record {
          is_gate = is_gate;
          unlisted = unlisted;
          always = λ bits agree. known-admits bit (gate_value kind bits) (subst (λ (value : Tri). IsTrue (admits value (gate_value kind bits))) known (admits-extension kind pins bits (derived.2 bits agree)));
        })),
        derived.1,
      ),
    )

-- a cut that is not listed is forced to a bit to which its data node is forced
pub forced-data : (netlist : Netlist) (listed : List (Option Bool)) (cut node : ℕ) (bit : Bool) → IsCutNumber netlist cut → data_of netlist cut ≡ Some node → slice_get listed cut ≡ Some None → IsForced netlist listed node bit → IsForced netlist listed cut bit
forced-data netlist listed cut node bit is_cut is_data unlisted forced = (
  (node, bit) ∷ forced.0,
  (inr (inl (record { node = node; is_cut = is_cut; is_data = is_data; unlisted = unlisted; given = Contains-head (node, bit) forced.0 })), forced.1),
)

-- A closed assignment of values: it agrees with the listed values, has the known values of data nodes at the cuts that are not
-- listed, and has the value of each gate that is not listed and whose extension on its sources' values is known.
pub record IsClosed (netlist : Netlist) (listed : List (Option Bool)) (value : ℕ → Tri) : Type 0 where
  pub agrees : (node : ℕ) (bit : Bool) → slice_get listed node ≡ Some (Some bit) → value node ≡ tri_of bit
  pub carries : (cut node : ℕ) (bit : Bool) → IsCutNumber netlist cut → data_of netlist cut ≡ Some node → slice_get listed cut ≡ Some None → value node ≡ tri_of bit → value cut ≡ tri_of bit
  pub closed : (gate : ℕ) (bit : Bool) → IsGateNumber netlist gate → slice_get listed gate ≡ Some None → extension (gate_at netlist gate).kind (map value (gate_at netlist gate).sources) ≡ tri_of bit → value gate ≡ tri_of bit

-- bits that refine the sources' values agree with pairs that the assignment has
agree-refines : (value : ℕ → Tri) (pairs : List Pair) (sources : List ℕ) (bits : List Bool) → ((node : ℕ) (bit : Bool) → Contains pairs (node, bit) → value node ≡ tri_of bit) → Refines bits (map value sources) → AgreeWith pairs sources bits
agree-refines value pairs [] [] has refines = tt
agree-refines value pairs [] (bit ∷ bits) has refines = refines
agree-refines value pairs (source ∷ sources) [] has refines = refines
agree-refines value pairs (source ∷ sources) (bit ∷ bits) has refines =
    (λ other there. sym (known-admits other bit (subst (λ (v : Tri). IsTrue (admits v bit)) (has source other there) refines.0)), agree-refines value pairs sources bits has refines.1)

-- a join of a set of one bit is that bit
join-of-one : (set : Bool → Type 0) (value : Tri) (bit : Bool) → IsJoinOf set value → ((other : Bool) → set other → other ≡ bit) → value ≡ tri_of bit
join-of-one set Zero false join one = refl
join-of-one set Zero true join one = let e : false ≡ true = one false join.0 in cc
join-of-one set One false join one = let e : true ≡ false = one true join.0 in cc
join-of-one set One true join one = refl
join-of-one set Unknown false join one = let e : true ≡ false = one true join.1 in cc
join-of-one set Unknown true join one = let e : false ≡ true = one false join.0 in cc

-- a closed assignment has what pairs that it has give
closed-given : (netlist : Netlist) (listed : List (Option Bool)) (value : ℕ → Tri) (pairs : List Pair) → IsClosed netlist listed value → ((node : ℕ) (bit : Bool) → Contains pairs (node, bit) → value node ≡ tri_of bit) → (node : ℕ) (bit : Bool) → IsGiven netlist listed pairs node bit → value node ≡ tri_of bit
closed-given netlist listed value pairs closed has node bit (inl e) = closed.agrees node bit e
closed-given netlist listed value pairs closed has node bit (inr (inl takes)) =
    closed.carries node takes.node bit takes.is_cut takes.is_data takes.unlisted (has takes.node bit takes.given)
closed-given netlist listed value pairs closed has node bit (inr (inr follows)) =
    let kind = (gate_at netlist node).kind in
    let sources = (gate_at netlist node).sources in
    closed.closed node bit follows.is_gate follows.unlisted
    (join-of-one (IsValueOver kind (map value sources)) (extension kind (map value sources)) bit (IsExtension-extension kind (map value sources))
    (λ other h. sym h.2 ∙ follows.always h.0 (agree-refines value pairs sources h.0 has h.1)))

-- and every pair of a derivation
closed-derivation : (netlist : Netlist) (listed : List (Option Bool)) (value : ℕ → Tri) (pairs : List Pair) → IsClosed netlist listed value → IsDerivation netlist listed pairs → (node : ℕ) (bit : Bool) → Contains pairs (node, bit) → value node ≡ tri_of bit
closed-derivation netlist listed value [] closed d node bit there = absurd (omega (arith, there.1))
closed-derivation netlist listed value (pair ∷ pairs) closed d node bit there =
    elim (Contains-cases (node, bit) pair pairs there) [
      | inl e ↦ closed-given netlist listed value pairs closed (closed-derivation netlist listed value pairs closed d.1) node bit (subst (λ (p : Pair). IsGiven netlist listed pairs p.0 p.1) e d.0)
      | inr later ↦ closed-derivation netlist listed value pairs closed d.1 node bit later
    ]

-- a closed assignment has every forced bit
pub closed-forced : (netlist : Netlist) (listed : List (Option Bool)) (value : ℕ → Tri) (node : ℕ) (bit : Bool) → IsClosed netlist listed value → IsForced netlist listed node bit → value node ≡ tri_of bit
closed-forced netlist listed value node bit closed forced =
    closed-derivation netlist listed value ((node, bit) ∷ forced.0) closed forced.1 node bit (Contains-head (node, bit) forced.0)
