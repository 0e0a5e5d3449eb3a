-- The value of a gate by its count of ones.
use Rattle.std.proofs.Common.{◌≡◌, ℕ, ◌+◌, ◌<◌, ◌≤◌, Bool, true, false, not, List, [], ◌∷◌, length, map, refl, sym, ap, ◌∙◌, arith, inl, inr}
use Rattle.std.specs.Prelude.{count_by, nat_eq, slice_range}
use Rattle.std.specs.List.{range_with_len}
use Rattle.std.proofs.lemmas.Bool.{cases_eq, eq-eqb, ne_eqb}
use Rattle.std.proofs.lemmas.List.{ext_get_or}
use Rattle.std.proofs.lemmas.List.FromFn.{length-map-range_with_len, get_or-map-range_with_len}
use Rattle.std.proofs.lemmas.List.Sums.{sum_by-cons, count_by-le-length}
use Rattle.hz_core.specs.Gate.{every_pin, some_pin, gate_value}
use Rattle.hz_core.specs.Netlist.{Netlist, gate_at}
use Rattle.hz_core.specs.declared.kind.Kind.{Kind}
use Rattle.hz_net.specs.Driven.{IsGateAt}
use Rattle.hz_net.specs.Network.{network_of, bit_at, driver_value, excitation}
use Rattle.hz_net.specs.Variables.{first_wire}
use Rattle.hz_lists.proofs.PartLemmas.{length-part, at-part}
use Rattle.hz_gmw.proofs.Counting.{weight, count-map}

-- a part of a state has as many ones as the variables at its places
pub part-ones : (state : List Bool) (first pins : ℕ) → first + pins ≤ length state → count_by (λ bit. bit) (slice_range state first (first + pins)) ≡ count_by (bit_at state) (range_with_len first pins)
part-ones state first pins inside =
    let long = length-part state first pins (λ k few. omega (arith, few, inside)) in
    let same : slice_range state first (first + pins) ≡ map (bit_at state) (range_with_len first pins) =
    ext_get_or false (slice_range state first (first + pins)) (map (bit_at state) (range_with_len first pins)) (long ∙ sym (length-map-range_with_len (bit_at state) first pins)) (λ i few.
    let less : i < pins = omega (arith, few, long) in
    at-part state first pins i false less ∙ sym (get_or-map-range_with_len (bit_at state) first pins i (first + i) false less refl)) in
    ap (count_by (λ (bit : Bool). bit)) same ∙ count-map (bit_at state) (range_with_len first pins)

pub every-ones : (bits : List Bool) → every_pin bits ≡ nat_eq (count_by (λ bit. bit) bits) (length bits)
every-ones [] = refl
every-ones (true ∷ bits) =
    let more = sum_by-cons weight true bits in
    every-ones bits ∙ (elim (cases_eq (count_by (λ bit. bit) bits) (length bits)) [
      | inl same ↦
          eq-eqb (count_by (λ bit. bit) bits) (length bits) same ∙
          sym (eq-eqb (count_by (λ bit. bit) (true ∷ bits)) (length (true ∷ bits)) (omega (arith, more, same)))
      | inr other ↦
          ne_eqb (count_by (λ bit. bit) bits) (length bits) other ∙
          sym (ne_eqb (count_by (λ bit. bit) (true ∷ bits)) (length (true ∷ bits)) (λ same. other (omega (arith, more, same))))
    ])
every-ones (false ∷ bits) =
    let more = sum_by-cons weight false bits in
    let few = count_by-le-length (λ (bit : Bool). bit) bits in
    sym (ne_eqb (count_by (λ bit. bit) (false ∷ bits)) (length (false ∷ bits)) (λ same. omega (arith, more, few, same)))

pub some-ones : (bits : List Bool) → some_pin bits ≡ not (nat_eq (count_by (λ bit. bit) bits) 0)
some-ones [] = refl
some-ones (true ∷ bits) =
    let more = sum_by-cons weight true bits in
    sym (ap not (ne_eqb (count_by (λ bit. bit) (true ∷ bits)) 0 (λ same. omega (arith, more, same))))
some-ones (false ∷ bits) =
    let more = sum_by-cons weight false bits in
    let same : count_by (λ bit. bit) (false ∷ bits) ≡ count_by (λ bit. bit) bits = omega (arith, more) in
    some-ones bits ∙ sym (ap (λ (n : ℕ). not (nat_eq n 0)) same)

-- a value that is right for any bits with so many ones is a gate's excitation where so many of its wires are 1
pub excited-by-ones : (netlist : Netlist) (input state : List Bool) (gate : ℕ) (kind : Kind) (ones : ℕ) (value : Bool) → IsGateAt netlist gate kind → length state ≡ length (network_of netlist) → ones ≡ count_by (bit_at state) (range_with_len (first_wire netlist gate) (length (gate_at netlist gate).sources)) → ((bits : List Bool) → length bits ≡ length (gate_at netlist gate).sources → count_by (λ bit. bit) bits ≡ ones → value ≡ gate_value kind bits) → value ≡ excitation (network_of netlist) input state gate
excited-by-ones netlist input state gate kind ones value at long counted right =
    let first = first_wire netlist gate in
    let pins = length (gate_at netlist gate).sources in
    let fits : first + pins ≤ length state = omega (arith, at.inside, long) in
    right (slice_range state first (first + pins)) (length-part state first pins (λ k few. omega (arith, few, fits)))
    (part-ones state first pins fits ∙ sym counted) ∙ sym (ap (driver_value input state) at.driven)

-- a conjunction and a disjunction by a count of ones
pub and-value : (bits : List Bool) (ones pins : ℕ) → length bits ≡ pins → count_by (λ bit. bit) bits ≡ ones → nat_eq ones pins ≡ every_pin bits
and-value bits ones pins long counted =
    ap (λ (n : ℕ). nat_eq n pins) (sym counted) ∙ (ap (nat_eq (count_by (λ bit. bit) bits)) (sym long) ∙ sym (every-ones bits))

pub or-value : (bits : List Bool) (ones : ℕ) → count_by (λ bit. bit) bits ≡ ones → not (nat_eq ones 0) ≡ some_pin bits
or-value bits ones counted = ap (λ (n : ℕ). not (nat_eq n 0)) (sym counted) ∙ sym (some-ones bits)

pub twice-not : (a b : Bool) → not a ≡ b → a ≡ not b
twice-not true b e = ap not e
twice-not false b e = ap not e
