-- The literals of a plane, pin by pin.
use Rattle.std.proofs.Common.{◌≡◌, refl, ℕ, suc, ◌+◌, ◌<◌, Bool, true, false, cond, List, [], ◌∷◌, ◌++◌, length, drop, Option, Some, None, get_or, arith}
use Rattle.std.specs.Prelude.{◌==◌}
use Rattle.std.proofs.lemmas.List.{drop_more, drop_all}
use Rattle.hz_blif.specs.declared.gates.Literal.{Literal as LiteralRead}
use Rattle.hz_netlist.specs.declared.draft.Source.{Source}
use Rattle.hz_netlist.specs.declared.draft.Source.TheVariants as source
use Rattle.hz_blif.specs.Entries.{literal_at, literal_source_with, literal_sources}
use Rattle.hz_blif.specs.Gates.{Literal, literal_with, literals_from}

-- a literal that was found
abbrev pub literal_found : List (List ℕ) → Option LiteralRead → List Literal
literal_found pins None = []
literal_found pins (Some literal) = literal_at pins literal ∷ []

-- the literals of a plane from a pin on
pub literals_step : (pins : List (List ℕ)) (plane : List ℕ) (i : ℕ) → length pins ≡ length plane → i < length plane
    → literals_from (suc i) (drop i pins) (drop i plane)
    ≡ literal_with (suc i) (get_or pins i []) (get_or plane i 0) (literals_from (suc (i + 1)) (drop (i + 1) pins) (drop (i + 1) plane))
literals_step pins plane i long there =
    let next : suc (i + 1) ≡ suc (suc i) = omega arith in
    rw (next, drop_more pins i [] (omega (arith, long, there)), drop_more plane i 0 there) refl

pub literals_past : (pins : List (List ℕ)) (plane : List ℕ) (i : ℕ) → length plane ≡ i → literals_from (suc i) (drop i pins) (drop i plane) ≡ []
literals_past pins plane i long = rw (drop_all i plane (omega (arith, long))) (by_pins (drop i pins))
  where
    by_pins : (rest : List (List ℕ)) → literals_from (suc i) rest [] ≡ []
    by_pins [] = refl
    by_pins (pin ∷ rest) = refl

source_with : (pin : ℕ) (inverter : Source) (byte : ℕ) (rest : List Source) → literal_source_with pin inverter byte rest ≡ literal_source_with pin inverter byte [] ++ rest
source_with pin inverter byte rest = by_dash (byte == 45) (byte == 48)
  where
    by_dash : (dash zero : Bool) → cond dash rest (cond zero inverter (source.Name pin) ∷ rest) ≡ cond dash [] (cond zero inverter (source.Name pin) ∷ []) ++ rest
    by_dash true zero = refl
    by_dash false zero = refl

-- the sources of literals from a pin on
pub literal_sources_step : (pins : List ℕ) (inverted : List Source) (plane : List ℕ) (i : ℕ) → i < length pins → i < length inverted → i < length plane
    → literal_sources (drop i pins) (drop i inverted) (drop i plane)
    ≡ literal_source_with (get_or pins i 0) (get_or inverted i (source.Name 0)) (get_or plane i 0) []
    ++ literal_sources (drop (i + 1) pins) (drop (i + 1) inverted) (drop (i + 1) plane)
literal_sources_step pins inverted plane i one two three =
    rw (drop_more pins i 0 one, drop_more inverted i (source.Name 0) two, drop_more plane i 0 three)
    (source_with (get_or pins i 0) (get_or inverted i (source.Name 0)) (get_or plane i 0)
    (literal_sources (drop (i + 1) pins) (drop (i + 1) inverted) (drop (i + 1) plane)))

pub literal_sources_past : (pins : List ℕ) (inverted : List Source) (plane : List ℕ) (i : ℕ) → length pins ≡ i → literal_sources (drop i pins) (drop i inverted) (drop i plane) ≡ []
literal_sources_past pins inverted plane i long = rw (drop_all i pins (omega (arith, long))) refl
