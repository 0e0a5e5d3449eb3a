-- The lines of printed patterns, as the writer is given them.
use Rattle.std.proofs.Common.{◌≡◌, ℕ, Bool, true, false, List, [], ◌∷◌, Option, Some, None, suc, codes, refl, ap, sym}
use Rattle.std.specs.List.{list_any}
use Rattle.std.specs.Prelude.{slice_get}
use Rattle.std.specs.Option.{option_map, is_some}
use Rattle.std.proofs.lemmas.Option.{same_Some}
use Rattle.hz_core.specs.Netlist.{Netlist}
use Rattle.hz_text.specs.Printed.{statement_text, listed_from}
use Rattle.hz_pattern_text.specs.PatternPrinted.{hold_text}
use Rattle.hz_pattern_text.specs.PatternValue.{PatternOf}

listed-none : (node : ℕ) (held : List (Option Bool)) → list_any is_some held ≡ false → listed_from node held ≡ []
listed-none node [] h = refl
listed-none node (None ∷ later) h = listed-none (suc node) later h
listed-none node (Some bit ∷ later) h = cc

listed-cons : (node : ℕ) (held : List (Option Bool)) → list_any is_some held ≡ true → (first : ℕ × Bool) × (later : List (ℕ × Bool)) × (listed_from node held ≡ first ∷ later)
listed-cons node [] h = cc
listed-cons node (None ∷ later) h = listed-cons (suc node) later h
listed-cons node (Some bit ∷ later) h = ((node, bit), listed_from (suc node) later, refl)

-- where nothing is held there is no line for it
pub hold_none : (netlist : Netlist) (held : List (Option Bool)) → list_any is_some held ≡ false → [] ≡ hold_text netlist (listed_from 0 held)
hold_none netlist held h = sym (ap (hold_text netlist) (listed-none 0 held h))

-- else there is one
pub hold_some : (netlist : Netlist) (held : List (Option Bool)) → list_any is_some held ≡ true → statement_text netlist (codes "hold") (listed_from 0 held) ≡ hold_text netlist (listed_from 0 held)
hold_some netlist held h = by_cons (listed-cons 0 held h)
  where
    by_cons : (first : ℕ × Bool) × (later : List (ℕ × Bool)) × (listed_from 0 held ≡ first ∷ later) → statement_text netlist (codes "hold") (listed_from 0 held) ≡ hold_text netlist (listed_from 0 held)
    by_cons (first, later, e) = rw e refl

-- a pattern by its two halves
pub pattern_there :
    (patterns : List PatternOf) (number : ℕ) (from to : List Bool) → option_map (λ (pattern : PatternOf). pattern.from) (slice_get patterns number) ≡ Some from →
    option_map (λ (pattern : PatternOf). pattern.to) (slice_get patterns number) ≡ Some to → slice_get patterns number ≡ Some (record { from = from; to = to })
pattern_there patterns number from to f t = by_value (slice_get patterns number) f t
  where
    by_value : (value : Option PatternOf) → option_map (λ (pattern : PatternOf). pattern.from) value ≡ Some from → option_map (λ (pattern : PatternOf). pattern.to) value ≡ Some to → value ≡ Some (record { from = from; to = to })
    by_value None f t = cc
    by_value (Some pattern) f t = rw (← same_Some pattern.from from f, ← same_Some pattern.to to t) refl
