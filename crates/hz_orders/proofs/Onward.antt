-- From one position to another each pin advances once or stays: pin by pin, and as a move.
use Rattle.std.proofs.Common.{◌≡◌, ℕ, zero, suc, ◌+◌, ◌<◌, ◌≤◌, List, [], ◌∷◌, length, get_or, refl, sym, ap, arith}
use Rattle.hz_orders.proofs.Words.{IsOnward, AdvancesEach}

-- a pin advances once or stays
abbrev AdvancesAt : List ℕ → List ℕ → ℕ → Type 0
AdvancesAt before after pin = (get_or before pin 0 ≤ get_or after pin 0) × (get_or after pin 0 ≤ get_or before pin 0 + 1)

length-onward : (before after : List ℕ) → IsOnward before after → length before ≡ length after
length-onward [] [] onward = refl
length-onward [] (more ∷ after) onward = absurd onward
length-onward (times ∷ before) [] onward = absurd onward
length-onward (times ∷ before) (more ∷ after) onward = ap suc (length-onward before after onward.2)

each-at : (before after : List ℕ) → IsOnward before after → (pin : ℕ) → pin < length before → AdvancesAt before after pin
each-at [] after onward pin few = absurd (omega arith)
each-at (times ∷ before) [] onward pin few = absurd onward
each-at (times ∷ before) (more ∷ after) onward zero few = (onward.0, onward.1)
each-at (times ∷ before) (more ∷ after) onward (suc pin) few = each-at before after onward.2 pin (omega (arith, few))

from-each : (before after : List ℕ) → length before ≡ length after → ((pin : ℕ) → pin < length before → AdvancesAt before after pin) → IsOnward before after
from-each [] [] long each = tt
from-each [] (more ∷ after) long each = absurd (omega (arith, long))
from-each (times ∷ before) [] long each = absurd (omega (arith, long))
from-each (times ∷ before) (more ∷ after) long each =
    let first = each 0 (omega arith) in
    (first.0, first.1, from-each before after (omega (arith, long)) (λ pin few. each (suc pin) (omega (arith, few))))

pub onward-each : (before after : List ℕ) → IsOnward before after → AdvancesEach before after
onward-each before after onward = record { long = sym (length-onward before after onward); each = each-at before after onward }

pub each-onward : (before after : List ℕ) → AdvancesEach before after → IsOnward before after
each-onward before after each = from-each before after (sym each.long) each.each
