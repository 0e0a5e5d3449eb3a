-- By kind: a value that one bit at every pin gives, and a value that any one pin changed gives.
use Rattle.std.proofs.Common.{◌≡◌, ℕ, zero, suc, ◌<◌, Bool, true, false, not, List, [], ◌∷◌, ◌==◌, ◌&&◌, nat_le, length, get_or, set, replicate, None, refl, sym, ap, ◌∙◌, arith}
use Rattle.std.proofs.lemmas.Bool.Decides.{nat_tests}
use Rattle.std.proofs.lemmas.Bool.{false≢true, true≢false, not-true, not-false, eqb-true}
use Rattle.std.specs.Bool.{then_some}
use Rattle.hz_core.specs.declared.kind.Kind.TheVariants.{And, Nand, Or, Nor, Xor, Xnor, Not, Buff}
use Rattle.hz_core.specs.Gate.{every_pin, some_pin, odd_pins, only_pin}
use Rattle.hz_core.specs.BitOrSwitch.{HasBitOrSwitch}
use Rattle.hz_core.proofs.Kleene.{odd_pins-true}

not-not : (b : Bool) → not (not b) ≡ b
not-not false = refl
not-not true = refl

-- every pin is 1 on the list of ones alone, and a pin changed there makes one 0
every_pin-replicate : (list : List Bool) → every_pin list ≡ true → list ≡ replicate (length list) true
every_pin-replicate [] e = refl
every_pin-replicate (false ∷ list) e = absurd (false≢true e)
every_pin-replicate (true ∷ list) e = let rest = every_pin-replicate list e in cc

every_pin-set : (list : List Bool) (pin : ℕ) → every_pin list ≡ true → pin < length list → every_pin (set list pin (not (get_or list pin false))) ≡ false
every_pin-set [] pin e within = absurd (omega arith)
every_pin-set (false ∷ list) pin e within = absurd (false≢true e)
every_pin-set (true ∷ list) zero e within = refl
every_pin-set (true ∷ list) (suc pin) e within = every_pin-set list pin e (omega arith)

-- no pin is 1 on the list of zeros alone, and a pin changed there makes one 1
some_pin-replicate : (list : List Bool) → some_pin list ≡ false → list ≡ replicate (length list) false
some_pin-replicate [] e = refl
some_pin-replicate (true ∷ list) e = absurd (true≢false e)
some_pin-replicate (false ∷ list) e = let rest = some_pin-replicate list e in cc

some_pin-set : (list : List Bool) (pin : ℕ) → some_pin list ≡ false → pin < length list → some_pin (set list pin (not (get_or list pin false))) ≡ true
some_pin-set [] pin e within = absurd (omega arith)
some_pin-set (true ∷ list) pin e within = absurd (true≢false e)
some_pin-set (false ∷ list) zero e within = refl
some_pin-set (false ∷ list) (suc pin) e within = some_pin-set list pin e (omega arith)

-- a pin changed changes the parity
odd_pins-set : (list : List Bool) (pin : ℕ) → pin < length list → odd_pins (set list pin (not (get_or list pin false))) ≡ not (odd_pins list)
odd_pins-set [] pin within = absurd (omega arith)
odd_pins-set (false ∷ list) zero within = odd_pins-true list
odd_pins-set (true ∷ list) zero within = sym (not-not (odd_pins list)) ∙ ap not (sym (odd_pins-true list))
odd_pins-set (false ∷ list) (suc pin) within = odd_pins-set list pin (omega arith)
odd_pins-set (true ∷ list) (suc pin) within =
    odd_pins-true (set list pin (not (get_or list pin false)))
    ∙ ap not (odd_pins-set list pin (omega arith))
    ∙ ap not (sym (odd_pins-true list))

-- the only pin changed
only_pin-set : (list : List Bool) (pin : ℕ) → (length list == 1) ≡ true → pin < length list → only_pin (set list pin (not (get_or list pin false))) ≡ not (only_pin list)
only_pin-set [] pin one within = absurd (omega arith)
only_pin-set (bit ∷ list) zero one within = refl
only_pin-set (bit ∷ list) (suc pin) one within =
    let e : length (bit ∷ list) ≡ 1 = eqb-true (length (bit ∷ list)) 1 one in absurd (omega arith)

-- a value that a change of parity or of the only pin turns
turned : (before after value : Bool) → before ≡ not value → after ≡ not before → after ≡ value
turned before after value e f = f ∙ ap not e ∙ not-not value

pub reached-and : (value : Bool) → HasBitOrSwitch And value (then_some value true)
reached-and true = every_pin-replicate
reached-and false = λ list takes e pin within. every_pin-set list pin e within

pub reached-nand : (value : Bool) → HasBitOrSwitch Nand value (then_some (not value) true)
reached-nand false = λ list e. every_pin-replicate list (not-false (every_pin list) e)
reached-nand true = λ list takes e pin within. ap not (every_pin-set list pin (not-false (every_pin list) e) within)

pub reached-or : (value : Bool) → HasBitOrSwitch Or value (then_some (not value) false)
reached-or false = some_pin-replicate
reached-or true = λ list takes e pin within. some_pin-set list pin e within

pub reached-nor : (value : Bool) → HasBitOrSwitch Nor value (then_some value false)
reached-nor true = λ list e. some_pin-replicate list (not-true (some_pin list) e)
reached-nor false = λ list takes e pin within. ap not (some_pin-set list pin (not-true (some_pin list) e) within)

pub reached-xor : (value : Bool) → HasBitOrSwitch Xor value None
reached-xor value = λ list takes e pin within. turned (odd_pins list) _ value e (odd_pins-set list pin within)

pub reached-xnor : (value : Bool) → HasBitOrSwitch Xnor value None
reached-xnor value = λ list takes e pin within. turned (not (odd_pins list)) _ value e (ap not (odd_pins-set list pin within))

-- one pin or more, and at most one
one_pin : (pins : ℕ) → (nat_le 1 pins && nat_le pins 1) ≡ true → (pins == 1) ≡ true
one_pin pins h = grind (arith, nat_tests, h)

pub reached-not : (value : Bool) → HasBitOrSwitch Not value None
reached-not value = λ list takes e pin within. turned (not (only_pin list)) _ value e (ap not (only_pin-set list pin (one_pin (length list) takes) within))

pub reached-buff : (value : Bool) → HasBitOrSwitch Buff value None
reached-buff value = λ list takes e pin within. turned (only_pin list) _ value e (only_pin-set list pin (one_pin (length list) takes) within)

-- the same, for the search
pub ruleset reached = (reached-and, reached-nand, reached-or, reached-nor, reached-xor, reached-xnor, reached-not, reached-buff)
