-- Walks, histories and capped forms worked by hand: the definitions compute them.
use Rattle.std.proofs.Common.{◌≡◌, Bool, true, false, List, [], ◌∷◌, refl}
use Rattle.hz_core.specs.Gate.{every_pin, some_pin, odd_pins}
use Rattle.hz_word.specs.declared.count.Count.TheVariants.{Exact, Many}
use Rattle.hz_word.specs.Walk.{after_move, walk_changes}
use Rattle.hz_word.specs.Capped.{capped_word}
use Rattle.hz_word.specs.Covers.{history_of}

falling : List Bool
falling = true ∷ false ∷ []

rising : List Bool
rising = false ∷ true ∷ []

-- OR of 10 and 01: the first falls before the second rises, and the gate shows 101; or the second comes first, and it stays 1
static_hazard : walk_changes some_pin (falling ∷ rising ∷ []) ((true ∷ false ∷ []) ∷ (false ∷ true ∷ []) ∷ []) ≡ 2
unfolding falling rising
static_hazard = refl

no_hazard : walk_changes some_pin (falling ∷ rising ∷ []) ((false ∷ true ∷ []) ∷ (true ∷ false ∷ []) ∷ []) ≡ 0
unfolding falling rising
no_hazard = refl

-- both at once
at_once : after_move (falling ∷ rising ∷ []) (true ∷ true ∷ []) ≡ (false ∷ []) ∷ (true ∷ []) ∷ []
unfolding falling rising
at_once = refl

-- AND of 01 and 10, and XOR of 01 and 01, each shown as 010
pulse : walk_changes every_pin (rising ∷ falling ∷ []) ((true ∷ false ∷ []) ∷ (false ∷ true ∷ []) ∷ []) ≡ 2
unfolding falling rising
pulse = refl

parity : walk_changes odd_pins (rising ∷ rising ∷ []) ((true ∷ false ∷ []) ∷ (false ∷ true ∷ []) ∷ []) ≡ 2
unfolding rising
parity = refl

-- a history leaves out what stays
history : history_of (false ∷ false ∷ true ∷ true ∷ true ∷ false ∷ []) ≡ false ∷ true ∷ false ∷ []
history = refl

-- three changes, under the caps 3 and 2
capped_at_three : capped_word 3 (false ∷ true ∷ false ∷ true ∷ []) ≡ record { first = false; changes = Exact 3 }
capped_at_three = refl

capped_at_two : capped_word 2 (false ∷ true ∷ false ∷ true ∷ []) ≡ record { first = false; changes = Many }
capped_at_two = refl
