-- From a start that is stable under its own inputs, a round of Algorithm A changes no variable but inputs.
use Rattle.std.proofs.Common.{◌≡◌, ℕ, zero, suc, ◌+◌, ◌-◌, ◌<◌, ◌≤◌, Bool, true, false, List, [], ◌∷◌, length, map, take, drop, refl, sym, ap, ◌∙◌, subst, arith, inl, inr}
use Rattle.std.proofs.lemmas.Bool.{cases_lt}
use Rattle.hz_core.specs.declared.tri.Tri.{Tri}
use Rattle.hz_core.specs.Ternary.{tri_of, join_of}
use Rattle.hz_core.specs.Extension.{extension}
use Rattle.hz_core.specs.Netlist.{Netlist, IsCircuit}
use Rattle.hz_core.proofs.Extensions.{extension-map}
use Rattle.hz_net.specs.Network.{Driver, External, Function, Source, network_of, driver_at, bit_at, value_at, driver_value, driver_value3}
use Rattle.hz_net.specs.Starts.{IsStableStart}
use Rattle.hz_net.proofs.Places.{length-network_of, driver_at-gate, driver_at-wire}
use Rattle.hz_net.proofs.Ranks.{at-tri_of}
use Rattle.hz_pass.specs.declared.round.Rule.TheVariants.{Join}
use Rattle.hz_pass.specs.Frontier.{IsMade}

take-known : (count : ℕ) (bits : List Bool) → take count (map tri_of bits) ≡ map tri_of (take count bits)
take-known zero bits = refl
take-known (suc count) [] = refl
take-known (suc count) (bit ∷ bits) = ap (λ (list : List Tri). tri_of bit ∷ list) (take-known count bits)

drop-known : (count : ℕ) (bits : List Bool) → drop count (map tri_of bits) ≡ map tri_of (drop count bits)
drop-known zero bits = refl
drop-known (suc count) [] = refl
drop-known (suc count) (bit ∷ bits) = drop-known count bits

-- what drives a variable is in the network
abbrev IsInside : Driver → Type 0
IsInside (External place) = ⊥
IsInside (Function kind first pins) = Unit {0}
IsInside (Source node) = Unit {0}

-- it asks for a known value if all values are known, whatever the inputs are
known-value :
    (input own state : List Bool) (driver : Driver) → IsInside driver →
    driver_value3 input (map tri_of state) driver ≡ tri_of (driver_value own state driver)
known-value input own state (External place) inside = absurd inside
known-value input own state (Function kind first pins) inside =
    ap (extension kind) (ap (take (first + pins - first)) (drop-known first state) ∙ take-known (first + pins - first) (drop first state))
    ∙ extension-map kind (take (first + pins - first) (drop first state))
known-value input own state (Source node) inside = at-tri_of state node

join-same : (bit : Bool) → join_of (tri_of bit) (tri_of bit) ≡ tri_of bit
join-same false = refl
join-same true = refl

pub stable-made :
    (netlist : Netlist) (input start : List Bool) → IsCircuit netlist → IsStableStart netlist start → (i : ℕ) →
    netlist.inputs ≤ i → i < length (network_of netlist) →
    IsMade Join (network_of netlist) input (map tri_of start) (map tri_of start) i
stable-made netlist input start circuit begins i above inside =
    let driver = driver_at (network_of netlist) i in
    let within : IsInside driver = elim (cases_lt i (length netlist.names)) [
      | inl gate ↦ subst IsInside (sym (driver_at-gate netlist i circuit (above, gate))) tt
      | inr wire ↦ subst IsInside (sym (driver_at-wire netlist i circuit wire (omega (arith, inside, length-network_of netlist circuit)))) tt
    ] in
    let known = tri_of (bit_at start i) in
    let value : value_at (map tri_of start) i ≡ known = at-tri_of start i in
    let excited : driver_value3 input (map tri_of start) driver ≡ known =
    known-value input (take netlist.inputs start) start driver within ∙ ap tri_of (sym (begins.stable i inside)) in
    value ∙ (sym (join-same (bit_at start i))
    ∙ (ap (join_of known) (sym excited) ∙ ap (λ (v : Tri). join_of v (driver_value3 input (map tri_of start) driver)) (sym value)))
