-- How many names, gates and pins the circuit has while it is built.
use Rattle.std.proofs.Common.{◌≡◌, refl, ℕ, zero, suc, ◌+◌, ◌-◌, ◌*◌, ◌≤◌, List, [], ◌∷◌, length, map, sum_by, arith, length-append}
use Rattle.std.specs.List.{range_with_len, flat_map}
use Rattle.std.proofs.lemmas.List.FromFn.{length-map-range_with_len}
use Rattle.std.proofs.lemmas.List.Sums.{sum_by-append, sum_by-cons}
use Rattle.hz_core.specs.declared.kind.Kind.TheVariants.{And, Or, Not}
use Rattle.hz_core.specs.Netlist.{Gate, variable_count}
use Rattle.hz_gen.specs.Demo.{r_name}
use Rattle.hz_gen.specs.BuiltDemo.{ring_names, ring_gates, ring_netlist, buffer_gate, multiplexer_names, multiplexer_gates, chain_netlist}

-- how many pins a gate has
abbrev pins : Gate → ℕ
pins gate = length gate.sources

-- three elements for each number of a range
three_each :
    {X : Type 0} (lists : ℕ → List X) (first count : ℕ) → ((j : ℕ) → length (lists j) ≡ 3) →
    length (flat_map lists (range_with_len first count)) ≡ 3 * count
three_each lists first zero three = refl
three_each lists first (suc count) three =
    omega (
      arith,
      length-append (lists first) (flat_map lists (range_with_len (first + 1) count)),
      three first,
      three_each lists (first + 1) count three,
    )

pub length-ring_names : (buffers : ℕ) → length (ring_names buffers) ≡ buffers + 5
length-ring_names buffers = omega (arith, length-map-range_with_len r_name 2 buffers)

pub length-chain_names :
    (n multiplexers : ℕ) → 1 ≤ n → length (chain_netlist n multiplexers).names ≡ n + 3 * multiplexers + 4
length-chain_names n multiplexers least =
    omega (
      arith,
      length-append (ring_names (n - 1)) (flat_map multiplexer_names (range_with_len 1 multiplexers)),
      length-ring_names (n - 1),
      three_each multiplexer_names 1 multiplexers (λ j. refl),
      least,
    )

pub length-ring_gates : (first : List ℕ) (buffers : ℕ) → length (ring_gates first buffers) ≡ buffers + 3
length-ring_gates first buffers = omega (arith, length-map-range_with_len buffer_gate 2 buffers)

-- each node is an input or a gate
pub nodes-ring : (first : List ℕ) (buffers : ℕ) → length (ring_names buffers) ≡ 2 + length (ring_gates first buffers)
nodes-ring first buffers = omega (arith, length-ring_names buffers, length-ring_gates first buffers)

pub nodes-chain :
    (n multiplexers : ℕ) → 1 ≤ n →
    length (chain_netlist n multiplexers).names ≡ 2 + length (chain_netlist n multiplexers).gates
nodes-chain n multiplexers least =
    omega (
      arith,
      length-chain_names n multiplexers least,
      length-append (ring_gates (3 ∷ (n + 3) ∷ []) (n - 1))
          (flat_map (multiplexer_gates n) (range_with_len 1 multiplexers)),
      length-ring_gates (3 ∷ (n + 3) ∷ []) (n - 1),
      three_each (multiplexer_gates n) 1 multiplexers (λ j. refl),
      least,
    )

-- a pin for each buffer
buffer_pins : (first count : ℕ) → sum_by pins (map buffer_gate (range_with_len first count)) ≡ count
buffer_pins first zero = refl
buffer_pins first (suc count) =
    omega (
      arith,
      sum_by-cons pins (buffer_gate first) (map buffer_gate (range_with_len (first + 1) count)),
      buffer_pins (first + 1) count,
    )

-- six pins for each multiplexer
multiplexer_pins :
    (n first count : ℕ) → sum_by pins (flat_map (multiplexer_gates n) (range_with_len first count)) ≡ 6 * count
multiplexer_pins n first zero = refl
multiplexer_pins n first (suc count) =
    let six : sum_by pins (multiplexer_gates n first) ≡ 6 = refl in
    omega (
      arith,
      sum_by-append pins (multiplexer_gates n first) (flat_map (multiplexer_gates n) (range_with_len (first + 1) count)),
      six,
      multiplexer_pins n (first + 1) count,
    )

ring_pins : (first : List ℕ) (buffers : ℕ) → sum_by pins (ring_gates first buffers) ≡ length first + buffers + 3
ring_pins first buffers =
    let pulse : List Gate =
    record { kind = Not; sources = 0 ∷ [] }
    ∷ record { kind = And; sources = 0 ∷ 2 ∷ [] }
    ∷ record { kind = Or; sources = first }
    ∷ [] in
    omega (arith, sum_by-append pins pulse (map buffer_gate (range_with_len 2 buffers)), buffer_pins 2 buffers)

pub count-ring :
    (first : List ℕ) (buffers : ℕ) → variable_count (ring_netlist first buffers) ≡ length first + 2 * buffers + 8
count-ring first buffers = omega (arith, length-ring_names buffers, ring_pins first buffers)

pub count-chain :
    (n multiplexers : ℕ) → 1 ≤ n → variable_count (chain_netlist n multiplexers) ≡ 2 * n + 9 * multiplexers + 8
count-chain n multiplexers least =
    omega (
      arith,
      length-chain_names n multiplexers least,
      sum_by-append pins (ring_gates (3 ∷ (n + 3) ∷ []) (n - 1))
          (flat_map (multiplexer_gates n) (range_with_len 1 multiplexers)),
      ring_pins (3 ∷ (n + 3) ∷ []) (n - 1),
      multiplexer_pins n 1 multiplexers,
      least,
    )
