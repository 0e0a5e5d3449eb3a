-- The limits of a circuit.
use Rattle.std.specs.Prelude.{ℕ}

-- the most variables of a circuit's complete network
abbrev pub most_variables : ℕ
most_variables = 200000

-- the most pins of a gate
abbrev pub most_gate_pins : ℕ
most_gate_pins = 256

-- the most bytes of a name
abbrev pub longest_name : ℕ
longest_name = 255
