-- Lines of a dump, by the variable that they are of.
use Rattle.std.specs.Prelude.{ℕ, Bool, not, List}
use Rattle.hz_net.specs.Network.{bit_at}
use Rattle.hz_vcd.specs.Dump.{value_word}
use Rattle.hz_vcd.specs.Printed.{word_line}

-- the line of a variable and its bit in a state
abbrev pub value_line : List Bool → ℕ → List ℕ
value_line state var = word_line (value_word var (bit_at state var))

-- the line of a variable and the bit that it doesn't have in a state
abbrev pub change_line : List Bool → ℕ → List ℕ
change_line state var = word_line (value_word var (not (bit_at state var)))
