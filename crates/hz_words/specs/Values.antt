-- What the arguments may be.
use Rattle.std.specs.Prelude.{ℕ, ◌≤◌, Bool, false, ◌&&◌, List, [], ◌∷◌, Option, Some, None, codes, nat_le, if◌then◌else◌}
use Rattle.std.specs.Str.{bytes_eq}
use Rattle.std.specs.Str.Parse.{digits_value, without_leading_plus}
use Rattle.clap.specs.ValueTests.{is_unsigned_in}
use Rattle.hz_options.specs.declared.show.Show.{Show}
use Rattle.hz_options.specs.declared.show.Show.TheVariants.{Nodes, All}
use Rattle.hz_word.specs.Capped.{greatest_cap}
use Rattle.hz_options.specs.Numbers.{most_demo_number}

-- a number of 1 to a greatest one, as `clap` reads numbers, in decimal digits that a `+` may precede
abbrev pub number_up_to : ℕ → List ℕ → Option ℕ
number_up_to most text =
    if is_unsigned_in 1 most text then Some (digits_value 10 (without_leading_plus text)) else None

-- a cap
abbrev pub cap_of : List ℕ → Option ℕ
cap_of text = number_up_to greatest_cap text

-- whether the first byte is a digit other than 0
abbrev pub begins_with_digit : List ℕ → Bool
begins_with_digit [] = false
begins_with_digit (byte ∷ bytes) = nat_le 49 byte && nat_le byte 57

-- the number of a generated circuit: digits of which the first is not 0
abbrev pub demo_of : List ℕ → Option ℕ
demo_of text = if begins_with_digit text then number_up_to most_demo_number text else None

-- which variables have a line
abbrev pub show_of : List ℕ → Option Show
show_of text =
    if bytes_eq text (codes "nodes") then Some Nodes
    else (if bytes_eq text (codes "all") then Some All else None)
