-- Names of a text, as opposed to those that gates of covers get.
use Rattle.std.specs.Prelude.{◌≢◌, ℕ, All, List, [], ◌∷◌}
use Rattle.std.specs.Borrow.{Bor}
use Rattle.hz_blif.specs.declared.line.Line.{Line as LineRead}
use Rattle.hz_blif.specs.declared.line.Line.TheVariants as read

-- a name of a text has no '\'
abbrev pub IsPlain : List ℕ → Type 0
IsPlain [] = Unit {0}
IsPlain (byte ∷ rest) = (byte ≢ 92) × IsPlain rest

-- words that are such names
abbrev pub ArePlain : List (Bor (List ℕ)) → Type 0
ArePlain words = All (λ word. IsPlain word.now) words

-- the names that a line defines or uses are such names
abbrev pub HasPlainWords : LineRead → Type 0
HasPlainWords read.Blank = Unit {0}
HasPlainWords (read.Model names) = Unit {0}
HasPlainWords (read.Inputs names) = ArePlain names.now
HasPlainWords (read.Outputs names) = ArePlain names.now
HasPlainWords (read.Names names) = ArePlain names.now
HasPlainWords (read.Row tokens) = Unit {0}
HasPlainWords (read.End rest) = Unit {0}
HasPlainWords read.Construct = Unit {0}
