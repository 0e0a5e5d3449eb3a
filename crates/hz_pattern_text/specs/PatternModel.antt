-- Lines of patterns beside lines in which all bits are 0.
use Rattle.std.specs.Prelude.{◌≡◌, ℕ, zero, suc, ◌+◌, ◌*◌, Bool, true, ◌||◌, ◌&&◌, nat_eq, List, [], ◌∷◌, ◌++◌, codes, length, take, drop, replicate, if◌then◌else◌}
use Rattle.std.specs.List.{flat_map}
use Rattle.hz_pattern_text.specs.PatternInside.{patterns_in}
use Rattle.hz_pattern_text.specs.PatternPrinted.{pattern_text}

-- a byte is that of the model, or a one in place of a zero
abbrev pub agrees : ℕ → ℕ → Bool
agrees byte model = nat_eq byte model || (nat_eq model 48 && nat_eq byte 49)

-- how much greater than the model's a byte may be that agrees with it
abbrev pub slack_by : ℕ → ℕ
slack_by model = if nat_eq model 48 then 1 else 0

-- bytes agree with the first ones of a model
abbrev pub AgreesWith : List ℕ → List ℕ → Type 0
AgreesWith [] model = Unit {0}
AgreesWith (byte ∷ bytes) [] = ⊥
AgreesWith (byte ∷ bytes) (first ∷ model) = (agrees byte first ≡ true) × AgreesWith bytes model

-- the line of a pattern whose bits are all 0, and what stands behind it
abbrev pub model_line : ℕ → List ℕ → List ℕ
model_line inputs behind =
    codes "from " ++ (replicate inputs 48 ++ (codes " to " ++ (replicate inputs 48 ++ 10 ∷ behind)))

-- so many such lines
abbrev pub model_lines : ℕ → ℕ → List ℕ
model_lines inputs zero = []
model_lines inputs (suc lines) = model_line inputs (model_lines inputs lines)

-- what stands in the places of the bits of so many lines
abbrev pub bits_at : {X : Type 0} → ℕ → ℕ → List X → List X
bits_at inputs zero places = []
bits_at inputs (suc lines) places =
    (take inputs (drop 5 places) ++ take inputs (drop (inputs + 9) places))
    ++ bits_at inputs lines (drop (10 + 2 * inputs) places)

-- the bits of so many patterns whose printed lines are a text
pub record ArePrintedBits (inputs count : ℕ) (bits : List Bool) (text : List ℕ) : Type 0 where
  pub long : length bits ≡ count * (2 * inputs)
  pub lines : flat_map pattern_text (patterns_in count inputs bits) ≡ text

-- bits with those of so many patterns more, whose printed lines are a text
pub record AreAddedBits (inputs count : ℕ) (old new : List Bool) (text : List ℕ) : Type 0 where
  pub behind : (before : ℕ) (front : List ℕ) → ArePrintedBits inputs before old front
      → ArePrintedBits inputs (before + count) new (front ++ text)

-- the printed lines of so many patterns of these bits, and what stands behind them
abbrev pub text_behind : ℕ → ℕ → List Bool → List ℕ → List ℕ
text_behind inputs count bits rest = flat_map pattern_text (patterns_in count inputs bits) ++ rest
