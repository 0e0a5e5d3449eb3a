use Rattle.std.proofs.Common.{◌≡◌, ◌&&◌, ℕ, ◌<◌, ◌≤◌, ◌^◌, Bool, true, false, List, Some, None, refl, arith, rules}
use Rattle.std.specs.Prelude.{nat_le}
use Rattle.std.specs.Str.Parse.{IsNumeral, digits_value, without_leading_plus}
use Rattle.std.proofs.lemmas.Bool.{leb-true}
use Rattle.clap.specs.ValueTests.{is_unsigned_in}
use Rattle.clap.specs.declared.builder.value_parser.ValueParser.TheVariants.{Unsigned}
use Rattle.clap.proofs.ValueTestLemmas.{accepts-Accepts, Accepts-accepts}
use Rattle.clap.proofs.WalkLemmas.{both}
use Rattle.hz_words.specs.Values.{number_up_to}
use Rattle.hz_words.proofs.values.read_number.Goals as goal

-- a number in the range is read
number_of-number : (most : ℕ) (text : List ℕ) (number : ℕ) → IsNumeral 10 (without_leading_plus text)
    → digits_value 10 (without_leading_plus text) < 2 ^ 64 → number ≡ digits_value 10 (without_leading_plus text)
    → (nat_le 1 number && nat_le number most) ≡ true → Some number ≡ number_up_to most text
number_of-number most text number numeral small is inside =
    let ends = both _ _ inside in
    let least : 1 ≤ number = leb-true _ _ ends.0 in
    let greatest : number ≤ most = leb-true _ _ ends.1 in
    let low : 1 ≤ digits_value 10 (without_leading_plus text) = omega arith in
    let high : digits_value 10 (without_leading_plus text) ≤ most = omega arith in
    let passes : is_unsigned_in 1 most text ≡ true =
    Accepts-accepts false (Unsigned 1 most) text (numeral, small, low, high) in
    rw (passes, is) refl

-- a text that is no number stands for none
number_of-other : (most : ℕ) (text : List ℕ)
    → (IsNumeral 10 (without_leading_plus text) × (digits_value 10 (without_leading_plus text) < 2 ^ 64) → ⊥)
    → None ≡ number_up_to most text
number_of-other most text other = go (is_unsigned_in 1 most text) refl
  where
    go : (b : Bool) → is_unsigned_in 1 most text ≡ b → None ≡ number_up_to most text
    go true e =
        let passes = accepts-Accepts false (Unsigned 1 most) text e in
        absurd (other (passes.0, passes.1))
    go false e = rw e refl

pub returns-in-Ok-clause-value : goal.returns-in-Ok-clause-value
returns-in-Ok-clause-value c =
    let read = c.in-Ok.ensures.value.0 in
    let inside : (nat_le 1 c.in-Ok.number && nat_le c.in-Ok.number c.args.most) ≡ true = search rules in
    number_of-number c.args.most c.args.text.now c.in-Ok.number read.0.0 read.0.1 read.1 inside

pub returns-in_default-2-clause-value : goal.returns-in_default-2-clause-value
returns-in_default-2-clause-value c =
    let read = rw c.in_default.is at c.parse.ensures.value in
    number_of-other c.args.most c.args.text.now read.0
