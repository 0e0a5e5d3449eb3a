-- Names without signs are names of a text.
use Rattle.std.proofs.Common.{◌≡◌, ◌∙◌, sym, ℕ, true, false, ◌||◌, ◌==◌, List, [], ◌∷◌, arith}
use Rattle.std.specs.Borrow.{Bor}
use Rattle.std.specs.List.{list_any}
use Rattle.std.proofs.lemmas.Bool.Decides.{nat_tests}
use Rattle.std.proofs.lemmas.List.Elements.{All-cons, All-nil}
use Rattle.hz_netlist.proofs.Tests.{either}
use Rattle.hz_blif.specs.declared.line.Line.{Line as LineRead}
use Rattle.hz_blif.specs.declared.line.Line.TheVariants as read
use Rattle.hz_blif.specs.Fault.{is_sign}
use Rattle.hz_blif.specs.Line.{names_in}
use Rattle.hz_blif.specs.Plain.{ArePlain, HasPlainWords, IsPlain}
use Rattle.hz_blif.specs.Reading.{bytes_of, line_by}

unsigned-name : (name : List ℕ) → list_any is_sign name ≡ false → IsPlain name
unsigned-name [] unsigned = tt
unsigned-name (byte ∷ rest) unsigned =
    let parts = either (is_sign byte) (list_any is_sign rest) unsigned in
    let mark : (byte == 92) ≡ false = (either (byte == 40 || byte == 41 || byte == 44 || byte == 61) (byte == 92) parts.0).1 in (
      λ same. let wrong : (byte == 92) ≡ true = grind (arith, nat_tests, same) in let both_ways : false ≡ true = sym mark ∙ wrong in cc,
      unsigned-name rest parts.1,
    )

unsigned-words : (words : List (Bor (List ℕ))) → list_any (list_any is_sign) (bytes_of words) ≡ false → ArePlain words
unsigned-words [] unsigned = All-nil (λ (word : Bor (List ℕ)). IsPlain word.now)
unsigned-words (word ∷ rest) unsigned =
    let parts = either (list_any is_sign word.now) (list_any (list_any is_sign) (bytes_of rest)) unsigned in
    All-cons (λ (word : Bor (List ℕ)). IsPlain word.now) word rest (unsigned-name word.now parts.0) (unsigned-words rest parts.1)

pub unsigned-line : (line : LineRead) → list_any (list_any is_sign) (names_in (line_by line)) ≡ false → HasPlainWords line
unsigned-line read.Blank unsigned = tt
unsigned-line (read.Model names) unsigned = tt
unsigned-line (read.Inputs names) unsigned = unsigned-words names.now unsigned
unsigned-line (read.Outputs names) unsigned = unsigned-words names.now unsigned
unsigned-line (read.Names names) unsigned = unsigned-words names.now unsigned
unsigned-line (read.Row tokens) unsigned = tt
unsigned-line (read.End rest) unsigned = tt
unsigned-line read.Construct unsigned = tt
