-- Reading the bits of a state.
use Rattle.std.proofs.Common.{◌≡◌, ◌≢◌, ◌∙◌, ℕ, ◌+◌, ◌-◌, ◌<◌, ◌≤◌, Bool, true, false, List, [], ◌∷◌, ◌++◌, length, map, take, get_or, replicate, Some, refl, sym, ap, arith, codes}
use Rattle.std.specs.Prelude.{MatchBool, ◌*◌, ◌/◌, ◌%◌}
use Rattle.std.specs.Str.{bytes_eq}
use Rattle.std.specs.List.{range_with_len}
use Rattle.std.proofs.lemmas.List.{take_more, take_all, length-append, length-replicate, same_from_push}
use lib.Seq.{take-append_seam}
use Rattle.std.proofs.lemmas.List.Elements.{All-nil}
use Rattle.hz_net.specs.Network.{bit_at}
use Rattle.hz_text.specs.Printed.{letter_of}
use Rattle.std.proofs.lemmas.Fmt.{decimal_digit}
use Rattle.hz_vcd.specs.Code.{code_of}
use Rattle.hz_vcd.specs.Word.{words_of}
use Rattle.hz_vcd.specs.Dump.{AreFlips, end_word, value_word, steps_words}
use Rattle.hz_vcd.specs.Reading.{WordsLeft, Word, Values, Steps, Goes, Past, Stuck, state_head, IsValueRead}
use Rattle.hz_vcd.proofs.ReadingLaws.{past-word, wrong-word, wrong-end}
use Rattle.hz_vcd.proofs.HeadLaws.{same-first, same-later, none-is, range-next, equal-word, differing-word}
use Rattle.hz_vcd.proofs.CodeLemmas.{CodeOf, one, two, three, code-cases}

-- the letter and the code of a word that gives a bit
pub value-read : (first : ℕ) (code : List ℕ) (bit : Bool) (var : ℕ) → first ≡ letter_of bit → (code_of var ≡ code) × (var < 830584) → IsValueRead (first ∷ code) (Some (bit, var))
value-read first code bit var letter (is, small) = (ap (λ (l : ℕ). l ∷ code_of var) (sym letter) ∙ ap (λ (word : List ℕ). first ∷ word) is, small)

-- letters of different bits differ
pub same-bit : (a b : Bool) → letter_of a ≡ letter_of b → a ≡ b
same-bit true true e = refl
same-bit false false e = refl
same-bit true false e = absurd (omega (arith, e))
same-bit false true e = absurd (omega (arith, e))

values-next : (variables place : ℕ) (state : List Bool) (steps : List (List ℕ)) → place < variables →
    map (λ var. value_word var (bit_at state var)) (range_with_len place (variables - place)) ++ end_word ∷ steps_words 1 state steps
    ≡ value_word place (bit_at state place) ∷ (map (λ var. value_word var (bit_at state var)) (range_with_len (place + 1) (variables - (place + 1))) ++ end_word ∷ steps_words 1 state steps)
values-next variables place state steps below =
    ap (λ (vars : List ℕ). map (λ var. value_word var (bit_at state var)) vars ++ end_word ∷ steps_words 1 state steps) (range-next place variables below)

-- a state that begins with known bits
module _ (variables place : ℕ) (known : List Bool) (long : length known ≡ place) where
  pub values-go : place ≤ variables → Goes (Values variables place known) []
  values-go below =
      let state = known ++ replicate (variables - place) false in
      let size : length state ≡ variables = omega (arith, length-append known (replicate (variables - place) false), length-replicate (variables - place) false, long) in
      let front : take place state ≡ known = ap (λ (n : ℕ). take n state) (sym long) ∙ take-append_seam known (replicate (variables - place) false) in (
        map (λ var. value_word var (bit_at state var)) (range_with_len place (variables - place)) ++ end_word ∷ steps_words 1 state [],
        state,
        [],
        (size, All-nil (AreFlips variables), front, refl),
      )

  module _ (below : place < variables) where
    -- one more bit
    pub value-past : (was now : WordsLeft) (found : List ℕ) (bit : Bool) → was.words ≡ found ∷ now.words → now.read ≡ was.read + 1 → value_word place bit ≡ found → Past (Values variables place known) was (Values variables (place + 1) (known ++ bit ∷ [])) now
    value-past was now found bit are counts is =
        past-word (Values variables place known) was (Values variables (place + 1) (known ++ bit ∷ [])) now found are counts
        (λ more state steps comes.
        let whole = comes.3 ∙ values-next variables place state steps below in
        let same : bit_at state place ≡ bit = sym (same-bit bit (bit_at state place) (same-first (is ∙ same-first whole))) in
        let inside : place < length state = omega (arith, below, comes.0) in (
          comes.0,
          comes.1,
          take_more state place false inside ∙ ap (λ (front : List Bool). front ++ get_or state place false ∷ []) comes.2 ∙ ap (λ (b : Bool). known ++ b ∷ []) same,
          same-later whole,
        ))
        (λ more state steps comes.
        let inside : place < length state = omega (arith, below, comes.0) in
        let parts = same_from_push (take place state) known (get_or state place false) bit (sym (take_more state place false inside) ∙ comes.2) in (
          comes.0,
          comes.1,
          parts.0,
          ap (λ (words : List (List ℕ)). found ∷ words) comes.3
              ∙ ap (λ (word : List ℕ). word ∷ (map (λ var. value_word var (bit_at state var)) (range_with_len (place + 1) (variables - (place + 1))) ++ end_word ∷ steps_words 1 state steps))
              (sym is ∙ ap (value_word place) (sym parts.1))
              ∙ sym (values-next variables place state steps below),
        ))

    -- a word that gives no bit, or one of another variable
    pub value-wrong : (was : WordsLeft) (number : ℕ) (found : List ℕ) (later : List (List ℕ)) → was.words ≡ found ∷ later → number ≡ was.read + 1 → ((bit : Bool) → value_word place bit ≢ found) → Stuck (Values variables place known) was number
    value-wrong was number found later are at differ =
        wrong-word (Values variables place known) was found later number are at (values-go (omega (arith, below)))
        (λ more state steps comes. differ (bit_at state place) (sym (same-first (comes.3 ∙ values-next variables place state steps below))))

    pub value-end : (was : WordsLeft) (number : ℕ) → was.words ≡ [] → number ≡ was.read + 1 → Stuck (Values variables place known) was number
    value-end was number none at =
        wrong-end (Values variables place known) was number none at (values-go (omega (arith, below)))
        (λ state steps comes. none-is (comes.3 ∙ values-next variables place state steps below))

-- the word of a time by its first byte
pub time-parts : (first : ℕ) (rest digits : List ℕ) (result : Bool) → first ≡ 35 → result ≡ bytes_eq rest digits → MatchBool result (first ∷ rest ≡ 35 ∷ digits) (first ∷ rest ≢ 35 ∷ digits)
time-parts first rest digits true is same = ap (λ (byte : ℕ). byte ∷ rest) is ∙ ap (λ (bytes : List ℕ). 35 ∷ bytes) (equal-word rest digits same)
time-parts first rest digits false is same = λ e. differing-word rest digits same (same-later e)

pub time-other : (first : ℕ) (rest digits : List ℕ) → first ≢ 35 → first ∷ rest ≢ 35 ∷ digits
time-other first rest digits differ e = differ (same-first e)

-- a code is that of one variable alone
abbrev decode : List ℕ → ℕ
decode [] = 0
decode (a ∷ []) = a
decode (a ∷ b ∷ []) = a * 94 + b
decode (a ∷ b ∷ d ∷ rest) = (a * 94 + b) * 94 + d

pub code-same : (a b : ℕ) → a < 830584 → b < 830584 → code_of a ≡ code_of b → a ≡ b
code-same a b small also same = by (code-cases a small) (code-cases b also)
  where
    by : CodeOf a → CodeOf b → a ≡ b
    by (one p e) (one q f) = let is : 33 + a ≡ 33 + b = ap decode (sym e ∙ same ∙ f) in omega (arith, is)
    by (one p e) (two q r f) = absurd (omega (arith, ap length (sym e ∙ same ∙ f)))
    by (one p e) (three q f) = absurd (omega (arith, ap length (sym e ∙ same ∙ f)))
    by (two p q e) (one r f) = absurd (omega (arith, ap length (sym e ∙ same ∙ f)))
    by (two p q e) (two r t f) = let is : (33 + a / 94) * 94 + (33 + a % 94) ≡ (33 + b / 94) * 94 + (33 + b % 94) = ap decode (sym e ∙ same ∙ f) in omega (arith, is)
    by (two p q e) (three r f) = absurd (omega (arith, ap length (sym e ∙ same ∙ f)))
    by (three p e) (one q f) = absurd (omega (arith, ap length (sym e ∙ same ∙ f)))
    by (three p e) (two q r f) = absurd (omega (arith, ap length (sym e ∙ same ∙ f)))
    by (three p e) (three q f) = let is : ((33 + a / 94 / 94) * 94 + (33 + a / 94 % 94)) * 94 + (33 + a % 94) ≡ ((33 + b / 94 / 94) * 94 + (33 + b / 94 % 94)) * 94 + (33 + b % 94) = ap decode (sym e ∙ same ∙ f) in omega (arith, is)

-- a word is that of one variable alone
pub value-same : (a b : ℕ) (bit other : Bool) (word : List ℕ) → a < 830584 → b < 830584 → value_word a bit ≡ word → value_word b other ≡ word → a ≡ b
value-same a b bit other word small also is too = code-same a b small also (same-later (is ∙ sym too))

-- all bits are known
pub values-done : (variables : ℕ) (known : List Bool) (was : WordsLeft) → length known ≡ variables → Past (Values variables variables known) was (Word end_word (Steps variables known)) was
values-done variables known was long = record {
  front = [];
  are = refl;
  counts = omega arith;
  onward = λ more state steps comes.
      let same : state ≡ known = sym (take_all variables state (omega (arith, comes.0))) ∙ comes.2 in
      (steps_words 1 known steps, comes.3 ∙ ends state steps ∙ ap (λ (s : List Bool). end_word ∷ steps_words 1 s steps) same, (same, comes.1, refl));
  back = λ more state steps comes. (
    ap length comes.2.0 ∙ long,
    comes.2.1,
    take_all variables state (omega (arith, ap length comes.2.0, long)) ∙ comes.2.0,
    comes.1 ∙ ap (λ (words : List (List ℕ)). end_word ∷ words) (comes.2.2 ∙ ap (λ (s : List Bool). steps_words 1 s steps) (sym comes.2.0)) ∙ sym (ends state steps),
  );
}
  where
    ends : (state : List Bool) (steps : List (List ℕ)) → map (λ var. value_word var (bit_at state var)) (range_with_len variables (variables - variables)) ++ end_word ∷ steps_words 1 state steps ≡ end_word ∷ steps_words 1 state steps
    ends state steps =
        let none : variables - variables ≡ 0 = omega arith in
        ap (λ (n : ℕ). map (λ var. value_word var (bit_at state var)) (range_with_len variables n) ++ end_word ∷ steps_words 1 state steps) none

-- a run without steps may come
pub steps-go : (variables : ℕ) (start : List Bool) → Goes (Steps variables start) []
steps-go variables start = ([], start, [], (refl, All-nil (AreFlips variables), refl))

-- the words before the bits of a state
pub head-words : words_of (codes "#0 $dumpvars") ≡ state_head
unfolding words_of
head-words = ap (λ (digits : List ℕ). (35 ∷ digits) ∷ codes "$dumpvars" ∷ []) (sym (decimal_digit 0 (omega arith)))

-- and it gives it one bit
pub value-bit : (a b : ℕ) (bit other : Bool) (word : List ℕ) → value_word a bit ≡ word → value_word b other ≡ word → bit ≡ other
value-bit a b bit other word is too = same-bit bit other (same-first (is ∙ sym too))
