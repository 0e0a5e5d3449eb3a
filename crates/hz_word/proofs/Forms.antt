-- The pins one after the other come to the capped form of the longest walk.
use Rattle.std.proofs.Common.{◌≡◌, ℕ, zero, suc, ◌+◌, ◌-◌, ◌*◌, ◌%◌, ◌<◌, ◌≤◌, Bool, true, false, not, ◌&&◌, ◌||◌, ◌==◌, List, [], ◌∷◌, map, length, refl, sym, ap, ◌∙◌, inl, inr, arith}
use Rattle.std.specs.Bool.{beq, nat_le, if◌then◌else◌}
use Rattle.std.specs.List.{fold}
use Rattle.std.proofs.lemmas.Bool.{cases_Bool, leb-false, lt-leb, false≢true}
use Rattle.std.proofs.Math.Dec.{leb-zero, eqb-suc-zero}
use Rattle.hz_core.specs.Gate.{odd_pins}
use Rattle.hz_core.proofs.Kleene.{odd_pins-true}
use Rattle.hz_word.specs.declared.count.Count.{Count}
use Rattle.hz_word.specs.declared.count.Count.TheVariants.{Exact, Many}
use Rattle.hz_word.specs.declared.word.Word.{Word}
use Rattle.hz_word.specs.Word.{Alternates, IsWord, AreWords, first_letter, change_count}
use Rattle.hz_word.specs.Walk.{current_letters}
use Rattle.hz_word.specs.Capped.{capped_word, capped_count}
use Rattle.hz_word.specs.Pairs.{last_after, constant_word, is_no_change, is_constant, one_if_both, controlled_count, controlled_pair, sum_count, parity_pair}
use Rattle.hz_word.proofs.Moves.{steps_left}
use Rattle.hz_word.proofs.Totals.{Totals, others, final, is_zero, less_one, bit, of_word, plus, nothing, totals, most_by}
use Rattle.hz_word.proofs.Search.{by_fields, plus-assoc}
use Rattle.hz_word.proofs.Controlled.{most_in, totals-IsSound}

-- the letter that is the controlling one if the flag is set
abbrev pub letter_of : Bool → Bool → Bool
letter_of controlling true = controlling
letter_of controlling false = not controlling

-- the capped word of totals
abbrev pub form_by : Bool → ℕ → Bool → ℕ → Bool → Bool → Word
form_by controlling cap true further first last = constant_word controlling
form_by controlling cap false further first last = record { first = letter_of controlling first; changes = capped_count cap (most_by false further first last) }

abbrev pub form : Bool → ℕ → Totals → Word
form controlling cap t = form_by controlling cap t.fixed t.further t.first t.last

pub same_fields : {f f' : Bool} {c c' : Count} → f ≡ f' → c ≡ c' → ◌≡◌ {A = Word} (record { first = f; changes = c }) (record { first = f'; changes = c' })
same_fields e f = cc

capped_count-zero : (cap : ℕ) → capped_count cap 0 ≡ Exact 0
capped_count-zero cap = rw (leb-zero cap) refl

-- counting the letters of a word
counted : (controlling letter : Bool) (rest : List Bool) → Alternates letter rest → length rest + 2 ≡ 2 * others controlling (letter ∷ rest) + bit (beq controlling letter) + bit (beq controlling (final letter rest))
counted true true [] alternates = refl
counted true false [] alternates = refl
counted false true [] alternates = refl
counted false false [] alternates = refl
counted controlling true (true ∷ rest) alternates = absurd (alternates.0 refl)
counted controlling false (false ∷ rest) alternates = absurd (alternates.0 refl)
counted true true (false ∷ rest) alternates = let e = counted true false rest alternates.1 in omega arith
counted true false (true ∷ rest) alternates = let e = counted true true rest alternates.1 in omega arith
counted false true (false ∷ rest) alternates = let e = counted false false rest alternates.1 in omega arith
counted false false (true ∷ rest) alternates = let e = counted false true rest alternates.1 in omega arith

word_form : (cap : ℕ) (controlling letter last : Bool) (n o : ℕ) → n + 2 ≡ 2 * o + bit (beq controlling letter) + bit last → ◌≡◌ {A = Word} (record { first = letter; changes = capped_count cap n }) (form_by controlling cap (is_zero o) (less_one o) (beq controlling letter) last)
word_form cap true true true n zero e = same_fields refl (ap (capped_count cap) (omega arith) ∙ capped_count-zero cap)
word_form cap true true false n zero e = absurd (omega arith)
word_form cap true false true n zero e = absurd (omega arith)
word_form cap true false false n zero e = absurd (omega arith)
word_form cap false true true n zero e = absurd (omega arith)
word_form cap false true false n zero e = absurd (omega arith)
word_form cap false false true n zero e = same_fields refl (ap (capped_count cap) (omega arith) ∙ capped_count-zero cap)
word_form cap false false false n zero e = absurd (omega arith)
word_form cap true true last n (suc o) e = same_fields refl (ap (capped_count cap) (omega arith))
word_form cap true false last n (suc o) e = same_fields refl (ap (capped_count cap) (omega arith))
word_form cap false true last n (suc o) e = same_fields refl (ap (capped_count cap) (omega arith))
word_form cap false false last n (suc o) e = same_fields refl (ap (capped_count cap) (omega arith))

-- the capped form of a word is that of its totals
capped_word-form : (controlling : Bool) (cap : ℕ) (word : List Bool) → IsWord word → capped_word cap word ≡ form controlling cap (of_word controlling word)
capped_word-form controlling cap [] is_word = absurd is_word
capped_word-form controlling cap (letter ∷ rest) is_word =
    let e = counted controlling letter rest is_word in
    let f : suc (length rest) - 1 + 2 ≡ 2 * others controlling (letter ∷ rest) + bit (beq controlling letter) + bit (beq controlling (final letter rest)) = omega arith in
    word_form cap controlling letter (beq controlling (final letter rest)) (suc (length rest) - 1) (others controlling (letter ∷ rest)) f

-- booleans
first-letter_of : (controlling first : Bool) → beq (letter_of controlling first) controlling ≡ first
first-letter_of true true = refl
first-letter_of true false = refl
first-letter_of false true = refl
first-letter_of false false = refl

and-false : (a : Bool) → (a && false) ≡ false
and-false true = refl
and-false false = refl

or-true-right : (a : Bool) → (a || true) ≡ true
or-true-right true = refl
or-true-right false = refl

bits : (a b : Bool) → bit a + bit b ≡ bit (a || b) + one_if_both a b
bits true true = refl
bits true false = refl
bits false true = refl
bits false false = refl

bit-left : (a b : Bool) → bit a ≤ bit (a || b)
bit-left true b = omega arith
bit-left false b = omega arith

bit-right : (a b : Bool) → bit b ≤ bit (a || b)
bit-right true true = omega arith
bit-right true false = omega arith
bit-right false b = omega arith

-- a word that has another letter is not the controlling letter alone
no_change-capped_count : (cap n : ℕ) → 1 ≤ n → is_no_change (capped_count cap n) ≡ false
no_change-capped_count cap zero some = absurd (omega arith)
no_change-capped_count cap (suc n) some =
    elim (cases_Bool (nat_le (suc n) cap)) [
      | inl within ↦ rw within (eqb-suc-zero n)
      | inr beyond ↦ rw beyond refl
    ]

free-form : (controlling : Bool) (cap further : ℕ) (first last : Bool) → is_constant controlling (form_by controlling cap false further first last) ≡ false
free-form controlling cap further true last =
    rw (no_change-capped_count cap (2 * further + 1 + bit last) (omega arith)) refl
free-form controlling cap further false last = rw (first-letter_of controlling false) (and-false _)

-- the last letter
odd-most : (further : ℕ) (first last : Bool) → ((2 * further + bit first + bit last) % 2 == 1) ≡ not (beq first last)
odd-most further true true = let e : (2 * further + 1 + 1) % 2 ≡ 0 = omega arith in rw e refl
odd-most further true false = let e : (2 * further + 1 + 0) % 2 ≡ 1 = omega arith in rw e refl
odd-most further false true = let e : (2 * further + 0 + 1) % 2 ≡ 1 = omega arith in rw e refl
odd-most further false false = let e : (2 * further + 0 + 0) % 2 ≡ 0 = omega arith in rw e refl

last-turns : (controlling first last : Bool) → beq (not (beq (letter_of controlling first) (not (beq first last)))) controlling ≡ last
last-turns true true true = refl
last-turns true true false = refl
last-turns true false true = refl
last-turns true false false = refl
last-turns false true true = refl
last-turns false true false = refl
last-turns false false true = refl
last-turns false false false = refl

last-form : (controlling : Bool) (further : ℕ) (first last : Bool) → beq (last_after (letter_of controlling first) (2 * further + bit first + bit last)) controlling ≡ last
last-form controlling further first last = rw (odd-most further first last) (last-turns controlling first last)

-- the changes of two words that are not fixed
beyond-most : (cap n : ℕ) → nat_le n cap ≡ false → (more : ℕ) → n ≤ more → Many ≡ capped_count cap more
beyond-most cap n beyond more le =
    let above : cap < more = omega (arith, leb-false n cap beyond) in
    rw (lt-leb more cap above) refl

count-form : (controlling : Bool) (cap m n : ℕ) (first last first' last' : Bool) →
    controlled_count controlling cap (letter_of controlling first) (letter_of controlling first') (capped_count cap (2 * m + bit first + bit last)) (capped_count cap (2 * n + bit first' + bit last'))
    ≡ capped_count cap (2 * (m + n) + bit (first || first') + bit (last || last'))
count-form controlling cap m n first last first' last' =
    let begins = bits first first' in
    let ends = bits last last' in
    let begins_left = bit-left first first' in
    let begins_right = bit-right first first' in
    let ends_left = bit-left last last' in
    let ends_right = bit-right last last' in
    elim (cases_Bool (nat_le (2 * m + bit first + bit last) cap)) [
      | inl within ↦ elim (cases_Bool (nat_le (2 * n + bit first' + bit last') cap)) [
        | inl within' ↦
            rw (within, within')
            (ap (capped_count cap) (
            rw (first-letter_of controlling first, first-letter_of controlling first', last-form controlling m first last, last-form controlling n first' last')
            (omega arith)))
        | inr beyond ↦
            rw (within, beyond) (beyond-most cap (2 * n + bit first' + bit last') beyond (2 * (m + n) + bit (first || first') + bit (last || last')) (omega arith))
      ]
      | inr beyond ↦ elim (cases_Bool (nat_le (2 * n + bit first' + bit last') cap)) [
        | inl within ↦
            rw (beyond, within) (beyond-most cap (2 * m + bit first + bit last) beyond (2 * (m + n) + bit (first || first') + bit (last || last')) (omega arith))
        | inr beyond' ↦
            rw (beyond, beyond') (beyond-most cap (2 * m + bit first + bit last) beyond (2 * (m + n) + bit (first || first') + bit (last || last')) (omega arith))
      ]
    ]

first-pair : (controlling first first' : Bool) → (if beq (letter_of controlling first) controlling then controlling else letter_of controlling first') ≡ letter_of controlling (first || first')
first-pair true true first' = refl
first-pair true false first' = refl
first-pair false true first' = refl
first-pair false false first' = refl

-- a pin more
pair_by : (controlling : Bool) (cap : ℕ) (fixed fixed' : Bool) (m n : ℕ) (first last first' last' : Bool) →
    controlled_pair controlling cap (form_by controlling cap fixed m first last) (form_by controlling cap fixed' n first' last')
    ≡ form_by controlling cap (fixed || fixed') (m + n) (first || first') (last || last')
pair_by true cap true fixed' m n first last first' last' = refl
pair_by false cap true fixed' m n first last first' last' = refl
pair_by true cap false true m n first last first' last' = rw (or-true-right (is_constant true (form_by true cap false m first last))) refl
pair_by false cap false true m n first last first' last' = rw (or-true-right (is_constant false (form_by false cap false m first last))) refl
pair_by controlling cap false false m n first last first' last' =
    rw (free-form controlling cap m first last, free-form controlling cap n first' last')
    (same_fields (first-pair controlling first first') (count-form controlling cap m n first last first' last'))

pair-form : (controlling : Bool) (cap : ℕ) (t u : Totals) → controlled_pair controlling cap (form controlling cap t) (form controlling cap u) ≡ form controlling cap (plus t u)
pair-form controlling cap t u = pair_by controlling cap t.fixed u.fixed t.further u.further t.first t.last u.first u.last

or-false : (a : Bool) → a ≡ (a || false)
or-false true = refl
or-false false = refl

plus-nothing : (t : Totals) → t ≡ plus t nothing
plus-nothing t = by_fields (or-false t.fixed) (or-false t.first) (or-false t.last) (omega arith)

-- the pins, one after the other
fold-form : (controlling : Bool) (cap : ℕ) (t : Totals) (words : List (List Bool)) → AreWords words → fold (controlled_pair controlling cap) (form controlling cap t) (map (capped_word cap) words) ≡ form controlling cap (plus t (totals controlling words))
fold-form controlling cap t [] are_words = ap (form controlling cap) (plus-nothing t)
fold-form controlling cap t (word ∷ words) are_words =
    let step = ap (controlled_pair controlling cap (form controlling cap t)) (capped_word-form controlling cap word are_words.0)
    ∙ pair-form controlling cap t (of_word controlling word) in
    ap (λ so_far. fold (controlled_pair controlling cap) so_far (map (capped_word cap) words)) step
    ∙ (fold-form controlling cap (plus t (of_word controlling word)) words are_words.1
    ∙ ap (form controlling cap) (sym (plus-assoc t (of_word controlling word) (totals controlling words))))

form-nothing : (controlling : Bool) (cap : ℕ) → constant_word (not controlling) ≡ form controlling cap nothing
form-nothing controlling cap = same_fields refl (sym (capped_count-zero cap))

form-most : (controlling : Bool) (cap : ℕ) (fixed first last : Bool) (further : ℕ) → (fixed ≡ true → first ≡ true) → form_by controlling cap fixed further first last ≡ record { first = letter_of controlling first; changes = capped_count cap (most_by fixed further first last) }
form-most controlling cap true true last further sound = same_fields refl (sym (capped_count-zero cap))
form-most controlling cap true false last further sound = absurd (false≢true (sound refl))
form-most controlling cap false first last further sound = refl

pub fold-controlled : (controlling : Bool) (cap : ℕ) (words : List (List Bool)) → AreWords words → fold (controlled_pair controlling cap) (constant_word (not controlling)) (map (capped_word cap) words) ≡ record { first = letter_of controlling (totals controlling words).first; changes = capped_count cap (most_in controlling words) }
fold-controlled controlling cap words are_words =
    ap (λ so_far. fold (controlled_pair controlling cap) so_far (map (capped_word cap) words)) (form-nothing controlling cap)
    ∙ (fold-form controlling cap nothing words are_words
    ∙ (ap (form controlling cap) (by_fields refl refl refl (omega arith))
    ∙ form-most controlling cap (totals controlling words).fixed (totals controlling words).first (totals controlling words).last (totals controlling words).further
    (totals-IsSound controlling words).begins))

-- parity
beq-true : (b : Bool) → b ≡ beq true b
beq-true true = refl
beq-true false = refl

not-beq-false : (b : Bool) → b ≡ not (beq false b)
not-beq-false true = refl
not-beq-false false = refl

odd-cons : (letter : Bool) (bits : List Bool) → odd_pins (letter ∷ bits) ≡ not (beq letter (odd_pins bits))
odd-cons true bits = odd_pins-true bits ∙ ap not (beq-true (odd_pins bits))
odd-cons false bits = not-beq-false (odd_pins bits)

not-beq-no : (b : Bool) → b ≡ not (beq b false)
not-beq-no true = refl
not-beq-no false = refl

parity-assoc : (a b c : Bool) → not (beq (not (beq a b)) c) ≡ not (beq a (not (beq b c)))
parity-assoc true true true = refl
parity-assoc true true false = refl
parity-assoc true false true = refl
parity-assoc true false false = refl
parity-assoc false true true = refl
parity-assoc false true false = refl
parity-assoc false false true = refl
parity-assoc false false false = refl

sum-capped_word : (cap m n : ℕ) → sum_count cap (capped_count cap m) (capped_count cap n) ≡ capped_count cap (m + n)
sum-capped_word cap m n =
    elim (cases_Bool (nat_le m cap)) [
      | inl within ↦ elim (cases_Bool (nat_le n cap)) [
        | inl within' ↦ rw (within, within') refl
        | inr beyond ↦ rw (within, beyond) (beyond-most cap n beyond (m + n) (omega arith))
      ]
      | inr beyond ↦ elim (cases_Bool (nat_le n cap)) [
        | inl within ↦ rw (beyond, within) (beyond-most cap m beyond (m + n) (omega arith))
        | inr beyond' ↦ rw (beyond, beyond') (beyond-most cap m beyond (m + n) (omega arith))
      ]
    ]

fold-odd : (cap : ℕ) (first : Bool) (n : ℕ) (words : List (List Bool)) → fold (parity_pair cap) (record { first = first; changes = capped_count cap n }) (map (capped_word cap) words) ≡ record { first = not (beq first (odd_pins (current_letters words))); changes = capped_count cap (n + steps_left words) }
fold-odd cap first n [] = same_fields (not-beq-no first) (ap (capped_count cap) (omega arith))
fold-odd cap first n (word ∷ words) =
    ap (λ so_far. fold (parity_pair cap) so_far (map (capped_word cap) words)) (same_fields refl (sum-capped_word cap n (change_count word)))
    ∙ (fold-odd cap (not (beq first (first_letter word))) (n + change_count word) words
    ∙ same_fields
    (parity-assoc first (first_letter word) (odd_pins (current_letters words)) ∙ ap (λ odd. not (beq first odd)) (sym (odd-cons (first_letter word) (current_letters words))))
    (ap (capped_count cap) (omega arith)))

pub fold-parity : (cap : ℕ) (words : List (List Bool)) → fold (parity_pair cap) (constant_word false) (map (capped_word cap) words) ≡ record { first = odd_pins (current_letters words); changes = capped_count cap (steps_left words) }
fold-parity cap words =
    ap (λ so_far. fold (parity_pair cap) so_far (map (capped_word cap) words)) (same_fields refl (sym (capped_count-zero cap)))
    ∙ (fold-odd cap false 0 words ∙ same_fields (sym (not-beq-false (odd_pins (current_letters words)))) (ap (capped_count cap) (omega arith)))
