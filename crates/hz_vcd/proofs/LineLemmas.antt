-- The lines of a dump, by what is given to the writer.
use Rattle.std.proofs.Common.{◌≡◌, ◌∙◌, ℕ, suc, ◌+◌, ◌<◌, Bool, not, List, [], ◌∷◌, ◌++◌, map, take, length, get_or, refl, sym, ap, arith, codes, decimal, append_assoc}
use Rattle.std.specs.List.{flat_map, range_with_len}
use Rattle.std.proofs.lemmas.Fmt.{decimal_digit}
use Rattle.std.proofs.lemmas.List.{append-nil, take_more, length-take}
use Rattle.std.proofs.lemmas.List.Concat.{flat_map-append}
use Rattle.std.proofs.lemmas.List.Folds.{flat_map-map}
use Rattle.hz_net.specs.Network.{bit_at}
use Rattle.hz_gmw.specs.Runs.{state_after, end_of}
use Rattle.hz_vcd.specs.Dump.{end_word, value_word, time_word, state_words, dump_step, steps_words}
use Rattle.hz_vcd.specs.Printed.{dump_line, word_line, word_lines}
use Rattle.hz_vcd.specs.Inside.{value_line, change_line}

-- the line of a declaration
pub declaration-line : (code name : List ℕ) →
    (((codes "$var wire 1 " ++ code) ++ codes " \\") ++ name) ++ codes " $end\n"
    ≡ dump_line (codes "$var" ∷ codes "wire" ∷ codes "1" ∷ code ∷ (92 ∷ name) ∷ end_word ∷ [])
declaration-line code name = simp append_assoc

-- the lines of a state
pub state-lines : (state : List Bool) →
    ((codes "#0\n" ++ codes "$dumpvars\n") ++ flat_map (value_line state) (range_with_len 0 (length state))) ++ codes "$end\n"
    ≡ word_lines (state_words state)
state-lines state =
    let value : ℕ → List ℕ = λ var. value_word var (bit_at state var) in
    let numbers = range_with_len 0 (length state) in
    let zero_line : word_line (time_word 0) ≡ codes "#0\n" = ap (λ (digits : List ℕ). 35 ∷ digits ++ 10 ∷ []) (decimal_digit 0 (omega arith)) in
    let values : flat_map word_line (map value numbers ++ end_word ∷ []) ≡ flat_map (value_line state) numbers ++ codes "$end\n" =
    flat_map-append word_line (map value numbers) (end_word ∷ []) ∙ ap (λ (lines : List ℕ). lines ++ codes "$end\n") (flat_map-map word_line value numbers) in
    let front = codes "$dumpvars\n" ++ (flat_map (value_line state) numbers ++ codes "$end\n") in
    sym (ap (λ (lines : List ℕ). word_line (time_word 0) ++ (codes "$dumpvars\n" ++ lines)) values ∙ ap (λ (first : List ℕ). first ++ front) zero_line)

-- the lines of a step
pub step-lines : (time : ℕ) (state : List Bool) (flips : List ℕ) →
    (codes "#" ++ (decimal time ++ []) ++ codes "\n") ++ flat_map (change_line state) flips ≡ word_lines (dump_step time state flips)
step-lines time state flips =
    let change : ℕ → List ℕ = λ var. value_word var (not (bit_at state var)) in
    ap (λ (digits : List ℕ). (35 ∷ digits ++ 10 ∷ []) ++ flat_map (change_line state) flips) (append-nil (decimal time))
    ∙ ap (λ (lines : List ℕ). word_line (time_word time) ++ lines) (sym (flat_map-map word_line change flips))

-- steps and then more
pub steps_words-append : (time : ℕ) (state : List Bool) (first later : List (List ℕ)) →
    steps_words time state (first ++ later) ≡ steps_words time state first ++ steps_words (time + length first) (end_of state first) later
steps_words-append time state [] later = ap (λ (at : ℕ). steps_words at state later) (omega arith)
steps_words-append time state (flips ∷ first) later =
    ap (λ (words : List (List ℕ)). dump_step time state flips ++ words)
    (steps_words-append (suc time) (state_after flips state) first later
    ∙ ap (λ (at : ℕ). steps_words (suc time) (state_after flips state) first ++ steps_words at (end_of (state_after flips state) first) later) (omega arith))
    ∙ sym (append_assoc (dump_step time state flips) (steps_words (suc time) (state_after flips state) first) _)

pub end_of-append : (state : List Bool) (first later : List (List ℕ)) → end_of state (first ++ later) ≡ end_of (end_of state first) later
end_of-append state [] later = refl
end_of-append state (flips ∷ first) later = end_of-append (state_after flips state) first later

pub word_lines-append : (first later : List (List ℕ)) → word_lines (first ++ later) ≡ word_lines first ++ word_lines later
word_lines-append first later = flat_map-append word_line first later

-- one step more
pub steps-more : (time : ℕ) (state : List Bool) (steps : List (List ℕ)) (number : ℕ) (flips : List ℕ) → number < length steps → get_or steps number [] ≡ flips →
    word_lines (steps_words time state (take number steps)) ++ word_lines (dump_step (time + number) (end_of state (take number steps)) flips)
    ≡ word_lines (steps_words time state (take (number + 1) steps))
steps-more time state steps number flips there is =
    let front = take number steps in
    let long : length front ≡ number = omega (arith, length-take number steps) in
    sym (
    ap (λ (all : List (List ℕ)). word_lines (steps_words time state all)) (take_more steps number [] there ∙ ap (λ (last : List ℕ). front ++ last ∷ []) is)
    ∙ ap word_lines (steps_words-append time state front (flips ∷ []))
    ∙ word_lines-append (steps_words time state front) (steps_words (time + length front) (end_of state front) (flips ∷ []))
    ∙ ap (λ (words : List (List ℕ)). word_lines (steps_words time state front) ++ word_lines words)
    (append-nil (dump_step (time + length front) (end_of state front) flips) ∙ ap (λ (at : ℕ). dump_step (time + at) (end_of state front) flips) long)
    )

pub end-more : (state : List Bool) (steps : List (List ℕ)) (number : ℕ) (flips : List ℕ) → number < length steps → get_or steps number [] ≡ flips →
    state_after flips (end_of state (take number steps)) ≡ end_of state (take (number + 1) steps)
end-more state steps number flips there is =
    sym (
    ap (end_of state) (take_more steps number [] there ∙ ap (λ (last : List ℕ). take number steps ++ last ∷ []) is)
    ∙ end_of-append state (take number steps) (flips ∷ [])
    )

-- the lines of a state and of a run in two parts
pub run-lines : (state : List Bool) (lead cycle : List (List ℕ)) →
    (word_lines (state_words state) ++ word_lines (steps_words 1 state lead)) ++ word_lines (steps_words (1 + length lead) (end_of state lead) cycle)
    ≡ word_lines (state_words state) ++ word_lines (steps_words 1 state (lead ++ cycle))
run-lines state lead cycle =
    append_assoc (word_lines (state_words state)) (word_lines (steps_words 1 state lead)) (word_lines (steps_words (1 + length lead) (end_of state lead) cycle))
    ∙ ap (λ (lines : List ℕ). word_lines (state_words state) ++ lines)
    (sym (word_lines-append (steps_words 1 state lead) (steps_words (1 + length lead) (end_of state lead) cycle))
    ∙ ap word_lines (sym (steps_words-append 1 state lead cycle)))
