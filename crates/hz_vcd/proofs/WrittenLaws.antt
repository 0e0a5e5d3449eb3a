-- What is written is a dump.
use Rattle.std.proofs.Common.{◌≡◌, ◌∙◌, ℕ, suc, ◌+◌, ◌<◌, ◌^◌, Bool, true, false, not, List, [], ◌∷◌, ◌++◌, map, length, get_or, refl, sym, ap, subst, arith, codes}
use Rattle.std.specs.List.{flat_map, range_with_len, All}
use Rattle.std.proofs.lemmas.List.{map-append}
use Rattle.std.proofs.lemmas.List.Elements.{All-nil, All-cons, All-append, All-from_get_or}
use Rattle.std.proofs.lemmas.List.FromFn.{length-range_with_len, get_or-range_with_len}
use Rattle.hz_core.specs.Netlist.{Netlist, IsCircuit}
use Rattle.hz_net.specs.Network.{bit_at}
use Rattle.hz_gmw.specs.Runs.{state_after}
use Rattle.hz_vcd.specs.Code.{code_of}
use Rattle.hz_vcd.specs.Word.{words_of}
use Rattle.hz_vcd.specs.Dump.{variables_of, end_word, declaration_of, reference_of, Place, fixed, command, head_places, MayStand, StandAt, value_word, time_word, state_words, steps_words, AreFlips, IsDump, IsBlock}
use Rattle.hz_vcd.specs.Printed.{dump_line, word_lines, dump_head, dump_text}
use Rattle.hz_vcd.proofs.WordLemmas.{IsWord, Spells, Spells-append, Spells-each, Spells-line, Spells-word_lines, Spells-words}
use Rattle.hz_vcd.proofs.WrittenWords.{IsWord-code, IsWord-value, IsWord-time, IsWord-reference}

-- the words at places, without blocks
abbrev pub plain : List Place → List (List ℕ)
plain places = map (λ place. place.word) places

no_block : (after_blocks : Bool) → MayStand after_blocks []
no_block true = All-nil IsBlock
no_block false = refl

-- they stand there
pub StandAt-plain : (places : List Place) → StandAt places (plain places)
StandAt-plain [] = refl
StandAt-plain (place ∷ places) = ([], plain places, no_block place.after_blocks, refl, StandAt-plain places)

plain-fixed : (words : List (List ℕ)) → plain (map fixed words) ≡ words
plain-fixed [] = refl
plain-fixed (word ∷ words) = ap (λ (later : List (List ℕ)). word ∷ later) (plain-fixed words)

plain-command : (first : List ℕ) (later : List (List ℕ)) → plain (command first later) ≡ first ∷ later
plain-command first later = ap (λ (words : List (List ℕ)). first ∷ words) (plain-fixed later)

-- the words of a list of two, and so on
two-words : (a b : List ℕ) → IsWord a → IsWord b → All IsWord (a ∷ b ∷ [])
two-words a b p q = All-cons IsWord a (b ∷ []) p (All-cons IsWord b [] q (All-nil IsWord))

four-words : (a b c d : List ℕ) → IsWord a → IsWord b → IsWord c → IsWord d → All IsWord (a ∷ b ∷ c ∷ d ∷ [])
four-words a b c d p q r s = All-cons IsWord a (b ∷ c ∷ d ∷ []) p (All-cons IsWord b (c ∷ d ∷ []) q (two-words c d r s))

pub declaration-words : (netlist : Netlist) (var : ℕ) → IsCircuit netlist → var < variables_of netlist → All IsWord (declaration_of netlist var)
declaration-words netlist var circuit there =
    let code = code_of var in
    let name = reference_of netlist var in
    All-cons IsWord (codes "$var") (codes "wire" ∷ codes "1" ∷ code ∷ name ∷ end_word ∷ []) (record { filled = refl; dark = refl })
    (All-cons IsWord (codes "wire") (codes "1" ∷ code ∷ name ∷ end_word ∷ []) (record { filled = refl; dark = refl })
    (four-words (codes "1") code name end_word (record { filled = refl; dark = refl }) (IsWord-code var) (IsWord-reference netlist var circuit there) (record { filled = refl; dark = refl })))

-- the numbers of a range are below its end
range-below : (count : ℕ) → All (λ i. i < count) (range_with_len 0 count)
range-below count =
    let P : ℕ → Type 0 = λ i. i < count in
    All-from_get_or P (range_with_len 0 count) 0 (λ i inside.
    let within : i < count = omega (arith, inside, length-range_with_len 0 count) in
    omega (arith, get_or-range_with_len 0 count i 0 within, within))

head-spells : (netlist : Netlist) → IsCircuit netlist → Spells (dump_head netlist) (plain (head_places netlist))
unfolding dump_head head_places
head-spells netlist circuit =
    let numbers = range_with_len 0 (variables_of netlist) in
    let P : ℕ → Type 0 = λ var. Spells (dump_line (declaration_of netlist var)) (declaration_of netlist var) in
    let unit = codes "$timescale" ∷ codes "1" ∷ codes "ns" ∷ end_word ∷ [] in
    let scope = codes "$scope" ∷ codes "module" ∷ codes "hazard" ∷ end_word ∷ [] in
    let declarations = flat_map (declaration_of netlist) numbers in
    let up = codes "$upscope" ∷ end_word ∷ [] in
    let last = codes "$enddefinitions" ∷ end_word ∷ [] in
    let unit_line = Spells-line unit (four-words (codes "$timescale") (codes "1") (codes "ns") end_word (record { filled = refl; dark = refl }) (record { filled = refl; dark = refl }) (record { filled = refl; dark = refl }) (record { filled = refl; dark = refl })) in
    let scope_line = Spells-line scope (four-words (codes "$scope") (codes "module") (codes "hazard") end_word (record { filled = refl; dark = refl }) (record { filled = refl; dark = refl }) (record { filled = refl; dark = refl }) (record { filled = refl; dark = refl })) in
    let each : All P numbers = λ k d inside. Spells-line (declaration_of netlist (get_or numbers k d)) (declaration-words netlist (get_or numbers k d) circuit (range-below (variables_of netlist) k d inside)) in
    let lines = Spells-each (λ var. dump_line (declaration_of netlist var)) (declaration_of netlist) numbers each in
    let up_line = Spells-line up (two-words (codes "$upscope") end_word (record { filled = refl; dark = refl }) (record { filled = refl; dark = refl })) in
    let last_line = Spells-line last (two-words (codes "$enddefinitions") end_word (record { filled = refl; dark = refl }) (record { filled = refl; dark = refl })) in
    let lines_text = flat_map (λ var. dump_line (declaration_of netlist var)) numbers in
    let one = Spells-append (dump_line unit) (dump_line scope) unit scope unit_line scope_line in
    let two = Spells-append (dump_line unit ++ dump_line scope) lines_text (unit ++ scope) declarations one lines in
    let three = Spells-append (dump_line unit ++ dump_line scope ++ lines_text) (dump_line up) (unit ++ scope ++ declarations) up two up_line in
    let whole = Spells-append (dump_line unit ++ dump_line scope ++ lines_text ++ dump_line up) (dump_line last) (unit ++ scope ++ declarations ++ up) last three last_line in
    subst (Spells (dump_head netlist)) (sym (words-are declarations)) whole
  where
    words-are : (declarations : List (List ℕ)) →
        plain (command (codes "$timescale") (codes "1" ∷ codes "ns" ∷ end_word ∷ [])
        ++ command (codes "$scope") (codes "module" ∷ codes "hazard" ∷ end_word ∷ [])
        ++ map fixed declarations ++ command (codes "$upscope") (end_word ∷ []) ++ command (codes "$enddefinitions") (end_word ∷ []))
        ≡ (codes "$timescale" ∷ codes "1" ∷ codes "ns" ∷ end_word ∷ [])
        ++ (codes "$scope" ∷ codes "module" ∷ codes "hazard" ∷ end_word ∷ [])
        ++ declarations ++ (codes "$upscope" ∷ end_word ∷ []) ++ (codes "$enddefinitions" ∷ end_word ∷ [])
    words-are declarations =
        let word_of : Place → List ℕ = λ place. place.word in
        let up = command (codes "$upscope") (end_word ∷ []) in
        let last = command (codes "$enddefinitions") (end_word ∷ []) in
        let later : plain (map fixed declarations ++ up ++ last) ≡ declarations ++ plain up ++ plain last =
        map-append word_of (map fixed declarations ++ up) last
        ∙ ap (λ (front : List (List ℕ)). front ++ plain last)
        (map-append word_of (map fixed declarations) up ∙ ap (λ (front : List (List ℕ)). front ++ plain up) (plain-fixed declarations)) in
        ap (λ (words : List (List ℕ)).
        codes "$timescale" ∷ codes "1" ∷ codes "ns" ∷ end_word ∷ codes "$scope" ∷ codes "module" ∷ codes "hazard" ∷ end_word ∷ words) later

value-words : (bit : ℕ → Bool) (vars : List ℕ) → All IsWord (map (λ var. value_word var (bit var)) vars)
value-words bit [] = All-nil IsWord
value-words bit (var ∷ vars) = All-cons IsWord (value_word var (bit var)) (map (λ var. value_word var (bit var)) vars) (IsWord-value var (bit var)) (value-words bit vars)

state-words : (state : List Bool) → All IsWord (state_words state)
state-words state =
    let values = map (λ var. value_word var (bit_at state var)) (range_with_len 0 (length state)) in
    All-cons IsWord (time_word 0) (codes "$dumpvars" ∷ values ++ end_word ∷ []) (IsWord-time 0 (omega arith))
    (All-cons IsWord (codes "$dumpvars") (values ++ end_word ∷ []) (record { filled = refl; dark = refl })
    (All-append IsWord values (end_word ∷ []) (value-words (bit_at state) (range_with_len 0 (length state)))
    (All-cons IsWord end_word [] (record { filled = refl; dark = refl }) (All-nil IsWord))))

steps-are-words : (time : ℕ) (state : List Bool) (steps : List (List ℕ)) → time + length steps < 2 ^ 64 → All IsWord (steps_words time state steps)
steps-are-words time state [] few = All-nil IsWord
steps-are-words time state (flips ∷ steps) few =
    let changes = map (λ var. value_word var (not (bit_at state var))) flips in
    let later = steps_words (suc time) (state_after flips state) steps in
    All-append IsWord (time_word time ∷ changes) later
    (All-cons IsWord (time_word time) changes (IsWord-time time (omega (arith, few))) (value-words (λ var. not (bit_at state var)) flips))
    (steps-are-words (suc time) (state_after flips state) steps (omega (arith, few)))

-- what is written is a dump that means the state and the steps
pub written_is_dump :
    (netlist : Netlist) (state : List Bool) (steps : List (List ℕ)) → IsCircuit netlist → length state ≡ variables_of netlist →
    All (AreFlips (variables_of netlist)) steps → length steps < 2 ^ 32 → IsDump netlist (words_of (dump_text netlist state steps)) state steps
unfolding dump_text
written_is_dump netlist state steps circuit long flips few =
    let head = plain (head_places netlist) in
    let values = state_words state in
    let changes = steps_words 1 state steps in
    let front = Spells-append (dump_head netlist) (word_lines values) head values (head-spells netlist circuit) (Spells-word_lines values (state-words state)) in
    let whole = Spells-append (dump_head netlist ++ word_lines values) (word_lines changes) (head ++ values) changes front
    (Spells-word_lines changes (steps-are-words 1 state steps (omega (arith, few)))) in
    record {
      head = head;
      is_head = StandAt-plain (head_places netlist);
      long = long;
      flips = flips;
      are = Spells-words (dump_text netlist state steps) (head ++ state_words state ++ steps_words 1 state steps) whole;
    }
