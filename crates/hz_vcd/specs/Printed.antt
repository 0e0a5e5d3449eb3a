-- The text of a dump as it is written: without blocks, and one space between the words of a line.
use Rattle.std.specs.Prelude.{ℕ, Bool, List, [], ◌∷◌, ◌++◌, codes}
use Rattle.std.specs.List.{flat_map, range_with_len}
use Rattle.hz_core.specs.Netlist.{Netlist}
use Rattle.hz_vcd.specs.Dump.{variables_of, end_word, declaration_of, state_words, steps_words}

-- a line of words, with one space between two
abbrev pub dump_line : List (List ℕ) → List ℕ
dump_line [] = 10 ∷ []
dump_line (word ∷ words) = word ++ flat_map (λ later. 32 ∷ later) words ++ 10 ∷ []

-- a word on a line of its own
abbrev pub word_line : List ℕ → List ℕ
word_line word = word ++ 10 ∷ []

-- words, each on a line of its own
abbrev pub word_lines : List (List ℕ) → List ℕ
word_lines words = flat_map word_line words

-- the line that declares a variable
abbrev pub declaration_line : Netlist → ℕ → List ℕ
declaration_line netlist var = dump_line (declaration_of netlist var)

-- the lines of the head: one for each command
unfoldable pub dump_head : Netlist → List ℕ
dump_head netlist =
    dump_line (codes "$timescale" ∷ codes "1" ∷ codes "ns" ∷ end_word ∷ [])
    ++ dump_line (codes "$scope" ∷ codes "module" ∷ codes "hazard" ∷ end_word ∷ [])
    ++ flat_map (declaration_line netlist) (range_with_len 0 (variables_of netlist))
    ++ dump_line (codes "$upscope" ∷ end_word ∷ [])
    ++ dump_line (codes "$enddefinitions" ∷ end_word ∷ [])

-- the text of a dump: the lines of its head, and then each word on a line of its own
unfoldable pub dump_text : Netlist → List Bool → List (List ℕ) → List ℕ
dump_text netlist state steps =
    dump_head netlist ++ word_lines (state_words state) ++ word_lines (steps_words 1 state steps)
