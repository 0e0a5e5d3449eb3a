-- The lines and words that are kept, node by node, and what is written of them.
use Rattle.std.proofs.Common.{◌≡◌, ◌∙◌, refl, sym, ap, subst, ℕ, suc, ◌+◌, ◌-◌, ◌<◌, ◌≤◌, Bool, false, List, [], ◌∷◌, ◌++◌, length, map, take, drop, set, get_or, get_or-set_same, length-set, slice_get, Some, append_assoc, arith, codes, add-one}
use Rattle.std.specs.List.{between, flat_map}
use Rattle.std.proofs.Math.Seq.{take-length}
use Rattle.std.proofs.lemmas.List.{take-take, take-append-drop, length-take-le, length-map, map-append, map-set, take_more, take_more_set}
use Rattle.std.proofs.lemmas.List.Edits.{sets-eq, length-between}
use Rattle.std.proofs.lemmas.Option.{get_or_from_slice_get, slice_get-get_or}
use Rattle.std.proofs.lemmas.Slice.{between_is, between_from_start}
use Rattle.hz_core.specs.Netlist.{Netlist, node_name}
use Rattle.hz_write.specs.Writes.{newline}
use Rattle.hz_text.specs.Printed.{letter_of, assignment_text, listed_from}
use Rattle.hz_text.specs.VariableWord.{variable_word}
use Rattle.hz_text.proofs.VariableWords.{variable_word-node}
use Rattle.hz_desk.specs.declared.finding.Row.{Row}
use Rattle.hz_report.specs.Report.{row_line, row_lines, row_text}
use Rattle.hz_report.specs.Kept.{parts_text, AreParts, ArePartsOf, AreRowParts, AreBits, HaveBits, bit_stem}
use Rattle.hz_report.proofs.PartLemmas.{IsUnder, parts-none, parts-more, parts-longer, under-text, length-begins, middle-within, begin-within, begin-at, written-one}

-- the line of one node more, which stays 0
pub row-more : (netlist : Netlist) (node : ℕ) (name text begins text' begins' : List ℕ) → AreRowParts netlist node text begins → slice_get netlist.names node ≡ Some name
    → text' ≡ text ++ (name ++ codes " start 0 A 0 B 0 changes 0 steady\n") → begins' ≡ begins ++ length text' ∷ [] → AreRowParts netlist (node + 1) text' begins'
row-more netlist node name text begins text' begins' parts named longer placed =
    let is : node_name netlist.names node ≡ name = get_or_from_slice_get netlist.names node name [] named in
    parts-more (node_name netlist.names) newline 33 node (codes " start 0 A 0 B 0 changes 0 steady") text begins text' begins' parts refl
    (longer ∙ ap (λ (stem : List ℕ). text ++ (stem ++ codes " start 0 A 0 B 0 changes 0 steady\n")) (sym is)) placed

-- the word of one node more, which is 0
pub bit-more : (netlist : Netlist) (node : ℕ) (name text begins text' begins' : List ℕ) → HaveBits netlist node [] 0 text begins → slice_get netlist.names node ≡ Some name
    → text' ≡ text ++ (codes " " ++ (name ++ codes "=0")) → begins' ≡ begins ++ length text' ∷ [] → HaveBits netlist (node + 1) [] 0 text' begins'
bit-more netlist node name text begins text' begins' have named longer placed =
    let value : Bool → List ℕ = λ bit. letter_of bit ∷ [] in
    let is : node_name netlist.names node ≡ name = get_or_from_slice_get netlist.names node name [] named in
    let word : 32 ∷ (node_name netlist.names node ++ 61 ∷ 48 ∷ []) ≡ bit_stem netlist node ++ ((48 ∷ []) ++ []) =
    ap (λ (list : List ℕ). 32 ∷ list) (sym (append_assoc (node_name netlist.names node) (61 ∷ []) (48 ∷ []))) in
    let more = parts-longer (bit_stem netlist) [] 1 node (map value have.shown) (48 ∷ []) text begins text' begins' have.are refl
    (longer ∙ ap (λ (stem : List ℕ). text ++ (32 ∷ (stem ++ 61 ∷ 48 ∷ []))) (sym is) ∙ ap (λ (list : List ℕ). text ++ list) word) placed in
    record {
      shown = have.shown ++ false ∷ [];
      are = subst (λ (middles : List (List ℕ)). ArePartsOf (bit_stem netlist) [] 1 (node + 1) middles text' begins') (sym (map-append value have.shown (false ∷ []))) more;
      first = refl;
    }

-- no line
pub none-kept : (netlist : Netlist) (rows begins : List ℕ) → rows ≡ [] → begins ≡ 0 ∷ [] → AreRowParts netlist 0 rows begins
none-kept netlist rows begins no_row first = parts-none (node_name netlist.names) newline 33 rows begins no_row first

-- no word
pub none-said : (netlist : Netlist) (text begins : List ℕ) → text ≡ [] → begins ≡ 0 ∷ [] → HaveBits netlist 0 [] 0 text begins
none-said netlist text begins none first = record { shown = []; are = record { long = refl; wide = tt; text_is = none; begins_are = first }; first = refl }

-- a row's line is a part
row-part : (netlist : Netlist) (node : ℕ) (row : Row) → node < length netlist.names → row_line netlist node row ≡ node_name netlist.names node ++ (row_text row ++ newline)
unfolding row_line
row-part netlist node row within =
    append_assoc (variable_word netlist node) (row_text row) newline
    ∙ ap (λ (word : List ℕ). word ++ (row_text row ++ newline)) (variable_word-node netlist node within)

-- rows' lines are parts
pub rows-parts : (netlist : Netlist) (node : ℕ) (rows : List Row) → node + length rows ≤ length netlist.names
    → row_lines netlist node rows ≡ parts_text (node_name netlist.names) newline node (map row_text rows)
rows-parts netlist node [] within = refl
rows-parts netlist node (row ∷ rows) within =
    ap (λ (line : List ℕ). line ++ row_lines netlist (node + 1) rows) (row-part netlist node row (omega (arith, within)))
    ∙ ap (λ (rest : List ℕ). (node_name netlist.names node ++ (row_text row ++ newline)) ++ rest) (rows-parts netlist (node + 1) rows (omega (arith, within)))

-- lines after lines
row_lines-both : (netlist : Netlist) (node : ℕ) (xs ys : List Row) → row_lines netlist node (xs ++ ys) ≡ row_lines netlist node xs ++ row_lines netlist (node + length xs) ys
row_lines-both netlist node [] ys =
    let here : node ≡ node + 0 = omega arith in
    ap (λ (n : ℕ). row_lines netlist n ys) here
row_lines-both netlist node (x ∷ xs) ys =
    let here : (node + 1) + length xs ≡ node + suc (length xs) = omega arith in
    ap (λ (rest : List ℕ). row_line netlist node x ++ rest) (row_lines-both netlist (node + 1) xs ys)
    ∙ sym (append_assoc (row_line netlist node x) (row_lines netlist (node + 1) xs) (row_lines netlist ((node + 1) + length xs) ys))
    ∙ ap (λ (n : ℕ). (row_line netlist node x ++ row_lines netlist (node + 1) xs) ++ row_lines netlist n ys) here

-- the lines before a node, and those from it up to another
pub lines-joined : (netlist : Netlist) (rows : List Row) (from upto : ℕ) → from ≤ upto → upto ≤ length rows
    → row_lines netlist 0 (take from rows) ++ row_lines netlist from (between from upto rows) ≡ row_lines netlist 0 (take upto rows)
lines-joined netlist rows from upto ordered within =
    let few : 0 + length (take from rows) ≡ from = omega (arith, length-take-le from rows (omega (arith, ordered, within))) in
    let cut : take from rows ++ between from upto rows ≡ take upto rows =
    ap (λ (list : List Row). list ++ between from upto rows) (sym (take-take from upto rows ordered))
    ∙ ap (λ (list : List Row). take from (take upto rows) ++ list) (between_is rows from upto)
    ∙ take-append-drop from (take upto rows) in
    ap (λ (n : ℕ). row_lines netlist 0 (take from rows) ++ row_lines netlist n (between from upto rows)) (sym few)
    ∙ sym (row_lines-both netlist 0 (take from rows) (between from upto rows)) ∙ ap (row_lines netlist 0) cut

-- words with bits are parts
pub bits-parts : (netlist : Netlist) (node : ℕ) (bits : List Bool)
    → flat_map (assignment_text netlist) (listed_from node (map Some bits)) ≡ parts_text (bit_stem netlist) [] node (map (λ bit. letter_of bit ∷ []) bits)
bits-parts netlist node [] = refl
bits-parts netlist node (bit ∷ bits) =
    let word : assignment_text netlist (node, bit) ≡ bit_stem netlist node ++ ((letter_of bit ∷ []) ++ []) =
    ap (λ (list : List ℕ). 32 ∷ list) (sym (append_assoc (node_name netlist.names node) (61 ∷ []) (letter_of bit ∷ []))) in
    ap (λ (rest : List ℕ). assignment_text netlist (node, bit) ++ rest) (bits-parts netlist (suc node) bits)
    ∙ ap (λ (n : ℕ). assignment_text netlist (node, bit) ++ parts_text (bit_stem netlist) [] n (map (λ bit. letter_of bit ∷ []) bits)) (sym (add-one node))
    ∙ ap (λ (one : List ℕ). one ++ parts_text (bit_stem netlist) [] (node + 1) (map (λ bit. letter_of bit ∷ []) bits)) word

-- one byte is written over
pub byte-over : (text : List ℕ) (i byte : ℕ) → i < length text → set text i byte ≡ take i text ++ ((byte ∷ []) ++ drop (i + 1) text)
byte-over text i byte within = sets-eq (byte ∷ []) text i (omega (arith, within)) ∙ append_assoc (take i text) (byte ∷ []) (drop (i + 1) text)

-- the word of a node gets a bit
bit-set : (netlist : Netlist) (shown : List Bool) (node byte : ℕ) (bit : Bool) (text begins : List ℕ) → node < length netlist.names → byte ≡ letter_of bit
    → AreBits netlist (length netlist.names) shown text begins
    → AreBits netlist (length netlist.names) (set shown node bit) (set text (get_or begins (node + 1) 0 - 1) byte) begins
bit-set netlist shown node byte bit text begins inside is are =
    let count = length netlist.names in
    let value : Bool → List ℕ = λ bit. letter_of bit ∷ [] in
    let long : length shown ≡ count = sym (length-map shown value) ∙ are.long in
    let within : node < length shown = omega (arith, long, inside) in
    let parts : AreParts (bit_stem netlist) [] 1 count text begins = record { middles = map value shown; are = are } in
    let room = middle-within (bit_stem netlist) [] 1 count text begins node parts inside in
    let end = begin-within (bit_stem netlist) [] 1 count text begins (node + 1) parts (omega (arith, inside)) in
    let next : (get_or begins (node + 1) 0 - 1) + 1 ≡ get_or begins (node + 1) 0 - 0 = omega (arith, room) in
    let first : get_or begins (node + 1) 0 - 1 ≡ get_or begins (node + 1) 0 - 0 - 1 = omega arith in
    let over : set text (get_or begins (node + 1) 0 - 1) byte ≡ take (get_or begins (node + 1) 0 - 0 - 1) text ++ ((byte ∷ []) ++ drop (get_or begins (node + 1) 0 - 0) text) =
    byte-over text (get_or begins (node + 1) 0 - 1) byte (omega (arith, room, end))
    ∙ ap (λ (n : ℕ). take (get_or begins (node + 1) 0 - 1) text ++ ((byte ∷ []) ++ drop n text)) next
    ∙ ap (λ (n : ℕ). take n text ++ ((byte ∷ []) ++ drop (get_or begins (node + 1) 0 - 0) text)) first in
    let there : slice_get (set shown node bit) node ≡ Some bit =
    slice_get-get_or (set shown node bit) node false (omega (arith, within, length-set shown node bit)) ∙ ap Some (set-here shown node bit within) in
    let middles : set (map value shown) node (byte ∷ []) ≡ map value (set shown node bit) =
    ap (λ (n : ℕ). set (map value shown) node (n ∷ [])) is ∙ sym (map-set value shown node bit) in
    let put = written-one value (bit_stem netlist) [] 1 count (set shown node bit) node bit (byte ∷ []) text begins (map value shown) are inside
    (omega (arith, long, length-set shown node bit)) there (ap (λ (n : ℕ). n ∷ []) is) refl in
    subst (λ (list : List ℕ). AreBits netlist count (set shown node bit) list begins) (sym over)
    (subst (λ (list : List (List ℕ)). ArePartsOf (bit_stem netlist) [] 1 count list
    (take (get_or begins (node + 1) 0 - 0 - 1) text ++ ((byte ∷ []) ++ drop (get_or begins (node + 1) 0 - 0) text)) begins) middles put)
  where
    set-here : (values : List Bool) (i : ℕ) (value : Bool) → i < length values → get_or (set values i value) i false ≡ value
    set-here values i value inside = rw get_or-set_same refl

-- how many bits there are
length-shown : (netlist : Netlist) (shown : List Bool) (text begins : List ℕ) → AreBits netlist (length netlist.names) shown text begins → length shown ≡ length netlist.names
length-shown netlist shown text begins are = sym (length-map shown (λ (bit : Bool). letter_of bit ∷ [])) ∙ are.long

-- the word of one node more gets its bit
pub bit-put : (netlist : Netlist) (bits : List Bool) (node byte : ℕ) (text begins : List ℕ) → node < length bits → length bits ≤ length netlist.names → byte ≡ letter_of (get_or bits node false)
    → HaveBits netlist (length netlist.names) bits node text begins
    → HaveBits netlist (length netlist.names) bits (node + 1) (set text (get_or begins (node + 1) 0 - 1) byte) begins
bit-put netlist bits node byte text begins within few is have =
    let bit = get_or bits node false in
    let inside : node < length have.shown = omega (arith, within, few, length-shown netlist have.shown text begins have.are) in
    record {
      shown = set have.shown node bit;
      are = bit-set netlist have.shown node byte bit text begins (omega (arith, within, few)) is have.are;
      first = take_more_set have.shown node bit inside ∙ ap (λ (list : List Bool). list ++ bit ∷ []) have.first ∙ sym (take_more bits node false within);
    }

-- words are parts
words-parts : (netlist : Netlist) (count : ℕ) (bits : List Bool) (upto : ℕ) (text begins : List ℕ) → HaveBits netlist count bits upto text begins
    → AreParts (bit_stem netlist) [] 1 count text begins
words-parts netlist count bits upto text begins have = record { middles = map (λ (bit : Bool). letter_of bit ∷ []) have.shown; are = have.are }

-- how many places there are, and where the bit of a node stands
pub length-places : (netlist : Netlist) (count : ℕ) (bits : List Bool) (upto : ℕ) (text begins : List ℕ) → HaveBits netlist count bits upto text begins → length begins ≡ count + 1
length-places netlist count bits upto text begins have = length-begins (bit_stem netlist) [] 1 count text begins (words-parts netlist count bits upto text begins have)

pub bit-room : (netlist : Netlist) (count : ℕ) (bits : List Bool) (upto node : ℕ) (text begins : List ℕ) → node < count → HaveBits netlist count bits upto text begins
    → 1 ≤ get_or begins (node + 1) 0
bit-room netlist count bits upto node text begins inside have =
    middle-within (bit_stem netlist) [] 1 count text begins node (words-parts netlist count bits upto text begins have) inside

pub bit-end : (netlist : Netlist) (count : ℕ) (bits : List Bool) (upto node : ℕ) (text begins : List ℕ) → node ≤ count → HaveBits netlist count bits upto text begins
    → get_or begins node 0 ≤ length text
bit-end netlist count bits upto node text begins inside have =
    begin-within (bit_stem netlist) [] 1 count text begins node (words-parts netlist count bits upto text begins have) inside

-- the words of the first nodes
pub words-front : (netlist : Netlist) (bits : List Bool) (text begins : List ℕ) → HaveBits netlist (length netlist.names) bits (length bits) text begins → length bits ≤ length netlist.names
    → take (get_or begins (length bits) 0) text ≡ flat_map (assignment_text netlist) (listed_from 0 (map Some bits))
words-front netlist bits text begins have within =
    let shown = have.shown in
    let are = have.are in
    let count = length netlist.names in
    let value : Bool → List ℕ = λ bit. letter_of bit ∷ [] in
    let upto = length bits in
    let long = length-shown netlist shown text begins are in
    let front : between 0 upto shown ≡ bits = between_from_start shown upto ∙ have.first ∙ take-length bits in
    let cut : map value shown ≡ map value (between 0 upto shown) ++ map value (drop upto shown) =
    ap (map value) (sym (take-append-drop upto shown)) ∙ map-append value (take upto shown) (drop upto shown)
    ∙ ap (λ (list : List Bool). map value list ++ map value (drop upto shown)) (sym (between_from_start shown upto)) in
    let under : IsUnder value (bit_stem netlist) [] 1 count shown 0 upto text begins =
    record {
      ahead = [];
      left = map value (drop upto shown);
      long = refl;
      ordered = omega arith;
      are = subst (λ (list : List (List ℕ)). ArePartsOf (bit_stem netlist) [] 1 count list text begins) cut are;
    } in
    let parts = under-text value (bit_stem netlist) [] 1 count shown 0 upto text begins under within (omega (arith, long)) in
    let first : get_or begins 0 0 ≡ 0 = begin-at (bit_stem netlist) [] 1 count (map value shown) text begins 0 are (omega arith) in
    let whole : between (get_or begins 0 0) (get_or begins upto 0) text ≡ take (get_or begins upto 0) text =
    ap (λ (n : ℕ). between n (get_or begins upto 0) text) first ∙ between_from_start text (get_or begins upto 0) in
    sym whole ∙ parts ∙ ap (λ (list : List Bool). parts_text (bit_stem netlist) [] 0 (map value list)) front ∙ sym (bits-parts netlist 0 bits)

-- what is kept from one node up to another, if its rows are written over it
pub kept-lines : (netlist : Netlist) (rows : List Row) (from upto : ℕ) (text begins : List ℕ) → length netlist.names ≤ length rows → upto ≤ length netlist.names
    → IsUnder row_text (node_name netlist.names) newline 33 (length netlist.names) rows from upto text begins
    → between (get_or begins from 0) (get_or begins upto 0) text ≡ row_lines netlist from (between from upto rows)
kept-lines netlist rows from upto text begins enough within under =
    let count = length netlist.names in
    let few : from + length (between from upto rows) ≤ count =
    omega (arith, under.ordered, within, length-between rows from upto (omega (arith, within, enough))) in
    under-text row_text (node_name netlist.names) newline 33 count rows from upto text begins under within enough
    ∙ sym (rows-parts netlist from (between from upto rows) few)
