-- The lines of a printed script are read as its statements.
use Rattle.std.proofs.Common.{◌≡◌, ◌∙◌, ℕ, ◌<◌, Bool, true, List, [], ◌∷◌, ◌++◌, Some, suc, length, map, codes, refl, ap, arith, append_assoc}
use Rattle.std.specs.List.{list_all, flat_map}
use Rattle.std.proofs.lemmas.List.Folds.{list_all-append}
use Rattle.hz_core.specs.Netlist.{Netlist, IsCircuit}
use Rattle.hz_line.specs.Byte.{class_of, is_word_byte}
use Rattle.hz_line.specs.Line.{lines_of}
use Rattle.hz_line.specs.Token.{WordOf, tokens_of, with_token}
use Rattle.hz_line.specs.Statement.{meaning_of, Means, numbered_from, with_meaning, first_malformed, malformed_before}
use Rattle.hz_line.proofs.WrittenLemmas.{tokens_of-word_before, is_inline, lines_of-written}
use Rattle.hz_script.specs.Statement.{Keyword, Start, Change, ScriptStatement, keyword_of, script_statement_of}
use Rattle.hz_text.specs.Printed.{assignment_text, statement_text}
use Rattle.hz_text.proofs.WordLaws.{pair_tokens, AreNodes, no_word, pairs_read, pairs_inline, spelled, assignments_read}

-- the keyword of a statement, spelled
abbrev pub keyword_text : Keyword → List ℕ
keyword_text Start = codes "start"
keyword_text Change = codes "change"

keyword_facts : (keyword : Keyword) → (keyword_of (keyword_text keyword) ≡ Some keyword) × (list_all is_word_byte (keyword_text keyword) ≡ true) × (list_all is_inline (keyword_text keyword) ≡ true) × (0 < length (keyword_text keyword))
unfolding keyword_of class_of
keyword_facts Start = (refl, refl, refl, omega arith)
keyword_facts Change = (refl, refl, refl, omega arith)

-- the statement of a keyword and pairs
abbrev pub stated : Netlist → Keyword → List (ℕ × Bool) → ScriptStatement
stated netlist keyword pairs = record { keyword = keyword; assignments = map (spelled netlist) pairs }

-- the bytes of a line before its line feed
abbrev pub body : Netlist → Keyword → List (ℕ × Bool) → List ℕ
body netlist keyword pairs = keyword_text keyword ++ flat_map (assignment_text netlist) pairs

line_tokens : (netlist : Netlist) (keyword : Keyword) (pairs : List (ℕ × Bool)) → IsCircuit netlist → AreNodes netlist pairs → tokens_of (body netlist keyword pairs) ≡ Some (WordOf (keyword_text keyword) ∷ pair_tokens netlist pairs)
line_tokens netlist keyword pairs whole h =
    let facts = keyword_facts keyword in
    tokens_of-word_before (keyword_text keyword) (flat_map (assignment_text netlist) pairs) facts.3 facts.1 (no_word netlist pairs) ∙ ap (with_token (WordOf (keyword_text keyword))) (pairs_read netlist pairs whole h)

line_meaning : (netlist : Netlist) (keyword : Keyword) (pairs : List (ℕ × Bool)) → IsCircuit netlist → AreNodes netlist pairs → meaning_of script_statement_of (body netlist keyword pairs) ≡ Means (stated netlist keyword pairs)
line_meaning netlist keyword pairs whole h =
    rw (line_tokens netlist keyword pairs whole h, (keyword_facts keyword).0, assignments_read netlist pairs) refl

line_inline : (netlist : Netlist) (keyword : Keyword) (pairs : List (ℕ × Bool)) → IsCircuit netlist → AreNodes netlist pairs → list_all is_inline (body netlist keyword pairs) ≡ true
line_inline netlist keyword pairs whole h =
    rw (list_all-append is_inline (keyword_text keyword) (flat_map (assignment_text netlist) pairs), (keyword_facts keyword).2, pairs_inline netlist pairs whole h) refl

-- a printed line before other lines
pub lines_of-statement : (netlist : Netlist) (keyword : Keyword) (pairs : List (ℕ × Bool)) (rest : List ℕ) → IsCircuit netlist → AreNodes netlist pairs → lines_of (statement_text netlist (keyword_text keyword) pairs ++ rest) ≡ body netlist keyword pairs ∷ lines_of rest
unfolding statement_text
lines_of-statement netlist keyword pairs rest whole h =
    ap lines_of (append_assoc (body netlist keyword pairs) (10 ∷ []) rest) ∙ lines_of-written (body netlist keyword pairs) rest (line_inline netlist keyword pairs whole h)

pub numbered-statement : (netlist : Netlist) (keyword : Keyword) (pairs : List (ℕ × Bool)) (rest : List ℕ) (line : ℕ) → IsCircuit netlist → AreNodes netlist pairs → numbered_from script_statement_of line (lines_of (statement_text netlist (keyword_text keyword) pairs ++ rest)) ≡ record { line = line; statement = stated netlist keyword pairs } ∷ numbered_from script_statement_of (suc line) (lines_of rest)
numbered-statement netlist keyword pairs rest line whole h =
    ap (numbered_from script_statement_of line) (lines_of-statement netlist keyword pairs rest whole h)
    ∙ ap (λ meaning. with_meaning line meaning (numbered_from script_statement_of (suc line) (lines_of rest))) (line_meaning netlist keyword pairs whole h)

pub formed-statement : (netlist : Netlist) (keyword : Keyword) (pairs : List (ℕ × Bool)) (rest : List ℕ) (line : ℕ) → IsCircuit netlist → AreNodes netlist pairs → first_malformed script_statement_of line (lines_of (statement_text netlist (keyword_text keyword) pairs ++ rest)) ≡ first_malformed script_statement_of (suc line) (lines_of rest)
formed-statement netlist keyword pairs rest line whole h =
    ap (first_malformed script_statement_of line) (lines_of-statement netlist keyword pairs rest whole h)
    ∙ ap (λ meaning. malformed_before line meaning (first_malformed script_statement_of (suc line) (lines_of rest))) (line_meaning netlist keyword pairs whole h)
