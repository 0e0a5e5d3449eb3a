-- The first answer of the passes over a script is its least fault.
use Rattle.std.proofs.Common.{◌≡◌, ◌∙◌, ℕ, ◌+◌, ◌<◌, ◌≤◌, Bool, true, false, not, ◌||◌, cond, List, [], ◌∷◌, Option, Some, None, suc, filter, refl, ap, sym, subst, inl, inr, arith}
use Rattle.std.specs.Prelude.{◌⊎◌}
use Rattle.std.proofs.lemmas.Option.{same_Some}
use Rattle.hz_core.specs.Netlist.{Netlist, primary_inputs}
use Rattle.hz_lists.specs.Least.{IsLeastOf}
use Rattle.hz_line.specs.Line.{lines_of}
use Rattle.hz_line.specs.Statement.{Numbered, PassesOn, first_passing_line, numbered_statements, first_malformed}
use Rattle.hz_line.proofs.StatementLemmas.{Ascends, numbered_from-Ascends, PassesOn-above, first_passing_line-Some, first_passing_line-None, numbered_from-map}
use Rattle.hz_script.specs.Statement.{script_statement_of, script_statements_of}
use Rattle.hz_script.specs.Resolution.{ResolvedStatement, resolve_statement, resolve_tokens}
use Rattle.hz_script.specs.ScriptFault.{resolved_statements, allowed_in, has_unknown, has_twice, has_no_bit, is_start, IsMissing, IsOutOfOrder, line_beyond, HasScriptFault, IsScriptFaultless}
use Rattle.hz_text.specs.Rules.{least_unassigned, first_fault_of}
use Rattle.hz_script.specs.ScriptRules.{has_node_twice, least_missing, first_out_of_order, last_beyond, script_rules, first_script_fault}
use Rattle.hz_text.proofs.LeastFault.{unanswered, Outcome, answers_first, answers_itself, OneMismatch}
use Rattle.hz_text.proofs.TextLaws.{Judged, looked-Ascends, answers_malformed, text-outcome, twice-line}
use Rattle.hz_text.proofs.PassLaws.{unassigned-Some, unassigned-None, true-false, known, twice-names}

-- the statements that the reader reads are those of the text, looked up
pub resolved_statements-read : (netlist : Netlist) (text : List ℕ) → numbered_statements (resolve_tokens netlist) text ≡ resolved_statements netlist text
resolved_statements-read netlist text = numbered_from-map (resolve_statement netlist) script_statement_of 1 (lines_of text)

missing-Some : (inputs : ℕ) (statements : List (Numbered ResolvedStatement)) (node : ℕ) → least_missing inputs statements ≡ Some node → IsMissing inputs statements node × ((other : ℕ) → IsMissing inputs statements other → node ≤ other)
missing-Some inputs [] node e = cc
missing-Some inputs (first ∷ later) node e = by_test (is_start first.statement) refl e
  where
    by_test : (b : Bool) → is_start first.statement ≡ b → cond b (least_unassigned inputs first.statement.assigned) None ≡ Some node → IsMissing inputs (first ∷ later) node × ((other : ℕ) → IsMissing inputs (first ∷ later) other → node ≤ other)
    by_test true t w =
        let h = unassigned-Some inputs first.statement.assigned node w in
        ((t, h.below, h.unassigned), λ other p. h.least other p.1 p.2)
    by_test false t w = cc

missing-None : (inputs : ℕ) (statements : List (Numbered ResolvedStatement)) → least_missing inputs statements ≡ None → (node : ℕ) → IsMissing inputs statements node → ⊥
missing-None inputs [] e node p = p
missing-None inputs (first ∷ later) e node p = true-false (sym (unassigned-None inputs first.statement.assigned (rw p.0 at e) node p.1) ∙ p.2)

answers_missing : (inputs : ℕ) (statements : List (Numbered ResolvedStatement)) (answer : Option ℕ) → least_missing inputs statements ≡ answer → IsLeastOf (IsMissing inputs statements) answer
answers_missing inputs statements None e = missing-None inputs statements e
answers_missing inputs statements (Some node) e = let at = missing-Some inputs statements node e in record { here = at.0; least = at.1 }

order-Some : (statements : List (Numbered ResolvedStatement)) (low line : ℕ) → Ascends low statements → first_out_of_order statements ≡ Some line → IsOutOfOrder statements line × ((other : ℕ) → IsOutOfOrder statements other → line ≤ other)
order-Some [] low line h e = (sym (same_Some 0 line e), λ other p. omega (arith, same_Some 0 line e))
order-Some (first ∷ later) low line h e = by_test (is_start first.statement) refl e
  where
    by_test : (b : Bool) → is_start first.statement ≡ b → cond b (first_passing_line is_start later) (Some first.line) ≡ Some line → IsOutOfOrder (first ∷ later) line × ((other : ℕ) → IsOutOfOrder (first ∷ later) other → line ≤ other)
    by_test true t w =
        let is = first_passing_line-Some is_start later (suc first.line) line h.1 w in (
          inr is.passes,
          λ other p. elim p [
            | inl q ↦ (elim q [ inl at ↦ absurd (true-false (sym (at.1) ∙ ap not t)) | inr none ↦ absurd none ])
            | inr q ↦ is.least other q
          ],
        )
    by_test false t w =
        let same : first.line ≡ line = same_Some first.line line w in (
          inl (inl (same, ap not t)),
          λ other p. elim p [
            | inl q ↦ (elim q [ inl at ↦ omega (arith, same, at.0) | inr none ↦ absurd none ])
            | inr q ↦ omega (arith, same, PassesOn-above is_start later (suc first.line) other h.1 q)
          ],
        )

-- statements in order: a start, and no start after it
abbrev pub IsOrdered : List (Numbered ResolvedStatement) → Type 0
IsOrdered [] = ⊥
IsOrdered (first ∷ later) = (is_start first.statement ≡ true) × (first_passing_line is_start later ≡ None)

pub order-None : (statements : List (Numbered ResolvedStatement)) → first_out_of_order statements ≡ None → IsOrdered statements
order-None [] e = cc
order-None (first ∷ later) e = by_test (is_start first.statement) refl e
  where
    by_test : (b : Bool) → is_start first.statement ≡ b → cond b (first_passing_line is_start later) (Some first.line) ≡ None → (is_start first.statement ≡ true) × (first_passing_line is_start later ≡ None)
    by_test true t w = (t, w)
    by_test false t w = cc

ordered-none : (statements : List (Numbered ResolvedStatement)) → IsOrdered statements → (line : ℕ) → IsOutOfOrder statements line → ⊥
ordered-none [] h line p = h
ordered-none (first ∷ later) h line (inl (inl at)) = true-false (sym at.1 ∙ ap not h.0)
ordered-none (first ∷ later) h line (inl (inr none)) = none
ordered-none (first ∷ later) h line (inr q) = first_passing_line-None is_start later h.1 line q

answers_order : (statements : List (Numbered ResolvedStatement)) (answer : Option ℕ) → Ascends 1 statements → first_out_of_order statements ≡ answer → IsLeastOf (IsOutOfOrder statements) answer
answers_order statements None up e = ordered-none statements (order-None statements e)
answers_order statements (Some line) up e = let at = order-Some statements 1 line up e in record { here = at.0; least = at.1 }

filter-changes : (statements : List (Numbered ResolvedStatement)) → first_passing_line is_start statements ≡ None → filter (λ numbered. not (is_start numbered.statement)) statements ≡ statements
filter-changes [] e = refl
filter-changes (first ∷ later) e = by_test (is_start first.statement) refl (filter-changes later)
  where
    by_test : (b : Bool) → is_start first.statement ≡ b → (first_passing_line is_start later ≡ None → filter (λ numbered. not (is_start numbered.statement)) later ≡ later) → filter (λ numbered. not (is_start numbered.statement)) (first ∷ later) ≡ first ∷ later
    by_test true t ih = let wrong : Some first.line ≡ None = rw t at e in cc
    by_test false t ih = rw t (ap (λ rest. first ∷ rest) (ih (rw t at e)))

pub line_beyond-ordered : (statements : List (Numbered ResolvedStatement)) → IsOrdered statements → line_beyond statements ≡ last_beyond statements
line_beyond-ordered [] h = absurd h
line_beyond-ordered (first ∷ later) h =
    rw (h.0, filter-changes later h.1) refl

-- a script tells no count
pub one-mismatch : (netlist : Netlist) (text : List ℕ) → OneMismatch (HasScriptFault netlist text)
one-mismatch netlist text = λ line told real other_line other_told other_real s t. absurd s

-- each pass answers the least place of its fault
judged : (netlist : Netlist) (text : List ℕ) → Judged (HasScriptFault netlist text) (script_rules netlist.inputs (primary_inputs netlist)) (first_malformed (resolve_tokens netlist) 1 (lines_of text)) (resolved_statements netlist text)
judged netlist text =
    let inputs = netlist.inputs in
    let looked = resolved_statements netlist text in
    let up = looked-Ascends (resolve_statement netlist) script_statement_of text in
    let P : Option ℕ → Type 0 = λ answer. IsLeastOf (λ place. line_beyond looked ≡ Some place) answer in
    let Q : Option ℕ → Type 0 = IsLeastOf (PassesOn has_twice (script_statements_of text)) in
    record {
      form = answers_malformed (resolve_statement netlist) script_statement_of text;
      unknown = answers_first (has_unknown inputs) looked (first_passing_line (has_unknown inputs) looked) up refl;
      twice = λ known.
          let same = twice-line (resolve_statement netlist) (has_unknown inputs) has_node_twice has_twice
          (λ statement. twice-names netlist (allowed_in statement.keyword) statement.assignments) (script_statements_of text) known in
          subst Q (sym same) (answers_first has_twice (script_statements_of text) (first_passing_line has_twice (script_statements_of text)) (numbered_from-Ascends script_statement_of 1 (lines_of text)) refl);
      missing = answers_missing (primary_inputs netlist) looked (least_missing (primary_inputs netlist) looked) refl;
      bit = answers_first has_no_bit looked (first_passing_line has_no_bit looked) up refl;
      order = answers_order looked (first_out_of_order looked) up refl;
      beyond = λ none. subst P (line_beyond-ordered looked (order-None looked none)) (answers_itself (line_beyond looked));
      mismatch = λ line told real stands. stands;
      one = one-mismatch netlist text;
      memory = λ stands. stands;
    }

-- what the reader and the passes answer over a text
pub script-outcome : (netlist : Netlist) (text : List ℕ) → Outcome (HasScriptFault netlist text) (first_fault_of (resolve_tokens netlist) (script_rules netlist.inputs (primary_inputs netlist)) text)
script-outcome netlist text = text-outcome (resolve_statement netlist) script_statement_of text (script_rules netlist.inputs (primary_inputs netlist)) (HasScriptFault netlist text) (judged netlist text)

-- where no line is malformed and no pass has an answer
pub clear-faultless : (netlist : Netlist) (text : List ℕ) → first_malformed (resolve_tokens netlist) 1 (lines_of text) ≡ None → first_script_fault netlist.inputs (primary_inputs netlist) (resolved_statements netlist text) ≡ None → IsScriptFaultless netlist text
clear-faultless netlist text formed clear = unanswered (HasScriptFault netlist text) _ (script-outcome netlist text) (rw (formed, resolved_statements-read netlist text, clear) refl)
