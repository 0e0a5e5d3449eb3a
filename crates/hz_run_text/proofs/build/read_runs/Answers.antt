use Rattle.std.proofs.Common.{◌≡◌, ◌∙◌, ◌+◌, ◌++◌, ◌∷◌, [], List, Option, Some, None, false, drop, ap, sym, refl, subst, append_assoc}
use Rattle.std.specs.List.{flat_map, list_any}
use Rattle.std.specs.Option.{is_none, IsSome}
use Rattle.std.proofs.lemmas.List.{drop_all}
use Rattle.std.proofs.lemmas.Option.{none-some}
use Rattle.hz_line.specs.Statement.{Numbered}
use Rattle.hz_run_text.specs.declared.order.Place.{Place}
use Rattle.hz_run_text.specs.RunResolution.{RunEntry, ResolvedRunStatement, numbered_run_resolution, numbered_run_resolutions, run_resolution_of}
use Rattle.hz_run_text.specs.RunStatement.{End}
use Rattle.hz_run_text.specs.RunFault.{variables_in}
use Rattle.hz_run_text.specs.RunOrder.{line_at_stop, first_misplaced}
use Rattle.hz_run_text.specs.RunText.{run_statements, statements_without_lines}
use Rattle.hz_run_text.specs.RunBuilt.{last_place}
use Rattle.hz_run_text.proofs.OrderLaws.{next_in_order}
use Rattle.hz_run_text.proofs.RunBuildLaws.{among, entries-at, run_line, ended}
use Rattle.hz_run_text.proofs.build.read_runs.Goals as goal

pub returns-then-is_end : goal.returns-then-is_end
returns-then-is_end c =
    let entries = c.args.entries.now in
    let i = c.loop-entry.entry-index in
    let entry = c.entry-item.result in
    let runs = c.loop-entry.runs in
    let rest = numbered_run_resolutions (drop (i + 1) entries) in
    let at = entries-at entries i entry c.loop-entry-test.true c.entry-item.is in
    let P : List (Numbered ResolvedRunStatement) → Type 0 = λ statements. first_misplaced (last_place runs) statements ≡ None in
    c.loop-entry.invariant.read
    ∙ ap (λ statements. flat_map run_statements runs ++ statements_without_lines statements) at
    ∙ ap (λ statements. flat_map run_statements runs ++ statements)
    (ended runs (numbered_run_resolution entry) rest (sym c.is_end.ensures ∙ c.if-is_end.true) (subst P at c.loop-entry.invariant.ordered))
    ∙ ap (λ those. flat_map run_statements those ++ End ∷ []) (sym c.in_ok-told.ensures)

pub add_statement-requires-clause-follows : goal.add_statement-requires-clause-follows
add_statement-requires-clause-follows c =
    let entries = c.args.entries.now in
    let i = c.loop-entry.entry-index in
    let entry = c.entry-item.result in
    let runs = c.loop-entry.runs in
    let rest = numbered_run_resolutions (drop (i + 1) entries) in
    let at = entries-at entries i entry c.loop-entry-test.true c.entry-item.is in
    let P : List (Numbered ResolvedRunStatement) → Type 0 = λ statements. first_misplaced (last_place runs) statements ≡ None in
    let next = next_in_order (last_place runs) (numbered_run_resolution entry) rest (subst P at c.loop-entry.invariant.ordered) in
    let Q : Option Place → Type 0 = IsSome in
    subst Q (sym next.place) refl

pub add_statement-requires-clause-line : goal.add_statement-requires-clause-line
add_statement-requires-clause-line c =
    let entries = c.args.entries.now in
    let i = c.loop-entry.entry-index in
    let entry = c.entry-item.result in
    let runs = c.loop-entry.runs in
    let rest = numbered_run_resolutions (drop (i + 1) entries) in
    let at = entries-at entries i entry c.loop-entry-test.true c.entry-item.is in
    let P : List (Numbered ResolvedRunStatement) → Type 0 = λ statements. first_misplaced (last_place runs) statements ≡ None in
    let next = next_in_order (last_place runs) (numbered_run_resolution entry) rest (subst P at c.loop-entry.invariant.ordered) in
    run_line runs (run_resolution_of entry.held) next.next (sym c.is_end.ensures ∙ c.if-is_end.false) next.place

pub add_statement-requires-clause-known : goal.add_statement-requires-clause-known
add_statement-requires-clause-known c =
    let P : RunEntry → Type 0 = λ entry. list_any is_none (variables_in (run_resolution_of entry.held)) ≡ false in
    subst P (sym c.entry-item.is) (c.requires.known c.loop-entry.entry-index c.entry-item.result c.loop-entry-test.true)

pub loop-entry-preserved : goal.loop-entry-preserved
loop-entry-preserved c =
    let entries = c.args.entries.now in
    let i = c.loop-entry.entry-index in
    let entry = c.entry-item.result in
    let statement = run_resolution_of entry.held in
    let runs = c.loop-entry.runs in
    let more = c.add_statement.new.runs in
    let rest = numbered_run_resolutions (drop (i + 1) entries) in
    let at = entries-at entries i entry c.loop-entry-test.true c.entry-item.is in
    let P : List (Numbered ResolvedRunStatement) → Type 0 = λ statements. first_misplaced (last_place runs) statements ≡ None in
    let next = next_in_order (last_place runs) (numbered_run_resolution entry) rest (subst P at c.loop-entry.invariant.ordered) in
    let added = c.in_ok-add_statement.ensures in
    let same : Some next.next ≡ Some (last_place more) = sym next.place ∙ added.place in
    let here : next.next ≡ last_place more = cc in
    let Q : Place → Type 0 = λ place. first_misplaced place rest ≡ None in
    record {
      read =
          c.loop-entry.invariant.read
          ∙ ap (λ statements. flat_map run_statements runs ++ statements_without_lines statements) at
          ∙ sym (append_assoc (flat_map run_statements runs) (statement ∷ []) (statements_without_lines rest))
          ∙ ap (λ front. front ++ statements_without_lines rest) (sym added.statements);
      ordered = subst Q here next.ordered;
    }

pub returns : goal.returns
returns c =
    let entries = c.args.entries.now in
    let none = drop_all c.loop-entry.entry-index entries c.loop-entry-test.false in
    let P : List RunEntry → Type 0 = λ left. first_misplaced (last_place c.loop-entry.runs) (numbered_run_resolutions left) ≡ None in
    let stops = among (λ here. line_at_stop here ≡ Some 0) refl refl refl c.loop-entry.runs in
    let wrong : Some 0 ≡ None = sym stops ∙ subst P none c.loop-entry.invariant.ordered in
    absurd (none-some 0 (sym wrong))
