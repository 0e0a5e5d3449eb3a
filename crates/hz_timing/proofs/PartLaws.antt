-- The scripts of statements without a fault are scripts of the network.
use Rattle.std.proofs.Common.{◌≡◌, ◌∙◌, ℕ, ◌+◌, ◌<◌, ◌≤◌, Bool, true, false, ◌||◌, cond, nat_eq, nat_le, List, [], ◌∷◌, Option, Some, None, length, get_or, map, filter, refl, ap, sym, subst, inl, inr, arith, zero-add}
use Rattle.hz_timing.proofs.Words.{◌⊎◌, All, option_map, nat_tests, length-map, All-nil, All-cons, Netlist, IsCircuit, primary_inputs, Numbered, Assigned, Inputs, assignment_to}
use Rattle.hz_timing.proofs.Words.{true-false, most_changes, ScriptOf, Ordered, Ideal, Start, Change, ResolvedTimed, names_missing, assigns_no_bit, is_timed_start, is_timed_change, StartLeavesOut}
use Rattle.hz_timing.proofs.Words.{line_behind, names_node_twice, changes_up_to_start, Part, parts_in, AreScriptsOf}
use Rattle.std.specs.Prelude.{sum_by}
use Rattle.std.specs.List.{list_any, range_with_len}
use Rattle.std.proofs.lemmas.Bool.{cases_lt}
use Rattle.std.proofs.lemmas.List.{get_or-map, length-take-le, get_or-take}
use Rattle.std.proofs.lemmas.List.Elements.{All-head, All-tail}
use Rattle.std.proofs.lemmas.List.FromFn.{length-range_with_len, get_or-map-range_with_len}
use Rattle.std.proofs.lemmas.List.Sums.{sum_by-cons}
use Rattle.std.proofs.lemmas.Option.{none-some, slice_get-get_or}
use Rattle.hz_text.specs.Assignment.{has_repeat, is_not_allowed, any_unknown, any_bitless, assigned_bit}
use Rattle.hz_text.specs.Bits.{IsChange}
use Rattle.hz_text.specs.Rules.{assigned_nodes, least_unassigned, repeats_node}
use Rattle.hz_text.proofs.PassLaws.{unassigned-Some, unassigned-None, bit-some}
use Rattle.hz_text.proofs.BuildLemmas.{or_parts, assigned_nodes-pairs, IsDistinct-from_repeat}
use Rattle.hz_script.specs.Resolution.{ResolvedStatement}
use Rattle.hz_script.specs.ScriptText.{IsScriptBy, IsScriptFor}
use Rattle.hz_timing.specs.TimedFault.{has_start}
use Rattle.hz_timing.specs.TimedText.{change_before, part_before, start_statement, change_count}

-- a change of inputs, each at most once
pub record IsGoodChange (inputs : ℕ) (statement : ResolvedStatement) : Type 0 where
  pub known : any_unknown inputs Inputs statement.assigned ≡ false
  pub once : repeats_node statement.assigned ≡ false

-- a start that assigns bits, to each primary input one, and changes behind it
pub record IsGoodPart (netlist : Netlist) (part : Part) : Type 0 where
  pub bits : any_bitless part.start ≡ false
  pub whole : least_unassigned (primary_inputs netlist) part.start ≡ None
  pub changes : All (λ numbered. IsGoodChange netlist.inputs numbered.statement) part.changes

-- a statement in which no pass of all texts finds a fault
pub record IsClearStatement (netlist : Netlist) (statement : ResolvedTimed) : Type 0 where
  pub known : names_missing netlist statement ≡ false
  pub once : names_node_twice statement ≡ false
  pub bits : assigns_no_bit statement ≡ false
  pub whole : (node : ℕ) → StartLeavesOut (primary_inputs netlist) statement node → ⊥

change-below : (inputs : ℕ) (change : List (ℕ × Bool)) → list_any (λ assigned. is_not_allowed inputs Inputs assigned.node) (map assignment_to change) ≡ false → All (λ pair. pair.0 < inputs) change
change-below inputs [] h = All-nil (λ (pair : ℕ × Bool). pair.0 < inputs)
change-below inputs (pair ∷ change) h =
    let parts = or_parts (nat_le inputs pair.0) (list_any (λ assigned. is_not_allowed inputs Inputs assigned.node) (map assignment_to change)) h in
    let below : pair.0 < inputs = grind (arith, nat_tests, parts.0) in
    All-cons (λ (pair : ℕ × Bool). pair.0 < inputs) pair change below (change-below inputs change parts.1)

change-input : (inputs : ℕ) (assigned : List Assigned) (change : List (ℕ × Bool)) → map assignment_to change ≡ assigned → any_unknown inputs Inputs assigned ≡ false → repeats_node assigned ≡ false → IsChange inputs change
change-input inputs assigned change e known once =
    let P : List Assigned → Type 0 = λ all. any_unknown inputs Inputs all ≡ false in
    record {
      below = change-below inputs change (subst P (sym e) known);
      distinct = IsDistinct-from_repeat _ (ap (has_repeat nat_eq) (sym (assigned_nodes-pairs change) ∙ ap assigned_nodes e) ∙ once);
    }

-- the script of a good part
script-fits : (netlist : Netlist) (part : Part) (script : ScriptOf) → IsCircuit netlist → IsGoodPart netlist part → length part.changes ≤ most_changes → IsScriptBy (length netlist.names) (start_statement part.start) part.changes script → IsScriptFor netlist script
script-fits netlist part script circuit good few is =
    let nodes = length netlist.names in
    let all = part.start in
    let later = part.changes in
    let primary = primary_inputs netlist in
    let long : length script.start ≡ nodes = ap length is.start ∙ length-map (range_with_len 0 nodes) (assigned_bit all) ∙ length-range_with_len 0 nodes in
    let within : primary ≤ nodes = omega (arith, circuit.nodes) in
    let many : length script.changes ≡ length later = sym (length-map script.changes (map assignment_to)) ∙ ap length is.changes ∙ length-map later (λ (numbered : Numbered ResolvedStatement). numbered.statement.assigned) in
    let nothing : Numbered ResolvedStatement = record { line = 0; statement = start_statement [] } in
    record {
      nodes = long;
      inputs = λ k d l.
          let low : k < primary = omega (arith, l, length-take-le primary script.start (omega (arith, long, within))) in
          rw (get_or-take primary script.start k d low, is.start, get_or-map-range_with_len (assigned_bit all) 0 nodes k k d (omega (arith, low, within)) (zero-add k))
          (bit-some all k (unassigned-None primary all good.whole k low) good.bits);
      changes = λ k d l.
          let at : k < length later = omega (arith, l, many) in
          let one = good.changes k nothing at in
          change-input netlist.inputs (get_or later k nothing).statement.assigned (get_or script.changes k d)
          (sym (get_or-map (map assignment_to) script.changes k d [] l) ∙ ap (λ lists. get_or lists k []) is.changes ∙ get_or-map (λ (numbered : Numbered ResolvedStatement). numbered.statement.assigned) later k nothing [] at)
          one.known one.once;
      few = omega (arith, many, few);
    }

-- what holds of the scripts of parts
pub record AreFitting (netlist : Netlist) (parts : List Part) (scripts : List ScriptOf) : Type 0 where
  pub fit : All (IsScriptFor netlist) scripts
  pub changes : change_count scripts ≡ sum_by (λ part. length part.changes) parts
  pub many : length scripts ≡ length parts

pub scripts-fit : (netlist : Netlist) (parts : List Part) (scripts : List ScriptOf) → IsCircuit netlist → All (IsGoodPart netlist) parts → sum_by (λ part. length part.changes) parts ≤ most_changes → AreScriptsOf (length netlist.names) parts scripts → AreFitting netlist parts scripts
scripts-fit netlist [] [] circuit good few are = record { fit = All-nil (IsScriptFor netlist); changes = refl; many = refl }
scripts-fit netlist [] (script ∷ scripts) circuit good few are = absurd are
scripts-fit netlist (part ∷ parts) [] circuit good few are = absurd are
scripts-fit netlist (part ∷ parts) (script ∷ scripts) circuit good few are =
    let F : Part → ℕ = λ part. length part.changes in
    let G : ScriptOf → ℕ = λ script. length script.changes in
    let sum : sum_by F (part ∷ parts) ≡ length part.changes + sum_by F parts = sum_by-cons F part parts in
    let count : sum_by G (script ∷ scripts) ≡ length script.changes + sum_by G scripts = sum_by-cons G script scripts in
    let rest = scripts-fit netlist parts scripts circuit (All-tail (IsGoodPart netlist) part parts good) (omega (arith, sum, few)) are.1 in
    let one = script-fits netlist part script circuit (All-head (IsGoodPart netlist) part parts good) (omega (arith, sum, few)) are.0 in
    let same : length script.changes ≡ length part.changes =
    sym (length-map script.changes (map assignment_to)) ∙ ap length are.0.changes ∙ length-map part.changes (λ (numbered : Numbered ResolvedStatement). numbered.statement.assigned) in
    record {
      fit = All-cons (IsScriptFor netlist) script scripts one rest.fit;
      changes = omega (arith, sum, count, same, rest.changes);
      many = omega (arith, rest.many);
    }

-- the changes up to the next start are good
changes-good : (netlist : Netlist) (statements : List (Numbered ResolvedTimed)) → All (λ numbered. IsClearStatement netlist numbered.statement) statements → All (λ numbered. IsGoodChange netlist.inputs numbered.statement) (changes_up_to_start statements)
changes-good netlist [] clear = All-nil (λ (numbered : Numbered ResolvedStatement). IsGoodChange netlist.inputs numbered.statement)
changes-good netlist (first ∷ later) clear =
    let P : Numbered ResolvedTimed → Type 0 = λ numbered. IsClearStatement netlist numbered.statement in
    step first.line first.statement (changes_up_to_start later) (All-head P first later clear) (changes-good netlist later (All-tail P first later clear))
  where
    step :
        (line : ℕ) (statement : ResolvedTimed) (rest : List (Numbered ResolvedStatement)) → IsClearStatement netlist statement → All (λ numbered. IsGoodChange netlist.inputs numbered.statement) rest →
        All (λ numbered. IsGoodChange netlist.inputs numbered.statement) (change_before line statement rest)
    step line (Ordered one other number) rest clear good = good
    step line (Ideal wire) rest clear good = good
    step line (Start assigned) rest clear good = All-nil (λ (numbered : Numbered ResolvedStatement). IsGoodChange netlist.inputs numbered.statement)
    step line (Change assigned) rest clear good =
        All-cons (λ (numbered : Numbered ResolvedStatement). IsGoodChange netlist.inputs numbered.statement) _ rest (record { known = clear.known; once = clear.once }) good

-- where no primary input is left out, none is the least
left-none : (primary : ℕ) (assigned : List Assigned) (answer : Option ℕ) → least_unassigned primary assigned ≡ answer → ((node : ℕ) → StartLeavesOut primary (Start assigned) node → ⊥) → answer ≡ None
left-none primary assigned None e none = refl
left-none primary assigned (Some node) e none =
    let is = unassigned-Some primary assigned node e in absurd (none node (is.below, is.unassigned))

-- the parts are good
pub parts-good : (netlist : Netlist) (statements : List (Numbered ResolvedTimed)) → All (λ numbered. IsClearStatement netlist numbered.statement) statements → All (IsGoodPart netlist) (parts_in statements)
parts-good netlist [] clear = All-nil (IsGoodPart netlist)
parts-good netlist (first ∷ later) clear =
    let P : Numbered ResolvedTimed → Type 0 = λ numbered. IsClearStatement netlist numbered.statement in
    let tail = All-tail P first later clear in
    step first.statement (changes_up_to_start later) (parts_in later) (All-head P first later clear) (changes-good netlist later tail) (parts-good netlist later tail)
  where
    step :
        (statement : ResolvedTimed) (changes : List (Numbered ResolvedStatement)) (parts : List Part) → IsClearStatement netlist statement → All (λ numbered. IsGoodChange netlist.inputs numbered.statement) changes →
        All (IsGoodPart netlist) parts → All (IsGoodPart netlist) (part_before statement changes parts)
    step (Ordered one other number) changes parts clear behind good = good
    step (Ideal wire) changes parts clear behind good = good
    step (Change assigned) changes parts clear behind good = good
    step (Start assigned) changes parts clear behind good =
        All-cons (IsGoodPart netlist) _ parts
        (record { bits = clear.bits; whole = left-none (primary_inputs netlist) assigned (least_unassigned (primary_inputs netlist) assigned) refl clear.whole; changes = behind })
        good

-- there are as many parts as starts
pub parts-counted : (statements : List (Numbered ResolvedTimed)) → length (parts_in statements) ≡ length (filter (λ numbered. is_timed_start numbered.statement) statements)
parts-counted [] = refl
parts-counted (first ∷ later) = step first.statement (parts-counted later)
  where
    step :
        (statement : ResolvedTimed) → length (parts_in later) ≡ length (filter (λ numbered. is_timed_start numbered.statement) later) →
        length (part_before statement (changes_up_to_start later) (parts_in later)) ≡ length (cond (is_timed_start statement) (first ∷ filter (λ numbered. is_timed_start numbered.statement) later) (filter (λ numbered. is_timed_start numbered.statement) later))
    step (Ordered one other number) ih = ih
    step (Ideal wire) ih = ih
    step (Change assigned) ih = ih
    step (Start assigned) ih = omega (arith, ih)

-- the changes of the parts are changes of the text
pub changes-counted :
    (statements : List (Numbered ResolvedTimed)) →
    length (changes_up_to_start statements) + sum_by (λ part. length part.changes) (parts_in statements) ≡ length (filter (λ numbered. is_timed_change numbered.statement) statements)
changes-counted [] = refl
changes-counted (first ∷ later) = step first.statement (changes-counted later)
  where
    step :
        (statement : ResolvedTimed) → length (changes_up_to_start later) + sum_by (λ part. length part.changes) (parts_in later) ≡ length (filter (λ numbered. is_timed_change numbered.statement) later) →
        length (change_before first.line statement (changes_up_to_start later)) + sum_by (λ part. length part.changes) (part_before statement (changes_up_to_start later) (parts_in later))
        ≡ length (cond (is_timed_change statement) (first ∷ filter (λ numbered. is_timed_change numbered.statement) later) (filter (λ numbered. is_timed_change numbered.statement) later))
    step (Ordered one other number) ih = ih
    step (Ideal wire) ih = ih
    step (Change assigned) ih = omega (arith, ih)
    step (Start assigned) ih =
        omega (arith, ih, sum_by-cons (λ (part : Part). length part.changes) (record { start = assigned; changes = changes_up_to_start later }) (parts_in later))

-- where there is a start, there is a part
pub parts-some : (statements : List (Numbered ResolvedTimed)) → has_start statements ≡ true → 1 ≤ length (parts_in statements)
parts-some [] s = absurd (true-false (sym s))
parts-some (first ∷ later) s = step first.statement s (parts-some later)
  where
    step : (statement : ResolvedTimed) → (is_timed_start statement || has_start later) ≡ true → (has_start later ≡ true → 1 ≤ length (parts_in later)) → 1 ≤ length (part_before statement (changes_up_to_start later) (parts_in later))
    step (Ordered one other number) s ih = ih s
    step (Ideal wire) s ih = ih s
    step (Change assigned) s ih = ih s
    step (Start assigned) s ih = omega arith

-- where no line is behind so many of a kind, there are no more
pub few-kind : (kind : ResolvedTimed → Bool) (most : ℕ) (statements : List (Numbered ResolvedTimed)) → line_behind kind most statements ≡ None → length (filter (λ numbered. kind numbered.statement) statements) ≤ most
few-kind kind most statements e = by_place (cases_lt most (length (filter (λ numbered. kind numbered.statement) statements)))
  where
    nothing : Numbered ResolvedTimed
    nothing = record { line = 0; statement = Change [] }

    by_place :
        (most < length (filter (λ numbered. kind numbered.statement) statements)) ⊎ (length (filter (λ numbered. kind numbered.statement) statements) ≤ most) →
        length (filter (λ numbered. kind numbered.statement) statements) ≤ most
    by_place (inl more) =
        let wrong = ap (option_map (λ (numbered : Numbered ResolvedTimed). numbered.line)) (slice_get-get_or (filter (λ (numbered : Numbered ResolvedTimed). kind numbered.statement) statements) most nothing more) in
        absurd (none-some _ (sym e ∙ wrong))
    by_place (inr few) = few
