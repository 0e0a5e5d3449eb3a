-- One entry more or less of those that were read.
use Rattle.std.proofs.Common.{◌≡◌, ◌∙◌, ℕ, zero, suc, ◌+◌, ◌-◌, ◌<◌, ◌≤◌, Bool, true, false, cond, List, [], ◌∷◌, ◌++◌, Option, Some, None, length, get_or, take, drop, map, filter, refl, ap, sym, subst, arith, append_assoc, length-append, length-drop}
use Rattle.hz_timing.proofs.Words.{All, length-map, Numbered, Assigned, assignment_to, most_changes, ScriptOf, Ordered, Ideal, Start, Change, ResolvedTimed, TimedEntry}
use Rattle.hz_timing.proofs.Words.{timed_resolution_of, numbered_timed_resolutions, is_timed_start, is_timed_change, is_stated, first_line_behind, IsSoundTimed, assumptions_in}
use Rattle.hz_timing.proofs.Words.{changes_up_to_start, Part, parts_in, AreScriptsOf}
use Rattle.std.specs.List.{cons_option, filter_map}
use Rattle.hz_text.specs.Bits.{ArePairs, pair_of}
use Rattle.hz_text.proofs.BuildLemmas.{pairs_back}
use Rattle.hz_timing.specs.declared.statement.TimedHeld.{TimedHeld}
use Rattle.hz_timing.specs.declared.statement.TimedHeld.TheVariants as held
use Rattle.std.specs.Option.{option_to_list}
use Rattle.std.proofs.lemmas.List.{take_more, drop_more, drop_all, take_all, map-append, append-nil}
use Rattle.hz_script.specs.Resolution.{ResolvedStatement}
use Rattle.hz_timing.specs.declared.script.Assumption.{Assumption}
use Rattle.hz_timing.specs.TimedResolution.{numbered_timed_resolution}
use Rattle.hz_timing.specs.TimedReading.{AreFewChanges, ArePartsPushed, changes_of}
use Rattle.hz_timing.specs.TimedText.{assumption_of, change_before, part_before}
use Rattle.hz_timing.proofs.PartLaws.{changes-counted}

-- what is left behind a place, as a part of a list
pub rest-whole : {X : Type 0} (xs : List X) (i : ℕ) → i < length xs → take (length xs - (i + 1)) (drop (i + 1) xs) ≡ drop (i + 1) xs
rest-whole xs i within = take_all (length xs - (i + 1)) (drop (i + 1) xs) (omega (arith, within, length-drop (i + 1) xs))

-- the statements of entries, without their lines
abbrev pub stated_by : List TimedEntry → List ResolvedTimed
stated_by entries = map (λ entry. timed_resolution_of entry.held) entries

pub entries-at : (entries : List TimedEntry) (i : ℕ) (entry : TimedEntry) → i < length entries → entry ≡ get_or entries i entry → numbered_timed_resolutions (drop i entries) ≡ numbered_timed_resolution entry ∷ numbered_timed_resolutions (drop (i + 1) entries)
entries-at entries i entry within is =
    ap numbered_timed_resolutions (drop_more entries i entry within) ∙ ap (λ one. numbered_timed_resolution one ∷ numbered_timed_resolutions (drop (i + 1) entries)) (sym is)

pub entry-sound : (nodes : ℕ) (entries : List TimedEntry) (i : ℕ) (entry : TimedEntry) → i < length entries → entry ≡ get_or entries i entry → All (λ entry. IsSoundTimed nodes (timed_resolution_of entry.held)) entries → IsSoundTimed nodes (timed_resolution_of entry.held)
entry-sound nodes entries i entry l is h = let P : TimedEntry → Type 0 = λ entry. IsSoundTimed nodes (timed_resolution_of entry.held) in subst P (sym is) (h i entry l)

stated-more : (entries : List TimedEntry) (i : ℕ) (entry : TimedEntry) → i < length entries → entry ≡ get_or entries i entry → stated_by (take i entries) ++ timed_resolution_of entry.held ∷ [] ≡ stated_by (take (i + 1) entries)
stated-more entries i entry within is =
    let S : TimedEntry → ResolvedTimed = λ entry. timed_resolution_of entry.held in
    ap (λ one. stated_by (take i entries) ++ S one ∷ []) is
    ∙ sym (ap (map S) (take_more entries i entry within) ∙ map-append S (take i entries) (get_or entries i entry ∷ []))

-- the pass over assumptions that are stated already, at one entry
stated-at : (before : List ResolvedTimed) (first : Numbered ResolvedTimed) (later : List (Numbered ResolvedTimed)) (b : Bool) → is_stated before first.statement ≡ b → first_line_behind is_stated before (first ∷ later) ≡ cond b (Some first.line) (first_line_behind is_stated (before ++ first.statement ∷ []) later)
stated-at before first later b is = ap (λ t. cond t (Some first.line) (first_line_behind is_stated (before ++ first.statement ∷ []) later)) is

pub stated_here : (entries : List TimedEntry) (i : ℕ) (entry : TimedEntry) → i < length entries → entry ≡ get_or entries i entry → is_stated (stated_by (take i entries)) (timed_resolution_of entry.held) ≡ true → first_line_behind is_stated (stated_by (take i entries)) (numbered_timed_resolutions (drop i entries)) ≡ Some entry.line
stated_here entries i entry within is stated =
    ap (first_line_behind is_stated (stated_by (take i entries))) (entries-at entries i entry within is)
    ∙ stated-at (stated_by (take i entries)) (numbered_timed_resolution entry) (numbered_timed_resolutions (drop (i + 1) entries)) true stated

pub stated_next :
    (entries : List TimedEntry) (i : ℕ) (entry : TimedEntry) → i < length entries → entry ≡ get_or entries i entry → is_stated (stated_by (take i entries)) (timed_resolution_of entry.held) ≡ false →
    first_line_behind is_stated (stated_by (take i entries)) (numbered_timed_resolutions (drop i entries)) ≡ first_line_behind is_stated (stated_by (take (i + 1) entries)) (numbered_timed_resolutions (drop (i + 1) entries))
stated_next entries i entry within is stated =
    ap (first_line_behind is_stated (stated_by (take i entries))) (entries-at entries i entry within is)
    ∙ stated-at (stated_by (take i entries)) (numbered_timed_resolution entry) (numbered_timed_resolutions (drop (i + 1) entries)) false stated
    ∙ ap (λ before. first_line_behind is_stated before (numbered_timed_resolutions (drop (i + 1) entries))) (stated-more entries i entry within is)

-- a start is no assumption, and neither is a change
pub start-unstated : (before : List ResolvedTimed) (assigned : List Assigned) → is_stated before (Start assigned) ≡ false
start-unstated [] assigned = refl
start-unstated (first ∷ before) assigned = start-unstated before assigned

pub change-unstated : (before : List ResolvedTimed) (assigned : List Assigned) → is_stated before (Change assigned) ≡ false
change-unstated [] assigned = refl
change-unstated (first ∷ before) assigned = change-unstated before assigned

option-first : (one : Option Assumption) (rest : List Assumption) → option_to_list one ++ rest ≡ cons_option one rest
option-first None rest = refl
option-first (Some one) rest = refl

-- the assumptions so far, and those to come
pub assumptions-step :
    (entries : List TimedEntry) (i : ℕ) (entry : TimedEntry) (old new : List Assumption) → i < length entries → entry ≡ get_or entries i entry → new ≡ old ++ option_to_list (assumption_of (timed_resolution_of entry.held)) →
    new ++ assumptions_in (numbered_timed_resolutions (drop (i + 1) entries)) ≡ old ++ assumptions_in (numbered_timed_resolutions (drop i entries))
assumptions-step entries i entry old new within is e =
    let rest = assumptions_in (numbered_timed_resolutions (drop (i + 1) entries)) in
    let one = assumption_of (timed_resolution_of entry.held) in
    ap (λ xs. xs ++ rest) e
    ∙ append_assoc old (option_to_list one) rest
    ∙ ap (λ xs. old ++ xs) (option-first one rest)
    ∙ ap (λ statements. old ++ assumptions_in statements) (sym (entries-at entries i entry within is))

pub assumptions-end : (entries : List TimedEntry) (i : ℕ) (old : List Assumption) → length entries ≤ i → old ≡ old ++ assumptions_in (numbered_timed_resolutions (drop i entries))
assumptions-end entries i old past =
    sym (ap (λ those. old ++ assumptions_in (numbered_timed_resolutions those)) (drop_all i entries past) ∙ append-nil old)

-- fewer statements have fewer changes
few-tail : (first : Numbered ResolvedTimed) (later : List (Numbered ResolvedTimed)) → AreFewChanges (first ∷ later) → AreFewChanges later
few-tail first later few = step (is_timed_change first.statement) few
  where
    step : (b : Bool) → length (cond b (first ∷ filter (λ numbered. is_timed_change numbered.statement) later) (filter (λ numbered. is_timed_change numbered.statement) later)) ≤ most_changes → AreFewChanges later
    step true h = omega (arith, h)
    step false h = h

few-drop : (entries : List TimedEntry) (i : ℕ) → AreFewChanges (numbered_timed_resolutions entries) → AreFewChanges (numbered_timed_resolutions (drop i entries))
few-drop entries zero few = few
few-drop [] (suc i) few = few
few-drop (first ∷ entries) (suc i) few = few-drop entries i (few-tail (numbered_timed_resolution first) (numbered_timed_resolutions entries) few)

pub few-behind : (entries : List TimedEntry) (i : ℕ) → AreFewChanges (numbered_timed_resolutions entries) → AreFewChanges (numbered_timed_resolutions (drop i entries))
few-behind entries i few = few-drop entries i few

-- the scripts of a part before others
scripts-before : (nodes : ℕ) (statement : ResolvedTimed) (changes : List (Numbered ResolvedStatement)) (parts : List Part) (added scripts : List ScriptOf) → AreScriptsOf nodes (part_before statement changes []) added → AreScriptsOf nodes parts scripts → AreScriptsOf nodes (part_before statement changes parts) (added ++ scripts)
scripts-before nodes (Ordered first second number) changes parts [] scripts a h = h
scripts-before nodes (Ordered first second number) changes parts (script ∷ added) scripts a h = absurd a
scripts-before nodes (Ideal wire) changes parts [] scripts a h = h
scripts-before nodes (Ideal wire) changes parts (script ∷ added) scripts a h = absurd a
scripts-before nodes (Change assigned) changes parts [] scripts a h = h
scripts-before nodes (Change assigned) changes parts (script ∷ added) scripts a h = absurd a
scripts-before nodes (Start assigned) changes parts [] scripts a h = absurd a
scripts-before nodes (Start assigned) changes parts (script ∷ []) scripts a h = (a.0, h)
scripts-before nodes (Start assigned) changes parts (script ∷ other ∷ added) scripts a h = absurd a.1

-- the scripts so far, and those to come
pub parts-step :
    (nodes : ℕ) (entries : List TimedEntry) (i : ℕ) (entry : TimedEntry) (old new : List ScriptOf) → i < length entries → entry ≡ get_or entries i entry →
    ArePartsPushed nodes (timed_resolution_of entry.held) (changes_up_to_start (numbered_timed_resolutions (drop (i + 1) entries))) old new →
    ((scripts : List ScriptOf) → AreScriptsOf nodes (parts_in (numbered_timed_resolutions (drop i entries))) scripts → AreScriptsOf nodes (parts_in (numbered_timed_resolutions entries)) (old ++ scripts)) →
    (scripts : List ScriptOf) → AreScriptsOf nodes (parts_in (numbered_timed_resolutions (drop (i + 1) entries))) scripts → AreScriptsOf nodes (parts_in (numbered_timed_resolutions entries)) (new ++ scripts)
parts-step nodes entries i entry old new within is pushed so_far scripts are =
    let rest = numbered_timed_resolutions (drop (i + 1) entries) in
    let behind = scripts-before nodes (timed_resolution_of entry.held) (changes_up_to_start rest) (parts_in rest) pushed.added scripts pushed.scripts are in
    let P : List (Numbered ResolvedTimed) → Type 0 = λ statements. AreScriptsOf nodes (parts_in statements) (pushed.added ++ scripts) in
    let Q : List ScriptOf → Type 0 = AreScriptsOf nodes (parts_in (numbered_timed_resolutions entries)) in
    let whole = so_far (pushed.added ++ scripts) (subst P (sym (entries-at entries i entry within is)) behind) in
    subst Q (sym (ap (λ xs. xs ++ scripts) pushed.new_is ∙ append_assoc old pushed.added scripts)) whole

pub parts-end :
    (nodes : ℕ) (entries : List TimedEntry) (i : ℕ) (old : List ScriptOf) → length entries ≤ i →
    ((scripts : List ScriptOf) → AreScriptsOf nodes (parts_in (numbered_timed_resolutions (drop i entries))) scripts → AreScriptsOf nodes (parts_in (numbered_timed_resolutions entries)) (old ++ scripts)) →
    AreScriptsOf nodes (parts_in (numbered_timed_resolutions entries)) old
parts-end nodes entries i old past so_far =
    let P : List TimedEntry → Type 0 = λ left. AreScriptsOf nodes (parts_in (numbered_timed_resolutions left)) [] in
    let Q : List ScriptOf → Type 0 = AreScriptsOf nodes (parts_in (numbered_timed_resolutions entries)) in
    subst Q (append-nil old) (so_far [] (subst P (sym (drop_all i entries past)) tt))

-- what statements of scripts assign
abbrev pub assigned_in : List (Numbered ResolvedStatement) → List (List Assigned)
assigned_in statements = map (λ numbered. numbered.statement.assigned) statements

change-first : (line : ℕ) (statement : ResolvedTimed) (rest : List (Numbered ResolvedStatement)) → is_timed_start statement ≡ false → assigned_in (change_before line statement rest) ≡ changes_of statement ++ assigned_in rest
change-first line (Ordered first second number) rest other = refl
change-first line (Ideal wire) rest other = refl
change-first line (Start assigned) rest other = cc
change-first line (Change assigned) rest other = refl

start-first : (line : ℕ) (statement : ResolvedTimed) (rest : List (Numbered ResolvedStatement)) → is_timed_start statement ≡ true → change_before line statement rest ≡ []
start-first line (Ordered first second number) rest start = cc
start-first line (Ideal wire) rest start = cc
start-first line (Start assigned) rest start = refl
start-first line (Change assigned) rest start = cc

-- the changes so far, and those to come
pub changes-step :
    (entries : List TimedEntry) (i : ℕ) (entry : TimedEntry) (old new : List (List (ℕ × Bool))) → i < length entries → entry ≡ get_or entries i entry → is_timed_start (timed_resolution_of entry.held) ≡ false →
    map (map assignment_to) new ≡ map (map assignment_to) old ++ changes_of (timed_resolution_of entry.held) →
    map (map assignment_to) old ++ assigned_in (changes_up_to_start (numbered_timed_resolutions (drop i entries))) ≡ assigned_in (changes_up_to_start (numbered_timed_resolutions entries)) →
    map (map assignment_to) new ++ assigned_in (changes_up_to_start (numbered_timed_resolutions (drop (i + 1) entries))) ≡ assigned_in (changes_up_to_start (numbered_timed_resolutions entries))
changes-step entries i entry old new within is other e so_far =
    let rest = changes_up_to_start (numbered_timed_resolutions (drop (i + 1) entries)) in
    let front = map (map assignment_to) old in
    let statement = timed_resolution_of entry.held in
    ap (λ xs. xs ++ assigned_in rest) e
    ∙ append_assoc front (changes_of statement) (assigned_in rest)
    ∙ ap (λ xs. front ++ xs) (sym (change-first entry.line statement rest other))
    ∙ ap (λ statements. front ++ assigned_in (changes_up_to_start statements)) (sym (entries-at entries i entry within is))
    ∙ so_far

pub changes-here :
    (entries : List TimedEntry) (i : ℕ) (entry : TimedEntry) (old : List (List (ℕ × Bool))) → i < length entries → entry ≡ get_or entries i entry → is_timed_start (timed_resolution_of entry.held) ≡ true →
    map (map assignment_to) old ++ assigned_in (changes_up_to_start (numbered_timed_resolutions (drop i entries))) ≡ assigned_in (changes_up_to_start (numbered_timed_resolutions entries)) →
    map (map assignment_to) old ≡ assigned_in (changes_up_to_start (numbered_timed_resolutions entries))
changes-here entries i entry old within is start so_far =
    let rest = changes_up_to_start (numbered_timed_resolutions (drop (i + 1) entries)) in
    let front = map (map assignment_to) old in
    sym (ap (λ statements. front ++ assigned_in (changes_up_to_start statements)) (entries-at entries i entry within is)
    ∙ ap (λ those. front ++ assigned_in those) (start-first entry.line (timed_resolution_of entry.held) rest start)
    ∙ append-nil front)
    ∙ so_far

pub changes-end :
    (entries : List TimedEntry) (i : ℕ) (old : List (List (ℕ × Bool))) → length entries ≤ i →
    map (map assignment_to) old ++ assigned_in (changes_up_to_start (numbered_timed_resolutions (drop i entries))) ≡ assigned_in (changes_up_to_start (numbered_timed_resolutions entries)) →
    map (map assignment_to) old ≡ assigned_in (changes_up_to_start (numbered_timed_resolutions entries))
changes-end entries i old past so_far =
    let front = map (map assignment_to) old in
    sym (ap (λ left. front ++ assigned_in (changes_up_to_start (numbered_timed_resolutions left))) (drop_all i entries past) ∙ append-nil front) ∙ so_far

change-counted : (line : ℕ) (statement : ResolvedTimed) (rest : List (Numbered ResolvedStatement)) → is_timed_change statement ≡ true → 1 ≤ length (change_before line statement rest)
change-counted line (Ordered first second number) rest change = cc
change-counted line (Ideal wire) rest change = cc
change-counted line (Start assigned) rest change = cc
change-counted line (Change assigned) rest change = omega arith

-- where a change is to come, there are fewer so far than may be
pub changes-few :
    (entries : List TimedEntry) (i : ℕ) (entry : TimedEntry) (old : List (List (ℕ × Bool))) → i < length entries → entry ≡ get_or entries i entry → AreFewChanges (numbered_timed_resolutions entries) →
    map (map assignment_to) old ++ assigned_in (changes_up_to_start (numbered_timed_resolutions (drop i entries))) ≡ assigned_in (changes_up_to_start (numbered_timed_resolutions entries)) →
    is_timed_change (timed_resolution_of entry.held) ≡ true → length old < most_changes
changes-few entries i entry old within is few so_far change =
    let statements = numbered_timed_resolutions entries in
    let A : Numbered ResolvedStatement → List Assigned = λ numbered. numbered.statement.assigned in
    let front = map (map assignment_to) old in
    let left = changes_up_to_start (numbered_timed_resolutions (drop i entries)) in
    let all = changes_up_to_start statements in
    let P : List (Numbered ResolvedTimed) → Type 0 = λ those. 1 ≤ length (changes_up_to_start those) in
    let rest = changes_up_to_start (numbered_timed_resolutions (drop (i + 1) entries)) in
    let some : 1 ≤ length left = subst P (sym (entries-at entries i entry within is)) (change-counted entry.line (timed_resolution_of entry.held) rest change) in
    let same : length (front ++ map A left) ≡ length (map A all) = ap length so_far in
    omega (arith, same, length-append front (map A left), length-map old (map assignment_to), length-map left A, length-map all A, some, changes-counted statements, few)

-- one change more
pub change-pushed :
    (assigned : List Assigned) (pairs : List (ℕ × Bool)) (old new : ScriptOf) → ArePairs (length old.start) assigned → pairs ≡ filter_map pair_of assigned → new ≡ record old { changes = old.changes ++ pairs ∷ [] } →
    map (map assignment_to) new.changes ≡ map (map assignment_to) old.changes ++ assigned ∷ []
change-pushed assigned pairs old new sound are added =
    ap (λ (script : ScriptOf). map (map assignment_to) script.changes) added
    ∙ map-append (map assignment_to) old.changes (pairs ∷ [])
    ∙ ap (λ one. map (map assignment_to) old.changes ++ one ∷ []) (ap (map assignment_to) are ∙ pairs_back (length old.start) assigned sound.pairs)

-- a start that was read is no assumption, and neither is a change
pub held-start : (before : List ResolvedTimed) (read : TimedHeld) (assigned : _) → read ≡ held.Start assigned → is_stated before (timed_resolution_of read) ≡ false
held-start before read assigned is = subst (λ (one : TimedHeld). is_stated before (timed_resolution_of one) ≡ false) (sym is) (start-unstated before assigned.items)

pub held-change : (before : List ResolvedTimed) (read : TimedHeld) (assigned : _) → read ≡ held.Change assigned → is_stated before (timed_resolution_of read) ≡ false
held-change before read assigned is = subst (λ (one : TimedHeld). is_stated before (timed_resolution_of one) ≡ false) (sym is) (change-unstated before assigned.items)
