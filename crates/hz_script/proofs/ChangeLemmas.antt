-- The script of statements: its start, and its changes so far.
use Rattle.std.proofs.Common.{◌≡◌, ◌≢◌, ◌∙◌, ℕ, ◌+◌, ◌-◌, ◌<◌, Bool, ◌||◌, List, [], ◌∷◌, ◌++◌, length, get_or, take, drop, map, ap, sym, subst, arith}
use Rattle.std.specs.List.{All}
use Rattle.std.proofs.lemmas.List.{length-map, take_more, map-append, length-take-le, take_all}
use Rattle.hz_text.specs.Assignment.{Assigned, assignment_to}
use Rattle.hz_line.specs.Statement.{Numbered}
use Rattle.hz_script.specs.Resolution.{ScriptEntry, ResolvedStatement, resolution_of, numbered_resolution}
use Rattle.hz_script.specs.ScriptValue.{ScriptOf}
use Rattle.hz_script.specs.ScriptText.{IsScriptBy, IsScriptOf}
use Rattle.hz_script.specs.ScriptReading.{IsSound}

-- the assignments of a statement with its line
abbrev pub assigned_in : Numbered ResolvedStatement → List Assigned
assigned_in numbered = numbered.statement.assigned

pub entry_sound : (nodes : ℕ) (entries : List ScriptEntry) (i : ℕ) (entry : ScriptEntry) → i < length entries → entry ≡ get_or entries i entry → All (λ entry. IsSound nodes (resolution_of entry.held)) entries → IsSound nodes (resolution_of entry.held)
entry_sound nodes entries i entry l is h = let P : ScriptEntry → Type 0 = λ entry. IsSound nodes (resolution_of entry.held) in subst P (sym is) (h i entry l)

pub changes_step : (entries : List ScriptEntry) (i : ℕ) (entry : ScriptEntry) (old new : List (List (ℕ × Bool))) (pairs : List (ℕ × Bool)) → i < length entries → entry ≡ get_or entries i entry → new ≡ old ++ pairs ∷ [] → map (map assignment_to) old ≡ map assigned_in (map numbered_resolution (take i entries)) → map assignment_to pairs ≡ entry.held.assigned.items → map (map assignment_to) new ≡ map assigned_in (map numbered_resolution (take (i + 1) entries))
changes_step entries i entry old new pairs l is e inv one =
    let F : ScriptEntry → List Assigned = λ entry. entry.held.assigned.items in
    ap (map (map assignment_to)) e
    ∙ map-append (map assignment_to) old (pairs ∷ [])
    ∙ ap (λ front. front ++ map assignment_to pairs ∷ []) inv
    ∙ ap (λ last. map assigned_in (map numbered_resolution (take i entries)) ++ last ∷ []) (one ∙ ap F is)
    ∙ sym (ap (λ xs. map assigned_in (map numbered_resolution xs)) (take_more entries i entry l)
    ∙ ap (map assigned_in) (map-append numbered_resolution (take i entries) (get_or entries i entry ∷ []))
    ∙ map-append assigned_in (map numbered_resolution (take i entries)) (numbered_resolution (get_or entries i entry) ∷ []))

pub changes_counted : (entries : List ScriptEntry) (i : ℕ) (old : List (List (ℕ × Bool))) → i < length entries → map (map assignment_to) old ≡ map assigned_in (map numbered_resolution (take i entries)) → length old ≡ i
changes_counted entries i old l inv =
    let e : length (map (map assignment_to) old) ≡ length (map assigned_in (map numbered_resolution (take i entries))) = ap length inv in
    omega (arith, e, length-map old (map assignment_to), length-map (map numbered_resolution (take i entries)) assigned_in, length-map (take i entries) numbered_resolution, length-take-le i entries (omega arith))

pub whole_script : (nodes : ℕ) (entries : List ScriptEntry) (entry : ScriptEntry) (script : ScriptOf) → 0 < length entries → entry ≡ get_or entries 0 entry → IsScriptBy nodes (resolution_of entry.held) (map numbered_resolution (take (length entries - 1) (drop 1 entries))) script → IsScriptOf nodes (map numbered_resolution entries) script
whole_script nodes [] entry script l is h = absurd (omega arith)
whole_script nodes (first ∷ later) entry script l is h =
    let all : take (length (first ∷ later) - 1) later ≡ later = take_all (length (first ∷ later) - 1) later (omega arith) in
    let P : ScriptEntry → Type 0 = λ entry. IsScriptBy nodes (resolution_of entry.held) (map numbered_resolution later) script in
    subst P is (rw all at h)
