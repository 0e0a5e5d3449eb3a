-- The gates that are held, as pairs, and the start that a lane lists with them.
use Rattle.std.proofs.Common.{◌≡◌, ◌∙◌, refl, sym, ap, subst, ℕ, zero, suc, ◌+◌, ◌-◌, ◌<◌, ◌≤◌, Bool, Option, Some, None, List, [], ◌∷◌, ◌++◌, length, map, take, drop, replicate, set, get_or, All, append_assoc, arith}
use Rattle.std.proofs.lemmas.List.{length-append, length-map, length-take-le, set_at, take_more}
use Rattle.std.proofs.lemmas.List.{length-drop, length-replicate, take-replicate}
use Rattle.std.proofs.lemmas.List.Elements.{All-nil, All-cons, All-head, All-tail, All-weaker, All-same, All-replicate}
use Rattle.hz_core.specs.Netlist.{Netlist, IsCircuit, IsGateNumber}
use Rattle.hz_pattern_text.specs.PatternText.{ArePatternsFor}
use Rattle.hz_pattern_text.specs.PatternValue.{PatternOf, PatternsOf}
use Rattle.hz_text.specs.Printed.{listed_from}
use Rattle.hz_plane.specs.Loads.{held_at, listed_with}
use Rattle.hz_batch.specs.declared.job.Job.{Job}
use Rattle.hz_batch.specs.declared.job.Job.TheVariants.{Batch, Reset}
use Rattle.hz_batch.specs.Blocks.{no_gate, without_held}
use Rattle.hz_batch.specs.Comes.{loaded_by}
use Rattle.hz_batch.specs.Held.{held_at_node}
use Rattle.hz_batch.specs.PatternEnd.{listing_of}

-- one node more
listed-push : (node : ℕ) (held : List (Option Bool)) (bit : Option Bool) → listed_from node (held ++ bit ∷ []) ≡ listed_from node held ++ held_at_node (node + length held) bit
listed-push node [] None = refl
listed-push node [] (Some bit) = (let same : node ≡ node + 0 = omega arith in ap (λ (n : ℕ). (n, bit) ∷ []) same)
listed-push node (None ∷ held) bit =
    let same : suc node + length held ≡ node + suc (length held) = omega arith in
    listed-push (suc node) held bit ∙ ap (λ (n : ℕ). listed_from (suc node) held ++ held_at_node n bit) same
listed-push node (Some first ∷ held) bit =
    let same : suc node + length held ≡ node + suc (length held) = omega arith in
    ap (λ (list : List (ℕ × Bool)). (node, first) ∷ list) (listed-push (suc node) held bit ∙ ap (λ (n : ℕ). listed_from (suc node) held ++ held_at_node n bit) same)

pub listed-next : (held : List (Option Bool)) (node : ℕ) (d : Option Bool) (was now : List (ℕ × Bool)) → node < length held → was ≡ listed_from 0 (take node held) → now ≡ was ++ held_at_node node (get_or held node d) →
    now ≡ listed_from 0 (take (node + 1) held)
listed-next held node d was now inside before is =
    let long : 0 + length (take node held) ≡ node = omega (arith, length-take-le node held (omega (arith, inside))) in
    is ∙ (ap (λ (list : List (ℕ × Bool)). list ++ held_at_node node (get_or held node d)) before
    ∙ (ap (λ (n : ℕ). listed_from 0 (take node held) ++ held_at_node n (get_or held node d)) (sym long)
    ∙ (sym (listed-push 0 (take node held) (get_or held node d)) ∙ ap (listed_from 0) (sym (take_more held node d inside)))))

-- the entries behind a prefix, listed over a start that lists only the prefix
held-over : (prefix rest : List (Option Bool)) → held_at (listed_from (length prefix) rest) (prefix ++ replicate (length rest) None) ≡ prefix ++ rest
held-over prefix [] = refl
held-over prefix (None ∷ rest) =
    let longer : prefix ++ None ∷ replicate (length rest) None ≡ (prefix ++ None ∷ []) ++ replicate (length rest) None = sym (append_assoc prefix (None ∷ []) (replicate (length rest) None)) in
    let count : suc (length prefix) ≡ length (prefix ++ None ∷ []) = omega (arith, length-append prefix (None ∷ [])) in
    ap (held_at (listed_from (suc (length prefix)) rest)) longer
    ∙ (ap (λ (n : ℕ). held_at (listed_from n rest) ((prefix ++ None ∷ []) ++ replicate (length rest) None)) count
    ∙ (held-over (prefix ++ None ∷ []) rest ∙ append_assoc prefix (None ∷ []) rest))
held-over prefix (Some bit ∷ rest) =
    let put : set (prefix ++ None ∷ replicate (length rest) None) (length prefix) (Some bit) ≡ prefix ++ Some bit ∷ replicate (length rest) None = set_at prefix None (replicate (length rest) None) (Some bit) (length prefix) refl in
    let longer : prefix ++ Some bit ∷ replicate (length rest) None ≡ (prefix ++ Some bit ∷ []) ++ replicate (length rest) None = sym (append_assoc prefix (Some bit ∷ []) (replicate (length rest) None)) in
    let count : suc (length prefix) ≡ length (prefix ++ Some bit ∷ []) = omega (arith, length-append prefix (Some bit ∷ [])) in
    ap (held_at (listed_from (suc (length prefix)) rest)) (put ∙ longer)
    ∙ (ap (λ (n : ℕ). held_at (listed_from n rest) ((prefix ++ Some bit ∷ []) ++ replicate (length rest) None)) count
    ∙ (held-over (prefix ++ Some bit ∷ []) rest ∙ append_assoc prefix (Some bit ∷ []) rest))

no_Some : (bit : Bool) → Some bit ≡ None → ⊥
no_Some bit h = cc

-- nodes that hold nothing are passed over
listed-none : (node inputs : ℕ) (held : List (Option Bool)) → All (λ bit. bit ≡ None) (take inputs held) → inputs ≤ length held → listed_from node held ≡ listed_from (node + inputs) (drop inputs held)
listed-none node zero held none few = (let same : node ≡ node + 0 = omega arith in ap (λ (n : ℕ). listed_from n held) same)
listed-none node (suc inputs) [] none few = absurd (omega (arith, few))
listed-none node (suc inputs) (None ∷ held) none few =
    let same : suc node + inputs ≡ node + suc inputs = omega arith in
    listed-none (suc node) inputs held (All-tail (λ (bit : Option Bool). bit ≡ None) None (take inputs held) none) (omega (arith, few))
    ∙ ap (λ (n : ℕ). listed_from n (drop inputs held)) same
listed-none node (suc inputs) (Some bit ∷ held) none few = absurd (no_Some bit (All-head (λ (entry : Option Bool). entry ≡ None) (Some bit) (take inputs held) none))

-- what is listed are nodes of these entries
listed-within : (node : ℕ) (held : List (Option Bool)) → All (λ pair. (node ≤ pair.0) × (pair.0 < node + length held)) (listed_from node held)
listed-within node [] = All-nil (λ (pair : ℕ × Bool). (node ≤ pair.0) × (pair.0 < node + 0))
listed-within node (None ∷ held) =
    All-weaker (λ (pair : ℕ × Bool). (suc node ≤ pair.0) × (pair.0 < suc node + length held)) (λ (pair : ℕ × Bool). (node ≤ pair.0) × (pair.0 < node + suc (length held)))
    (λ pair within. (omega (arith, within.0), omega (arith, within.1))) (listed_from (suc node) held) (listed-within (suc node) held)
listed-within node (Some bit ∷ held) =
    let here : (node ≤ node) × (node < node + suc (length held)) = (omega arith, omega arith) in
    All-cons (λ (pair : ℕ × Bool). (node ≤ pair.0) × (pair.0 < node + suc (length held))) (node, bit) (listed_from (suc node) held) here
    (All-weaker (λ (pair : ℕ × Bool). (suc node ≤ pair.0) × (pair.0 < suc node + length held)) (λ (pair : ℕ × Bool). (node ≤ pair.0) × (pair.0 < node + suc (length held)))
    (λ pair within. (omega (arith, within.0), omega (arith, within.1))) (listed_from (suc node) held) (listed-within (suc node) held))

-- the held gates of patterns are gates
pub held-gates : (netlist : Netlist) (value : PatternsOf) → IsCircuit netlist → ArePatternsFor netlist value → All (λ pair. IsGateNumber netlist pair.0) (listed_from 0 value.held)
held-gates netlist value circuit for =
    let few : netlist.inputs ≤ length value.held = omega (arith, circuit.nodes, for.nodes) in
    let skipped = listed-none 0 netlist.inputs value.held for.gates few in
    let long : length (drop netlist.inputs value.held) ≡ length value.held - netlist.inputs = length-drop netlist.inputs value.held in
    All-same (λ (pair : ℕ × Bool). IsGateNumber netlist pair.0) (listed_from 0 value.held) (listed_from (0 + netlist.inputs) (drop netlist.inputs value.held)) skipped
    (All-weaker (λ (pair : ℕ × Bool). (0 + netlist.inputs ≤ pair.0) × (pair.0 < 0 + netlist.inputs + length (drop netlist.inputs value.held))) (λ (pair : ℕ × Bool). IsGateNumber netlist pair.0)
    (λ pair within. (omega (arith, within.0), omega (arith, within.1, long, for.nodes, few)))
    (listed_from (0 + netlist.inputs) (drop netlist.inputs value.held)) (listed-within (0 + netlist.inputs) (drop netlist.inputs value.held)))

-- where no gate is held, none is listed
pub listed-no_gate : (node : ℕ) (held : List (Option Bool)) → listed_from node (no_gate held) ≡ []
listed-no_gate node [] = refl
listed-no_gate node (bit ∷ held) = listed-no_gate (suc node) held

-- patterns without held gates are patterns of the circuit, too
pub without_held-for : (netlist : Netlist) (value : PatternsOf) → IsCircuit netlist → ArePatternsFor netlist value → ArePatternsFor netlist (without_held value)
without_held-for netlist value circuit for =
    let none : Option Bool = None in
    let few : netlist.inputs ≤ length value.held = omega (arith, circuit.nodes, for.nodes) in
    record {
      nodes = length-replicate (length value.held) none ∙ for.nodes;
      gates = All-same (λ (bit : Option Bool). bit ≡ None) (take netlist.inputs (no_gate value.held)) (replicate netlist.inputs none) (take-replicate netlist.inputs (length value.held) none few)
          (All-replicate (λ (bit : Option Bool). bit ≡ None) netlist.inputs none refl);
      patterns = for.patterns;
      few = for.few;
    }

pub loaded_by-for : (job : Job) (netlist : Netlist) (value : PatternsOf) → IsCircuit netlist → ArePatternsFor netlist value → ArePatternsFor netlist (loaded_by job value)
loaded_by-for Batch netlist value circuit for = record { nodes = for.nodes; gates = for.gates; patterns = for.patterns; few = for.few }
loaded_by-for Reset netlist value circuit for = without_held-for netlist value circuit for

-- the first bits of a pattern with the held gates, as a lane is loaded with them
pub listing-loaded : (netlist : Netlist) (value : PatternsOf) (pattern : PatternOf) → IsCircuit netlist → ArePatternsFor netlist value → length pattern.from ≡ netlist.inputs →
    listed_with (length netlist.names) pattern.from (listed_from 0 value.held) ≡ listing_of value.held pattern
listing-loaded netlist value pattern circuit for long =
    let n = length pattern.from in
    let few : n ≤ length value.held = omega (arith, circuit.nodes, for.nodes, long) in
    let prefix = map Some pattern.from in
    let rest = drop n value.held in
    let skipped : listed_from 0 value.held ≡ listed_from (0 + n) rest = listed-none 0 n value.held (subst (λ (i : ℕ). All (λ (bit : Option Bool). bit ≡ None) (take i value.held)) (sym long) for.gates) few in
    let count : 0 + n ≡ length prefix = omega (arith, length-map pattern.from (λ (bit : Bool). Some bit)) in
    let left : length netlist.names - n ≡ length rest = omega (arith, length-drop n value.held, for.nodes) in
    ap (λ (pairs : List (ℕ × Bool)). listed_with (length netlist.names) pattern.from pairs) (skipped ∙ ap (λ (i : ℕ). listed_from i rest) count)
    ∙ (ap (λ (i : ℕ). held_at (listed_from (length prefix) rest) (prefix ++ replicate i None)) left ∙ held-over prefix rest)
