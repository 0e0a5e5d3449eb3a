-- The script of a number, by the numbers of its nodes.
use Rattle.std.proofs.Common.{◌≡◌, ◌∙◌, ap, refl, ℕ, suc, ◌+◌, ◌-◌, ◌*◌, ◌<◌, ◌≤◌, Bool, true, false, Option, Some, None, List, [], ◌∷◌, length, set, take, replicate, All, fold, arith, codes, rules}
use Rattle.std.specs.List.{IsDistinct}
use Rattle.std.specs.Option.{IsSome}
use Rattle.std.proofs.Math.ListN.{length-set}
use Rattle.std.proofs.lemmas.List.{length-replicate}
use Rattle.std.proofs.lemmas.List.Elements.{All-nil, All-cons}
use Rattle.hz_script.specs.ScriptValue.{ScriptOf}
use Rattle.hz_text.specs.Bits.{IsChange}
use Rattle.hz_script.specs.ScriptText.{IsScriptFor}
use Rattle.hz_gen.specs.Demo.{r_name, node_in, with_listed, demo_script}
use Rattle.hz_gen.specs.BuiltDemo.{chain_netlist}
use Rattle.hz_gen.proofs.Counts.{length-chain_names}
use Rattle.hz_gen.proofs.Numbers.{chain_names, names-built, r-node}
use Rattle.hz_options.specs.Numbers.{most_demo_number}

-- the start, by the number of the ring's last gate
abbrev pub start_of : ℕ → ℕ → List (Option Bool)
start_of nodes last = set (set (set (replicate nodes None) 0 (Some false)) 1 (Some true)) last (Some false)

abbrev pub script_by : ℕ → ℕ → ScriptOf
script_by nodes last = record { start = start_of nodes last; changes = ((0, true) ∷ []) ∷ [] }

pub script-built : (n : ℕ) → 1 ≤ n → n ≤ most_demo_number → demo_script n ≡ script_by (4 * n + 4) (n + 3)
unfolding demo_script
script-built n least most =
    let by_names : List (List ℕ) → ScriptOf = λ names.
    record {
      start =
          fold (with_listed names) (replicate (length names) None)
          ((codes "go", false) ∷ (codes "x", true) ∷ (r_name n, false) ∷ []);
      changes = ((node_in names (codes "go"), true) ∷ []) ∷ [];
    } in
    let long : length (chain_names n n) ≡ 4 * n + 4 = length-chain_names n n least ∙ omega arith in
    ap by_names (names-built n)
    ∙ ap (λ nodes. script_by nodes (node_in (chain_names n n) (r_name n))) long
    ∙ ap (script_by (4 * n + 4)) (r-node n n least (omega arith) most)

-- three nodes were listed, one after the other
pub listed-long :
    (start : List (Option Bool)) (nodes i j k : ℕ) (first second third : Option Bool) → start ≡ replicate nodes None →
    length (set (set (set start i first) j second) k third) ≡ nodes
listed-long start nodes i j k first second third is =
    length-set (set (set start i first) j second) k third ∙ length-set (set start i first) j second
    ∙ length-set start i first ∙ ap length is ∙ length-replicate nodes None

length-start : (nodes last : ℕ) → length (start_of nodes last) ≡ nodes
length-start nodes last = listed-long (replicate nodes None) nodes 0 1 last (Some false) (Some true) (Some false) refl

-- a change of the node 0
pub go-change : (nodes : ℕ) (bit : Bool) → 1 ≤ nodes → IsChange nodes ((0, bit) ∷ [])
unfolding IsDistinct
go-change nodes bit some =
    record {
      below = All-cons (λ pair. pair.0 < nodes) (0, bit) [] (omega (arith, some)) (All-nil (λ pair. pair.0 < nodes));
      distinct = search rules;
    }

-- both inputs are listed
inputs_listed : (nodes last : ℕ) → 2 ≤ nodes → 2 ≤ last → All IsSome (take 2 (start_of nodes last))
inputs_listed nodes last many after =
    let more : nodes ≡ suc (suc (nodes - 2)) = omega (arith, many) in
    let beyond : last ≡ suc (suc (last - 2)) = omega (arith, after) in
    at_two (nodes - 2) (last - 2) more beyond
  where
    two : (nodes last : ℕ) → All IsSome (take 2 (start_of (suc (suc nodes)) (suc (suc last))))
    two nodes last =
        All-cons IsSome (Some false) (Some true ∷ []) refl (All-cons IsSome (Some true) [] refl (All-nil IsSome))

    at_two :
        {nodes last : ℕ} (m l : ℕ) → nodes ≡ suc (suc m) → last ≡ suc (suc l) →
        All IsSome (take 2 (start_of nodes last))
    at_two m l e f = rw (e, f) (two m l)

-- the script is one of the circuit
pub script-fits : (n : ℕ) → 1 ≤ n → IsScriptFor (chain_netlist n n) (script_by (4 * n + 4) (n + 3))
script-fits n least =
    record {
      nodes = length-start (4 * n + 4) (n + 3) ∙ omega (arith, length-chain_names n n least);
      inputs = inputs_listed (4 * n + 4) (n + 3) (omega arith) (omega arith);
      changes = All-cons (IsChange 2) ((0, true) ∷ []) [] (go-change 2 true (omega arith)) (All-nil (IsChange 2));
      few = omega arith;
    }
