-- What holds of the circuit and the script of every number.
use Rattle.std.proofs.Common.{◌≡◌, ◌∙◌, ℕ, zero, suc, ◌+◌, ◌-◌, ◌*◌, ◌≤◌, List, [], ◌∷◌, length, map, All, arith, IsTrue}
use Rattle.std.specs.List.{range_with_len, flat_map}
use Rattle.std.proofs.lemmas.List.Elements.{All-nil, All-cons, All-append}
use Rattle.hz_core.specs.declared.kind.Kind.{Kind}
use Rattle.hz_core.specs.declared.kind.Kind.TheVariants.{And, Or, Not}
use Rattle.hz_core.specs.Netlist.{Gate, IsWhole, has_output, variable_count}
use Rattle.hz_script.specs.ScriptText.{IsScriptFor}
use Rattle.hz_gen.specs.Demo.{demo_netlist, demo_script}
use Rattle.hz_gen.specs.BuiltDemo.{ring_gates, buffer_gate, multiplexer_gates, last_gate}
use Rattle.hz_gen.proofs.Counts.{length-chain_names, count-chain}
use Rattle.hz_gen.proofs.Numbers.{demo-built}
use Rattle.hz_gen.proofs.Scripts.{script-built, script-fits}
use Rattle.hz_options.specs.Numbers.{most_demo_number}

-- a gate has a pin
abbrev HasPin : Gate → Type 0
HasPin gate = 1 ≤ length gate.sources

-- three gates that read a node, and more gates
three_whole :
    (kind second_kind third_kind : Kind) (first : ℕ) (firsts : List ℕ) (second : ℕ) (seconds : List ℕ)
    (third : ℕ) (thirds : List ℕ) (gates : List Gate) → All HasPin gates →
    All HasPin
    (record { kind = kind; sources = first ∷ firsts }
    ∷ record { kind = second_kind; sources = second ∷ seconds }
    ∷ record { kind = third_kind; sources = third ∷ thirds }
    ∷ gates)
three_whole kind second_kind third_kind first firsts second seconds third thirds gates rest =
    let one : Gate = record { kind = kind; sources = first ∷ firsts } in
    let two : Gate = record { kind = second_kind; sources = second ∷ seconds } in
    let three : Gate = record { kind = third_kind; sources = third ∷ thirds } in
    All-cons HasPin one (two ∷ three ∷ gates) (omega arith) (All-cons HasPin two (three ∷ gates) (omega arith)
    (All-cons HasPin three gates (omega arith) rest))

buffers_whole : (first count : ℕ) → All HasPin (map buffer_gate (range_with_len first count))
buffers_whole first zero = All-nil HasPin
buffers_whole first (suc count) =
    All-cons HasPin (buffer_gate first) (map buffer_gate (range_with_len (first + 1) count)) (omega arith)
    (buffers_whole (first + 1) count)

multiplexers_whole : (n first count : ℕ) → All HasPin (flat_map (multiplexer_gates n) (range_with_len first count))
multiplexers_whole n first zero = All-nil HasPin
multiplexers_whole n first (suc count) =
    All-append HasPin (multiplexer_gates n first) (flat_map (multiplexer_gates n) (range_with_len (first + 1) count)) one
    (multiplexers_whole n (first + 1) count)
  where
    last : ℕ
    last = last_gate n (first - 1)

    one : All HasPin (multiplexer_gates n first)
    one =
        three_whole And And Or 0 (last ∷ []) 2 (last ∷ []) (n + 3 * first + 1) ((n + 3 * first + 2) ∷ []) [] (All-nil HasPin)

ring_whole : (n buffers : ℕ) → All HasPin (ring_gates (3 ∷ (n + 3) ∷ []) buffers)
ring_whole n buffers =
    three_whole Not And Or 0 [] 0 (2 ∷ []) 3 ((n + 3) ∷ [])
    (map buffer_gate (range_with_len 2 buffers)) (buffers_whole 2 buffers)

-- each gate has a pin
pub demo-whole : (n : ℕ) → 1 ≤ n → n ≤ most_demo_number → IsWhole (demo_netlist n)
demo-whole n least most =
    rw (demo-built n least most)
    (record {
      gates =
          All-append HasPin (ring_gates (3 ∷ (n + 3) ∷ []) (n - 1)) (flat_map (multiplexer_gates n) (range_with_len 1 n))
          (ring_whole n (n - 1)) (multiplexers_whole n 1 n);
      cuts = All-nil (λ node. IsTrue (has_output [] node));
    })

-- how many nodes there are
pub demo-nodes : (n : ℕ) → 1 ≤ n → n ≤ most_demo_number → length (demo_netlist n).names ≡ 4 * n + 4
demo-nodes n least most = rw (demo-built n least most) (length-chain_names n n least ∙ omega arith)

-- how many variables there are
pub demo-variables : (n : ℕ) → 1 ≤ n → n ≤ most_demo_number → variable_count (demo_netlist n) ≡ 11 * n + 8
demo-variables n least most = rw (demo-built n least most) (count-chain n n least ∙ omega arith)

-- the script is one of the circuit
pub demo-fits : (n : ℕ) → 1 ≤ n → n ≤ most_demo_number → IsScriptFor (demo_netlist n) (demo_script n)
demo-fits n least most = rw (demo-built n least most, script-built n least most) (script-fits n least)
