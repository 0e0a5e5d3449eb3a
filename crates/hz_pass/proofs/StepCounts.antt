-- How many evaluations a pass makes: the first round's, and one for each reader of each variable that changes. They are no
-- fewer than the variables that it changes.
use Rattle.std.proofs.Common.{◌≡◌, ◌≢◌, ℕ, zero, suc, ◌+◌, ◌*◌, ◌<◌, ◌≤◌, Bool, true, false, cond, List, [], ◌∷◌, length, refl, ap, arith, inl, inr}
use Rattle.std.specs.Prelude.{sum_by, nat_eq}
use Rattle.std.proofs.lemmas.Bool.{cases_eq}
use Rattle.std.proofs.lemmas.Bool.Decides.{nat_tests}
use Rattle.hz_core.specs.declared.tri.Tri.{Tri}
use Rattle.hz_core.specs.Netlist.{Netlist, IsCircuit}
use Rattle.hz_net.specs.Network.{Wire, network_of, wires_of}
use Rattle.hz_net.specs.Variables.{readers_from, fan_out_of}
use Rattle.hz_net.proofs.Places.{length-network_of, length-wires_of}
use Rattle.hz_net.proofs.Readers.{node-readers, wire-readers}
use Rattle.hz_pass.specs.declared.round.Rule.{Rule}
use Rattle.hz_pass.specs.Frontier.{is_open, open_weight_from, open_weight, reader_count, IsRound}
use Rattle.hz_pass.proofs.Values.{sum_by-ones}

-- the sum of a function over so many numbers from one on
abbrev total_from : (ℕ → ℕ) → ℕ → ℕ → ℕ
total_from f first zero = 0
total_from f first (suc count) = f first + total_from f (suc first) count

total-le :
    (f g : ℕ → ℕ) (first count : ℕ) → ((i : ℕ) → first ≤ i → i < first + count → f i ≤ g i) →
    total_from f first count ≤ total_from g first count
total-le f g first zero each = omega arith
total-le f g first (suc count) each =
    omega (
      arith,
      each first (omega arith) (omega arith),
      total-le f g (suc first) count (λ i from below. each i (omega (arith, from)) (omega (arith, below))),
    )

total-both :
    (f g : ℕ → ℕ) (first count : ℕ) →
    total_from (λ i. f i + g i) first count ≡ total_from f first count + total_from g first count
total-both f g first zero = refl
total-both f g first (suc count) = omega (arith, total-both f g (suc first) count)

total-split :
    (f : ℕ → ℕ) (first count more : ℕ) →
    total_from f first (count + more) ≡ total_from f first count + total_from f (first + count) more
total-split f first zero more =
    omega (
      arith,
      ap (total_from f first) (let same : 0 + more ≡ more = omega arith in same),
      ap (λ (n : ℕ). total_from f n more) (let same : first ≡ first + 0 = omega arith in same),
    )
total-split f first (suc count) more =
    omega (
      arith,
      ap (total_from f first) (let same : suc count + more ≡ suc (count + more) = omega arith in same),
      total-split f (suc first) count more,
      ap (λ (n : ℕ). total_from f n more) (let same : suc first + count ≡ first + suc count = omega arith in same),
    )

total-ones : (first count : ℕ) → total_from (λ i. 1) first count ≡ count
total-ones first zero = refl
total-ones first (suc count) = omega (arith, total-ones (suc first) count)

total-zeros : (first count : ℕ) → total_from (λ i. 0) first count ≡ 0
total-zeros first zero = refl
total-zeros first (suc count) = omega (arith, total-zeros (suc first) count)

-- one at a number, else zero
abbrev one_at : ℕ → ℕ → ℕ
one_at place i = cond (nat_eq place i) 1 0

one_at-other : (place i : ℕ) → place ≢ i → one_at place i ≡ 0
one_at-other place i other =
    let test : nat_eq place i ≡ false = grind (arith, nat_tests) in
    ap (λ (b : Bool). cond b 1 0) test

total-past : (place first count : ℕ) → place < first → total_from (one_at place) first count ≡ 0
total-past place first zero past = refl
total-past place first (suc count) past =
    omega (arith, one_at-other place first (omega (arith, past)), total-past place (suc first) count (omega (arith, past)))

one_at-most : (place i : ℕ) → one_at place i ≤ 1
one_at-most place i = at-most (nat_eq place i)
  where
    at-most : (b : Bool) → cond b 1 0 ≤ 1
    at-most true = omega arith
    at-most false = omega arith

total-one_at : (place first count : ℕ) → total_from (one_at place) first count ≤ 1
total-one_at place first zero = omega arith
total-one_at place first (suc count) = elim (cases_eq place first) [
  | inl same ↦ omega (arith, one_at-most place first, total-past place (suc first) count (omega (arith, same)))
  | inr other ↦ omega (arith, one_at-other place first other, total-one_at place (suc first) count)
]

readers_from-more :
    (first : ℕ) (wire : Wire) (wires : List Wire) (node : ℕ) →
    length (readers_from first (wire ∷ wires) node) ≡ one_at wire.source node + length (readers_from (suc first) wires node)
readers_from-more first wire wires node = by-test (nat_eq wire.source node) (readers_from (suc first) wires node)
  where
    by-test : (b : Bool) (rest : List ℕ) → length (cond b (first ∷ rest) rest) ≡ cond b 1 0 + length rest
    by-test true rest = omega arith
    by-test false rest = omega arith

-- each wire comes from one node
fan-outs-total :
    (first : ℕ) (wires : List Wire) (nodes : ℕ) →
    total_from (λ node. length (readers_from first wires node)) 0 nodes ≤ length wires
fan-outs-total first [] nodes = omega (arith, total-zeros 0 nodes)
fan-outs-total first (wire ∷ wires) nodes =
    omega (
      arith,
      total-le (λ node. length (readers_from first (wire ∷ wires) node)) (λ node. one_at wire.source node + length (readers_from (suc first) wires node)) 0 nodes
          (λ node from below. omega (arith, readers_from-more first wire wires node)),
      total-both (one_at wire.source) (λ node. length (readers_from (suc first) wires node)) 0 nodes,
      total-one_at wire.source 0 nodes,
      fan-outs-total (suc first) wires nodes,
    )

-- all variables together have two readers for each wire: the wire reads its source, and its gate reads the wire
readers-total :
    (netlist : Netlist) → IsCircuit netlist →
    total_from (reader_count netlist) 0 (length (network_of netlist)) ≤ 2 * length (wires_of netlist)
readers-total netlist circuit =
    let nodes = length netlist.names in
    let wires = length (wires_of netlist) in
    let counted : length (network_of netlist) ≡ nodes + wires = omega (arith, length-network_of netlist circuit, length-wires_of netlist) in
    omega (
      arith,
      ap (total_from (reader_count netlist) 0) counted,
      total-split (reader_count netlist) 0 nodes wires,
      total-le (reader_count netlist) (λ node. length (fan_out_of netlist node)) 0 nodes
          (λ node from below. omega (arith, ap (length {A = ℕ}) (node-readers netlist circuit node (omega (arith, below))))),
      fan-outs-total nodes (wires_of netlist) nodes,
      total-le (reader_count netlist) (λ wire. 1) (0 + nodes) wires
          (λ wire from below. omega (arith, ap (length {A = ℕ}) (wire-readers netlist circuit wire (omega (arith, from)) (omega (arith, below, length-wires_of netlist))))),
      total-ones (0 + nodes) wires,
    )

open-le-total :
    (rule : Rule) (weight : ℕ → ℕ) (first : ℕ) (values : List Tri) →
    open_weight_from rule weight first values ≤ total_from weight first (length values)
open-le-total rule weight first [] = omega arith
open-le-total rule weight first (value ∷ values) =
    omega (arith, at-most (is_open rule value), open-le-total rule weight (suc first) values)
  where
    at-most : (b : Bool) → cond b (weight first) 0 ≤ weight first
    at-most true = omega arith
    at-most false = omega arith

-- What a pass has counted: no less than the variables that can't change any more, and no more than the variables of the first round and the
-- readers of what changed. Those of what changed last, and of what may still change, are still to come.
pub record StepsSoFar (rule : Rule) (netlist : Netlist) (start : List Tri) (first begun now : ℕ) (next : List Tri) (changed : List ℕ) : Type 0 where
  pub least : begun + open_weight rule (λ i. 1) start ≤ now + open_weight rule (λ i. 1) next
  pub most :
      now + sum_by (reader_count netlist) changed + open_weight rule (reader_count netlist) next ≤
      begun + (first + 2 * length (wires_of netlist))

module _
    {rule : Rule} {input : List Bool} {state next : List Tri} {changed : List ℕ} (netlist : Netlist) (circuit : IsCircuit netlist)
    (round : IsRound rule (network_of netlist) input state next changed) where
  pub steps-begin : {first begun now : ℕ} → length state ≡ length (network_of netlist) → now ≤ begun + first → begun + length changed ≤ now →
      StepsSoFar rule netlist state first begun now next changed
  steps-begin long counted some = record {
    least = omega (arith, some, round.balance (λ i. 1), sum_by-ones changed);
    most = omega (
      arith,
      counted,
      round.balance (reader_count netlist),
      open-le-total rule (reader_count netlist) 0 state,
      ap (total_from (reader_count netlist) 0) long,
      readers-total netlist circuit,
    );
  }

  pub steps-more : {start : List Tri} {first begun before now : ℕ} {due : List ℕ} → StepsSoFar rule netlist start first begun before state due →
      now ≡ before + sum_by (reader_count netlist) due → before + length changed ≤ now → StepsSoFar rule netlist start first begun now next changed
  steps-more so_far counted some = record {
    least = omega (arith, some, so_far.least, round.balance (λ i. 1), sum_by-ones changed);
    most = omega (arith, counted, so_far.most, round.balance (reader_count netlist));
  }
