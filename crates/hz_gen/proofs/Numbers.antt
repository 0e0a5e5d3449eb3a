-- The number of a node by its name, and so that the circuit of a number is the one that is built.
use Rattle.std.proofs.Common.{◌≡◌, ◌∙◌, ap, refl, sym, ℕ, zero, suc, ◌+◌, ◌-◌, ◌*◌, ◌<◌, ◌≤◌, Bool, false, ◌||◌, List, [], ◌∷◌, ◌++◌, map, arith, append_assoc, codes}
use Rattle.std.specs.List.{list_any, position_or_len, range_with_len, flat_map}
use Rattle.std.specs.Str.{bytes_eq}
use Rattle.std.proofs.lemmas.List.{map-append}
use Rattle.std.proofs.lemmas.List.FromFn.{length-map-range_with_len}
use Rattle.std.proofs.lemmas.List.Folds.{list_any-append}
use Rattle.std.proofs.lemmas.Grind.{flat_map-append}
use Rattle.hz_core.specs.Netlist.{Gate, Netlist, empty_netlist}
use Rattle.hz_gen.specs.Demo.{GateLine, r_name, a_name, b_name, m_name, buffer_line, multiplexer_lines, demo_gate_lines, names_of_lines, node_in, gate_in, demo_names, demo_netlist}
use Rattle.hz_gen.specs.BuiltDemo.{ring_names, buffer_gate, multiplexer_names, multiplexer_gates, last_gate, chain_netlist}
use Rattle.hz_gen.proofs.Names.{earlier-differ}
use Rattle.hz_gen.proofs.FreshNames.{none_in-range, none_in-lists, place-after, place-of, range-split}
use Rattle.hz_gen.proofs.Counts.{length-chain_names}
use Rattle.hz_options.specs.Numbers.{most_demo_number}

none_of_three : (x y z : Bool) → x ≡ false → y ≡ false → z ≡ false → (x || (y || (z || false))) ≡ false
none_of_three x y z e f g = rw (e, f, g) refl

-- the names before a gate of the ring
abbrev ring_front : ℕ → List (List ℕ)
ring_front before = codes "go" ∷ codes "x" ∷ codes "n" ∷ codes "p" ∷ map r_name (range_with_len 1 before)

-- the names of the circuit with so many multiplexers
abbrev pub chain_names : ℕ → ℕ → List (List ℕ)
chain_names n multiplexers = (chain_netlist n multiplexers).names

-- a gate of the ring has a new name
r-fresh : (k before : ℕ) → before < k → k ≤ most_demo_number → list_any (bytes_eq (r_name k)) (ring_front before) ≡ false
r-fresh k before later most =
    none_in-range (bytes_eq (r_name k)) r_name 1 before
    (λ j low high. earlier-differ 114 k j most (omega (arith, high)))

pub r-new : (buffers k : ℕ) → buffers + 2 ≤ k → k ≤ most_demo_number → list_any (bytes_eq (r_name k)) (ring_names buffers) ≡ false
r-new buffers k later most = r-fresh k (suc buffers) (omega arith) most

-- the multiplexers' names differ from the names of the ring
a-ring : (k buffers : ℕ) → list_any (bytes_eq (a_name k)) (ring_names buffers) ≡ false
a-ring k buffers = none_in-range (bytes_eq (a_name k)) r_name 1 (suc buffers) (λ j low high. refl)

b-ring : (k buffers : ℕ) → list_any (bytes_eq (b_name k)) (ring_names buffers) ≡ false
b-ring k buffers = none_in-range (bytes_eq (b_name k)) r_name 1 (suc buffers) (λ j low high. refl)

m-ring : (i buffers : ℕ) → list_any (bytes_eq (m_name (suc i))) (ring_names buffers) ≡ false
m-ring i buffers = none_in-range (bytes_eq (m_name (suc i))) r_name 1 (suc buffers) (λ j low high. refl)

-- names with other letters differ
a-m : (k j : ℕ) → bytes_eq (a_name k) (m_name j) ≡ false
a-m k zero = refl
a-m k (suc j) = refl

b-m : (k j : ℕ) → bytes_eq (b_name k) (m_name j) ≡ false
b-m k zero = refl
b-m k (suc j) = refl

m-m : (i j : ℕ) → 1 ≤ j → j < suc i → suc i ≤ most_demo_number → bytes_eq (m_name (suc i)) (m_name j) ≡ false
m-m i zero low high most = absurd (omega (arith, low))
m-m i (suc j) low high most =
    earlier-differ 109 (suc i) (suc j) most high

-- a multiplexer's gates have new names
pub a-new : (n i : ℕ) → suc i ≤ most_demo_number → list_any (bytes_eq (a_name (suc i))) (chain_names n i) ≡ false
a-new n i most =
    list_any-append (bytes_eq (a_name (suc i))) (ring_names (n - 1)) (flat_map multiplexer_names (range_with_len 1 i))
    ∙ rw (
      a-ring (suc i) (n - 1),
      none_in-lists (bytes_eq (a_name (suc i))) multiplexer_names 1 i
          (λ j low high. none_of_three _ _ _ (earlier-differ 97 (suc i) j most (omega (arith, high))) refl (a-m (suc i) j)),
    ) refl

pub b-new : (n i : ℕ) → suc i ≤ most_demo_number → list_any (bytes_eq (b_name (suc i))) (chain_names n i) ≡ false
b-new n i most =
    list_any-append (bytes_eq (b_name (suc i))) (ring_names (n - 1)) (flat_map multiplexer_names (range_with_len 1 i))
    ∙ rw (
      b-ring (suc i) (n - 1),
      none_in-lists (bytes_eq (b_name (suc i))) multiplexer_names 1 i
          (λ j low high. none_of_three _ _ _ refl (earlier-differ 98 (suc i) j most (omega (arith, high))) (b-m (suc i) j)),
    ) refl

pub m-new : (n i : ℕ) → suc i ≤ most_demo_number → list_any (bytes_eq (m_name (suc i))) (chain_names n i) ≡ false
m-new n i most =
    list_any-append (bytes_eq (m_name (suc i))) (ring_names (n - 1)) (flat_map multiplexer_names (range_with_len 1 i))
    ∙ rw (
      m-ring i (n - 1),
      none_in-lists (bytes_eq (m_name (suc i))) multiplexer_names 1 i
          (λ j low high. none_of_three _ _ _ refl refl (m-m i j low (omega (arith, high)) most)),
    ) refl

-- the ring, at one of its gates
ring-split :
    (buffers i j : ℕ) (rest : List (List ℕ)) → i + j ≡ buffers →
    ring_names buffers ++ rest ≡ ring_front i ++ r_name (suc i) ∷ (map r_name (range_with_len (suc i + 1) j) ++ rest)
ring-split buffers i j rest is =
    let all : i + suc j ≡ suc buffers = omega (arith, is) in
    let after = map r_name (range_with_len (suc i + 1) j) in
    let names :
    map r_name (range_with_len 1 (suc buffers)) ≡ map r_name (range_with_len 1 i) ++ r_name (suc i) ∷ after =
    ap (λ count. map r_name (range_with_len 1 count)) (sym all) ∙ ap (map r_name) (range-split 1 i (suc i) j (omega arith))
    ∙ map-append r_name (range_with_len 1 i) (suc i ∷ range_with_len (suc i + 1) j) in
    ap (λ names. (codes "go" ∷ codes "x" ∷ codes "n" ∷ codes "p" ∷ names) ++ rest) names
    ∙ append_assoc (ring_front i) (r_name (suc i) ∷ after) rest

-- the chain, at one of its multiplexers
chain-split :
    (n i j : ℕ) → i + suc j ≡ n →
    chain_names n n
    ≡ chain_names n i ++ (multiplexer_names (suc i) ++ flat_map multiplexer_names (range_with_len (suc i + 1) j))
chain-split n i j is =
    let rest = flat_map multiplexer_names (range_with_len (suc i + 1) j) in
    let front = flat_map multiplexer_names (range_with_len 1 i) in
    let names : flat_map multiplexer_names (range_with_len 1 n) ≡ front ++ (multiplexer_names (suc i) ++ rest) =
    ap (λ count. flat_map multiplexer_names (range_with_len 1 count)) (sym is)
    ∙ ap (flat_map multiplexer_names) (range-split 1 i (suc i) j (omega arith))
    ∙ flat_map-append multiplexer_names (range_with_len 1 i) (suc i ∷ range_with_len (suc i + 1) j) in
    ap (λ names. ring_names (n - 1) ++ names) names
    ∙ sym (append_assoc (ring_names (n - 1)) front (multiplexer_names (suc i) ++ rest))

-- the number of a gate of the ring
pub r-node : (n k : ℕ) → 1 ≤ k → k ≤ n → n ≤ most_demo_number → node_in (chain_names n n) (r_name k) ≡ k + 3
r-node n zero some within most = absurd (omega (arith, some))
r-node n (suc i) some within most =
    let rest = flat_map multiplexer_names (range_with_len 1 n) in
    let j = n - suc i in
    ap (position_or_len (bytes_eq (r_name (suc i)))) (ring-split (n - 1) i j rest (omega arith))
    ∙ place-of (r_name (suc i)) (ring_front i) (map r_name (range_with_len (suc i + 1) j) ++ rest)
    (r-fresh (suc i) i (omega arith) (omega arith))
    ∙ omega (arith, length-map-range_with_len r_name 1 i)

-- a name has this place in a multiplexer, whatever comes after it
abbrev IsBehind : ℕ → List ℕ → ℕ → Type 0
IsBehind k name place =
    (rest : List (List ℕ)) → position_or_len (bytes_eq name) (multiplexer_names k ++ rest) ≡ place

-- the number of a node that stands so many places behind the multiplexers before it
chain_node :
    (n i place : ℕ) (name : List ℕ) → suc i ≤ n → list_any (bytes_eq name) (chain_names n i) ≡ false →
    IsBehind (suc i) name place → node_in (chain_names n n) name ≡ n + 3 * i + 4 + place
chain_node n i place name within new behind =
    let j = n - suc i in
    let rest = flat_map multiplexer_names (range_with_len (suc i + 1) j) in
    ap (position_or_len (bytes_eq name)) (chain-split n i j (omega arith))
    ∙ place-after (bytes_eq name) (chain_names n i) (multiplexer_names (suc i) ++ rest) new
    ∙ omega (arith, length-chain_names n i (omega arith), behind rest)

-- the numbers of the gates of a multiplexer
pub a-node : (n k : ℕ) → 1 ≤ k → k ≤ n → n ≤ most_demo_number → node_in (chain_names n n) (a_name k) ≡ n + 3 * k + 1
a-node n zero some within most = absurd (omega (arith, some))
a-node n (suc i) some within most =
    let behind : IsBehind (suc i) (a_name (suc i)) 0 =
    λ rest. place-of (a_name (suc i)) [] (b_name (suc i) ∷ m_name (suc i) ∷ rest) refl in
    chain_node n i 0 (a_name (suc i)) within (a-new n i (omega arith)) behind ∙ omega arith

pub b-node : (n k : ℕ) → 1 ≤ k → k ≤ n → n ≤ most_demo_number → node_in (chain_names n n) (b_name k) ≡ n + 3 * k + 2
b-node n zero some within most = absurd (omega (arith, some))
b-node n (suc i) some within most =
    let behind : IsBehind (suc i) (b_name (suc i)) 1 =
    λ rest. place-of (b_name (suc i)) (a_name (suc i) ∷ []) (m_name (suc i) ∷ rest) refl in
    chain_node n i 1 (b_name (suc i)) within (b-new n i (omega arith)) behind ∙ omega arith

pub m-node : (n k : ℕ) → k ≤ n → n ≤ most_demo_number → node_in (chain_names n n) (m_name k) ≡ last_gate n k
m-node n zero within most = refl
m-node n (suc i) within most =
    let behind : IsBehind (suc i) (m_name (suc i)) 2 =
    λ rest. place-of (m_name (suc i)) (a_name (suc i) ∷ b_name (suc i) ∷ []) rest refl in
    chain_node n i 2 (m_name (suc i)) within (m-new n i (omega arith)) behind ∙ omega arith

-- names of lines
buffer_names : (ks : List ℕ) → map (λ line. line.name) (map buffer_line ks) ≡ map r_name ks
buffer_names [] = refl
buffer_names (k ∷ ks) = ap (λ rest. r_name k ∷ rest) (buffer_names ks)

multiplexers_names :
    (ks : List ℕ) → map (λ line. line.name) (flat_map multiplexer_lines ks) ≡ flat_map multiplexer_names ks
multiplexers_names [] = refl
multiplexers_names (k ∷ ks) = ap (λ rest. a_name k ∷ b_name k ∷ m_name k ∷ rest) (multiplexers_names ks)

-- the names of the circuit are those that are added
names-added : (n : ℕ) → names_of_lines (demo_gate_lines n) ≡ chain_names n n
names-added n =
    let name : GateLine → List ℕ = λ line. line.name in
    let ring = range_with_len 2 (n - 1) in
    let chain = range_with_len 1 n in
    let rest :
    map name (map buffer_line ring ++ flat_map multiplexer_lines chain)
    ≡ map r_name ring ++ flat_map multiplexer_names chain =
    map-append name (map buffer_line ring) (flat_map multiplexer_lines chain)
    ∙ rw (buffer_names ring, multiplexers_names chain) refl in
    ap (λ rest. codes "go" ∷ codes "x" ∷ codes "n" ∷ codes "p" ∷ r_name 1 ∷ rest) rest

pub names-built : (n : ℕ) → demo_names n ≡ chain_names n n
unfolding demo_names
names-built n = names-added n

-- the gates of the lines of a range
gates_of-range :
    (gate : GateLine → Gate) (line : ℕ → GateLine) (one : ℕ → Gate) (first count : ℕ) →
    ((j : ℕ) → first ≤ j → j < first + count → gate (line j) ≡ one j) →
    map gate (map line (range_with_len first count)) ≡ map one (range_with_len first count)
gates_of-range gate line one first zero same = refl
gates_of-range gate line one first (suc count) same =
    ap (λ head. head ∷ map gate (map line (range_with_len (first + 1) count))) (same first (omega arith) (omega arith))
    ∙ ap (λ rest. one first ∷ rest)
    (gates_of-range gate line one (first + 1) count (λ j low high. same j (omega (arith, low)) (omega (arith, high))))

gates_of-lists :
    (gate : GateLine → Gate) (lines : ℕ → List GateLine) (gates : ℕ → List Gate) (first count : ℕ) →
    ((j : ℕ) → first ≤ j → j < first + count → map gate (lines j) ≡ gates j) →
    map gate (flat_map lines (range_with_len first count)) ≡ flat_map gates (range_with_len first count)
gates_of-lists gate lines gates first zero same = refl
gates_of-lists gate lines gates first (suc count) same =
    map-append gate (lines first) (flat_map lines (range_with_len (first + 1) count))
    ∙ ap (λ head. head ++ map gate (flat_map lines (range_with_len (first + 1) count)))
    (same first (omega arith) (omega arith))
    ∙ ap (λ rest. gates first ++ rest)
    (gates_of-lists gate lines gates (first + 1) count (λ j low high. same j (omega (arith, low)) (omega (arith, high))))

-- a buffer reads the gate before it
buffer_reads :
    (n k : ℕ) → 2 ≤ k → k ≤ n → n ≤ most_demo_number → gate_in (chain_names n n) (buffer_line k) ≡ buffer_gate k
buffer_reads n k low within most =
    let source : node_in (chain_names n n) (r_name (k - 1)) ≡ k + 2 =
    r-node n (k - 1) (omega arith) (omega arith) most ∙ omega arith in
    rw source refl

-- a multiplexer reads the one before it
multiplexer_reads :
    (n k : ℕ) → 1 ≤ k → k ≤ n → n ≤ most_demo_number →
    map (gate_in (chain_names n n)) (multiplexer_lines k) ≡ multiplexer_gates n k
multiplexer_reads n k low within most =
    rw (m-node n (k - 1) (omega arith) most, a-node n k low within most, b-node n k low within most) refl

gates-built :
    (n : ℕ) → 1 ≤ n → n ≤ most_demo_number → map (gate_in (chain_names n n)) (demo_gate_lines n) ≡ (chain_netlist n n).gates
gates-built n least most =
    let gate = gate_in (chain_names n n) in
    let ring = range_with_len 2 (n - 1) in
    let chain = range_with_len 1 n in
    let buffers : map gate (map buffer_line ring) ≡ map buffer_gate ring =
    gates_of-range gate buffer_line buffer_gate 2 (n - 1)
    (λ k low high. buffer_reads n k low (omega (arith, high)) most) in
    let multiplexers : map gate (flat_map multiplexer_lines chain) ≡ flat_map (multiplexer_gates n) chain =
    gates_of-lists gate multiplexer_lines (multiplexer_gates n) 1 n
    (λ k low high. multiplexer_reads n k low (omega (arith, high)) most) in
    let rest :
    map gate (map buffer_line ring ++ flat_map multiplexer_lines chain)
    ≡ map buffer_gate ring ++ flat_map (multiplexer_gates n) chain =
    map-append gate (map buffer_line ring) (flat_map multiplexer_lines chain) ∙ rw (buffers, multiplexers) refl in
    rw (r-node n n least (omega arith) most, rest) refl

-- the circuit of a number is the one that is built
pub demo-built : (n : ℕ) → 1 ≤ n → n ≤ most_demo_number → demo_netlist n ≡ chain_netlist n n
unfolding demo_netlist
demo-built n least most =
    let with_lists : List (List ℕ) → List Gate → Netlist =
    λ names gates. record empty_netlist { names = names; inputs = 2; gates = gates } in
    ap (λ names. with_lists names (map (gate_in names) (demo_gate_lines n))) (names-built n)
    ∙ ap (with_lists (chain_names n n)) (gates-built n least most)
