-- Each gate may be added to the circuit, and what the circuit is then.
use Rattle.std.proofs.Common.{◌≡◌, ◌∙◌, ap, refl, sym, ℕ, zero, suc, ◌+◌, ◌-◌, ◌*◌, ◌<◌, ◌≤◌, false, List, [], ◌∷◌, ◌++◌, length, All, arith, append_assoc, length-append, decimal, codes}
use Rattle.std.specs.List.{list_any, range_with_len, flat_map}
use Rattle.std.specs.Str.{bytes_eq}
use Rattle.std.proofs.lemmas.List.FromFn.{map-range_with_len_more}
use Rattle.std.proofs.lemmas.List.Folds.{list_any-append}
use Rattle.std.proofs.lemmas.List.Elements.{All-nil, All-cons}
use Rattle.std.proofs.lemmas.Grind.{flat_map-append}
use Rattle.hz_core.specs.declared.kind.Kind.{Kind}
use Rattle.hz_core.specs.declared.kind.Kind.TheVariants.{And, Or, Not, Buff}
use Rattle.hz_core.specs.Gate.{most_pins}
use Rattle.hz_core.specs.Netlist.{Gate, Netlist, variable_count, empty_netlist}
use Rattle.hz_gen.specs.Demo.{r_name, a_name, b_name, m_name}
use Rattle.hz_gen.specs.BuiltDemo.{MayAddWiredGate, with_wired_gate, ring_names, ring_gates, ring_netlist, buffer_gate, multiplexer_names, multiplexer_gates, last_gate, chain_netlist}
use Rattle.hz_gen.proofs.Gates.{count-added}
use Rattle.hz_gen.proofs.Names.{numbered-IsName}
use Rattle.hz_gen.proofs.FreshNames.{range-split, unnamed}
use Rattle.hz_gen.proofs.Counts.{nodes-ring, nodes-chain, length-ring_names, length-chain_names, count-ring, count-chain}
use Rattle.hz_gen.proofs.Numbers.{chain_names, r-new, a-new, b-new, m-new}
use Rattle.hz_options.specs.Numbers.{most_demo_number}

-- the node is one of so many
abbrev IsBelow : ℕ → ℕ → Type 0
IsBelow nodes source = source < nodes

one_below : (nodes source : ℕ) → source < nodes → All (IsBelow nodes) (source ∷ [])
one_below nodes source below = All-cons (IsBelow nodes) source [] below (All-nil (IsBelow nodes))

two_below : (nodes first second : ℕ) → first < nodes → second < nodes → All (IsBelow nodes) (first ∷ second ∷ [])
two_below nodes first second below after =
    All-cons (IsBelow nodes) first (second ∷ []) below (one_below nodes second after)

-- a buffer may be added
pub buffer-may :
    (circuit : Netlist) (number source : ℕ) (kind : Kind) → 1 ≤ most_pins kind → 2 ≤ number → number ≤ most_demo_number →
    circuit ≡ ring_netlist (3 ∷ []) (number - 2) → source ≡ number + 2 →
    MayAddWiredGate circuit (114 ∷ decimal number) kind (source ∷ [])
buffer-may circuit number source kind takes some most so_far is =
    let buffers = number - 2 in
    rw so_far (record {
      name_is = numbered-IsName 114 number refl most;
      fresh = unnamed (ring_names buffers) (r_name number) (r-new buffers number (omega arith) most);
      nodes = nodes-ring (3 ∷ []) buffers;
      reads = one_below (length (ring_names buffers)) source (omega (arith, length-ring_names buffers));
      pins = takes;
      room = omega (arith, count-ring (3 ∷ []) buffers);
    })

-- the ring has one buffer more
pub buffer-added :
    (circuit next : Netlist) (number source : ℕ) → 2 ≤ number → circuit ≡ ring_netlist (3 ∷ []) (number - 2) →
    source ≡ number + 2 → next ≡ with_wired_gate circuit (114 ∷ decimal number) Buff (source ∷ []) →
    next ≡ ring_netlist (3 ∷ []) (number + 1 - 2)
buffer-added circuit next number source some so_far is step =
    let buffers = number - 2 in
    let more : number + 1 - 2 ≡ buffers + 1 = omega arith in
    let at : 2 + buffers ≡ number = omega arith in
    let names = map-range_with_len_more r_name 2 buffers number at in
    let gates = map-range_with_len_more buffer_gate 2 buffers number at in
    rw (step, so_far, is, more, names, gates) refl

-- the last gate before a multiplexer is a node
last_gate-below : (n i : ℕ) → 1 ≤ n → last_gate n i < n + 3 * i + 4
last_gate-below n zero least = omega arith
last_gate-below n (suc i) least = omega arith

-- the lists of a range, and one more
lists-more :
    {X : Type 0} (lists : ℕ → List X) (i : ℕ) →
    flat_map lists (range_with_len 1 (suc i)) ≡ flat_map lists (range_with_len 1 i) ++ (lists (suc i) ++ [])
lists-more lists i =
    let more : suc i ≡ i + suc 0 = omega arith in
    ap (λ count. flat_map lists (range_with_len 1 count)) more
    ∙ ap (flat_map lists) (range-split 1 i (suc i) 0 (omega arith))
    ∙ flat_map-append lists (range_with_len 1 i) (suc i ∷ [])

-- three elements that were added one after the other
three-added :
    {X : Type 0} (front middle : List X) (x y z : X) →
    (((front ++ middle) ++ x ∷ []) ++ y ∷ []) ++ z ∷ [] ≡ front ++ (middle ++ x ∷ y ∷ z ∷ [])
three-added front middle x y z =
    append_assoc ((front ++ middle) ++ x ∷ []) (y ∷ []) (z ∷ []) ∙ append_assoc (front ++ middle) (x ∷ []) (y ∷ z ∷ [])
    ∙ append_assoc front middle (x ∷ y ∷ z ∷ [])

-- the first gate of the ring may be added
pub ring-may :
    MayAddWiredGate
    (record empty_netlist {
      names = codes "go" ∷ codes "x" ∷ codes "n" ∷ codes "p" ∷ [];
      inputs = 2;
      gates = record { kind = Not; sources = 0 ∷ [] } ∷ record { kind = And; sources = 0 ∷ 2 ∷ [] } ∷ [];
    })
    (114 ∷ decimal 1) Or (3 ∷ [])
ring-may =
    record {
      name_is = numbered-IsName 114 1 refl (omega arith);
      fresh = unnamed (codes "go" ∷ codes "x" ∷ codes "n" ∷ codes "p" ∷ []) (r_name 1) refl;
      nodes = refl;
      reads = one_below 4 3 (omega arith);
      pins = omega arith;
      room = omega arith;
    }

module _ (n i : ℕ) (least : 1 ≤ n) (within : suc i ≤ n) (most : n ≤ most_demo_number) where
  -- the circuit so far, and its nodes
  abbrev names : List (List ℕ)
  names = chain_names n i

  nodes : length names ≡ n + 3 * i + 4
  nodes = length-chain_names n i least

  -- the first gate of a multiplexer may be added
  a-may : MayAddWiredGate (chain_netlist n i) (97 ∷ decimal (suc i)) And (0 ∷ last_gate n i ∷ [])
  a-may =
      let last : last_gate n i < length names = omega (arith, nodes, last_gate-below n i least) in
      record {
        name_is = numbered-IsName 97 (suc i) refl (omega arith);
        fresh = unnamed names (a_name (suc i)) (a-new n i (omega arith));
        nodes = nodes-chain n i least;
        reads = two_below (length names) 0 (last_gate n i) (omega (arith, nodes)) last;
        pins = omega arith;
        room = omega (arith, count-chain n i least);
      }

  -- the gate, and the circuit with it
  abbrev a_gate : Gate
  a_gate = record { kind = And; sources = 0 ∷ last_gate n i ∷ [] }

  abbrev with_a : Netlist
  with_a = with_wired_gate (chain_netlist n i) (97 ∷ decimal (suc i)) And (0 ∷ last_gate n i ∷ [])

  -- one name and one gate more
  a-names : length (names ++ a_name (suc i) ∷ []) ≡ n + 3 * i + 5
  a-names = omega (arith, length-append names (a_name (suc i) ∷ []), nodes)

  a-gates : length with_a.names ≡ 2 + length with_a.gates
  a-gates =
      omega (
        arith,
        nodes-chain n i least,
        length-append names (a_name (suc i) ∷ []),
        length-append (chain_netlist n i).gates (a_gate ∷ []),
      )

  a-count : variable_count with_a ≡ 2 * n + 9 * i + 11
  a-count =
      omega (
        arith,
        count-added (chain_netlist n i) (97 ∷ decimal (suc i)) And 0 (0 ∷ last_gate n i ∷ []),
        count-chain n i least,
      )

  -- the second gate may be added, whichever of the first nodes it reads
  b-may : (select : ℕ) → select ≤ 3 → MayAddWiredGate with_a (98 ∷ decimal (suc i)) And (select ∷ last_gate n i ∷ [])
  b-may select first =
      let new : list_any (bytes_eq (b_name (suc i))) (names ++ a_name (suc i) ∷ []) ≡ false =
      list_any-append (bytes_eq (b_name (suc i))) names (a_name (suc i) ∷ []) ∙ rw (b-new n i (omega arith)) refl in
      let last : last_gate n i < length (names ++ a_name (suc i) ∷ []) =
      omega (arith, a-names, last_gate-below n i least) in
      record {
        name_is = numbered-IsName 98 (suc i) refl (omega arith);
        fresh = unnamed (names ++ a_name (suc i) ∷ []) (b_name (suc i)) new;
        nodes = a-gates;
        reads = two_below (length (names ++ a_name (suc i) ∷ [])) select (last_gate n i) (omega (arith, a-names)) last;
        pins = omega arith;
        room = omega (arith, a-count);
      }

  -- the gate, and the circuit with it
  abbrev b_gate : ℕ → Gate
  b_gate select = record { kind = And; sources = select ∷ last_gate n i ∷ [] }

  abbrev with_b : ℕ → Netlist
  with_b select = with_wired_gate with_a (98 ∷ decimal (suc i)) And (select ∷ last_gate n i ∷ [])

  -- the last gate may be added
  m-may :
      (select : ℕ) →
      MayAddWiredGate (with_b select) (109 ∷ decimal (suc i)) Or ((n + 3 * suc i + 1) ∷ (n + 3 * suc i + 2) ∷ [])
  m-may select =
      let before = names ++ a_name (suc i) ∷ [] in
      let all = before ++ b_name (suc i) ∷ [] in
      let new : list_any (bytes_eq (m_name (suc i))) all ≡ false =
      list_any-append (bytes_eq (m_name (suc i))) before (b_name (suc i) ∷ [])
      ∙ rw (list_any-append (bytes_eq (m_name (suc i))) names (a_name (suc i) ∷ []), m-new n i (omega arith)) refl in
      let more = length-append before (b_name (suc i) ∷ []) in
      let gates = length-append with_a.gates (b_gate select ∷ []) in
      let first : n + 3 * suc i + 1 < length all = omega (arith, a-names, more) in
      let second : n + 3 * suc i + 2 < length all = omega (arith, a-names, more) in
      record {
        name_is = numbered-IsName 109 (suc i) refl (omega arith);
        fresh = unnamed all (m_name (suc i)) new;
        nodes = omega (arith, a-gates, more, gates);
        reads = two_below (length all) (n + 3 * suc i + 1) (n + 3 * suc i + 2) first second;
        pins = omega arith;
        room = omega (
          arith,
          count-added with_a (98 ∷ decimal (suc i)) And 0 (select ∷ last_gate n i ∷ []),
          a-count,
        );
      }

  -- the chain has one multiplexer more
  m-added :
      with_wired_gate (with_b 2) (109 ∷ decimal (suc i)) Or ((n + 3 * suc i + 1) ∷ (n + 3 * suc i + 2) ∷ [])
      ≡ chain_netlist n (suc i)
  m-added =
      let m_gate : Gate = record { kind = Or; sources = (n + 3 * suc i + 1) ∷ (n + 3 * suc i + 2) ∷ [] } in
      let with_lists : List (List ℕ) → List Gate → Netlist =
      λ names gates. record empty_netlist { names = names; inputs = 2; gates = gates } in
      let ring = ring_gates (3 ∷ (n + 3) ∷ []) (n - 1) in
      let chain = flat_map (multiplexer_gates n) (range_with_len 1 i) in
      let last : last_gate n i ≡ last_gate n (suc i - 1) = ap (last_gate n) (omega arith) in
      let three : ℕ → List Gate = λ last.
      record { kind = And; sources = 0 ∷ last ∷ [] } ∷ record { kind = And; sources = 2 ∷ last ∷ [] } ∷ m_gate ∷ [] in
      let names_same : (with_b 2).names ++ m_name (suc i) ∷ [] ≡ chain_names n (suc i) =
      three-added (ring_names (n - 1)) (flat_map multiplexer_names (range_with_len 1 i)) _ _ _
      ∙ ap (λ rest. ring_names (n - 1) ++ rest) (sym (lists-more multiplexer_names i)) in
      let gates_same : (with_b 2).gates ++ m_gate ∷ [] ≡ (chain_netlist n (suc i)).gates =
      three-added ring chain a_gate (b_gate 2) m_gate
      ∙ ap (λ last. ring ++ (chain ++ three last)) last
      ∙ ap (λ rest. ring ++ rest) (sym (lists-more (multiplexer_gates n) i)) in
      ap (λ names. with_lists names ((with_b 2).gates ++ m_gate ∷ [])) names_same
      ∙ ap (with_lists (chain_names n (suc i))) gates_same

-- what holds while a multiplexer is added: its number, the node before it, and the circuit that it is added to
pub record IsNext (n number before : ℕ) (circuit : Netlist) : Type 0 where
  pub least : 1 ≤ n
  pub most : n ≤ most_demo_number
  pub some : 1 ≤ number
  pub within : number ≤ n
  pub so_far : circuit ≡ chain_netlist n (number - 1)
  pub last : before ≡ last_gate n (number - 1)

-- its first gate may be added
pub first-may :
    (n number before : ℕ) (circuit : Netlist) → IsNext n number before circuit →
    MayAddWiredGate circuit (97 ∷ decimal number) And (0 ∷ before ∷ [])
first-may n zero before circuit next = absurd (omega (arith, next.some))
first-may n (suc i) before circuit next =
    let back : suc i - 1 ≡ i = omega arith in
    rw (next.so_far, next.last, back) (a-may n i next.least next.within next.most)

-- its second gate may be added
pub second-may :
    (n number before select : ℕ) (circuit second : Netlist) → IsNext n number before circuit → select ≤ 3 →
    second ≡ with_wired_gate circuit (97 ∷ decimal number) And (0 ∷ before ∷ []) →
    MayAddWiredGate second (98 ∷ decimal number) And (select ∷ before ∷ [])
second-may n zero before select circuit second next first is = absurd (omega (arith, next.some))
second-may n (suc i) before select circuit second next first is =
    let back : suc i - 1 ≡ i = omega arith in
    rw (is, next.so_far, next.last, back) (b-may n i next.least next.within next.most select first)

-- the number of its first gate
first_number :
    (n i first : ℕ) (circuit : Netlist) → 1 ≤ n → circuit ≡ chain_netlist n i → first ≡ length circuit.names →
    first ≡ n + 3 * suc i + 1
first_number n i first circuit least so_far is =
    let names : length circuit.names ≡ length (chain_names n i) = ap (λ circuit. length circuit.names) so_far in
    omega (arith, is, names, length-chain_names n i least)

-- its last gate may be added
pub third-may :
    (n number before select first : ℕ) (circuit second third : Netlist) → IsNext n number before circuit →
    first ≡ length circuit.names → second ≡ with_wired_gate circuit (97 ∷ decimal number) And (0 ∷ before ∷ []) →
    third ≡ with_wired_gate second (98 ∷ decimal number) And (select ∷ before ∷ []) →
    MayAddWiredGate third (109 ∷ decimal number) Or (first ∷ (first + 1) ∷ [])
third-may n zero before select first circuit second third next is e f = absurd (omega (arith, next.some))
third-may n (suc i) before select first circuit second third next is e f =
    let back : suc i - 1 ≡ i = omega arith in
    let number = first_number n i first circuit next.least (next.so_far ∙ ap (chain_netlist n) back) is in
    let after : n + 3 * suc i + 1 + 1 ≡ n + 3 * suc i + 2 = omega arith in
    rw (f, e, next.so_far, next.last, back, number, after) (m-may n i next.least next.within next.most select)

-- and the chain has one multiplexer more
pub third-added :
    (n number before first : ℕ) (circuit second third fourth : Netlist) → IsNext n number before circuit →
    first ≡ length circuit.names → second ≡ with_wired_gate circuit (97 ∷ decimal number) And (0 ∷ before ∷ []) →
    third ≡ with_wired_gate second (98 ∷ decimal number) And (2 ∷ before ∷ []) →
    fourth ≡ with_wired_gate third (109 ∷ decimal number) Or (first ∷ (first + 1) ∷ []) →
    (fourth ≡ chain_netlist n (number + 1 - 1)) × (first + 2 ≡ last_gate n (number + 1 - 1))
third-added n zero before first circuit second third fourth next is e f g = absurd (omega (arith, next.some))
third-added n (suc i) before first circuit second third fourth next is e f g =
    let back : suc i - 1 ≡ i = omega arith in
    let same : suc i + 1 - 1 ≡ suc i = omega arith in
    let number = first_number n i first circuit next.least (next.so_far ∙ ap (chain_netlist n) back) is in
    let after : n + 3 * suc i + 1 + 1 ≡ n + 3 * suc i + 2 = omega arith in
    let added = m-added n i next.least next.within next.most in
    rw same (rw (g, f, e, next.so_far, next.last, back, number, after) added, omega (arith, number))
