-- The start of the script of a number leaves the circuit at rest.
use Rattle.std.proofs.Common.{◌≡◌, ◌≢◌, ◌∙◌, ap, sym, refl, subst, ℕ, zero, suc, ◌+◌, ◌-◌, ◌*◌, ◌<◌, ◌≤◌, Bool, true, false, Option, Some, None, List, [], ◌∷◌, ◌++◌, length, get_or, set, replicate, arith, inl, inr, slice_get, length-set, get_or-set_same, get_or-set_other}
use Rattle.std.specs.List.{range_with_len, flat_map}
use Rattle.std.proofs.lemmas.Bool.{cases_lt, cases_eq}
use Rattle.std.proofs.lemmas.List.{get_or_append_left, get_or-append_right, get_or-replicate, length-replicate}
use Rattle.std.proofs.lemmas.List.FromFn.{get_or-map-range_with_len}
use Rattle.std.proofs.lemmas.Option.{slice_get-get_or}
use Rattle.hz_core.specs.declared.kind.Kind.TheVariants.{And, Or, Not}
use Rattle.hz_core.specs.Gate.{gate_value}
use Rattle.hz_core.specs.Netlist.{Gate, IsCircuit, IsGateNumber, gate_at}
use Rattle.hz_net.specs.Starts.{IsForced}
use Rattle.hz_net.proofs.Derivations.{forced-listed}
use Rattle.hz_gen.specs.Demo.{demo_script}
use Rattle.hz_gen.specs.BuiltDemo.{buffer_gate, ring_gates, multiplexer_gates, last_gate, chain_netlist}
use Rattle.hz_gen.specs.Starts.{DemoStarts}
use Rattle.hz_gen.proofs.Counts.{length-chain_names, length-ring_gates}
use Rattle.hz_gen.proofs.Numbers.{demo-built}
use Rattle.hz_gen.proofs.Scripts.{start_of, script-built}
use Rattle.hz_gen.proofs.RestingCircuits.{Rests, AreForcedTo, rest-gate, rest-listed, rest-input, rests-not-open, rests-not-unstable}

-- one of three elements for each number of a range
at-three : (f : ℕ → List Gate) (first count i j : ℕ) (d : Gate) → ((k : ℕ) → length (f k) ≡ 3) → i < count → j < 3 →
    get_or (flat_map f (range_with_len first count)) (3 * i + j) d ≡ get_or (f (first + i)) j d
at-three f first zero i j d three few inside = absurd (omega arith)
at-three f first (suc count) zero j d three few inside =
    let place : 3 * zero + j ≡ j = omega arith in
    let same : first + 0 ≡ first = omega arith in
    let long = three first in
    rw (place, same) (get_or_append_left (f first) (flat_map f (range_with_len (first + 1) count)) d j (omega arith))
at-three f first (suc count) (suc i) j d three few inside =
    let place : 3 * suc i + j - 3 ≡ 3 * i + j = omega arith in
    let same : first + 1 + i ≡ first + suc i = omega arith in
    get_or-append_right (f first) (flat_map f (range_with_len (first + 1) count)) 3 (3 * suc i + j) d (three first) (omega arith)
    ∙ ap (λ n. get_or (flat_map f (range_with_len (first + 1) count)) n d) place
    ∙ at-three f (first + 1) count i j d three (omega arith) inside
    ∙ ap (λ n. get_or (f n) j d) same

-- a number below three times another, by its third
by-thirds : (n x : ℕ) → x < 3 * n → (i : ℕ) × (j : ℕ) × (i < n) × (j < 3) × (x ≡ 3 * i + j)
by-thirds zero x few = absurd (omega arith)
by-thirds (suc n) x few =
    elim (cases_lt x 3) [
      | inl low ↦ (0, x, omega arith, low, omega arith)
      | inr high ↦
          let rest = by-thirds n (x - 3) (omega arith) in
          let same = rest.4 in
          (suc rest.0, rest.1, omega (arith, rest.2), rest.3, omega arith)
    ]

module _ (n : ℕ) (least : 1 ≤ n) where
  long : length (start_of (4 * n + 4) (n + 3)) ≡ 4 * n + 4
  long =
      length-set (set (set (replicate (4 * n + 4) None) 0 (Some false)) 1 (Some true)) (n + 3) (Some false)
      ∙ length-set (set (replicate (4 * n + 4) None) 0 (Some false)) 1 (Some true)
      ∙ length-set (replicate (4 * n + 4) None) 0 (Some false) ∙ length-replicate (4 * n + 4) None

  long-two : length (set (set (replicate {A = Option Bool} (4 * n + 4) None) 0 (Some false)) 1 (Some true)) ≡ 4 * n + 4
  long-two =
      length-set (set (replicate (4 * n + 4) None) 0 (Some false)) 1 (Some true)
      ∙ length-set (replicate (4 * n + 4) None) 0 (Some false) ∙ length-replicate (4 * n + 4) None

  long-one : length (set (replicate {A = Option Bool} (4 * n + 4) None) 0 (Some false)) ≡ 4 * n + 4
  long-one = length-set (replicate (4 * n + 4) None) 0 (Some false) ∙ length-replicate (4 * n + 4) None

  long-none : length (replicate {A = Option Bool} (4 * n + 4) None) ≡ 4 * n + 4
  long-none = length-replicate (4 * n + 4) None

  read : (node : ℕ) (entry : Option Bool) → node < 4 * n + 4 → get_or (start_of (4 * n + 4) (n + 3)) node None ≡ entry → slice_get (start_of (4 * n + 4) (n + 3)) node ≡ Some entry
  read node entry few is =
      slice_get-get_or (start_of (4 * n + 4) (n + 3)) node None (omega (arith, few, long)) ∙ ap Some is

  -- the two inputs and the last gate of the ring are listed, and no other node is
  listed-go : slice_get (start_of (4 * n + 4) (n + 3)) 0 ≡ Some (Some false)
  listed-go =
      let first = set (replicate {A = Option Bool} (4 * n + 4) None) 0 (Some false) in
      read 0 (Some false) (omega arith)
      (get_or-set_other (set first 1 (Some true)) (n + 3) 0 (Some false) None (omega arith)
      ∙ get_or-set_other first 1 0 (Some true) None (omega arith)
      ∙ get_or-set_same (replicate (4 * n + 4) None) 0 (Some false) None (omega (arith, long-none)))

  listed-x : slice_get (start_of (4 * n + 4) (n + 3)) 1 ≡ Some (Some true)
  listed-x =
      let first = set (replicate {A = Option Bool} (4 * n + 4) None) 0 (Some false) in
      read 1 (Some true) (omega arith)
      (get_or-set_other (set first 1 (Some true)) (n + 3) 1 (Some false) None (omega arith)
      ∙ get_or-set_same first 1 (Some true) None (omega (arith, long-one)))

  listed-last : slice_get (start_of (4 * n + 4) (n + 3)) (n + 3) ≡ Some (Some false)
  listed-last =
      let first = set (replicate {A = Option Bool} (4 * n + 4) None) 0 (Some false) in
      read (n + 3) (Some false) (omega arith)
      (get_or-set_same (set first 1 (Some true)) (n + 3) (Some false) None (omega (arith, long-two)))

  unlisted : (node : ℕ) → 2 ≤ node → node ≢ n + 3 → node < 4 * n + 4 → slice_get (start_of (4 * n + 4) (n + 3)) node ≡ Some None
  unlisted node above other few =
      let first = set (replicate {A = Option Bool} (4 * n + 4) None) 0 (Some false) in
      read node None few
      (get_or-set_other (set first 1 (Some true)) (n + 3) node (Some false) None other
      ∙ get_or-set_other first 1 node (Some true) None (omega arith)
      ∙ get_or-set_other (replicate (4 * n + 4) None) 0 node (Some false) None (omega arith)
      ∙ get_or-replicate (4 * n + 4) node None None few)

  -- the gates
  ring-long : length (ring_gates (3 ∷ (n + 3) ∷ []) (n - 1)) ≡ n + 2
  ring-long = omega (arith, length-ring_gates (3 ∷ (n + 3) ∷ []) (n - 1), least)

  is-gate : (node : ℕ) → 2 ≤ node → node < 4 * n + 4 → IsGateNumber (chain_netlist n n) node
  is-gate node above few = (above, omega (arith, few, length-chain_names n n least))

  buffer-at : (k : ℕ) → k + 2 ≤ n → gate_at (chain_netlist n n) (k + 5) ≡ buffer_gate (k + 2)
  buffer-at k few =
      let d : Gate = record { kind = And; sources = [] } in
      let place : k + 5 - 2 ≡ suc (suc (suc k)) = omega arith in
      let ring = ring_gates (3 ∷ (n + 3) ∷ []) (n - 1) in
      ap (λ i. get_or (ring ++ flat_map (multiplexer_gates n) (range_with_len 1 n)) i d) place
      ∙ get_or_append_left ring (flat_map (multiplexer_gates n) (range_with_len 1 n)) d (suc (suc (suc k))) (omega (arith, ring-long))
      ∙ get_or-map-range_with_len buffer_gate 2 (n - 1) k (k + 2) d (omega arith) (omega arith)

  multiplexer-at : (i j : ℕ) (gate : Gate) → i < n → j < 3 → get_or (multiplexer_gates n (suc i)) j (record { kind = And; sources = [] }) ≡ gate → gate_at (chain_netlist n n) (n + 3 * i + j + 4) ≡ gate
  multiplexer-at i j gate few inside is =
      let d : Gate = record { kind = And; sources = [] } in
      let ring = ring_gates (3 ∷ (n + 3) ∷ []) (n - 1) in
      let chain = flat_map (multiplexer_gates n) (range_with_len 1 n) in
      let place : n + 3 * i + j + 4 - 2 - (n + 2) ≡ 3 * i + j = omega arith in
      let next : 1 + i ≡ suc i = omega arith in
      get_or-append_right ring chain (n + 2) (n + 3 * i + j + 4 - 2) d ring-long (omega arith)
      ∙ ap (λ k. get_or chain k d) place
      ∙ at-three (multiplexer_gates n) 1 n i j d (λ k. refl) few inside
      ∙ ap (λ k. get_or (multiplexer_gates n k) j d) next
      ∙ is

  abbrev Rested : ℕ → Bool → Type 0
  Rested node bit = Rests (chain_netlist n n) (start_of (4 * n + 4) (n + 3)) node bit

  -- the inputs and the pulse
  rests-go : Rested 0 false
  rests-go = rest-input (chain_netlist n n) (start_of (4 * n + 4) (n + 3)) 0 false (λ is. omega (arith, is.0)) listed-go

  rests-x : Rested 1 true
  rests-x = rest-input (chain_netlist n n) (start_of (4 * n + 4) (n + 3)) 1 true (λ is. omega (arith, is.0)) listed-x

  rests-n : Rested 2 true
  rests-n =
      rest-gate (chain_netlist n n) (start_of (4 * n + 4) (n + 3)) 2 (record { kind = Not; sources = 0 ∷ [] }) (false ∷ []) true
      (is-gate 2 (omega arith) (omega arith)) refl (unlisted 2 (omega arith) (omega arith) (omega arith)) (rests-go.forced, tt) refl

  rests-p : Rested 3 false
  rests-p =
      rest-gate (chain_netlist n n) (start_of (4 * n + 4) (n + 3)) 3 (record { kind = And; sources = 0 ∷ 2 ∷ [] }) (false ∷ true ∷ []) false
      (is-gate 3 (omega arith) (omega arith)) refl (unlisted 3 (omega arith) (omega arith) (omega arith)) (rests-go.forced, (rests-n.forced, tt)) refl

  -- a gate of the ring, listed or not
  rests-ring : (node : ℕ) (gate : Gate) (bits : List Bool) → 4 ≤ node → node ≤ n + 3 → gate_at (chain_netlist n n) node ≡ gate
      → AreForcedTo (chain_netlist n n) (start_of (4 * n + 4) (n + 3)) gate.sources bits → gate_value gate.kind bits ≡ false → Rested node false
  rests-ring node gate bits above few is forced value =
      elim (cases_eq node (n + 3)) [
        | inl e ↦
            rest-listed (chain_netlist n n) (start_of (4 * n + 4) (n + 3)) node gate bits false is
            (subst (λ i. slice_get (start_of (4 * n + 4) (n + 3)) i ≡ Some (Some false)) (sym e) listed-last) forced value
        | inr other ↦
            rest-gate (chain_netlist n n) (start_of (4 * n + 4) (n + 3)) node gate bits false
            (is-gate node (omega arith) (omega arith)) is (unlisted node (omega arith) other (omega arith)) forced value
      ]

  rests-r : (k : ℕ) → k + 1 ≤ n → Rested (k + 4) false
  rests-r zero few =
      rests-ring 4 (record { kind = Or; sources = 3 ∷ (n + 3) ∷ [] }) (false ∷ false ∷ []) (omega arith) (omega arith) refl
      (rests-p.forced, (forced-listed (chain_netlist n n) (start_of (4 * n + 4) (n + 3)) (n + 3) false listed-last, tt)) refl
  rests-r (suc k) few =
      let before = rests-r k (omega arith) in
      let place : k + 5 ≡ suc k + 4 = omega arith in
      let source : k + 4 ≡ k + 2 + 2 = omega arith in
      subst (λ node. Rested node false) place
      (rests-ring (k + 5) (buffer_gate (k + 2)) (false ∷ []) (omega arith) (omega arith) (buffer-at k (omega arith))
      (subst (λ i. IsForced (chain_netlist n n) (start_of (4 * n + 4) (n + 3)) i false) source before.forced, tt) refl)

  -- the multiplexers
  record Multiplexer (i : ℕ) : Type 0 where
    a : Rested (n + 3 * i + 0 + 4) false
    b : Rested (n + 3 * i + 1 + 4) true
    m : Rested (n + 3 * i + 2 + 4) true

  multiplexer : (i : ℕ) → i < n → IsForced (chain_netlist n n) (start_of (4 * n + 4) (n + 3)) (last_gate n i) true → Multiplexer i
  multiplexer i few before =
      let listed = start_of (4 * n + 4) (n + 3) in
      let back : suc i - 1 ≡ i = omega arith in
      let free : (j : ℕ) → j < 3 → slice_get (start_of (4 * n + 4) (n + 3)) (n + 3 * i + j + 4) ≡ Some None =
      λ j inside. unlisted (n + 3 * i + j + 4) (omega arith) (omega arith) (omega arith) in
      let a : Rested (n + 3 * i + 0 + 4) false =
      rest-gate (chain_netlist n n) listed (n + 3 * i + 0 + 4) (record { kind = And; sources = 0 ∷ last_gate n i ∷ [] }) (false ∷ true ∷ []) false
      (is-gate (n + 3 * i + 0 + 4) (omega arith) (omega arith)) (multiplexer-at i 0 (record { kind = And; sources = 0 ∷ last_gate n i ∷ [] }) few (omega arith) (ap (λ k. record { kind = And; sources = 0 ∷ last_gate n k ∷ [] }) back))
      (free 0 (omega arith)) (rests-go.forced, (before, tt)) refl in
      let b : Rested (n + 3 * i + 1 + 4) true =
      rest-gate (chain_netlist n n) listed (n + 3 * i + 1 + 4) (record { kind = And; sources = 2 ∷ last_gate n i ∷ [] }) (true ∷ true ∷ []) true
      (is-gate (n + 3 * i + 1 + 4) (omega arith) (omega arith)) (multiplexer-at i 1 (record { kind = And; sources = 2 ∷ last_gate n i ∷ [] }) few (omega arith) (ap (λ k. record { kind = And; sources = 2 ∷ last_gate n k ∷ [] }) back))
      (free 1 (omega arith)) (rests-n.forced, (before, tt)) refl in
      let first : n + 3 * i + 0 + 4 ≡ n + 3 * suc i + 1 = omega arith in
      let second : n + 3 * i + 1 + 4 ≡ n + 3 * suc i + 2 = omega arith in
      record {
        a = a;
        b = b;
        m =
            rest-gate (chain_netlist n n) listed (n + 3 * i + 2 + 4)
            (record { kind = Or; sources = (n + 3 * suc i + 1) ∷ (n + 3 * suc i + 2) ∷ [] }) (false ∷ true ∷ []) true
            (is-gate (n + 3 * i + 2 + 4) (omega arith) (omega arith))
            (multiplexer-at i 2 (record { kind = Or; sources = (n + 3 * suc i + 1) ∷ (n + 3 * suc i + 2) ∷ [] }) few (omega arith) refl)
            (free 2 (omega arith))
            (subst (λ k. IsForced (chain_netlist n n) listed k false) first a.forced, (subst (λ k. IsForced (chain_netlist n n) listed k true) second b.forced, tt)) refl;
      }

  rests-multiplexer : (i : ℕ) → i < n → Multiplexer i
  rests-multiplexer zero few = multiplexer zero few rests-x.forced
  rests-multiplexer (suc i) few =
      let place : n + 3 * i + 2 + 4 ≡ n + 3 * suc i + 3 = omega arith in
      multiplexer (suc i) few
      (subst (λ k. IsForced (chain_netlist n n) (start_of (4 * n + 4) (n + 3)) k true) place (rests-multiplexer i (omega arith)).m.forced)

  one-of-three : (i j node : ℕ) → j < 3 → node ≡ n + 3 * i + j + 4 → Multiplexer i → (bit : Bool) × Rested node bit
  one-of-three i zero node inside e three = (false, subst (λ k. Rested k false) (sym e) three.a)
  one-of-three i (suc zero) node inside e three = (true, subst (λ k. Rested k true) (sym e) three.b)
  one-of-three i (suc (suc zero)) node inside e three = (true, subst (λ k. Rested k true) (sym e) three.m)
  one-of-three i (suc (suc (suc j))) node inside e three = absurd (omega arith)

  -- every node
  pub rests : (node : ℕ) → node < length (chain_netlist n n).names → (bit : Bool) × Rests (chain_netlist n n) (start_of (4 * n + 4) (n + 3)) node bit
  rests zero few = (false, rests-go)
  rests (suc zero) few = (true, rests-x)
  rests (suc (suc zero)) few = (true, rests-n)
  rests (suc (suc (suc zero))) few = (false, rests-p)
  rests (suc (suc (suc (suc k)))) few =
      elim (cases_lt k n) [
        | inl ring ↦ (false, subst (λ node. Rested node false) (omega arith) (rests-r k (omega arith)))
        | inr beyond ↦
            let thirds = by-thirds n (k - n) (omega (arith, few, length-chain_names n n least)) in
            let same = thirds.4 in
            one-of-three thirds.0 thirds.1 (suc (suc (suc (suc k)))) thirds.3 (omega arith) (rests-multiplexer thirds.0 thirds.2)
      ]

-- the start is neither open nor unstable
pub starts : DemoStarts
starts n number circuit =
    let built = demo-built n number.least number.most in
    let script = script-built n number.least number.most in
    let is : IsCircuit (chain_netlist n n) = subst IsCircuit built circuit in
    let start : (demo_script n).start ≡ start_of (4 * n + 4) (n + 3) = ap (λ s. s.start) script in
    rw (built, start)
    (record {
      closed = λ node. rests-not-open (chain_netlist n n) (start_of (4 * n + 4) (n + 3)) node (rests n number.least);
      stable = λ gate. rests-not-unstable (chain_netlist n n) (start_of (4 * n + 4) (n + 3)) gate is (rests n number.least);
    })
