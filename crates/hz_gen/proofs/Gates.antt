-- A gate's pins are added one after the other.
use Rattle.std.proofs.Common.{◌≡◌, ◌∙◌, ap, subst, sym, ℕ, ◌+◌, ◌-◌, ◌<◌, List, [], ◌∷◌, ◌++◌, length, take, get_or, set, arith, length-append}
use Rattle.std.proofs.Math.Seq.{get_or-append_seam, set-append_seam}
use Rattle.std.proofs.lemmas.List.{take_more, length-take-le}
use Rattle.std.proofs.lemmas.List.Sums.{sum_by_push}
use Rattle.hz_core.specs.declared.kind.Kind.{Kind}
use Rattle.hz_core.specs.declared.kind.Kind.TheVariants.{And}
use Rattle.hz_core.specs.Gate.{most_pins}
use Rattle.hz_core.specs.Netlist.{Gate, Netlist, IsGateNumber, gate_at, variable_count, with_pin, with_source}
use Rattle.hz_gen.specs.BuiltDemo.{MayAddWiredGate, with_wired_gate}
use Rattle.hz_core.specs.Limits.{most_variables}

module _ (netlist : Netlist) (name : List ℕ) (kind : Kind) (gate : ℕ) where
  -- the last gate is the one that was added
  last-added :
      (sources : List ℕ) → gate ≡ length netlist.names → length netlist.names ≡ netlist.inputs + length netlist.gates →
      gate_at (with_wired_gate netlist name kind sources) gate ≡ record { kind = kind; sources = sources }
  last-added sources is nodes =
      let one : Gate = record { kind = kind; sources = sources } in
      let place : gate - netlist.inputs ≡ length netlist.gates = omega arith in
      ap (λ i. get_or (netlist.gates ++ one ∷ []) i (record { kind = And; sources = [] })) place
      ∙ get_or-append_seam netlist.gates one [] _

  -- one pin more
  pin-added :
      (sources : List ℕ) (source : ℕ) → gate ≡ length netlist.names →
      length netlist.names ≡ netlist.inputs + length netlist.gates →
      with_pin (with_wired_gate netlist name kind sources) gate source
      ≡ with_wired_gate netlist name kind (sources ++ source ∷ [])
  pin-added sources source is nodes =
      let one : Gate = record { kind = kind; sources = sources } in
      let more : Gate = record { kind = kind; sources = sources ++ source ∷ [] } in
      let place : gate - netlist.inputs ≡ length netlist.gates = omega arith in
      let last = gate_at (with_wired_gate netlist name kind sources) gate in
      let gates :
      set (netlist.gates ++ one ∷ []) (gate - netlist.inputs) (with_source last source) ≡ netlist.gates ++ more ∷ [] =
      rw (last-added sources is nodes, place) (set-append_seam netlist.gates one [] more) in
      ap (λ gates. record netlist { names = netlist.names ++ name ∷ []; gates = gates }) gates

  -- how many variables there are then
  pub count-added :
      (sources : List ℕ) →
      variable_count (with_wired_gate netlist name kind sources) ≡ variable_count netlist + 1 + length sources
  count-added sources =
      omega (
        arith,
        length-append netlist.names (name ∷ []),
        sum_by_push (λ (gate : Gate). length gate.sources) netlist.gates (record { kind = kind; sources = sources }),
      )

-- a pin may be added, which reads this node
pub record MayConnect (netlist : Netlist) (gate source : ℕ) : Type 0 where
  pub gate_is : IsGateNumber netlist gate
  pub source_is : source < length netlist.names
  pub pins : length (gate_at netlist gate).sources < most_pins (gate_at netlist gate).kind
  pub room : variable_count netlist < most_variables

-- the next pin may be added
pub next-may :
    (netlist circuit : Netlist) (name : List ℕ) (kind : Kind) (sources : List ℕ) (i gate : ℕ) →
    MayAddWiredGate netlist name kind sources →
    gate ≡ length netlist.names → i < length sources → circuit ≡ with_wired_gate netlist name kind (take i sources) →
    MayConnect circuit gate (get_or sources i 0)
next-may netlist circuit name kind sources i gate may is below so_far =
    let taken : length (take i sources) ≡ i = length-take-le i sources (omega arith) in
    let read = last-added netlist name kind gate (take i sources) is may.nodes in
    let reads : get_or sources i 0 < length netlist.names = may.reads i 0 below in
    subst (λ circuit. MayConnect circuit gate (get_or sources i 0)) (sym so_far)
    (record {
      gate_is = (omega (arith, may.nodes), omega (arith, length-append netlist.names (name ∷ [])));
      source_is = omega (arith, reads, length-append netlist.names (name ∷ []));
      pins = rw (read, taken) (omega (arith, may.pins));
      room = omega (arith, count-added netlist name kind gate (take i sources), taken, may.room);
    })

-- the next pin is added
pub next-added :
    (netlist circuit next : Netlist) (name : List ℕ) (kind : Kind) (sources : List ℕ) (i gate : ℕ) →
    MayAddWiredGate netlist name kind sources →
    gate ≡ length netlist.names → i < length sources → circuit ≡ with_wired_gate netlist name kind (take i sources) →
    next ≡ with_pin circuit gate (get_or sources i 0) → next ≡ with_wired_gate netlist name kind (take (i + 1) sources)
next-added netlist circuit next name kind sources i gate may is below so_far step =
    step ∙ ap (λ circuit. with_pin circuit gate (get_or sources i 0)) so_far
    ∙ pin-added netlist name kind gate (take i sources) (get_or sources i 0) is may.nodes
    ∙ ap (with_wired_gate netlist name kind) (sym (take_more sources i 0 below))
