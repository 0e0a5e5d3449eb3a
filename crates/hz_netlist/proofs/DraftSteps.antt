-- The steps in which the circuit of a draft is built: each may be taken, and where they lead.
use Rattle.std.proofs.Common.{◌≡◌, ◌∙◌, refl, sym, ap, subst, ℕ, suc, ◌+◌, ◌-◌, ◌<◌, ◌≤◌, true, false, List, [], ◌∷◌, ◌++◌, Option, None, Some, length, map, take, drop, set, fold, get_or, length-drop, length-append, append_assoc, add-zero, arith}
use Rattle.std.specs.Prelude.{All, sum_by}
use Rattle.std.specs.List.{AllByRecursion, list_any}
use Rattle.std.specs.Str.{bytes_eq}
use Rattle.std.proofs.lemmas.List.{append-nil, at_drop_more, drop-map, get_or_at, length-map, length-take-le, set_at, take-append-drop, take-map}
use Rattle.std.proofs.lemmas.List.Elements.{All-drop, All-head, All-tail, All-take}
use Rattle.std.proofs.lemmas.List.Sums.{sum_by-append, sum_by-cons}
use Rattle.std.proofs.lemmas.Simd.{map-map}
use Rattle.hz_core.specs.declared.kind.Kind.TheVariants.{And}
use Rattle.hz_core.specs.Gate.{most_pins}
use Rattle.hz_core.specs.Limits.{most_variables}
use Rattle.hz_core.specs.Netlist.{Gate as GateHere, Netlist, IsName, gate_at, variable_count, with_cut, with_data, with_gate, with_input, with_output}
use Rattle.hz_core.specs.Pins.{with_pins, with_sources}
use Rattle.hz_core.proofs.CircuitLemmas.{pin_count-with_gate}
use Rattle.hz_core.proofs.NameLemmas.{position-absent}
use Rattle.hz_netlist.specs.Build.{Apart, AreAdmissibleSteps, AreKnown, HasNode, HasRightPins, MayAddNode, UsesKnown, with_data_output}
use Rattle.hz_netlist.specs.Circuit.{add_once, gates_of, number_in}
use Rattle.hz_netlist.specs.Element.{Element, Input, Cut, Gate, Output, gate_names, gates_among}
use Rattle.hz_netlist.specs.declared.draft.Gate.{Gate as GateEntry}
use Rattle.hz_netlist.specs.declared.draft.Source.{Source}
use Rattle.hz_netlist.specs.Draft.{MayAddCutNumbered, MayAddGateEntry, MayAddInputNumbered, MayAddPinsBy, MaySetDataBy, elements_from, gate_name, source_name, with_cut_numbered, with_data_by, with_gate_entry, with_input_numbered, with_pins_by}
use Rattle.hz_netlist.proofs.Circuits.{pins_of, pins_of-cons}
use Rattle.hz_netlist.proofs.Lists.{all-append}

-- the next step of those that are left
pub step-at : {A B : Type 0} (May : A → B → Type 0) (step : A → B → A) (now : A) (items : List B) (index : ℕ) (other : B) → index < length items
    → AreAdmissibleSteps May step now (drop index items) → May now (get_or items index other)
step-at May step now items index other inside may = (subst (AreAdmissibleSteps May step now) (at_drop_more (λ items. items) items index other inside) may).0

add-one-suc : (a b : ℕ) → (a + 1) + b ≡ a + suc b
add-one-suc a b = omega arith

-- a node whose name is new may be added
may-add : (all : Netlist) (name : List ℕ) → IsName name → list_any (bytes_eq name) all.names ≡ false → variable_count all < most_variables → MayAddNode all name
may-add all name named apart room = record { named = named; fresh = sym (position-absent all.names name apart); room = room }

-- the cuts without data nodes, and the gates without pins
unfoldable pub unset : List ℕ → List (Option ℕ)
unset [] = []
unset (cut ∷ rest) = None ∷ unset rest

pub unset-long : (cuts : List ℕ) → length (unset cuts) ≡ length cuts
unfolding unset
unset-long [] = refl
unset-long (cut ∷ rest) = ap suc (unset-long rest)

unfoldable pub bare : List GateEntry → List GateHere
bare [] = []
bare (gate ∷ rest) = record { kind = gate.kind; sources = [] } ∷ bare rest

bare-pins : (gates : List GateEntry) → pins_of (bare gates) ≡ 0
unfolding bare
bare-pins [] = refl
bare-pins (gate ∷ rest) = let h = bare-pins rest in omega (arith, h, pins_of-cons (record { kind = gate.kind; sources = [] }) (bare rest))

module _ (name : ℕ → List ℕ) where
  pub inputs-added : (all : Netlist) (numbers : List ℕ) → all.cuts ≡ [] → all.gates ≡ [] → All IsName (map name numbers) → Apart all.names (map name numbers) → variable_count all + length numbers ≤ most_variables
      → AreAdmissibleSteps (MayAddInputNumbered name) (with_input_numbered name) all numbers
      × (fold (with_input_numbered name) all numbers ≡ record all { names = all.names ++ map name numbers; inputs = all.inputs + length numbers })
  inputs-added all [] uncut none named apart room = (tt, rw (append-nil, add-zero) refl)
  inputs-added all (number ∷ rest) uncut none named apart room =
      let one = name number in
      let more = inputs-added (with_input all one) rest uncut none (All-tail IsName one (map name rest) named) apart.1 (omega (arith, room, length-append all.names (one ∷ []))) in
      (((may-add all one (All-head IsName one (map name rest) named) apart.0 (omega (arith, room)), uncut, none), more.0), more.1 ∙ rw (append_assoc, add-one-suc all.inputs (length rest)) refl)

  pub cuts-added : (all : Netlist) (numbers : List ℕ) → all.gates ≡ [] → All IsName (map name numbers) → Apart all.names (map name numbers) → variable_count all + length numbers ≤ most_variables
      → AreAdmissibleSteps (MayAddCutNumbered name) (with_cut_numbered name) all numbers
      × (fold (with_cut_numbered name) all numbers ≡ record all { names = all.names ++ map name numbers; inputs = all.inputs + length numbers; cuts = all.cuts ++ unset numbers })
  unfolding unset
  cuts-added all [] none named apart room = (tt, rw (append-nil, add-zero, append-nil) refl)
  cuts-added all (number ∷ rest) none named apart room =
      let one = name number in
      let more = cuts-added (with_cut all one) rest none (All-tail IsName one (map name rest) named) apart.1 (omega (arith, room, length-append all.names (one ∷ []))) in
      (((may-add all one (All-head IsName one (map name rest) named) apart.0 (omega (arith, room)), none), more.0), more.1 ∙ rw (append_assoc, add-one-suc all.inputs (length rest), append_assoc) refl)

  pub gates-added : (all : Netlist) (gates : List GateEntry) → All IsName (map (gate_name name) gates) → Apart all.names (map (gate_name name) gates) → variable_count all + length gates ≤ most_variables
      → AreAdmissibleSteps (MayAddGateEntry name) (with_gate_entry name) all gates
      × (fold (with_gate_entry name) all gates ≡ record all { names = all.names ++ map (gate_name name) gates; gates = all.gates ++ bare gates })
  unfolding bare
  gates-added all [] named apart room = (tt, rw (append-nil, append-nil) refl)
  gates-added all (gate ∷ rest) named apart room =
      let one = gate_name name gate in
      let same = pin_count-with_gate all one gate.kind in
      let more = gates-added (with_gate all one gate.kind) rest (All-tail IsName one (map (gate_name name) rest) named) apart.1 (omega (arith, room, same, length-append all.names (one ∷ []))) in
      ((may-add all one (All-head IsName one (map (gate_name name) rest) named) apart.0 (omega (arith, room)), more.0), more.1 ∙ rw (append_assoc, append_assoc) refl)

-- data nodes, for cuts that come after those that have theirs
pub data-given : (all : Netlist) (number : ℕ) (done more : List (Option ℕ)) (nodes : List ℕ) → length more ≡ length nodes → number ≡ (all.inputs - length (done ++ more)) + length done
    → length (done ++ more) ≤ all.inputs → all.inputs ≤ most_variables → All (λ node. node < length all.names) nodes
    → MaySetDataBy (record all { cuts = done ++ more }) number nodes × (with_data_by (record all { cuts = done ++ more }) number nodes ≡ record all { cuts = done ++ map Some nodes })
data-given all number done [] [] long at fits few below = (tt, refl)
data-given all number done [] (node ∷ nodes) long at fits few below = absurd (omega (arith, long))
data-given all number done (old ∷ more) [] long at fits few below = absurd (omega (arith, long))
data-given all number done (old ∷ more) (node ∷ nodes) long at fits few below =
    let P = λ (node : ℕ). node < length all.names in
    let one : Option ℕ = Some node in
    let here : length done ≡ number - (all.inputs - length (done ++ old ∷ more)) = omega (arith, at) in
    let moved : done ++ one ∷ more ≡ (done ++ one ∷ []) ++ more = sym (append_assoc done (one ∷ []) more) in
    let next : with_data (record all { cuts = done ++ old ∷ more }) number node ≡ record all { cuts = (done ++ one ∷ []) ++ more } =
    ap (λ cuts. record all { cuts = cuts }) (set_at done old more one (number - (all.inputs - length (done ++ old ∷ more))) here ∙ moved) in
    let before = length-append done (old ∷ more) in
    let last = length-append done (one ∷ []) in
    let same : length (done ++ old ∷ more) ≡ length ((done ++ one ∷ []) ++ more) = omega (arith, before, last, length-append (done ++ one ∷ []) more) in
    let after : suc number ≡ (all.inputs - length ((done ++ one ∷ []) ++ more)) + length (done ++ one ∷ []) =
    ap suc (at ∙ ap (λ (n : ℕ). (all.inputs - n) + length done) same) ∙ omega (arith, last) in
    let rest = data-given all (suc number) (done ++ one ∷ []) more nodes (omega (arith, long)) after (omega (arith, fits, same)) few (All-tail P node nodes below) in (
      (
        record { room = omega (arith, at, fits, before, few); cut_is = (omega (arith, at), omega (arith, at, fits, before)); node_is = All-head P node nodes below },
        subst (λ now. MaySetDataBy now (suc number) nodes) (sym next) rest.0,
      ),
      ap (λ now. with_data_by now (suc number) nodes) next ∙ (rest.1 ∙ ap (λ cuts. record all { cuts = cuts }) (append_assoc done (one ∷ []) (map Some nodes))),
    )

-- the gates with pins that read these nodes, gate after gate
abbrev pub gates_by : List GateEntry → List ℕ → List GateHere
gates_by [] nodes = []
gates_by (gate ∷ rest) nodes = record { kind = gate.kind; sources = take gate.pins nodes } ∷ gates_by rest (drop gate.pins nodes)

-- pins, for gates that come after those that have theirs
pub pins-given : (all : Netlist) (number : ℕ) (done : List GateHere) (gates : List GateEntry) (nodes : List ℕ) → number ≡ all.inputs + length done → number + length gates ≤ length all.names
    → sum_by (λ (gate : GateEntry). gate.pins) gates ≡ length nodes → AllByRecursion (λ (gate : GateEntry). gate.pins ≤ most_pins gate.kind) gates → All (λ node. node < length all.names) nodes
    → length all.names + pins_of done + length nodes ≤ most_variables
    → MayAddPinsBy (record all { gates = done ++ bare gates }) number gates nodes × (with_pins_by (record all { gates = done ++ bare gates }) number gates nodes ≡ record all { gates = done ++ gates_by gates nodes })
unfolding bare
pins-given all number done [] nodes place inside sized pins below room = (tt, refl)
pins-given all number done (gate ∷ rest) nodes place inside sized pins below room =
    let P = λ (node : ℕ). node < length all.names in
    let old : GateHere = record { kind = gate.kind; sources = [] } in
    let here = take gate.pins nodes in
    let later = drop gate.pins nodes in
    let made : GateHere = record { kind = gate.kind; sources = here } in
    let now : Netlist = record all { gates = done ++ old ∷ bare rest } in
    let at : length done ≡ number - all.inputs = omega (arith, place) in
    let found : gate_at now number ≡ old = get_or_at done old (bare rest) (record { kind = And; sources = [] }) (number - all.inputs) at in
    let moved : done ++ made ∷ bare rest ≡ (done ++ made ∷ []) ++ bare rest = sym (append_assoc done (made ∷ []) (bare rest)) in
    let next : with_pins now number here ≡ record all { gates = (done ++ made ∷ []) ++ bare rest } =
    ap (λ gate. record all { gates = set (done ++ old ∷ bare rest) (number - all.inputs) (with_sources gate here) }) found
    ∙ ap (λ gates. record all { gates = gates }) (set_at done old (bare rest) made (number - all.inputs) at ∙ moved) in
    let total = sum_by-cons (λ (gate : GateEntry). gate.pins) gate rest in
    let enough : gate.pins ≤ length nodes = omega (arith, sized, total) in
    let long : length here ≡ gate.pins = length-take-le gate.pins nodes enough in
    let left = length-drop gate.pins nodes in
    let one = pins_of-append done (made ∷ []) in
    let count : pins_of (done ++ made ∷ []) ≡ pins_of done + length here = omega (arith, one, pins_of-cons made []) in
    let all_pins : pins_of (done ++ old ∷ bare rest) ≡ pins_of done = omega (arith, pins_of-append done (old ∷ bare rest), pins_of-cons old (bare rest), bare-pins rest) in
    let most = pins.0 in
    let more = pins-given all (suc number) (done ++ made ∷ []) rest later (omega (arith, place, length-append done (made ∷ []))) (omega (arith, inside)) (omega (arith, sized, total, left)) pins.1 (All-drop P gate.pins nodes below)
    (omega (arith, room, count, long, left, enough)) in (
      (
        record {
          enough = enough;
          next = omega (arith, inside, room);
          gate_is = (omega (arith, place), omega (arith, inside));
          sources = All-take P gate.pins nodes below;
          pins = subst (λ (one : GateHere). length one.sources + length here ≤ most_pins one.kind) (sym found) (omega (arith, long, most));
          room = omega (arith, room, all_pins, long, enough);
        },
        subst (λ now. MayAddPinsBy now (suc number) rest later) (sym next) more.0,
      ),
      ap (λ now. with_pins_by now (suc number) rest later) next ∙ (more.1 ∙ ap (λ gates. record all { gates = gates }) (append_assoc done (made ∷ []) (gates_by rest later))),
    )
  where
    pins_of-append : (front back : List GateHere) → pins_of (front ++ back) ≡ pins_of front + pins_of back
    pins_of-append front back = sum_by-append (λ (gate : GateHere). length gate.sources) front back

pub pins-total : (gates : List GateEntry) (nodes : List ℕ) → sum_by (λ (gate : GateEntry). gate.pins) gates ≡ length nodes → pins_of (gates_by gates nodes) ≡ length nodes
pins-total [] nodes sized = sized
pins-total (gate ∷ rest) nodes sized =
    let total = sum_by-cons (λ (gate : GateEntry). gate.pins) gate rest in
    let left = length-drop gate.pins nodes in
    let long = length-take-le gate.pins nodes (omega (arith, sized, total)) in
    let more = pins-total rest (drop gate.pins nodes) (omega (arith, sized, total, left)) in
    let made : GateHere = record { kind = gate.kind; sources = take gate.pins nodes } in
    omega (arith, pins_of-cons made (gates_by rest (drop gate.pins nodes)), long, more, left, sized, total)

-- outputs, and then the data nodes of the cuts
pub outputs-may : (now : Netlist) (nodes : List ℕ) → All (λ node. node < length now.names) nodes → AreAdmissibleSteps HasNode with_output now nodes
outputs-may now [] below = tt
outputs-may now (node ∷ rest) below =
    let P = λ (node : ℕ). node < length now.names in
    (All-head P node rest below, outputs-may (with_output now node) rest (All-tail P node rest below))

pub data-added : (all : Netlist) (nodes : List ℕ) → fold with_data_output all (map Some nodes) ≡ record all { outputs = fold add_once all.outputs nodes }
data-added all [] = refl
data-added all (node ∷ nodes) = data-added (with_output all node) nodes

-- the gates among elements have their names and pins
pub gates-named : (elements : List Element) → gate_names (gates_among elements) ≡ gate_names elements
gates-named [] = refl
gates-named (Input name ∷ rest) = gates-named rest
gates-named (Cut name source ∷ rest) = gates-named rest
gates-named (Gate name kind sources ∷ rest) = ap (λ names. name ∷ names) (gates-named rest)
gates-named (Output name ∷ rest) = gates-named rest

pub gates-made : (names : List (List ℕ)) (elements : List Element) → gates_of names (gates_among elements) ≡ gates_of names elements
gates-made names [] = refl
gates-made names (Input name ∷ rest) = gates-made names rest
gates-made names (Cut name source ∷ rest) = gates-made names rest
gates-made names (Gate name kind sources ∷ rest) =
    let gate : GateHere = record { kind = kind; sources = map (number_in names) sources } in
    ap (λ gates. gate ∷ gates) (gates-made names rest)
gates-made names (Output name ∷ rest) = gates-made names rest

pub gates-all : (P : Element → Type 0) (elements : List Element) → AllByRecursion P elements → AllByRecursion P (gates_among elements)
gates-all P [] all = tt
gates-all P (Input name ∷ rest) all = gates-all P rest all.1
gates-all P (Cut name source ∷ rest) all = gates-all P rest all.1
gates-all P (Gate name kind sources ∷ rest) all = (all.0, gates-all P rest all.1)
gates-all P (Output name ∷ rest) all = gates-all P rest all.1

module _ (name : ℕ → List ℕ) (made : List (List ℕ)) where
  pub entries-named : (gates : List GateEntry) (sources : List Source) → gate_names (elements_from name made gates sources) ≡ map (gate_name name) gates
  entries-named [] sources = refl
  entries-named (gate ∷ rest) sources = ap (λ names. gate_name name gate ∷ names) (entries-named rest (drop gate.pins sources))

  -- and the pins that their entries have
  pub entries-made : (all : List (List ℕ)) (gates : List GateEntry) (sources : List Source)
      → gates_by gates (map (λ source. number_in all (source_name name made source)) sources) ≡ gates_of all (elements_from name made gates sources)
  entries-made all [] sources = refl
  entries-made all (gate ∷ rest) sources =
      let number : Source → ℕ = λ source. number_in all (source_name name made source) in
      let nodes = map (number_in all) (map (source_name name made) (take gate.pins sources)) in
      let here : take gate.pins (map number sources) ≡ nodes = take-map number gate.pins sources ∙ sym (map-map (number_in all) (source_name name made) (take gate.pins sources)) in
      let one : List ℕ → GateHere = λ nodes. record { kind = gate.kind; sources = nodes } in
      ap (λ nodes. one nodes ∷ gates_by rest (drop gate.pins (map number sources))) here
      ∙ (ap (λ later. one nodes ∷ gates_by rest later) (drop-map number gate.pins sources)
      ∙ ap (λ later. one nodes ∷ later) (entries-made all rest (drop gate.pins sources)))

  pub entries-right : (gates : List GateEntry) (sources : List Source) → sum_by (λ (gate : GateEntry). gate.pins) gates ≡ length sources → AllByRecursion HasRightPins (elements_from name made gates sources)
      → AllByRecursion (λ (gate : GateEntry). gate.pins ≤ most_pins gate.kind) gates
  entries-right [] sources sized right = tt
  entries-right (gate ∷ rest) sources sized right =
      let total = sum_by-cons (λ (gate : GateEntry). gate.pins) gate rest in
      let long = length-take-le gate.pins sources (omega (arith, sized, total)) in
      let count = right.0 in
      let most = count.1 in
      (omega (arith, most, long, length-map (take gate.pins sources) (source_name name made)), entries-right rest (drop gate.pins sources) (omega (arith, sized, total, length-drop gate.pins sources)) right.1)

  -- what sources read is known
  abbrev pub IsKnown : List (List ℕ) → Source → Type 0
  IsKnown all source = list_any (bytes_eq (source_name name made source)) all ≡ true

  pub named-known : (all : List (List ℕ)) (sources : List Source) → AreKnown all (map (source_name name made) sources) → AllByRecursion (IsKnown all) sources
  named-known all [] known = tt
  named-known all (source ∷ rest) known = (known.0, named-known all rest known.1)

  pub sources-known : (all : List (List ℕ)) (gates : List GateEntry) (sources : List Source) → sum_by (λ (gate : GateEntry). gate.pins) gates ≡ length sources
      → AllByRecursion (UsesKnown all) (elements_from name made gates sources) → AllByRecursion (IsKnown all) sources
  sources-known all [] [] sized known = tt
  sources-known all [] (source ∷ rest) sized known = absurd (omega (arith, sized))
  sources-known all (gate ∷ rest) sources sized known =
      let total = sum_by-cons (λ (gate : GateEntry). gate.pins) gate rest in
      subst (AllByRecursion (IsKnown all)) (take-append-drop gate.pins sources)
      (all-append (IsKnown all) (take gate.pins sources) (drop gate.pins sources) (named-known all (take gate.pins sources) known.0)
      (sources-known all rest (drop gate.pins sources) (omega (arith, sized, total, length-drop gate.pins sources)) known.1))
