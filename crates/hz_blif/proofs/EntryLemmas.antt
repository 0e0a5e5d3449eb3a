-- What entries of gates stand for, as gates and sources are appended.
use Rattle.std.proofs.Common.{◌≡◌, ◌∙◌, refl, sym, ap, subst, ℕ, ◌+◌, ◌<◌, ◌≤◌, List, [], ◌∷◌, ◌++◌, length, map, take, drop, get_or, append_assoc, arith}
use Rattle.std.specs.Prelude.{Contains}
use Rattle.std.specs.List.{All, sum_by}
use Rattle.std.proofs.lemmas.List.{append-nil, drop-append-le, get_or_append_left, get_or_push, length-append, length-drop, length-map, length-take-le, length_push, map-append, map_push, take-append-le, take_all}
use Rattle.std.proofs.lemmas.List.Elements.{All-append, All-drop, All-head, All-nil, All-push, All-tail, All-take, All-weaker, All-contains}
use Rattle.std.proofs.lemmas.List.Sums.{sum_by-append, sum_by-cons, sum_by_push}
use Rattle.hz_netlist.specs.Element.{Element, Gate, element_variables, variable_total}
use Rattle.hz_netlist.specs.Draft.{ReadsGateBelow, ReadsNameBelow, elements_from, gate_name, role_name, source_name}
use Rattle.hz_blif.specs.declared.cover.Cover.{Cover}
use Rattle.hz_netlist.specs.declared.draft.Gate.{Gate as GateEntry}
use Rattle.hz_blif.specs.declared.gates.Gates.{Gates}
use Rattle.hz_netlist.specs.declared.draft.Source.{Source}
use Rattle.hz_netlist.specs.declared.draft.Source.TheVariants as source
use Rattle.hz_blif.specs.Entries.{AreNamed, GrowBy, HoldsGates, IsPrefix, ReadAs, elements_by, variables_of}

-- how many pins gates have
abbrev pub pin_total : List GateEntry → ℕ
pin_total gates = sum_by (λ (gate : GateEntry). gate.pins) gates

abbrev names_by : (ℕ → List ℕ) → List GateEntry → List (List ℕ)
names_by name gates = map (gate_name name) gates

-- gates that come later leave what a source reads
source-more : (name : ℕ → List ℕ) (made more : List (List ℕ)) (source : Source) → ReadsGateBelow (length made) source
    → source_name name (made ++ more) source ≡ source_name name made source
source-more name made more (source.Name number) below = refl
source-more name made more (source.Gate number) below = get_or_append_left made more [] number below

pub sources-more : (name : ℕ → List ℕ) (made more : List (List ℕ)) (sources : List Source) → All (ReadsGateBelow (length made)) sources
    → map (source_name name (made ++ more)) sources ≡ map (source_name name made) sources
sources-more name made more [] below = refl
sources-more name made more (first ∷ rest) below =
    ap (λ one. one ∷ map (source_name name (made ++ more)) rest) (source-more name made more first (All-head (ReadsGateBelow (length made)) first rest below))
    ∙ ap (λ others. source_name name made first ∷ others) (sources-more name made more rest (All-tail (ReadsGateBelow (length made)) first rest below))

elements-more : (name : ℕ → List ℕ) (made more : List (List ℕ)) (gates : List GateEntry) (sources : List Source) → All (ReadsGateBelow (length made)) sources
    → elements_from name (made ++ more) gates sources ≡ elements_from name made gates sources
elements-more name made more [] sources below = refl
elements-more name made more (gate ∷ gates) sources below =
    ap (λ pins. Gate (gate_name name gate) gate.kind pins ∷ elements_from name (made ++ more) gates (drop gate.pins sources))
    (sources-more name made more (take gate.pins sources) (All-take (ReadsGateBelow (length made)) gate.pins sources below))
    ∙ ap (λ rest. Gate (gate_name name gate) gate.kind (map (source_name name made) (take gate.pins sources)) ∷ rest)
    (elements-more name made more gates (drop gate.pins sources) (All-drop (ReadsGateBelow (length made)) gate.pins sources below))

-- the elements of gates, one list of them after another
elements-append : (name : ℕ → List ℕ) (made : List (List ℕ)) (front back : List GateEntry) (sources more : List Source) → pin_total front ≡ length sources
    → elements_from name made (front ++ back) (sources ++ more) ≡ elements_from name made front sources ++ elements_from name made back more
elements-append name made [] back [] more sized = refl
elements-append name made [] back (first ∷ rest) more sized = absurd (omega (arith, sized))
elements-append name made (gate ∷ front) back sources more sized =
    let split = sum_by-cons (λ (gate : GateEntry). gate.pins) gate front in
    let within : gate.pins ≤ length sources = omega (arith, split, sized) in
    let left = length-drop gate.pins sources in
    rw (take-append-le gate.pins sources more within, drop-append-le gate.pins sources more within)
    (ap (λ rest. Gate (gate_name name gate) gate.kind (map (source_name name made) (take gate.pins sources)) ∷ rest)
    (elements-append name made front back (drop gate.pins sources) more (omega (arith, split, sized, left, within))))

-- one gate more, which reads the last sources
elements-gate : (name : ℕ → List ℕ) (gates : List GateEntry) (gate : GateEntry) (sources pins : List Source)
    → pin_total gates ≡ length sources → All (ReadsGateBelow (length gates)) sources → All (ReadsGateBelow (length gates)) pins → gate.pins ≡ length pins
    → elements_from name (names_by name (gates ++ gate ∷ [])) (gates ++ gate ∷ []) (sources ++ pins)
    ≡ elements_from name (names_by name gates) gates sources ++ Gate (gate_name name gate) gate.kind (map (source_name name (names_by name gates)) pins) ∷ []
elements-gate name gates gate sources pins sized below reads long =
    let made = names_by name gates in
    let long_made : length made ≡ length gates = length-map gates (gate_name name) in
    let more = gate_name name gate ∷ [] in
    let old : All (ReadsGateBelow (length made)) sources = subst (λ (n : ℕ). All (ReadsGateBelow n) sources) (sym long_made) below in
    let new : All (ReadsGateBelow (length made)) pins = subst (λ (n : ℕ). All (ReadsGateBelow n) pins) (sym long_made) reads in
    ap (λ (made : List (List ℕ)). elements_from name made (gates ++ gate ∷ []) (sources ++ pins)) (map_push (gate_name name) gates gate)
    ∙ (elements-append name (made ++ more) gates (gate ∷ []) sources pins sized
    ∙ (ap (λ (elements : List Element). elements ++ elements_from name (made ++ more) (gate ∷ []) pins) (elements-more name made more gates sources old)
    ∙ (ap (λ (read : List Source). elements_from name made gates sources ++ Gate (gate_name name gate) gate.kind (map (source_name name (made ++ more)) read) ∷ [])
    (take_all gate.pins pins (omega (arith, long)))
    ∙ ap (λ (read : List (List ℕ)). elements_from name made gates sources ++ Gate (gate_name name gate) gate.kind read ∷ []) (sources-more name made more pins new))))

reads-weaker : (few many : ℕ) → few ≤ many → (one : Source) → ReadsGateBelow few one → ReadsGateBelow many one
reads-weaker few many le (source.Name number) below = below
reads-weaker few many le (source.Gate number) below = omega (arith, le, below)

-- gates grow by one gate of a cover, whose pins read the last sources
pub grow-gate : (cover : Cover) (old new : Gates) (gate : GateEntry) (pins : List Source) (names : (ℕ → List ℕ) → List (List ℕ))
    → HoldsGates old → gate.output ≡ cover.output → gate.pins ≡ length pins → ReadAs cover old.gates.items pins names
    → new.gates.items ≡ old.gates.items ++ gate ∷ [] → new.sources.items ≡ old.sources.items ++ pins
    → GrowBy cover (λ name. Gate (gate_name name gate) gate.kind (names name) ∷ []) old new
grow-gate cover old new gate pins names holds output long reads gates_are sources_are =
    let gates = old.gates.items in
    let sources = old.sources.items in
    let more = length_push gates gate in
    let few : length gates ≤ length (gates ++ gate ∷ []) = omega (arith, more) in
    let total = sum_by_push (λ (gate : GateEntry). gate.pins) gates gate in
    let all : All (ReadsGateBelow (length (gates ++ gate ∷ []))) (sources ++ pins) =
    All-weaker (ReadsGateBelow (length gates)) (ReadsGateBelow (length (gates ++ gate ∷ []))) (reads-weaker (length gates) (length (gates ++ gate ∷ [])) few) (sources ++ pins)
    (All-append (ReadsGateBelow (length gates)) sources pins holds.below reads.below) in
    record {
      holds = record {
        sized = rw (gates_are, sources_are) (omega (arith, total, long, holds.sized, length-append sources pins));
        below = rw (gates_are, sources_are) all;
      };
      named = λ count was below. record {
        outputs = rw (gates_are) (All-push (λ (gate : GateEntry). gate.output < count) gates gate was.outputs (rw (output) below.output));
        sources = rw (sources_are) (All-append (ReadsNameBelow count) sources pins was.sources (reads.named count below));
      };
      elements = λ name. rw (gates_are, sources_are)
          (elements-gate name gates gate sources pins holds.sized holds.below reads.below long
          ∙ ap (λ (read : List (List ℕ)). elements_by name old ++ Gate (gate_name name gate) gate.kind read ∷ []) (reads.reads name));
    }

-- gates that stay are gates that grow by nothing
pub grow-none : (cover : Cover) (old new : Gates) → HoldsGates old → new.gates.items ≡ old.gates.items → new.sources.items ≡ old.sources.items
    → GrowBy cover (λ name. []) old new
grow-none cover old new holds gates_are sources_are = record {
  holds = record { sized = rw (gates_are, sources_are) holds.sized; below = rw (gates_are, sources_are) holds.below };
  named = λ count was below. record { outputs = rw (gates_are) was.outputs; sources = rw (sources_are) was.sources };
  elements = λ name. rw (gates_are, sources_are) (sym (append-nil (elements_by name old)));
}

-- what grew stays so while gates and sources stay
pub grow-kept : (cover : Cover) (old now new : Gates) (more : (ℕ → List ℕ) → List Element) → GrowBy cover more old now → new.gates.items ≡ now.gates.items
    → new.sources.items ≡ now.sources.items → GrowBy cover more old new
grow-kept cover old now new more grown gates_are sources_are = record {
  holds = record { sized = rw (gates_are, sources_are) grown.holds.sized; below = rw (gates_are, sources_are) grown.holds.below };
  named = λ count was below.
      let named = grown.named count was below in
      record { outputs = rw (gates_are) named.outputs; sources = rw (sources_are) named.sources };
  elements = λ name. rw (gates_are, sources_are) (grown.elements name);
}

-- gates that grow twice
pub grow-twice : (cover : Cover) (old now new : Gates) (first second : (ℕ → List ℕ) → List Element) → GrowBy cover first old now → GrowBy cover second now new
    → GrowBy cover (λ name. first name ++ second name) old new
grow-twice cover old now new first second one two = record {
  holds = two.holds;
  named = λ count was below. two.named count (one.named count was below) below;
  elements = λ name. two.elements name ∙ (ap (λ (elements : List Element). elements ++ second name) (one.elements name)
      ∙ append_assoc (elements_by name old) (first name) (second name));
}

-- the same growth in other words
pub grow-as : (cover : Cover) (old new : Gates) (some other : (ℕ → List ℕ) → List Element) → GrowBy cover some old new → ((name : ℕ → List ℕ) → some name ≡ other name)
    → GrowBy cover other old new
grow-as cover old new some other grown same = record {
  holds = grown.holds;
  named = grown.named;
  elements = λ name. grown.elements name ∙ ap (λ (more : List Element). elements_by name old ++ more) (same name);
}

-- what sources read stays, as gates come
pub reads-later : (cover : Cover) (gates later : List GateEntry) (sources : List Source) (names : (ℕ → List ℕ) → List (List ℕ)) → IsPrefix gates later
    → ReadAs cover gates sources names → ReadAs cover later sources names
reads-later cover gates later sources names prefix reads =
    let rest = prefix.0 in
    let few : length gates ≤ length (gates ++ rest) = omega (arith, length-append gates rest) in
    record {
      below = rw (prefix.1) (All-weaker (ReadsGateBelow (length gates)) (ReadsGateBelow (length (gates ++ rest))) (reads-weaker (length gates) (length (gates ++ rest)) few) sources reads.below);
      named = reads.named;
      reads = λ name.
          let made = names_by name gates in
          let below : All (ReadsGateBelow (length made)) sources = subst (λ (n : ℕ). All (ReadsGateBelow n) sources) (sym (length-map gates (gate_name name))) reads.below in
          rw (prefix.1) (ap (λ (made : List (List ℕ)). map (source_name name made) sources) (map-append (gate_name name) gates rest)
          ∙ (sources-more name made (names_by name rest) sources below ∙ reads.reads name));
    }

-- sources, one list after another
pub reads-append : (cover : Cover) (gates : List GateEntry) (sources more : List Source) (names others : (ℕ → List ℕ) → List (List ℕ))
    → ReadAs cover gates sources names → ReadAs cover gates more others → ReadAs cover gates (sources ++ more) (λ name. names name ++ others name)
reads-append cover gates sources more names others one two = record {
  below = All-append (ReadsGateBelow (length gates)) sources more one.below two.below;
  named = λ count below. All-append (ReadsNameBelow count) sources more (one.named count below) (two.named count below);
  reads = λ name. map-append (source_name name (names_by name gates)) sources more
      ∙ (ap (λ (read : List (List ℕ)). read ++ map (source_name name (names_by name gates)) more) (one.reads name)
      ∙ ap (λ (read : List (List ℕ)). names name ++ read) (two.reads name));
}

pub reads-as : (cover : Cover) (gates : List GateEntry) (sources : List Source) (names others : (ℕ → List ℕ) → List (List ℕ)) → ReadAs cover gates sources names
    → ((name : ℕ → List ℕ) → names name ≡ others name) → ReadAs cover gates sources others
reads-as cover gates sources names others reads same = record {
  below = reads.below;
  named = reads.named;
  reads = λ name. reads.reads name ∙ same name;
}

-- a pin of a cover as a source
pub reads-pin : (cover : Cover) (gates : List GateEntry) (pin : ℕ) → Contains cover.pins.items pin → ReadAs cover gates (source.Name pin ∷ []) (λ name. name pin ∷ [])
reads-pin cover gates pin there = record {
  below = All-push (ReadsGateBelow (length gates)) [] (source.Name pin) (All-nil (ReadsGateBelow (length gates))) tt;
  named = λ count below. All-push (ReadsNameBelow count) [] (source.Name pin) (All-nil (ReadsNameBelow count)) (All-contains (λ (pin : ℕ). pin < count) cover.pins.items pin below.pins there);
  reads = λ name. refl;
}

-- the last gate as a source
pub reads-last : (cover : Cover) (gates : List GateEntry) (gate : GateEntry) → ReadAs cover (gates ++ gate ∷ []) (source.Gate (length gates) ∷ []) (λ name. gate_name name gate ∷ [])
reads-last cover gates gate = record {
  below = All-push (ReadsGateBelow (length (gates ++ gate ∷ []))) [] (source.Gate (length gates)) (All-nil (ReadsGateBelow (length (gates ++ gate ∷ [])))) (omega (arith, length_push gates gate));
  named = λ count below. All-push (ReadsNameBelow count) [] (source.Gate (length gates)) (All-nil (ReadsNameBelow count)) tt;
  reads = λ name. ap (λ (one : List ℕ). one ∷ [])
      (ap (λ (made : List (List ℕ)). get_or made (length gates) []) (map_push (gate_name name) gates gate)
      ∙ get_or_push (names_by name gates) (gate_name name gate) [] (length gates) (length-map gates (gate_name name)));
}

-- how many variables gates bring
variables-from : (name : ℕ → List ℕ) (made : List (List ℕ)) (gates : List GateEntry) (sources : List Source) → pin_total gates ≡ length sources
    → variable_total (elements_from name made gates sources) ≡ length gates + length sources
variables-from name made [] sources sized = omega (arith, sized)
variables-from name made (gate ∷ gates) sources sized =
    let split = sum_by-cons (λ (gate : GateEntry). gate.pins) gate gates in
    let within : gate.pins ≤ length sources = omega (arith, split, sized) in
    let left = length-drop gate.pins sources in
    let read = length-map (take gate.pins sources) (source_name name made) in
    let long = length-take-le gate.pins sources within in
    let rest = elements_from name made gates (drop gate.pins sources) in
    let first = sum_by-cons element_variables (Gate (gate_name name gate) gate.kind (map (source_name name made) (take gate.pins sources))) rest in
    let later = variables-from name made gates (drop gate.pins sources) (omega (arith, split, sized, left, within)) in
    omega (arith, first, later, read, long, left, within)

pub variables-of : (name : ℕ → List ℕ) (gates : Gates) → HoldsGates gates → variable_total (elements_by name gates) ≡ variables_of gates
variables-of name gates holds = variables-from name (names_by name gates.gates.items) gates.gates.items gates.sources.items holds.sized

pub grown-counted : (cover : Cover) (old new : Gates) (more : (ℕ → List ℕ) → List Element) → HoldsGates old → GrowBy cover more old new
    → (name : ℕ → List ℕ) → variables_of new ≡ variables_of old + variable_total (more name)
grown-counted cover old new more holds grown name =
    sym (variables-of name new grown.holds) ∙ (ap variable_total (grown.elements name)
    ∙ (sum_by-append element_variables (elements_by name old) (more name)
    ∙ ap (λ (count : ℕ). count + variable_total (more name)) (variables-of name old holds)))

-- entries stand for the same elements by two lists of names that agree on so many names
same-sources : (count : ℕ) (one other : ℕ → List ℕ) (made : List (List ℕ)) (sources : List Source) → ((number : ℕ) → number < count → one number ≡ other number) → All (ReadsNameBelow count) sources
    → map (source_name one made) sources ≡ map (source_name other made) sources
same-sources count one other made [] same below = refl
same-sources count one other made (first ∷ rest) same below =
    ap (λ (read : List ℕ). read ∷ map (source_name one made) rest) (by_source first (All-head (ReadsNameBelow count) first rest below))
    ∙ ap (λ (read : List (List ℕ)). source_name other made first ∷ read) (same-sources count one other made rest same (All-tail (ReadsNameBelow count) first rest below))
  where
    by_source : (source : Source) → ReadsNameBelow count source → source_name one made source ≡ source_name other made source
    by_source (source.Name number) there = same number there
    by_source (source.Gate number) there = refl

same-names : (count : ℕ) (one other : ℕ → List ℕ) (gates : List GateEntry) → ((number : ℕ) → number < count → one number ≡ other number) → All (λ gate. gate.output < count) gates
    → names_by one gates ≡ names_by other gates
same-names count one other [] same below = refl
same-names count one other (gate ∷ gates) same below =
    let P = λ (gate : GateEntry). gate.output < count in
    ap (λ (output : List ℕ). role_name gate.role output ∷ names_by one gates) (same gate.output (All-head P gate gates below))
    ∙ ap (λ (rest : List (List ℕ)). gate_name other gate ∷ rest) (same-names count one other gates same (All-tail P gate gates below))

same-from : (count : ℕ) (one other : ℕ → List ℕ) (made : List (List ℕ)) (gates : List GateEntry) (sources : List Source) → ((number : ℕ) → number < count → one number ≡ other number)
    → All (λ gate. gate.output < count) gates → All (ReadsNameBelow count) sources → elements_from one made gates sources ≡ elements_from other made gates sources
same-from count one other made [] sources same outputs below = refl
same-from count one other made (gate ∷ gates) sources same outputs below =
    let P = λ (gate : GateEntry). gate.output < count in
    let Q = ReadsNameBelow count in
    ap (λ (output : List ℕ). Gate (role_name gate.role output) gate.kind (map (source_name one made) (take gate.pins sources)) ∷ elements_from one made gates (drop gate.pins sources))
    (same gate.output (All-head P gate gates outputs))
    ∙ (ap (λ (pins : List (List ℕ)). Gate (gate_name other gate) gate.kind pins ∷ elements_from one made gates (drop gate.pins sources))
    (same-sources count one other made (take gate.pins sources) same (All-take Q gate.pins sources below))
    ∙ ap (λ (rest : List Element). Gate (gate_name other gate) gate.kind (map (source_name other made) (take gate.pins sources)) ∷ rest)
    (same-from count one other made gates (drop gate.pins sources) same (All-tail P gate gates outputs) (All-drop Q gate.pins sources below)))

-- names that are appended, and whatever else leaves the names so far, leave the elements
pub elements-same : (count : ℕ) (one other : ℕ → List ℕ) (gates : Gates) → AreNamed count gates → ((number : ℕ) → number < count → one number ≡ other number)
    → elements_by one gates ≡ elements_by other gates
elements-same count one other gates named same =
    ap (λ (made : List (List ℕ)). elements_from one made gates.gates.items gates.sources.items) (same-names count one other gates.gates.items same named.outputs)
    ∙ same-from count one other (names_by other gates.gates.items) gates.gates.items gates.sources.items same named.outputs named.sources

pub named-more : (few many : ℕ) (gates : Gates) → few ≤ many → AreNamed few gates → AreNamed many gates
named-more few many gates le named = record {
  outputs = All-weaker (λ (gate : GateEntry). gate.output < few) (λ (gate : GateEntry). gate.output < many) (λ gate below. omega (arith, le, below)) gates.gates.items named.outputs;
  sources = All-weaker (ReadsNameBelow few) (ReadsNameBelow many) (by_source le) gates.sources.items named.sources;
}
  where
    by_source : few ≤ many → (source : Source) → ReadsNameBelow few source → ReadsNameBelow many source
    by_source le (source.Name number) there = omega (arith, le, there)
    by_source le (source.Gate number) there = there

-- no gates stand for no elements
pub named-none : (count : ℕ) (gates : Gates) → gates.gates.items ≡ [] → gates.sources.items ≡ [] → AreNamed count gates
named-none count gates none nothing = record {
  outputs = rw (none) (All-nil (λ (gate : GateEntry). gate.output < count));
  sources = rw (nothing) (All-nil (ReadsNameBelow count));
}

pub elements-none : (name : ℕ → List ℕ) (gates : Gates) → gates.gates.items ≡ [] → elements_by name gates ≡ []
elements-none name gates none = rw (none) refl
