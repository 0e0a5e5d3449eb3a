-- A draft that can be built is one that every format builds: no gate of a cover has a name of the text.
use Rattle.std.proofs.Common.{◌≡◌, ℕ, zero, suc, ◌<◌, ◌∙◌, ◌∷◌, ◌++◌, List, [], refl, ap, sym, append_assoc, decimal, drop, length, map, take, arith}
use Rattle.std.specs.Prelude.{All}
use Rattle.std.specs.List.{AllByRecursion}
use Rattle.std.proofs.lemmas.List.Elements.{All-cons, All-nil}
use Rattle.hz_netlist.specs.declared.draft.Gate.{Gate as GateEntry}
use Rattle.hz_netlist.specs.declared.draft.Role.{Role}
use Rattle.hz_netlist.specs.declared.draft.Role.TheVariants as role
use Rattle.hz_netlist.specs.Draft as netlist
use Rattle.hz_netlist.specs.declared.draft.Source.{Source}
use Rattle.hz_netlist.specs.Draft.{HasOwnName, ReadsGateBelow, ReadsNameBelow, elements_from, gate_name, source_name}
use Rattle.hz_netlist.specs.Element.{Element, Gate, Input, Output, cut_names, data_names, gates_among, input_names, output_names}
use Rattle.hz_netlist.specs.Names.{Names, name_at, names_at, seen_names}
use Rattle.hz_blif.specs.declared.draft.Draft.{Draft}
use Rattle.hz_blif.specs.Built.{IsBuildable, drafted_of, elements_of_draft}
use Rattle.hz_blif.specs.Entries.{elements_by}
use Rattle.hz_blif.specs.Plain.{IsPlain}
use Rattle.hz_blif.proofs.NameLaws.{plain-no_mark}

plain-at : (names : Names) → AllByRecursion IsPlain (seen_names names) → (number : ℕ) → number < length names → IsPlain (name_at names number)
plain-at [] all number few = absurd (omega (arith, few))
plain-at (seen ∷ rest) all zero few = all.0
plain-at (seen ∷ rest) all (suc number) few = plain-at rest all.1 number (omega (arith, few))

own-name : (names : Names) → AllByRecursion IsPlain (seen_names names) → (of : Role) (output : List ℕ) → HasOwnName names of output
own-name names all role.Output output = tt
own-name names all (role.Inverter pin) output = λ number few same.
    plain-no_mark (name_at names number) output (110 ∷ decimal pin) (plain-at names all number few) (same ∙ append_assoc output (92 ∷ 110 ∷ []) (decimal pin))
own-name names all (role.Row row) output = λ number few same.
    plain-no_mark (name_at names number) output (114 ∷ decimal row) (plain-at names all number few) (same ∙ append_assoc output (92 ∷ 114 ∷ []) (decimal row))

own-names : (names : Names) → AllByRecursion IsPlain (seen_names names) → (gates : List GateEntry) → All (λ (gate : GateEntry). HasOwnName names gate.role (name_at names gate.output)) gates
own-names names all [] = All-nil _
own-names names all (gate ∷ rest) =
    All-cons (λ (gate : GateEntry). HasOwnName names gate.role (name_at names gate.output)) gate rest (own-name names all gate.role (name_at names gate.output)) (own-names names all rest)

-- the names and the gates of elements in order, of which none is a cut
record HasParts (inputs : List (List ℕ)) (gates : List Element) (outputs : List (List ℕ)) (elements : List Element) : Type 0 where
  named : inputs ≡ input_names elements
  cuts : [] ≡ cut_names elements
  cut_sources : [] ≡ data_names elements
  made : gates ≡ gates_among elements
  put : outputs ≡ output_names elements

output-parts : (outputs : List (List ℕ)) → HasParts [] [] outputs (map Output outputs)
output-parts [] = record { named = refl; cuts = refl; cut_sources = refl; made = refl; put = refl }
output-parts (output ∷ rest) =
    let more = output-parts rest in
    record { named = more.named; cuts = more.cuts; cut_sources = more.cut_sources; made = more.made; put = ap (λ names. output ∷ names) more.put }

gate-parts : (name : ℕ → List ℕ) (made : List (List ℕ)) (gates : List GateEntry) (sources : List Source) (outputs : List (List ℕ)) → HasParts [] (elements_from name made gates sources) outputs (elements_from name made gates sources ++ map Output outputs)
gate-parts name made [] sources outputs = output-parts outputs
gate-parts name made (gate ∷ rest) sources outputs =
    let more = gate-parts name made rest (drop gate.pins sources) outputs in
    let one = Gate (gate_name name gate) gate.kind (map (source_name name made) (take gate.pins sources)) in
    record { named = more.named; cuts = more.cuts; cut_sources = more.cut_sources; made = ap (λ gates. one ∷ gates) more.made; put = more.put }

input-parts : (inputs : List (List ℕ)) (gates : List Element) (outputs : List (List ℕ)) (rest : List Element) → HasParts [] gates outputs rest → HasParts inputs gates outputs (map Input inputs ++ rest)
input-parts [] gates outputs rest has = has
input-parts (input ∷ inputs) gates outputs rest has =
    let more = input-parts inputs gates outputs rest has in
    record { named = ap (λ names. input ∷ names) more.named; cuts = more.cuts; cut_sources = more.cut_sources; made = more.made; put = more.put }

parts : (draft : Draft) → HasParts (names_at draft.names draft.inputs.items) (elements_by (name_at draft.names) draft.gates) (names_at draft.names draft.outputs.items) (elements_of_draft draft)
parts draft =
    let name = name_at draft.names in
    let gates = draft.gates.gates.items in
    let outputs = names_at draft.names draft.outputs.items in
    input-parts (names_at draft.names draft.inputs.items) (elements_by (name_at draft.names) draft.gates) outputs (elements_by (name_at draft.names) draft.gates ++ map Output outputs)
    (gate-parts name (map (gate_name name) gates) gates draft.gates.sources.items outputs)

pub drafted-buildable : (draft : Draft) → IsBuildable draft → AllByRecursion IsPlain (seen_names draft.names) → netlist.IsBuildable (elements_of_draft draft) (drafted_of draft)
drafted-buildable draft can plain = record {
  has = let told = parts draft in record { inputs = told.named; cuts = told.cuts; cut_sources = told.cut_sources; gates = told.made; outputs = told.put };
  wired = can.wired;
  distinct = can.distinct;
  input_numbers = can.input_numbers;
  cut_numbers = All-nil (λ (number : ℕ). number < length draft.names);
  data_numbers = All-nil (ReadsNameBelow (length draft.names));
  data_gates = All-nil (ReadsGateBelow (length draft.gates.gates.items));
  gate_numbers = can.gate_numbers.outputs;
  gate_names = own-names draft.names plain draft.gates.gates.items;
  sized = can.holds.sized;
  source_numbers = can.gate_numbers.sources;
  source_gates = can.holds.below;
  output_numbers = can.output_numbers;
}
