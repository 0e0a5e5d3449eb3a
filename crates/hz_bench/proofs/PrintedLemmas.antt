-- A printed text, line by line.
use Rattle.std.proofs.Common.{◌≡◌, ◌∙◌, ℕ, ◌+◌, ◌-◌, ◌<◌, ◌≤◌, suc, List, [], ◌∷◌, ◌++◌, Option, None, length, refl, map, take, get_or, sym, ap, arith, append_assoc, codes, add-zero}
use Rattle.std.proofs.lemmas.List.{take_more, map_push, append-nil, length-take-le}
use Rattle.hz_core.specs.Netlist.{Gate, node_name}
use Rattle.hz_bench.specs.Printed.{port_line, port_lines, more_sources, cut_lines, cut_text, gate_line, gate_texts}

-- a text with a piece more
pub text_more : (old now new front back whole : List ℕ) → now ≡ old ++ front → new ≡ now ++ back → whole ≡ front ++ back → new ≡ old ++ whole
text_more old now new front back whole so_far more split = more ∙ ap (λ text. text ++ back) so_far ∙ append_assoc old front back ∙ ap (λ piece. old ++ piece) (sym split)

port_lines-push : (word : List ℕ) (names : List (List ℕ)) (name : List ℕ) → port_lines word (names ++ name ∷ []) ≡ port_lines word names ++ port_line word name
port_lines-push word [] name = append-nil (port_line word name)
port_lines-push word (first ∷ names) name = ap (λ rest. port_line word first ++ rest) (port_lines-push word names name) ∙ sym (append_assoc (port_line word first) (port_lines word names) (port_line word name))

pub inputs_more : (word : List ℕ) (names : List (List ℕ)) (node : ℕ) → node < length names → port_lines word (take (node + 1) names) ≡ port_lines word (take node names) ++ port_line word (node_name names node)
inputs_more word names node inside = ap (port_lines word) (take_more names node [] inside) ∙ port_lines-push word (take node names) (node_name names node)

pub outputs_more : (word : List ℕ) (names : List (List ℕ)) (outputs : List ℕ) (index : ℕ) → index < length outputs → port_lines word (map (node_name names) (take (index + 1) outputs)) ≡ port_lines word (map (node_name names) (take index outputs)) ++ port_line word (node_name names (get_or outputs index 0))
outputs_more word names outputs index inside = ap (λ nodes. port_lines word (map (node_name names) nodes)) (take_more outputs index 0 inside) ∙ ap (port_lines word) (map_push (node_name names) (take index outputs) (get_or outputs index 0)) ∙ port_lines-push word (map (node_name names) (take index outputs)) (node_name names (get_or outputs index 0))

more_sources-push : (names : List (List ℕ)) (sources : List ℕ) (source : ℕ) → more_sources names (sources ++ source ∷ []) ≡ more_sources names sources ++ (codes ", " ++ node_name names source)
more_sources-push names [] source = append-nil (codes ", " ++ node_name names source)
more_sources-push names (first ∷ sources) source = ap (λ rest. (codes ", " ++ node_name names first) ++ rest) (more_sources-push names sources source) ∙ sym (append_assoc (codes ", " ++ node_name names first) (more_sources names sources) (codes ", " ++ node_name names source))

pub sources_more : (names : List (List ℕ)) (sources : List ℕ) (index : ℕ) → index < length sources → more_sources names (take (index + 1) sources) ≡ more_sources names (take index sources) ++ (codes ", " ++ node_name names (get_or sources index 0))
sources_more names sources index inside = ap (more_sources names) (take_more sources index 0 inside) ∙ more_sources-push names (take index sources) (get_or sources index 0)

-- texts of items that are numbered from a first node
module _ {X : Type 0} (text : ℕ → X → List ℕ) (texts : ℕ → List X → List ℕ) (none : (node : ℕ) → texts node [] ≡ []) (next : (node : ℕ) (item : X) (rest : List X) → texts node (item ∷ rest) ≡ text node item ++ texts (suc node) rest) where
  texts-push : (node : ℕ) (items : List X) (item : X) → texts node (items ++ item ∷ []) ≡ texts node items ++ text (node + length items) item
  texts-push node [] item =
      next node item [] ∙ ap (λ rest. text node item ++ rest) (none (suc node)) ∙ append-nil (text node item)
      ∙ ap (λ place. text place item) (sym (add-zero node)) ∙ ap (λ before. before ++ text (node + 0) item) (sym (none node))
  texts-push node (first ∷ items) item =
      next node first (items ++ item ∷ []) ∙ ap (λ rest. text node first ++ rest) (texts-push (suc node) items item ∙ ap (λ place. texts (suc node) items ++ text place item) (shift node (length items)))
      ∙ sym (append_assoc (text node first) (texts (suc node) items) (text (node + suc (length items)) item)) ∙ ap (λ before. before ++ text (node + suc (length items)) item) (sym (next node first items))
    where
      shift : (a b : ℕ) → suc a + b ≡ a + suc b
      shift a b = omega arith

  texts_more : (first : ℕ) (items : List X) (node : ℕ) (other : X) → first ≤ node → node < first + length items
      → texts first (take (node + 1 - first) items) ≡ texts first (take (node - first) items) ++ text node (get_or items (node - first) other)
  texts_more first items node other low high =
      let inside : node - first < length items = omega arith in
      let next : node + 1 - first ≡ (node - first) + 1 = omega arith in
      let place : first + length (take (node - first) items) ≡ node = let short = length-take-le (node - first) items (omega arith) in omega arith in
      ap (λ count. texts first (take count items)) next ∙ ap (texts first) (take_more items (node - first) other inside)
      ∙ texts-push first (take (node - first) items) (get_or items (node - first) other)
      ∙ ap (λ at. texts first (take (node - first) items) ++ text at (get_or items (node - first) other)) place

pub gates_more : (names : List (List ℕ)) (inputs : ℕ) (gates : List Gate) (node : ℕ) (other : Gate) → inputs ≤ node → node < inputs + length gates
    → gate_texts names inputs (take (node + 1 - inputs) gates) ≡ gate_texts names inputs (take (node - inputs) gates) ++ gate_line names (node_name names node) (get_or gates (node - inputs) other)
gates_more names = texts_more (λ node gate. gate_line names (node_name names node) gate) (gate_texts names) (λ node. refl) (λ node gate rest. refl)

pub cuts_more : (names : List (List ℕ)) (first : ℕ) (cuts : List (Option ℕ)) (node : ℕ) → first ≤ node → node < first + length cuts
    → cut_lines names first (take (node + 1 - first) cuts) ≡ cut_lines names first (take (node - first) cuts) ++ cut_text names (node_name names node) (get_or cuts (node - first) None)
cuts_more names first cuts node = texts_more (λ node cut. cut_text names (node_name names node) cut) (cut_lines names) (λ node. refl) (λ node cut rest. refl) first cuts node None
