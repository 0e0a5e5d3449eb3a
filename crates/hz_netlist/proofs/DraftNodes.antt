-- The nodes of names: the table of nodes tells the number of each name that a node has.
use Rattle.std.proofs.Common.{◌≡◌, ◌≢◌, ◌∙◌, refl, sym, ap, subst, ℕ, suc, ◌<◌, inl, inr, Bool, true, false, ◌||◌, List, [], ◌∷◌, ◌++◌, length, map, set, append_assoc, length-append, arith}
use Rattle.std.specs.Prelude.{All}
use Rattle.std.specs.List.{AllByRecursion, IsDistinct, list_any}
use Rattle.std.specs.Str.{bytes_eq}
use Rattle.std.proofs.lemmas.Bool.{cases_eq}
use Rattle.std.proofs.lemmas.List.{get_or-set_other, get_or-set_same, length-set}
use Rattle.std.proofs.lemmas.List.Elements.{All-head, All-tail}
use Rattle.std.proofs.lemmas.List.Folds.{list_any-append}
use Rattle.std.proofs.lemmas.Slice.Eq.{bytes_eq-Decides}
use Rattle.hz_netlist.proofs.NameTableLemmas.{same-number}
use Rattle.hz_netlist.proofs.Numbers.{number-at, number-placed}
use Rattle.hz_netlist.specs.Circuit.{number_in}
use Rattle.hz_netlist.specs.Names.{Names, seen_names, node_of, AreNumbers, names_at, name_at}
use Rattle.hz_netlist.specs.declared.draft.Gate.{Gate as GateEntry}
use Rattle.hz_netlist.specs.declared.draft.Role.{Role}
use Rattle.hz_netlist.specs.declared.draft.Role.TheVariants as role
use Rattle.hz_netlist.specs.declared.draft.Source.{Source}
use Rattle.hz_netlist.specs.declared.draft.Source.TheVariants as source
use Rattle.hz_netlist.specs.Draft.{HasOwnName, ReadsGateBelow, ReadsNameBelow, gate_name, inverter_name, role_name, row_name, source_name, source_node, with_gate_nodes, with_nodes_from, with_role_node}

-- the names of the table that are among the first nodes have their numbers
abbrev pub AreNodesOf : Names → List (List ℕ) → List (List ℕ) → List ℕ → Type 0
AreNodesOf names all front nodes =
    (number : ℕ) → number < length names → list_any (bytes_eq (name_at names number)) front ≡ true → node_of nodes number ≡ number_in all (name_at names number)

pub nothing-more : (names : List (List ℕ)) → names ++ [] ≡ names
nothing-more [] = refl
nothing-more (name ∷ names) = ap (λ names. name ∷ names) (nothing-more names)

-- a name that is among names and one more, and is not that one, is among them
among-front : (name last : List ℕ) (front : List (List ℕ)) → name ≢ last → list_any (bytes_eq name) (front ++ last ∷ []) ≡ true → list_any (bytes_eq name) front ≡ true
among-front name last front differ among =
    by_test (list_any (bytes_eq name) front) (bytes_eq name last) refl (sym (list_any-append (bytes_eq name) front (last ∷ [])) ∙ among)
  where
    by_test : (before here : Bool) → bytes_eq name last ≡ here → (before || (here || false)) ≡ true → before ≡ true
    by_test true here is h = refl
    by_test false true is h = absurd (differ ((bytes_eq-Decides name last).0 is))
    by_test false false is h = let e : false ≡ true = h in cc

module _ (names : Names) (all : List (List ℕ)) (distinct : IsDistinct bytes_eq (seen_names names)) (apart : IsDistinct bytes_eq all) where
  -- one name more is a node
  one-node : (front after : List (List ℕ)) (nodes : List ℕ) (number : ℕ) → number < length names → all ≡ front ++ name_at names number ∷ after → length nodes ≡ length names
      → AreNodesOf names all front nodes → AreNodesOf names all (front ++ name_at names number ∷ []) (set nodes number (length front))
  one-node front after nodes number few is long are other few_other among = elim (cases_eq other number) [
    | inl same ↦
        subst (λ (n : ℕ). node_of (set nodes number (length front)) n ≡ number_in all (name_at names n)) (sym same)
        (get_or-set_same nodes number (length front) 0 (omega (arith, few, long))
        ∙ sym (ap (λ names'. number_in names' (name_at names number)) is ∙ number-placed front after (name_at names number) (subst (IsDistinct bytes_eq) is apart)))
    | inr differ ↦
        get_or-set_other nodes number other (length front) 0 differ
        ∙ are other few_other
        (among-front (name_at names other) (name_at names number) front (λ same. differ (same-number names other number distinct few_other few same)) among)
  ]

  -- a node that has no name of the text
  other-node : (front : List (List ℕ)) (nodes : List ℕ) (name : List ℕ) → ((number : ℕ) → number < length names → name_at names number ≢ name)
      → AreNodesOf names all front nodes → AreNodesOf names all (front ++ name ∷ []) nodes
  other-node front nodes name differ are other few among = are other few (among-front (name_at names other) name front (differ other few) among)

  pub nodes-named : (front after : List (List ℕ)) (nodes numbers : List ℕ) → all ≡ front ++ (names_at names numbers ++ after) → AreNumbers names numbers → length nodes ≡ length names
      → AreNodesOf names all front nodes
      → AreNodesOf names all (front ++ names_at names numbers) (with_nodes_from (length front) nodes numbers) × (length (with_nodes_from (length front) nodes numbers) ≡ length names)
  nodes-named front after nodes [] is few long are = (subst (λ front. AreNodesOf names all front nodes) (sym (nothing-more front)) are, long)
  nodes-named front after nodes (number ∷ rest) is few long are =
      let name = name_at names number in
      let here = All-head (λ number. number < length names) number rest few in
      let moved = append_assoc front (name ∷ []) (names_at names rest) in
      let next : length (front ++ name ∷ []) ≡ suc (length front) = omega (arith, length-append front (name ∷ [])) in
      let more = nodes-named (front ++ name ∷ []) after (set nodes number (length front)) rest
      (is ∙ sym (append_assoc front (name ∷ []) (names_at names rest ++ after)))
      (All-tail (λ number. number < length names) number rest few)
      (length-set nodes number (length front) ∙ long)
      (one-node front (names_at names rest ++ after) nodes number here is long are) in
      subst (λ (node : ℕ). AreNodesOf names all (front ++ names_at names (number ∷ rest)) (with_nodes_from node (set nodes number (length front)) rest)
      × (length (with_nodes_from node (set nodes number (length front)) rest) ≡ length names)) next
      (subst (λ front'. AreNodesOf names all front' (with_nodes_from (length (front ++ name ∷ [])) (set nodes number (length front)) rest)) moved more.0, more.1)

  -- the node of one gate more
  gate-node : (front after : List (List ℕ)) (nodes : List ℕ) (of : Role) (output : ℕ) → output < length names → HasOwnName names of (name_at names output) → all ≡ front ++ role_name of (name_at names output) ∷ after → length nodes ≡ length names
      → AreNodesOf names all front nodes → AreNodesOf names all (front ++ role_name of (name_at names output) ∷ []) (with_role_node of (length front) nodes output)
      × (length (with_role_node of (length front) nodes output) ≡ length names)
  gate-node front after nodes role.Output output few own is long are = (one-node front after nodes output few is long are, length-set nodes output (length front) ∙ long)
  gate-node front after nodes (role.Inverter pin) output few own is long are = (other-node front nodes (inverter_name (name_at names output) pin) own are, long)
  gate-node front after nodes (role.Row row) output few own is long are = (other-node front nodes (row_name (name_at names output) row) own are, long)

  pub nodes-gates : (front : List (List ℕ)) (nodes : List ℕ) (gates : List GateEntry) → all ≡ front ++ map (gate_name (name_at names)) gates → All (λ (gate : GateEntry). gate.output < length names) gates
      → All (λ (gate : GateEntry). HasOwnName names gate.role (name_at names gate.output)) gates
      → length nodes ≡ length names → AreNodesOf names all front nodes → AreNodesOf names all all (with_gate_nodes (length front) nodes gates) × (length (with_gate_nodes (length front) nodes gates) ≡ length names)
  nodes-gates front nodes [] is few own long are = (subst (λ front. AreNodesOf names all front nodes) (sym (is ∙ nothing-more front)) are, long)
  nodes-gates front nodes (gate ∷ rest) is few own long are =
      let name = gate_name (name_at names) gate in
      let more_names = map (gate_name (name_at names)) rest in
      let here = All-head (λ (gate : GateEntry). gate.output < length names) gate rest few in
      let next : length (front ++ name ∷ []) ≡ suc (length front) = omega (arith, length-append front (name ∷ [])) in
      let named = All-head (λ (gate : GateEntry). HasOwnName names gate.role (name_at names gate.output)) gate rest own in
      let made = gate-node front more_names nodes gate.role gate.output here named is long are in
      let nodes' = with_role_node gate.role (length front) nodes gate.output in
      let more = nodes-gates (front ++ name ∷ []) nodes' rest
      (is ∙ sym (append_assoc front (name ∷ []) more_names)) (All-tail (λ (gate : GateEntry). gate.output < length names) gate rest few)
      (All-tail (λ (gate : GateEntry). HasOwnName names gate.role (name_at names gate.output)) gate rest own) made.1 made.0 in
      subst (λ (node : ℕ). AreNodesOf names all all (with_gate_nodes node nodes' rest) × (length (with_gate_nodes node nodes' rest) ≡ length names)) next more

-- what pins and cuts read, by the names of nodes
pub sources-numbered : (names : Names) (inputs made : List (List ℕ)) (nodes : List ℕ) (sources : List Source) → IsDistinct bytes_eq (inputs ++ made) → AreNodesOf names (inputs ++ made) (inputs ++ made) nodes
    → All (ReadsNameBelow (length names)) sources → All (ReadsGateBelow (length made)) sources
    → AllByRecursion (λ source. list_any (bytes_eq (source_name (name_at names) made source)) (inputs ++ made) ≡ true) sources
    → map (source_node nodes (length inputs)) sources ≡ map (λ source. number_in (inputs ++ made) (source_name (name_at names) made source)) sources
sources-numbered names inputs made nodes [] apart are below gates known = refl
sources-numbered names inputs made nodes (first ∷ rest) apart are below gates known =
    let here = by_source first (All-head (ReadsNameBelow (length names)) first rest below) (All-head (ReadsGateBelow (length made)) first rest gates) known.0 in
    let more = sources-numbered names inputs made nodes rest apart are (All-tail (ReadsNameBelow (length names)) first rest below) (All-tail (ReadsGateBelow (length made)) first rest gates) known.1 in
    ap (λ node. node ∷ map (source_node nodes (length inputs)) rest) here ∙ ap (λ nodes. number_in (inputs ++ made) (source_name (name_at names) made first) ∷ nodes) more
  where
    by_source : (one : Source) → ReadsNameBelow (length names) one → ReadsGateBelow (length made) one → list_any (bytes_eq (source_name (name_at names) made one)) (inputs ++ made) ≡ true
        → source_node nodes (length inputs) one ≡ number_in (inputs ++ made) (source_name (name_at names) made one)
    by_source (source.Name number) below gates known = are number below known
    by_source (source.Gate gate) below gates known = sym (number-at inputs made gate apart gates)

-- and the outputs
pub outputs-numbers : (names : Names) (all : List (List ℕ)) (nodes numbers : List ℕ) → AreNodesOf names all all nodes → AreNumbers names numbers
    → AllByRecursion (λ name. list_any (bytes_eq name) all ≡ true) (names_at names numbers) → map (node_of nodes) numbers ≡ map (number_in all) (names_at names numbers)
outputs-numbers names all nodes [] are few known = refl
outputs-numbers names all nodes (number ∷ rest) are few known =
    let here = are number (All-head (λ number. number < length names) number rest few) known.0 in
    let more = outputs-numbers names all nodes rest are (All-tail (λ number. number < length names) number rest few) known.1 in
    ap (λ node. node ∷ map (node_of nodes) rest) here ∙ ap (λ nodes. number_in all (name_at names number) ∷ nodes) more
