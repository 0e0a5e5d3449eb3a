-- Assignments `name = word`, and what they are in a circuit.
use Rattle.std.specs.Prelude.{ℕ, Bool, true, false, ◌||◌, nat_eq, nat_le, nat_lt, List, [], ◌∷◌, codes, map, Option, Some, None, is_none, if◌then◌else◌}
use Rattle.std.specs.List.{list_any}
use Rattle.std.specs.Option.{option_map}
use Rattle.std.specs.Str.{bytes_eq}
use Rattle.hz_core.specs.Netlist.{Netlist, node_named}
use Rattle.hz_line.specs.declared.bytes.Punctuation.TheVariants.{Equals}
use Rattle.hz_line.specs.Token.{TokenOf, WordOf, PunctuationOf}

-- a name and the word that is assigned to it
pub record Assignment : Type 0 where
  pub name : List ℕ
  pub word : List ℕ

-- the assignments that tokens are, three tokens each
abbrev pub assignments_of : List TokenOf → Option (List Assignment)
assignments_of [] = Some []
assignments_of (WordOf name ∷ PunctuationOf Equals ∷ WordOf word ∷ rest) =
    option_map (λ assignments. record { name = name; word = word } ∷ assignments)
    (assignments_of rest)
assignments_of _ = None

-- the bit that a word is
abbrev pub bit_of : List ℕ → Option Bool
bit_of word =
    if bytes_eq word (codes "0") then Some false
    else (if bytes_eq word (codes "1") then Some true else None)

-- what is assigned, in a circuit: the node that has the name and the bit that the word is, if there are such
pub record Assigned : Type 0 where
  pub node : Option ℕ
  pub bit : Option Bool

-- the node and the bit of an assignment
abbrev pub assigned_of : Netlist → Assignment → Assigned
assigned_of netlist assignment =
    record { node = node_named netlist assignment.name; bit = bit_of assignment.word }

-- the nodes and bits of the assignments that tokens are
abbrev pub assigned_by : Netlist → List TokenOf → Option (List Assigned)
assigned_by netlist tokens = option_map (map (assigned_of netlist)) (assignments_of tokens)

-- which nodes a statement may assign: any, inputs alone, or gates alone
pub data Allowed : Type 0 where
  Nodes : Allowed
  Inputs : Allowed
  Gates : Allowed

-- a statement may not assign this: it is no node, or none that is allowed; inputs are the first nodes
abbrev pub is_not_allowed : ℕ → Allowed → Option ℕ → Bool
is_not_allowed inputs allowed None = true
is_not_allowed inputs Nodes (Some node) = false
is_not_allowed inputs Inputs (Some node) = nat_le inputs node
is_not_allowed inputs Gates (Some node) = nat_lt node inputs

-- some assignment is to what may not be assigned
abbrev pub any_unknown : ℕ → Allowed → List Assigned → Bool
any_unknown inputs allowed all = list_any (λ one. is_not_allowed inputs allowed one.node) all

-- some element equals a later one
abbrev pub has_repeat : {X : Type 0} → (X → X → Bool) → List X → Bool
has_repeat equal [] = false
has_repeat equal (first ∷ later) = list_any (equal first) later || has_repeat equal later

-- a name is assigned twice
abbrev pub any_twice : List Assignment → Bool
any_twice assignments = has_repeat bytes_eq (map (λ assignment. assignment.name) assignments)

-- a word is assigned that is no bit
abbrev pub any_bitless : List Assigned → Bool
any_bitless all = list_any (λ one. is_none one.bit) all

-- the node is this one
abbrev pub is_same_node : ℕ → Option ℕ → Bool
is_same_node node None = false
is_same_node node (Some other) = nat_eq node other

-- some assignment is to this node
abbrev pub assigns : List Assigned → ℕ → Bool
assigns all node = list_any (λ assigned. is_same_node node assigned.node) all

-- the bit that is assigned to a node, if one is
abbrev pub assigned_bit : List Assigned → ℕ → Option Bool
assigned_bit [] node = None
assigned_bit (first ∷ later) node =
    if is_same_node node first.node then first.bit else assigned_bit later node

-- the assignment of a bit to a node
abbrev pub assignment_to : ℕ × Bool → Assigned
assignment_to pair = record { node = Some pair.0; bit = Some pair.1 }
