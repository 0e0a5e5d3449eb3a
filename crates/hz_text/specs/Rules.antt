-- What the passes over the statements of a text answer, one for each fault.
use Rattle.std.specs.Prelude.{◌≡◌, ℕ, ◌<◌, Bool, true, not, nat_eq, List, map, All, position, slice_set, Option, Some, None, IfSome}
use Rattle.std.specs.List.{filter_map, range_with_len}
use Rattle.std.specs.Option.{option_map, option_or}
use Rattle.hz_line.specs.Line.{lines_of}
use Rattle.hz_line.specs.OrThat.{OrThat}
use Rattle.hz_line.specs.Reading.{AreStatementsOf}
use Rattle.hz_line.specs.Statement.{Numbered, numbered_statements, first_passing_line, first_malformed}
use Rattle.hz_line.specs.Token.{TokenOf}
use Rattle.hz_line.specs.declared.statements.StatementsFault.{StatementsFault}
use Rattle.hz_line.specs.declared.statements.StatementsFault.TheVariants as unread
use Rattle.hz_text.specs.declared.fault.TextFault.{TextFault}
use Rattle.hz_text.specs.declared.fault.TextFault.TheVariants.{Form, Unknown, Twice, Missing, Bit, Order, TooMany, Memory, Mismatch}
use Rattle.hz_text.specs.declared.fault.Mismatch.{Mismatch as Wrong}
use Rattle.hz_text.specs.Assignment.{Assigned, has_repeat, assigns}

-- the nodes that are assigned, in their order
abbrev pub assigned_nodes : List Assigned → List ℕ
assigned_nodes all = filter_map (λ assigned. assigned.node) all

-- a node is assigned twice
abbrev pub repeats_node : List Assigned → Bool
repeats_node all = has_repeat nat_eq (assigned_nodes all)

-- each assigned node is below a bound
abbrev pub AreBelow : ℕ → List Assigned → Type 0
AreBelow bound all = All (λ assigned. IfSome assigned.node (λ node. node < bound)) all

-- the least of the first so many nodes that is not assigned
abbrev pub least_unassigned : ℕ → List Assigned → Option ℕ
least_unassigned nodes all = position not (map (assigns all) (range_with_len 0 nodes))

-- the list with the entry of this node, if there is one, made true
abbrev pub with_node_marked : List Bool → Option ℕ → List Bool
with_node_marked marks None = marks
with_node_marked marks (Some node) = slice_set marks node true

-- the passes over the statements of a text: what a statement says of names and words, and what all of them say together
pub record Rules (S : Type 0) : Type 0 where
  pub unknown : S → Bool
  pub assigned : S → List Assigned
  pub bitless : S → Bool
  pub missing : List (Numbered S) → Option ℕ
  pub order : List (Numbered S) → Option ℕ
  pub beyond : List (Numbered S) → Option ℕ
  pub mismatch : List (Numbered S) → Option Wrong

-- the fault of a count that is told wrongly
abbrev pub mismatch_at : Wrong → TextFault
mismatch_at wrong = Mismatch wrong.line wrong.told wrong.real

-- what the passes answer, one after the other
abbrev pub first_fault_in : {S : Type 0} → Rules S → List (Numbered S) → Option TextFault
first_fault_in rules statements =
    option_or (option_map Unknown (first_passing_line rules.unknown statements))
    (option_or
    (option_map Twice
    (first_passing_line (λ statement. repeats_node (rules.assigned statement)) statements))
    (option_or (option_map Missing (rules.missing statements))
    (option_or (option_map Bit (first_passing_line rules.bitless statements))
    (option_or (option_map Order (rules.order statements))
    (option_or (option_map TooMany (rules.beyond statements))
    (option_map mismatch_at (rules.mismatch statements)))))))

-- what a text has first: a malformed line, or what the passes answer
abbrev pub first_fault_of : {S : Type 0} → (List TokenOf → Option S) → Rules S → List ℕ →
    Option TextFault
first_fault_of grammar rules text =
    option_or (option_map Form (first_malformed grammar 1 (lines_of text)))
    (first_fault_in rules (numbered_statements grammar text))

-- the fault is the answer; memory may always run out
abbrev pub IsFaultOrMemory : Option TextFault → TextFault → Type 0
IsFaultOrMemory answer fault = OrThat Memory (λ found. answer ≡ Some found) fault

-- the statements of a text that has no fault first
pub record IsChecked {S : Type 0} (grammar : List TokenOf → Option S) (rules : Rules S)
    (text : List ℕ) (statements : List (Numbered S)) : Type 0 where
  pub read : AreStatementsOf grammar text statements
  pub clear : first_fault_in rules statements ≡ None

-- the fault of a text whose statements were not read
abbrev pub fault_by : StatementsFault → TextFault
fault_by (unread.Form line) = Form line
fault_by unread.Memory = Memory
