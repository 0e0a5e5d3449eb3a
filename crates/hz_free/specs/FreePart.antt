-- The feedback-free part of a network: which variables are feedback-free, an order of them, and the feedback cycles of the others.
use Rattle.std.specs.Prelude.{◌≡◌, ◌↔◌, ℕ, ◌<◌, Bool, false, Option, Some, None, List, [], length, take, slice_index, slice_index_or, IsTrue}
use Rattle.hz_core.specs.Netlist.{Netlist, IsCircuit, IsWhole}
use Rattle.hz_net.specs.Network.{Driver, Source, network_of, driver_at, bit_at}
use Rattle.hz_net.specs.Reads.{Reads}
use Rattle.hz_lists.specs.Listed.{is_listed, IsRepeatFree}
use Rattle.hz_free.specs.Chains.{IsFeedbackFree}
use Rattle.hz_free.specs.Feedback.{AreFeedbackCycles, IsCore}

-- for each variable whether it is feedback-free; the feedback-free nodes one after the other; the feedback cycles; and for
-- each other variable the number of its core among them
pub record FreePart : Type 0 where
  pub free : List Bool
  pub order : List ℕ
  pub cycles : List (List ℕ)
  pub cores : List (Option ℕ)

-- marks say exactly which variables are feedback-free
pub record AreMarks (net : List Driver) (free : List Bool) : Type 0 where
  pub long : length free ≡ length net
  pub exact : (i : ℕ) → i < length net → IsTrue (bit_at free i) ↔ IsFeedbackFree net i

-- a number is that of a variable's core among the cycles
abbrev pub IsCoreNumber : List Driver → List (List ℕ) → ℕ → Option ℕ → Type 0
IsCoreNumber net cycles i None = ⊥
IsCoreNumber net cycles i (Some number) =
    (number < length cycles) × IsCore net i (slice_index_or cycles number [])

-- the feedback cycles of a network, and the number of the core of each variable that is not feedback-free
pub record AreFeedback (net : List Driver) (cycles : List (List ℕ))
    (cores : List (Option ℕ)) : Type 0 where
  pub are_cycles : AreFeedbackCycles net cycles
  pub are_cores : (i : ℕ) → i < length net → (IsFeedbackFree net i → ⊥) →
      IsCoreNumber net cycles i (slice_index_or cores i None)

-- a number of a cycle
abbrev pub IsCycleNumber : List (List ℕ) → Option ℕ → Type 0
IsCycleNumber cycles None = ⊥
IsCycleNumber cycles (Some number) = number < length cycles

-- each variable without a mark has a core
abbrev pub HaveCores : List Bool → List (List ℕ) → List (Option ℕ) → Type 0
HaveCores free cycles cores =
    (i : ℕ) → i < length free → bit_at free i ≡ false →
    IsCycleNumber cycles (slice_index_or cores i None)

-- It is that of a network: the marks are exact, and the order has the nodes that are marked, each behind the nodes from which its
-- wires come; the cycles and the cores are those of the network.
pub record IsFreePart (netlist : Netlist) (part : FreePart) : Type 0 where
  pub circuit : IsCircuit netlist
  pub whole : IsWhole netlist
  pub marks : AreMarks (network_of netlist) part.free
  pub listed : (i : ℕ) → i < length netlist.names → is_listed part.order i ≡ bit_at part.free i
  pub once : IsRepeatFree part.order
  pub inside : (i : ℕ) → IsTrue (is_listed part.order i) → i < length netlist.names
  pub after : (at wire source : ℕ) → at < length part.order →
      Reads (driver_at (network_of netlist) (slice_index part.order at)) wire →
      driver_at (network_of netlist) wire ≡ Source source →
      IsTrue (is_listed (take at part.order) source)
  pub feedback : AreFeedback (network_of netlist) part.cycles part.cores

-- every circuit's network has such marks: it is decided which variables are feedback-free
abbrev pub MarksExist : Type 0
MarksExist =
    (netlist : Netlist) → IsCircuit netlist →
    (free : List Bool) × AreMarks (network_of netlist) free
