-- Pins have a table or not, the orders whose gates have tables, and what they bound.
use Rattle.std.proofs.Common.{◌≡◌, ◌≢◌, ◌⊎◌, ℕ, suc, ◌+◌, ◌<◌, ◌≤◌, List, [], ◌∷◌, ◌++◌, length, take, get_or, All, refl, sym, ap, ◌∙◌, subst, inl, inr, arith, append-nil, IsTrue, IfOk, Result, Ok, Err}
use Rattle.hz_orders.proofs.Words.{slice_range, cases_lt, length-map, Kind, takes, Netlist, IsCircuit, gate_at, Driver, Function, Source, network_of, driver_at, first_wire, Reads}
use Rattle.hz_orders.proofs.Words.{is_gate_of, wired-network_of, reads-inside, Count, Exact, Many, Word, capped_word, Order, advances, IsBoundUnder, IsKeptAt, AreExact, IsExactCount}
use Rattle.hz_orders.proofs.Words.{positions_of, AreTabled}
use Rattle.std.proofs.lemmas.List.{take_more}
use Rattle.std.proofs.lemmas.List.Elements.{All-nil, All-cons, All-head, All-tail}
use Rattle.hz_net.specs.Reads.{IsWireInto}
use Rattle.hz_word.specs.Capped.{IsFold}
use Rattle.hz_orders.specs.Orders.{IsOrderOf}
use Rattle.hz_orders.specs.Positions.{HaveTable, most_places}
use Rattle.hz_orders.specs.Tabled.{AddsTabled, HasTableAt, HoldAlike}
use Rattle.hz_orders.proofs.Folded.{own-bound}

-- two facts of a value that is there
pub if-both : {T E : Type 0} (r : Result T E) (P Q R : T → Type 0) → ((x : T) → P x → Q x → R x) → IfOk r P → IfOk r Q → IfOk r R
if-both (Ok x) P Q R each one two = each x one two
if-both (Err e) P Q R each one two = tt

-- a number of changes is exact, or it is not
is-exact-or-not : (count : Count) → IsExactCount count ⊎ (IsExactCount count → ⊥)
is-exact-or-not (Exact n) = inl tt
is-exact-or-not Many = inr (λ exact. exact)

exact-or-not : (pins : List Word) → AreExact pins ⊎ (AreExact pins → ⊥)
exact-or-not [] = inl tt
exact-or-not (pin ∷ pins) =
    elim (is-exact-or-not pin.changes) [
      | inr not_so ↦ inr (λ all. not_so all.0)
      | inl first ↦
          elim (exact-or-not pins) [
            | inl are ↦ inl (first, are)
            | inr not_all ↦ inr (λ all. not_all all.1)
          ]
    ]

-- pins have a table, or they have none
pub table-or-not : (pins : List Word) → HaveTable pins ⊎ (HaveTable pins → ⊥)
table-or-not pins =
    elim (exact-or-not pins) [
      | inr not_so ↦ inr (λ table. not_so table.exact)
      | inl exact ↦
          elim (cases_lt most_places (length (positions_of pins))) [
            | inl many ↦ inr (λ table. let few = table.few in absurd (omega (arith, many, few)))
            | inr few ↦ inl (record { exact = exact; few = omega (arith, few) })
          ]
    ]

-- what holds the wires of a gate as all orders do bounds the gate as they do, if the gate has a table; if not, its word bounds it
pub tabled-bound : (orders tabled : List Order) (kind : Kind) (wire : ℕ) (pins : List Word) (cap : ℕ) (count : Count) → IsTrue (takes kind (length pins)) → IsBoundUnder orders kind wire pins cap count → ((HaveTable pins → ⊥) → (word : Word) × IsFold kind pins cap word × (word.changes ≡ count)) →
    (HaveTable pins → HoldAlike wire (length pins) orders tabled) → IsBoundUnder tabled kind wire pins cap count
tabled-bound orders tabled kind wire pins cap count taken bound folded alike =
    elim (table-or-not pins) [
      | inl table ↦ λ words are_words capped moves keeping.
          let long : length pins ≡ length words = ap length (sym capped) ∙ length-map words (capped_word cap) in
          bound words are_words capped moves
          (record {
            part = keeping.part;
            kept = λ k less.
                subst (λ (n : ℕ). All (λ (order : Order). IsKeptAt wire n (advances (take (suc k) moves)) order) orders) long
                (alike table (advances (take (suc k) moves))
                (subst (λ (n : ℕ). All (λ (order : Order). IsKeptAt wire n (advances (take (suc k) moves)) order) tabled) (sym long) (keeping.kept k less)));
          })
      | inr none ↦
          let word = folded none in
          subst (λ (n : Count). IsBoundUnder tabled kind wire pins cap n) word.2 (own-bound tabled kind wire pins cap word.0 taken word.1)
    ]

module _ (net : List Driver) (told : List Word) where
  -- what holds of the orders whose gates have tables, and of each order whose gate has none, holds of all
  pub all-of-tabled : (P : Order → Type 0) (orders tabled : List Order) → AreTabled net told orders tabled → ((order : Order) → (HasTableAt net told order → ⊥) → P order) → All P tabled → All P orders
  all-of-tabled P [] tabled are others all = All-nil P
  all-of-tabled P (order ∷ orders) tabled (inl (has, (rest, is, more))) others all =
      let these : All P (order ∷ rest) = subst (All P) is all in
      All-cons P order orders (All-head P order rest these) (all-of-tabled P orders rest more others (All-tail P order rest these))
  all-of-tabled P (order ∷ orders) tabled (inr (has_none, more)) others all =
      All-cons P order orders (others order has_none) (all-of-tabled P orders tabled more others all)

  -- what holds of all orders holds of those whose gates have tables
  pub tabled-of-all : (P : Order → Type 0) (orders tabled : List Order) → AreTabled net told orders tabled → All P orders → All P tabled
  tabled-of-all P [] tabled are all = subst (All P) (sym are) (All-nil P)
  tabled-of-all P (order ∷ orders) tabled (inl (has, (rest, is, more))) all =
      subst (All P) (sym is) (All-cons P order rest (All-head P order orders all) (tabled-of-all P orders rest more (All-tail P order orders all)))
  tabled-of-all P (order ∷ orders) tabled (inr (has_none, more)) all = tabled-of-all P orders tabled more (All-tail P order orders all)

  -- a gate with a table is held by the orders whose gates have tables as by all
  pub tabled-hold : (orders tabled : List Order) (gate : ℕ) (kind : Kind) (wire pins n : ℕ) → AreTabled net told orders tabled → driver_at net gate ≡ Function kind wire pins → n ≡ pins → HaveTable (slice_range told wire (wire + pins)) → HoldAlike wire n orders tabled
  tabled-hold orders tabled gate kind wire pins n are driven is table advanced kept =
      all-of-tabled (λ (order : Order). IsKeptAt wire n advanced order) orders tabled are
      (λ order none first second few few' e e' often.
      absurd (none (record {
        gate = gate;
        into = record { kind = kind; first = wire; pins = pins; driven = driven; above = omega (arith, e); below = omega (arith, e, few, is) };
        table = table;
      })))
      kept

  -- one order more
  pub tabled-append : (earlier later : List Order) (tabled more : List Order) → AreTabled net told earlier tabled → AreTabled net told later more → AreTabled net told (earlier ++ later) (tabled ++ more)
  tabled-append [] later tabled more are then = subst (λ (orders : List Order). AreTabled net told later (orders ++ more)) (sym are) then
  tabled-append (order ∷ earlier) later tabled more (inl (has, (rest, is, are))) then =
      inl (has, (rest ++ more, ap (λ (orders : List Order). orders ++ more) is, tabled-append earlier later rest more are then))
  tabled-append (order ∷ earlier) later tabled more (inr (has_none, are)) then = inr (has_none, tabled-append earlier later tabled more are then)

  pub tabled-more : (orders : List Order) (i : ℕ) (d : Order) (old new : List Order) → i < length orders → AreTabled net told (take i orders) old → AddsTabled net told (get_or orders i d) old new → AreTabled net told (take (i + 1) orders) new
  tabled-more orders i d old new inside are adds =
      subst (λ (done : List Order). AreTabled net told done new) (sym (take_more orders i d inside))
      (elim adds [
        | inl has ↦
            subst (λ (list : List Order). AreTabled net told (take i orders ++ get_or orders i d ∷ []) list) (sym has.1)
            (tabled-append (take i orders) (get_or orders i d ∷ []) old (get_or orders i d ∷ []) are (inl (has.0, ([], refl, refl))))
        | inr none ↦
            subst (λ (list : List Order). AreTabled net told (take i orders ++ get_or orders i d ∷ []) list) (append_nil none.1)
            (tabled-append (take i orders) (get_or orders i d ∷ []) old [] are (inr (none.0, refl)))
      ])
    where
      append_nil : new ≡ old → old ++ [] ≡ new
      append_nil is = append-nil old ∙ sym is

-- a function has one list of pins
same-table : (told : List Word) (kind other : Kind) (wire first pins count : ℕ) → Function kind wire pins ≡ Function other first count → HaveTable (slice_range told wire (wire + pins)) → HaveTable (slice_range told first (first + count))
same-table told kind other wire first pins count same table =
    let wires : wire ≡ first = cc in
    let numbers : pins ≡ count = cc in
    subst (λ (n : ℕ). HaveTable (slice_range told first (first + n))) numbers (subst (λ (n : ℕ). HaveTable (slice_range told n (n + pins))) wires table)

-- a gate that has a wire has a table if the gate of an order at this wire has one
pub table-of : (netlist : Netlist) (told : List Word) (order : Order) (gate : ℕ) → IsCircuit netlist → (into : IsWireInto (network_of netlist) gate order.first) → HasTableAt (network_of netlist) told order → HaveTable (slice_range told into.first (into.first + into.pins))
table-of netlist told order gate circuit into has =
    let same : has.gate ≡ gate = (wired-network_of netlist circuit).own has.gate gate order.first has.into into in
    same-table told has.into.kind into.kind has.into.first into.first has.into.pins into.pins
    (sym has.into.driven ∙ (ap (driver_at (network_of netlist)) same ∙ into.driven)) has.table

-- the gate of an order has a table, or it has none
pub has-or-not : (netlist : Netlist) (told : List Word) (order : Order) → IsCircuit netlist → IsOrderOf (network_of netlist) order → HasTableAt (network_of netlist) told order ⊎ (HasTableAt (network_of netlist) told order → ⊥)
has-or-not netlist told order circuit is =
    let into = is.first in
    elim (table-or-not (slice_range told into.first (into.first + into.pins))) [
      | inl table ↦ inl (record { gate = is.gate; into = into; table = table })
      | inr none ↦ inr (λ has. none (table-of netlist told order is.gate circuit into has))
    ]

-- so the orders whose gates have tables can be told
pub tabled-exist : (netlist : Netlist) (told : List Word) (orders : List Order) → IsCircuit netlist → All (IsOrderOf (network_of netlist)) orders → (tabled : List Order) × AreTabled (network_of netlist) told orders tabled
tabled-exist netlist told [] circuit all = ([], refl)
tabled-exist netlist told (order ∷ orders) circuit all =
    let rest = tabled-exist netlist told orders circuit (All-tail (IsOrderOf (network_of netlist)) order orders all) in
    elim (has-or-not netlist told order circuit (All-head (IsOrderOf (network_of netlist)) order orders all)) [
      | inl has ↦ (order ∷ rest.0, inl (has, (rest.0, refl, rest.1)))
      | inr none ↦ (rest.0, inr (none, rest.1))
    ]

module _ (netlist : Netlist) (circuit : IsCircuit netlist) (told : List Word) (order : Order) where
  -- an order has no gate if its first wire is no variable, or no wire
  pub none-outside : length (network_of netlist) ≤ order.first → HasTableAt (network_of netlist) told order → ⊥
  none-outside above has =
      let into = has.into in
      let inside = reads-inside (network_of netlist) has.gate order.first (wired-network_of netlist circuit) (subst (λ (driver : Driver). Reads driver order.first) (sym into.driven) (into.above, into.below)) in
      omega (arith, above, inside)

  pub none-at-node : (driver : Driver) → driver_at (network_of netlist) order.first ≡ driver → ((source : ℕ) → driver ≢ Source source) → HasTableAt (network_of netlist) told order → ⊥
  none-at-node driver is node has =
      let from = (wired-network_of netlist circuit).source has.gate order.first has.into in
      node from.0 (sym is ∙ from.1)

  -- the wires of the gate are those that its function is taken of
  module _ (gate wire count : ℕ) (into : IsWireInto (network_of netlist) gate order.first) (first_is : wire ≡ first_wire netlist gate) (pins_are : count ≡ length (gate_at netlist gate).sources) where
    same-wire : wire ≡ into.first
    same-wire = first_is ∙ (is_gate_of netlist circuit gate into.kind into.first into.pins into.driven).first_is

    same-count : count ≡ into.pins
    same-count = pins_are ∙ (is_gate_of netlist circuit gate into.kind into.first into.pins into.driven).pins_are

    pub has-at : HaveTable (slice_range told wire (wire + count)) → HasTableAt (network_of netlist) told order
    has-at table = record {
      gate = gate;
      into = into;
      table = subst (λ (n : ℕ). HaveTable (slice_range told into.first (into.first + n))) same-count (subst (λ (n : ℕ). HaveTable (slice_range told n (n + count))) same-wire table);
    }

    pub at-has : HasTableAt (network_of netlist) told order → HaveTable (slice_range told wire (wire + count))
    at-has has =
        subst (λ (n : ℕ). HaveTable (slice_range told n (n + count))) (sym same-wire)
        (subst (λ (n : ℕ). HaveTable (slice_range told into.first (into.first + n))) (sym same-count) (table-of netlist told order gate circuit into has))
