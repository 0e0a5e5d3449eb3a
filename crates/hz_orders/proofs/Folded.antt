-- The word of a gate bounds its changes under any orders, so words that are inductive are so under orders; and without orders those that are
-- inductive under them are inductive.
use Rattle.std.proofs.Common.{◌≡◌, ℕ, ◌+◌, ◌<◌, Bool, false, List, [], ◌∷◌, map, length, All, IsTrue, refl, sym, ap, ◌∙◌, subst, arith}
use Rattle.hz_orders.proofs.Words.{slice_range, length-map, Kind, takes, gate_value, Netlist, IsCircuit, IsWhole, gate_at, Driver, External, Function, Source, network_of}
use Rattle.hz_orders.proofs.Words.{driver_at, bit_at, Reads, wired-network_of, is_gate_of, length-part, at-part, Count, Exact, Many, Word, change_count, after_move, IsPartOfWalk}
use Rattle.hz_orders.proofs.Words.{walk_changes, capped_word, IsWithinCap, IsAtMost, constant_word, at_most-trans, input_word, reads-inside, told_at, Order, IsBoundUnder}
use Rattle.hz_orders.proofs.Words.{IsEnoughUnder, IsInductiveHolding, IsInductiveUnder}
use Rattle.std.proofs.lemmas.Bool.{le-leb}
use Rattle.hz_core.proofs.CircuitLemmas.{takes-at_gate}
use Rattle.hz_word.specs.Walk.{IsWalk}
use Rattle.hz_word.specs.Capped.{capped_count, IsFold}
use Rattle.hz_word.specs.Pairs.{kind_word}
use Rattle.hz_word.proofs.Longest.{takes-HasPins, part-IsWordOf}
use Rattle.hz_word.proofs.Folds.{IsFold-kind_word}
use Rattle.hz_word.proofs.AtMost.{at_most-capped, at_most-same, at_most-many}
use Rattle.hz_word.proofs.Stretched.{stretched, counted-capped_count, map-capped-stretched, AreWords-stretched}
use Rattle.hz_free.specs.Inductive.{GivesWord, IsInductive}
use Rattle.hz_orders.specs.Parts.{IsCountUnder}

pub fold-bound : (orders : List Order) (kind : Kind) (wire : ℕ) (pins : List Word) (cap : ℕ) (outcome : Word) (bound : Count) → IsTrue (takes kind (length pins)) → IsFold kind pins cap outcome → IsAtMost outcome.changes bound → IsBoundUnder orders kind wire pins cap bound
fold-bound orders kind wire pins cap outcome bound taken is_fold below words are_words capped moves keeping =
    let long : length pins ≡ length words = ap length (sym capped) ∙ length-map words (capped_word cap) in
    let taken' : IsTrue (takes kind (length words)) = subst (λ (n : ℕ). IsTrue (takes kind n)) long taken in
    let made = is_fold words are_words capped in
    let most = part-IsWordOf kind words are_words (takes-HasPins kind (length words) taken') made.0 made.1 moves keeping.part in
    at_most-trans (walk_changes (gate_value kind) words moves) outcome.changes bound
    (subst (λ (word : Word). IsAtMost (Exact (walk_changes (gate_value kind) words moves)) word.changes) made.2
    (at_most-capped cap (walk_changes (gate_value kind) words moves) (change_count made.0) most))
    below

pub own-bound : (orders : List Order) (kind : Kind) (wire : ℕ) (pins : List Word) (cap : ℕ) (outcome : Word) → IsTrue (takes kind (length pins)) → IsFold kind pins cap outcome → IsBoundUnder orders kind wire pins cap outcome.changes
own-bound orders kind wire pins cap outcome taken is_fold =
    fold-bound orders kind wire pins cap outcome outcome.changes taken is_fold (at_most-same outcome.changes)

-- the word of a gate is counted
pub counted-fold : (kind : Kind) (pins : List Word) (cap : ℕ) (outcome : Word) → All (λ pin. IsWithinCap cap pin.changes) pins → IsFold kind pins cap outcome → IsWithinCap cap outcome.changes
counted-fold kind pins cap outcome counted is_fold =
    let made = is_fold _ (AreWords-stretched cap 0 pins) (map-capped-stretched cap 0 (constant_word false) pins (λ k few. counted k (constant_word false) few)) in
    subst (λ (word : Word). IsWithinCap cap word.changes) made.2 (counted-capped_count cap (change_count made.0))

-- the number of changes under orders is a bound
pub count-bound : (orders : List Order) (kind : Kind) (wire : ℕ) (pins : List Word) (cap : ℕ) (count : Count) → IsCountUnder orders kind wire pins cap count → IsBoundUnder orders kind wire pins cap count
count-bound orders kind wire pins cap count is words are_words capped moves keeping =
    let most = is words are_words capped in
    subst (IsAtMost (Exact (walk_changes (gate_value kind) words moves))) most.2
    (at_most-capped cap (walk_changes (gate_value kind) words moves) most.0 (most.1.bound moves keeping))

-- a capped number is at most what its number is, if that is counted
capped-at_most : (cap n : ℕ) (count : Count) → IsWithinCap cap count → IsAtMost (Exact n) count → IsAtMost (capped_count cap n) count
capped-at_most cap n (Exact c) within below = rw (le-leb n cap (omega (arith, within, below))) below
capped-at_most cap n Many within below = at_most-many (capped_count cap n)

walk-part : (words moves : List (List Bool)) → IsWalk words moves → IsPartOfWalk words moves
walk-part words [] walk = tt
walk-part words (move ∷ moves) walk = (walk.0, walk-part (after_move words move) moves walk.1)

module _ (netlist : Netlist) (circuit : IsCircuit netlist) (netlist_whole : IsWhole netlist) (input start : List Bool) (cap : ℕ) (told : List Word) (whole : length told ≡ length (network_of netlist)) where
  module _ (i : ℕ) (kind : Kind) (wire pins : ℕ) (driven_by : driver_at (network_of netlist) i ≡ Function kind wire pins) where
    wires-inside : (j : ℕ) → j < pins → wire + j < length (network_of netlist)
    wires-inside j less =
        reads-inside (network_of netlist) i (wire + j) (wired-network_of netlist circuit)
        (subst (λ (driver : Driver). Reads driver (wire + j)) (sym driven_by) (omega arith, omega arith))

    length-wires : length (slice_range told wire (wire + pins)) ≡ pins
    length-wires = length-part told wire pins (λ j less. omega (arith, wires-inside j less, whole))

    takes-wires : IsTrue (takes kind (length (slice_range told wire (wire + pins))))
    takes-wires =
        let gate = is_gate_of netlist circuit i kind wire pins driven_by in
        subst (λ (n : ℕ). IsTrue (takes kind n)) (gate.pins_are ∙ sym length-wires)
        (subst (λ (k : Kind). IsTrue (takes k (length (gate_at netlist i).sources))) gate.same_kind (takes-at_gate netlist i circuit netlist_whole gate.is_gate))

    -- without orders the word of the gate is attained, so a bound is at least that
    fold-below : (count : Count) → IsWithinCap cap count → ((j : ℕ) → j < length (network_of netlist) → IsWithinCap cap (told_at told j).changes) → IsBoundUnder [] kind wire (slice_range told wire (wire + pins)) cap count → IsAtMost (kind_word kind cap (slice_range told wire (wire + pins))).changes count
    fold-below count within counted bound =
        let parts = slice_range told wire (wire + pins) in
        let capped : map (capped_word cap) (map (stretched cap 0) (slice_range told wire (wire + pins))) ≡ slice_range told wire (wire + pins) =
        map-capped-stretched cap 0 (constant_word false) (slice_range told wire (wire + pins)) (λ j less.
        let less' : j < pins = omega (arith, less, length-wires) in
        subst (λ (word : Word). IsWithinCap cap word.changes) (sym (at-part told wire pins j (constant_word false) less')) (counted (wire + j) (wires-inside j less'))) in
        let are_words = AreWords-stretched cap 0 (slice_range told wire (wire + pins)) in
        let made = IsFold-kind_word kind (slice_range told wire (wire + pins)) cap takes-wires (map (stretched cap 0) (slice_range told wire (wire + pins))) are_words capped in
        let walk = made.1.attained in
        let below = bound (map (stretched cap 0) (slice_range told wire (wire + pins))) are_words capped walk.0
        (record {
          part = walk-part (map (stretched cap 0) (slice_range told wire (wire + pins))) walk.0 walk.1;
          kept = λ k less at none few. absurd (omega (arith, few));
        }) in
        subst (λ (word : Word). IsAtMost word.changes count) made.2
        (capped-at_most cap (change_count made.0) count within (subst (λ (n : ℕ). IsAtMost (Exact n) count) walk.2 below))

  -- what its driver gives is enough under any orders
  enough-under : (orders : List Order) (i : ℕ) (driver : Driver) → driver_at (network_of netlist) i ≡ driver → (given : Word) → GivesWord input start cap told i driver given → IsAtMost given.changes (told_at told i).changes → IsEnoughUnder orders input start cap told i driver (told_at told i).changes
  enough-under orders i (External place) driven_by given gives below =
      at_most-trans (change_count (input_word (bit_at start i) (bit_at input place))) given.changes (told_at told i).changes
      (subst (λ (word : Word). IsAtMost (Exact (change_count (input_word (bit_at start i) (bit_at input place)))) word.changes) (sym gives)
      (at_most-capped cap (change_count (input_word (bit_at start i) (bit_at input place))) (change_count (input_word (bit_at start i) (bit_at input place))) (omega arith)))
      below
  enough-under orders i (Source node) driven_by given gives below = subst (λ (word : Word). IsAtMost word.changes (told_at told i).changes) gives below
  enough-under orders i (Function kind wire pins) driven_by given gives below =
      fold-bound orders kind wire (slice_range told wire (wire + pins)) cap given (told_at told i).changes (takes-wires i kind wire pins driven_by) gives below

  -- and what is enough without orders is at least what its driver gives
  enough-without : (i : ℕ) → ((j : ℕ) → j < length (network_of netlist) → IsWithinCap cap (told_at told j).changes) → i < length (network_of netlist) → (driver : Driver) → driver_at (network_of netlist) i ≡ driver → IsEnoughUnder [] input start cap told i driver (told_at told i).changes → (given : Word) × GivesWord input start cap told i driver given × IsAtMost given.changes (told_at told i).changes
  enough-without i counted few (External place) driven_by enough = (
    capped_word cap (input_word (bit_at start i) (bit_at input place)),
    refl,
    capped-at_most cap (change_count (input_word (bit_at start i) (bit_at input place))) (told_at told i).changes (counted i few) enough,
  )
  enough-without i counted few (Source node) driven_by enough = (told_at told node, refl, enough)
  enough-without i counted few (Function kind wire pins) driven_by enough = (
    kind_word kind cap (slice_range told wire (wire + pins)),
    IsFold-kind_word kind (slice_range told wire (wire + pins)) cap (takes-wires i kind wire pins driven_by),
    fold-below i kind wire pins driven_by (told_at told i).changes (counted i few) counted enough,
  )

pub inductive-under : (orders : List Order) (netlist : Netlist) (input start : List Bool) (cap : ℕ) (told : List Word) → IsCircuit netlist → IsWhole netlist → IsInductive (network_of netlist) input start cap told → IsInductiveUnder orders (network_of netlist) input start cap told
inductive-under orders netlist input start cap told circuit whole is =
    record {
      long = is.long;
      counted = is.counted;
      begins = λ i few. (is.each i few).begins;
      enough = λ i few free. let each = is.each i few in enough-under netlist circuit whole input start cap told is.long orders i (driver_at (network_of netlist) i) refl each.given each.gives each.enough;
    }

pub inductive-without : (netlist : Netlist) (input start : List Bool) (cap : ℕ) (told : List Word) → IsCircuit netlist → IsWhole netlist → IsInductiveUnder [] (network_of netlist) input start cap told → IsInductive (network_of netlist) input start cap told
inductive-without netlist input start cap told circuit whole is =
    record {
      long = is.long;
      counted = is.counted;
      each = λ i few.
          let counted : (j : ℕ) → j < length (network_of netlist) → IsWithinCap cap (told_at told j).changes = λ j less. let long = is.long in is.counted j (constant_word false) (omega (arith, less, long)) in
          let found = enough-without netlist circuit whole input start cap told is.long i counted few (driver_at (network_of netlist) i) refl (is.enough i few refl) in
          record { begins = is.begins i few; given = found.0; gives = found.1; enough = found.2 };
    }

-- words that are inductive are so under orders too while some variables are held
pub inductive-holding : (held : List ℕ) (orders : List Order) (netlist : Netlist) (input start : List Bool) (cap : ℕ) (told : List Word) → IsCircuit netlist → IsWhole netlist → IsInductive (network_of netlist) input start cap told → IsInductiveHolding held orders (network_of netlist) input start cap told
inductive-holding held orders netlist input start cap told circuit whole is =
    let under = inductive-under orders netlist input start cap told circuit whole is in
    record { long = under.long; counted = under.counted; begins = under.begins; enough = λ i few free. under.enough i few refl }
