-- What a room holds is found of the same change, by other names.
use Rattle.std.proofs.Common.{◌≡◌, ◌∙◌, sym, subst, ap, ℕ, Bool, List, [], length}
use Rattle.hz_edge_reports.proofs.Words.{Tri, Driver, network_of, algorithm_a, algorithm_b, IsResult, IsStableStart, Word, IsCircuit, IsWhole, Order, IsInductiveUnder, AreTabled}
use Rattle.hz_edge_reports.proofs.Words.{Assumption, ChangeRoom, IsChangeRoom, change_of, AreFound, AreUsed, AreEdgesUnder, AreRightUnder, IsRightChange}
use Rattle.std.specs.Prelude.{Vec}
use Rattle.hz_free.specs.Inductive.{IsInductive}
use Rattle.hz_edge_reports.specs.declared.finding.Making.{Making}
use Rattle.hz_edge_reports.specs.declared.using.Known.{Known}
use Rattle.hz_edge_reports.specs.Room.{CanBeMade}
use Rattle.hz_edge_reports.specs.Passed.{AreToldFree, HavePassed, PassesRest, RestsFor}
use Rattle.hz_edge_reports.specs.Using.{IsKnown}
use Rattle.hz_edge_reports.proofs.ChangesReplay.{ChangeLaws, right-change}

-- words that are inductive
pub same-inductive : (net : List Driver) (cap : ℕ) (input given start from : List Bool) (told words : List Word) → given ≡ input → from ≡ start → words ≡ told → IsInductive net given from cap words → IsInductive net input start cap told
same-inductive net cap input given start from told words inputs starts same inductive =
    subst (λ (bits : List Bool). IsInductive net bits start cap told) inputs
    (subst (λ (bits : List Bool). IsInductive net given bits cap told) starts
    (subst (IsInductive net given from cap) same inductive))

-- what is known of a change that passed, and of which words are told
pub known-change : (making : Making) (room : ChangeRoom) (known : Known) → CanBeMade making → IsChangeRoom making.net.now room → HavePassed making.net.now room → AreToldFree making.net.now making.cap room →
    known.net.now ≡ making.net.now → known.start.now ≡ room.start.items → known.input.now ≡ room.input.items → known.b.now ≡ room.edges.b.items → known.told.now ≡ room.edges.told.items → known.cap ≡ making.cap → IsKnown known
known-change making room known can there passed inductive nets starts inputs bs words caps = record {
  circuit = subst IsCircuit (sym nets) can.circuit;
  whole = subst IsWhole (sym nets) can.whole;
  start = rw (nets, starts) passed.of_a.begins;
  input = rw (nets, inputs) there.input;
  cap_low = rw caps can.cap.0;
  cap_high = rw caps can.cap.1;
  a = room.edges.a.items;
  of_a = rw (nets, starts, inputs) passed.of_a.a_result;
  of_b = rw (nets, inputs, bs) passed.b_result;
  b_long = rw (nets, bs) there.edges.b;
  told = rw (nets, starts, inputs, words, caps) inductive;
}

-- vectors that are the same hold the same
module _ {X Z : Type 0} where
  items-same : (v w : Vec X Z) → v ≡ w → v.items ≡ w.items
  items-same v w same = ap (λ (u : Vec X Z). u.items) same

-- the orders that a room uses, by other names
same-used : (net : List Driver) (input given start from : List Bool) (cap : ℕ) (assumptions : List Assumption) (told words : List Word) (used orders : List Order) (idle number : ℕ) →
    given ≡ input → from ≡ start → orders ≡ used → number ≡ idle → ((used ≡ [] → ⊥) → words ≡ told) → AreUsed net input start cap assumptions told used idle → AreUsed net given from cap assumptions words orders number
same-used net input given start from cap assumptions told words used orders idle number inputs starts same numbers words_are are = record {
  found = are.found;
  are_found =
      subst (λ (n : ℕ). AreFound net given from assumptions are.found n) (sym numbers)
      (subst (λ (bits : List Bool). AreFound net given bits assumptions are.found idle) (sym starts)
      (subst (λ (bits : List Bool). AreFound net bits start assumptions are.found idle) (sym inputs) are.are_found));
  words = are.words;
  tabled = subst (AreTabled net are.words are.found) (sym same) are.tabled;
  inductive =
      subst (λ (list : List Order). IsInductiveUnder list net given from cap are.words) (sym same)
      (subst (λ (bits : List Bool). IsInductiveUnder used net given bits cap are.words) (sym starts)
      (subst (λ (bits : List Bool). IsInductiveUnder used net bits start cap are.words) (sym inputs) are.inductive));
  are_told = λ some. are.are_told (λ none. some (same ∙ none)) ∙ sym (words_are (λ none. some (same ∙ none)));
}

-- what is found of a room's change, step by step, is right
pub room-right :
    ChangeLaws →
    (making : Making) (was used now : ChangeRoom) → CanBeMade making → IsChangeRoom making.net.now was → HavePassed making.net.now was → PassesRest was used →
    AreUsed (network_of making.net.now) was.input.items was.start.items making.cap making.assumptions.now used.edges.told.items used.used.items used.idle → RestsFor used now → ((used.used.items ≡ [] → ⊥) → now.edges.told ≡ used.edges.told) →
    AreRightUnder used.used.items (network_of making.net.now) making.cap (change_of now) → IsRightChange making.net.now making.cap making.assumptions.now (change_of now)
room-right laws making was used now can there passed rests are_used after words right =
    let net : List Driver = network_of making.net.now in
    let starts : now.start.items ≡ was.start.items = items-same now.start was.start (after.start ∙ rests.start) in
    let inputs : now.input.items ≡ was.input.items = items-same now.input was.input (after.input ∙ rests.input) in
    let a_is : now.edges.a.items ≡ was.edges.a.items = items-same now.edges.a was.edges.a (after.a ∙ rests.a) in
    let b_is : now.edges.b.items ≡ was.edges.b.items = items-same now.edges.b was.edges.b (after.b ∙ rests.b) in
    let orders : now.used.items ≡ used.used.items = items-same now.used used.used after.used in
    right-change laws making.net.now making.cap making.assumptions.now (change_of now) can.circuit
    (subst (IsStableStart making.net.now) (sym starts) passed.of_a.begins)
    (ap (length {A = Bool}) inputs ∙ there.input)
    (subst (λ (values : List Tri). IsResult (algorithm_a net now.input.items now.start.items) values) (sym a_is)
    (subst (λ (bits : List Bool). IsResult (algorithm_a net now.input.items bits) was.edges.a.items) (sym starts)
    (subst (λ (bits : List Bool). IsResult (algorithm_a net bits was.start.items) was.edges.a.items) (sym inputs) passed.of_a.a_result)))
    (subst (λ (values : List Tri). IsResult (algorithm_b net now.input.items now.edges.a.items) values) (sym b_is)
    (subst (λ (values : List Tri). IsResult (algorithm_b net now.input.items values) was.edges.b.items) (sym a_is)
    (subst (λ (bits : List Bool). IsResult (algorithm_b net bits was.edges.a.items) was.edges.b.items) (sym inputs) passed.b_result)))
    (same-used net was.input.items now.input.items was.start.items now.start.items making.cap making.assumptions.now used.edges.told.items now.edges.told.items used.used.items now.used.items used.idle now.idle
    inputs starts orders after.idle (λ some. items-same now.edges.told used.edges.told (words some)) are_used)
    (subst (λ (list : List Order). AreRightUnder list net making.cap (change_of now)) (sym orders) right)

-- edges under orders, by other names
pub same-ordered : (orders : List Order) (net : List Driver) (input start : List Bool) (told words : List Word) (ends values : List Tri) (kept : Bool) (steps : List (List ℕ)) (counts numbers : List ℕ) →
    words ≡ told → values ≡ ends → numbers ≡ counts → AreEdgesUnder orders net input start ends kept (record { told = told; steps = steps; counts = counts }) →
    AreEdgesUnder orders net input start values kept (record { told = words; steps = steps; counts = numbers })
same-ordered orders net input start told words ends values kept steps counts numbers words_are values_are numbers_are right =
    subst (λ (list : List Word). AreEdgesUnder orders net input start values kept (record { told = list; steps = steps; counts = numbers })) (sym words_are)
    (subst (λ (list : List Tri). AreEdgesUnder orders net input start list kept (record { told = told; steps = steps; counts = numbers })) (sym values_are)
    (subst (λ (list : List ℕ). AreEdgesUnder orders net input start ends kept (record { told = told; steps = steps; counts = list })) (sym numbers_are) right))
