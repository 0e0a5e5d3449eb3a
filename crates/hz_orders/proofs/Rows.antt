-- The table, place by place: the most from a place on follows from what is told of the later ones.
use Rattle.std.proofs.Common.{◌≡◌, ◌≢◌, ◌⊎◌, ℕ, zero, suc, ◌+◌, ◌-◌, ◌*◌, ◌<◌, ◌≤◌, Bool, true, false, List, [], ◌∷◌, ◌++◌, length, map, max, take, set, get_or, refl, sym, ap, ◌∙◌, subst, arith, inl, inr}
use Rattle.hz_orders.proofs.Words.{cases_lt, false≢true, ◌==◌, slice_range, length-set, take-length, Word, change_between, last_after, constant_word, IsExactCount, AreExact}
use Rattle.hz_orders.proofs.Words.{IsPosition, behind_numbers, positions_of, begin, value_of, IsOnward, KeepsAt, IsMostFrom, AdvancesEach, OrderedGate}
use Rattle.std.proofs.lemmas.Bool.{eq-eqb}
use Rattle.std.specs.Prelude.{Result, Ok, Err, IfOk, Option, Some, None, IfSome}
use Rattle.std.proofs.lemmas.List.{append_assoc, map-append, take_all, get_or-set_same, get_or-set_other}
use Rattle.std.proofs.Math.Seq.{take-suc}
use Rattle.std.proofs.Math.Nat.{suc-mul, mul-suc}
use Rattle.hz_orders.specs.Positions.{exact_count, most_places, HaveTable, letters_at, IsKeptMove, IsWay, way_changes}
use Rattle.hz_orders.specs.Tables.{IsRow, AreMostBehind, changes_through, LeadsTo, IsBest}
use Rattle.hz_orders.proofs.Sorted.{Stands, every-stands, each-inside, length-position, stands-later, stands-once, length-behind_numbers, some-positions, begins-first}
use Rattle.hz_orders.proofs.Onward.{onward-each, each-onward}

-- the letters of the pins at a position
pub are-letters_at : (pins : List Word) (position : List ℕ) (letters : List Bool) → length position ≡ length pins → length letters ≡ length pins → ((i : ℕ) → i < length pins → get_or letters i false ≡ last_after (get_or pins i (constant_word false)).first (get_or position i 0)) → letters ≡ letters_at pins position
are-letters_at [] position [] long long' each = refl
are-letters_at [] position (letter ∷ letters) long long' each = absurd (omega (arith, long'))
are-letters_at (pin ∷ pins) [] letters long long' each = absurd (omega (arith, long))
are-letters_at (pin ∷ pins) (times ∷ position) [] long long' each = absurd (omega (arith, long'))
are-letters_at (pin ∷ pins) (times ∷ position) (letter ∷ letters) long long' each =
    let head = each 0 (omega arith) in
    let rest = are-letters_at pins position letters (omega (arith, long)) (omega (arith, long')) (λ i few. each (suc i) (omega (arith, few))) in
    cc

-- one place
module _ (gate : OrderedGate) (most : List ℕ) (place best : ℕ) (table : HaveTable gate.pins.now) (few : place < length (positions_of gate.pins.now)) (rows : AreMostBehind gate (positions_of gate.pins.now) most (suc place)) (is : IsBest gate (positions_of gate.pins.now) most place (length (positions_of gate.pins.now)) best) where
  -- the way goes on at a later place
  leads : (next : List ℕ) → IsKeptMove gate.orders.now gate.wire gate.pins.now (get_or (positions_of gate.pins.now) place []) next → (later : ℕ) × (later < length (positions_of gate.pins.now)) × LeadsTo gate (positions_of gate.pins.now) place later × (get_or (positions_of gate.pins.now) later [] ≡ next)
  leads next move =
      let stands : Stands (positions_of gate.pins.now) next = every-stands gate.pins.now table.exact next move.inside in
      let onward : IsOnward (get_or (positions_of gate.pins.now) place []) (get_or (positions_of gate.pins.now) stands.0 []) =
      subst (λ (p : List ℕ). IsOnward (get_or (positions_of gate.pins.now) place []) p) (sym stands.2) move.onward in
      let moved : get_or (positions_of gate.pins.now) stands.0 [] ≢ get_or (positions_of gate.pins.now) place [] = λ same. move.moved (sym stands.2 ∙ same) in (
        stands.0,
        stands.1,
        record {
          after = stands-later gate.pins.now place stands.0 few stands.1 onward moved;
          onward = onward;
          kept = subst (KeepsAt gate.orders.now gate.wire) (sym stands.2) move.kept;
        },
        stands.2,
      )

  bounds : (way : List (List ℕ)) → IsWay gate.orders.now gate.wire gate.pins.now (get_or (positions_of gate.pins.now) place []) way → way_changes gate.kind gate.pins.now (get_or (positions_of gate.pins.now) place []) way ≤ best
  bounds [] is_way = omega arith
  bounds (next ∷ way) is_way =
      let there = leads next is_way.0 in
      let row = rows.each there.0 (let after = there.2.after in omega arith) there.1 in
      let rest = row.is_most.bound way (subst (λ (p : List ℕ). IsWay gate.orders.now gate.wire gate.pins.now p way) (sym there.3) is_way.1) in
      let rest' : way_changes gate.kind gate.pins.now next way ≤ get_or most there.0 0 = subst (λ (p : List ℕ). way_changes gate.kind gate.pins.now p way ≤ get_or most there.0 0) there.3 rest in
      let through = is.bound there.0 there.1 there.2 in
      let through' : get_or most there.0 0 + change_between (value_of gate.kind gate.pins.now (get_or (positions_of gate.pins.now) place [])) (value_of gate.kind gate.pins.now next) ≤ best =
      subst (λ (p : List ℕ). get_or most there.0 0 + change_between (value_of gate.kind gate.pins.now (get_or (positions_of gate.pins.now) place [])) (value_of gate.kind gate.pins.now p) ≤ best) there.3 through in
      omega (arith, rest', through')

  goes : (later : ℕ) → later < length (positions_of gate.pins.now) → LeadsTo gate (positions_of gate.pins.now) place later → changes_through gate (positions_of gate.pins.now) most place later ≡ best → (way : List (List ℕ)) × IsWay gate.orders.now gate.wire gate.pins.now (get_or (positions_of gate.pins.now) place []) way × (way_changes gate.kind gate.pins.now (get_or (positions_of gate.pins.now) place []) way ≡ best)
  goes later less lead same =
      let row = rows.each later (let after = lead.after in omega arith) less in
      let rest = row.is_most.attained in
      let counted = rest.2 in
      let move : IsKeptMove gate.orders.now gate.wire gate.pins.now (get_or (positions_of gate.pins.now) place []) (get_or (positions_of gate.pins.now) later []) =
      record {
        onward = lead.onward;
        moved = stands-once gate.pins.now place later lead.after less;
        inside = each-inside gate.pins.now table.exact later less;
        kept = lead.kept;
      } in
      (get_or (positions_of gate.pins.now) later [] ∷ rest.0, (move, rest.1), omega (arith, counted, same))

  pub most-best : IsMostFrom gate.orders.now gate.kind gate.wire gate.pins.now (get_or (positions_of gate.pins.now) place []) best
  most-best =
      record {
        bound = bounds;
        attained = elim is.attained [
          | inl none ↦ ([], tt, sym none)
          | inr some ↦ goes some.0 some.1 some.2 some.3
        ];
      }

-- the best of no places, of one more, and of all
pub best-none : (gate : OrderedGate) (positions : List (List ℕ)) (most : List ℕ) (place end : ℕ) → place < length positions → end ≡ place + 1 → IsBest gate positions most place end 0
best-none gate positions most place end few is_end =
    record {
      bound = λ later less lead. absurd (omega (arith, less, lead.after, is_end));
      attained = inl refl;
      less = omega (arith, few);
    }

change-one : (a b : Bool) → change_between a b ≤ 1
change-one true true = omega arith
change-one true false = omega arith
change-one false true = omega arith
change-one false false = omega arith

-- how often the gate changes through a later place, by what the code finds of two positions
abbrev pub through : OrderedGate → List ℕ → List ℕ → ℕ → ℕ
through gate before after most =
    most + change_between (value_of gate.kind gate.pins.now before) (value_of gate.kind gate.pins.now after)

pub best-more : (gate : OrderedGate) (positions : List (List ℕ)) (most : List ℕ) (place later best more best' : ℕ) (before after : List ℕ) → place < later → later < length positions → before ≡ get_or positions place [] → after ≡ get_or positions later [] → IsBest gate positions most place later best → (AdvancesEach before after → KeepsAt gate.orders.now gate.wire after → through gate before after (get_or most later 0) ≤ more) → ((more ≡ 0) ⊎ (AdvancesEach before after × KeepsAt gate.orders.now gate.wire after × (through gate before after (get_or most later 0) ≡ more))) → get_or most later 0 + later < length positions → best' ≡ max best more → IsBest gate positions most place (suc later) best'
best-more gate positions most place later best more best' before after behind few is_before is_after is bound attained less same =
    record {
      bound = λ k k_less lead.
          elim (cases_lt k later) [
            | inl sooner ↦ let below = is.bound k sooner lead in omega (arith, below, same)
            | inr not_sooner ↦
                let here : k ≡ later = omega (arith, k_less, not_sooner) in
                let lead' : LeadsTo gate positions place later = subst (LeadsTo gate positions place) here lead in
                let below : through gate before after (get_or most later 0) ≤ more =
                bound (subst (λ (p : List ℕ). AdvancesEach p after) (sym is_before) (subst (AdvancesEach (get_or positions place [])) (sym is_after) (onward-each (get_or positions place []) (get_or positions later []) lead'.onward)))
                (subst (KeepsAt gate.orders.now gate.wire) (sym is_after) lead'.kept) in
                subst (λ (i : ℕ). changes_through gate positions most place i ≤ best') (sym here)
                (subst (λ (p : List ℕ). get_or most later 0 + change_between (value_of gate.kind gate.pins.now p) (value_of gate.kind gate.pins.now (get_or positions later [])) ≤ best') is_before
                (subst (λ (p : List ℕ). get_or most later 0 + change_between (value_of gate.kind gate.pins.now before) (value_of gate.kind gate.pins.now p) ≤ best') is_after (omega (arith, below, same))))
          ];
      attained = elim (cases_lt best more) [
        | inl greater ↦
            let is_more : best' ≡ more = omega (arith, greater, same) in
            elim attained [
              | inl none ↦ absurd (omega (arith, greater, none))
              | inr some ↦ inr (
                later,
                omega arith,
                record {
                  after = behind;
                  onward = each-onward (get_or positions place []) (get_or positions later []) (subst (λ (p : List ℕ). AdvancesEach p (get_or positions later [])) is_before (subst (AdvancesEach before) is_after some.0));
                  kept = subst (KeepsAt gate.orders.now gate.wire) is_after some.1;
                },
                subst (λ (p : List ℕ). get_or most later 0 + change_between (value_of gate.kind gate.pins.now p) (value_of gate.kind gate.pins.now (get_or positions later [])) ≡ best') is_before
                    (subst (λ (p : List ℕ). get_or most later 0 + change_between (value_of gate.kind gate.pins.now before) (value_of gate.kind gate.pins.now p) ≡ best') is_after (some.2 ∙ sym is_more)),
              )
            ]
        | inr not_greater ↦
            let is_best : best' ≡ best = omega (arith, not_greater, same) in
            elim is.attained [
              | inl none ↦ inl (is_best ∙ none)
              | inr some ↦ inr (some.0, (let sooner = some.1 in omega arith), some.2, some.3 ∙ sym is_best)
            ]
      ];
      less =
          let below = is.less in
          elim attained [
            | inl none ↦ omega (arith, below, none, same)
            | inr some ↦
                let more_is = some.2 in
                let one = change-one (value_of gate.kind gate.pins.now before) (value_of gate.kind gate.pins.now after) in
                omega (arith, below, same, more_is, one, less, behind)
          ];
    }

-- a row of the list has a number for each pin
pub row-length : (pins : List Word) (positions : List (List ℕ)) (row : List ℕ) (k : ℕ) → HaveTable pins → positions ≡ positions_of pins → k < length positions → row ≡ get_or positions k [] → length row ≡ length pins
row-length pins positions row k table are few is_row =
    ap length is_row
    ∙ length-position pins (get_or positions k [])
    (subst (λ (ps : List (List ℕ)). IsPosition pins (get_or ps k [])) (sym are) (each-inside pins table.exact k (subst (λ (ps : List (List ℕ)). k < length ps) are few)))

-- once all places are looked at, the best is the most
pub most-of : (gate : OrderedGate) (positions : List (List ℕ)) (most : List ℕ) (place end best : ℕ) → HaveTable gate.pins.now → positions_of gate.pins.now ≡ positions → place < length positions → AreMostBehind gate positions most (suc place) → IsBest gate positions most place end best → end ≡ length positions → IsMostFrom gate.orders.now gate.kind gate.wire gate.pins.now (get_or positions place []) best
most-of gate positions most place end best table are =
    subst (λ (ps : List (List ℕ)). place < length ps → AreMostBehind gate ps most (suc place) → IsBest gate ps most place end best → end ≡ length ps → IsMostFrom gate.orders.now gate.kind gate.wire gate.pins.now (get_or ps place []) best) are
    (λ few rows is same. most-best gate most place best table few rows (subst (λ (e : ℕ). IsBest gate (positions_of gate.pins.now) most place e best) same is))

pub best-all : (gate : OrderedGate) (positions : List (List ℕ)) (most : List ℕ) (place end end' best : ℕ) → end ≡ end' → IsBest gate positions most place end best → IsBest gate positions most place end' best
best-all gate positions most place end end' best same is = subst (λ (e : ℕ). IsBest gate positions most place e best) same is

-- the table is told at one place more
pub rows-more : (gate : OrderedGate) (positions : List (List ℕ)) (most : List ℕ) (place best : ℕ) → place < length positions → AreMostBehind gate positions most (suc place) → IsMostFrom gate.orders.now gate.kind gate.wire gate.pins.now (get_or positions place []) best → best + place < length positions → AreMostBehind gate positions (set most place best) place
rows-more gate positions most place best few rows is less =
    record {
      long = length-set most place best ∙ rows.long;
      each = λ k from inside.
          elim (cases_lt place k) [
            | inl after ↦
                let row = rows.each k (omega (arith, after)) inside in
                let same : get_or (set most place best) k 0 ≡ get_or most k 0 = get_or-set_other most place k best 0 (λ e. omega (arith, after, e)) in
                record {
                  is_most = subst (λ (n : ℕ). IsMostFrom gate.orders.now gate.kind gate.wire gate.pins.now (get_or positions k []) n) (sym same) row.is_most;
                  less = let there = row.less in omega (arith, same, there);
                }
            | inr not_after ↦
                let here : place ≡ k = omega (arith, from, not_after) in
                let long = rows.long in
                let same : get_or (set most place best) place 0 ≡ best = get_or-set_same most place best 0 (omega (arith, few, long)) in
                subst (IsRow gate positions (set most place best)) here
                (record {
                  is_most = subst (λ (n : ℕ). IsMostFrom gate.orders.now gate.kind gate.wire gate.pins.now (get_or positions place []) n) (sym same) is;
                  less = omega (arith, same, less);
                })
          ];
    }

-- one place more: the number that was found is told there
pub rows-next : (gate : OrderedGate) (positions : List (List ℕ)) (most : List ℕ) (place done best : ℕ) → place < length positions → place + done + 1 ≡ length positions → AreMostBehind gate positions most (length positions - done) → IsMostFrom gate.orders.now gate.kind gate.wire gate.pins.now (get_or positions place []) best → best + place < length positions → AreMostBehind gate positions (set most place best) (length positions - (done + 1)) × (1 ≤ done + 1 → get_or (set most place best) (length positions - (done + 1)) 0 ≡ best)
rows-next gate positions most place done best few same rows is less =
    let here : place ≡ length positions - (done + 1) = omega (arith, few, same) in
    let next : length positions - done ≡ suc place = omega (arith, few, same) in
    let long = rows.long in (
      subst (AreMostBehind gate positions (set most place best)) here (rows-more gate positions most place best few (subst (AreMostBehind gate positions most) next rows) is less),
      λ some. subst (λ (i : ℕ). get_or (set most place best) i 0 ≡ best) here (get_or-set_same most place best 0 (omega (arith, few, long))),
    )

pub rows-none : (gate : OrderedGate) (positions : List (List ℕ)) (most : List ℕ) (first : ℕ) → length most ≡ length positions → length positions ≤ first → AreMostBehind gate positions most first
rows-none gate positions most first long all =
    record { long = long; each = λ k from few. absurd (omega (arith, from, few, all)) }

pub rows-from : (gate : OrderedGate) (positions : List (List ℕ)) (most : List ℕ) (first first' : ℕ) → first ≡ first' → AreMostBehind gate positions most first → AreMostBehind gate positions most first'
rows-from gate positions most first first' same rows = subst (AreMostBehind gate positions most) same rows

-- the first place is the begin
pub most-begin : (gate : OrderedGate) (positions : List (List ℕ)) (most : List ℕ) (first : ℕ) → positions_of gate.pins.now ≡ positions → first ≡ 0 → AreMostBehind gate positions most first → IsMostFrom gate.orders.now gate.kind gate.wire gate.pins.now (begin gate.pins.now) (get_or most 0 0)
most-begin gate positions most first are none rows =
    let some : 1 ≤ length positions = subst (λ (ps : List (List ℕ)). 1 ≤ length ps) are (some-positions gate.pins.now) in
    let row = rows.each 0 (omega (arith, none)) some in
    let here : get_or positions 0 [] ≡ begin gate.pins.now = subst (λ (ps : List (List ℕ)). get_or ps 0 [] ≡ begin gate.pins.now) are (begins-first gate.pins.now) in
    subst (λ (p : List ℕ). IsMostFrom gate.orders.now gate.kind gate.wire gate.pins.now p (get_or most 0 0)) here row.is_most

-- the positions of one pin more
rest-is : (pin : Word) (pins : List Word) → slice_range (pin ∷ pins) 1 (length (pin ∷ pins)) ≡ pins
rest-is pin pins = ap (λ (n : ℕ). take n pins) (omega arith) ∙ take-length pins

pub some-pins : (n : ℕ) → false ≡ (n == 0) → 1 ≤ n
some-pins n some =
    elim (cases_lt 0 n) [
      | inl less ↦ less
      | inr not_less ↦ let none : n ≡ 0 = omega (arith, not_less) in absurd (false≢true (some ∙ eq-eqb n 0 none))
    ]

pub positions-cons : (pins : List Word) → 1 ≤ length pins → positions_of pins ≡ behind_numbers (suc (exact_count (get_or pins 0 (constant_word false)).changes)) (positions_of (slice_range pins 1 (length pins)))
positions-cons [] some = absurd (omega arith)
positions-cons (pin ∷ pins) some = ap (λ (ps : List Word). behind_numbers (suc (exact_count pin.changes)) (positions_of ps)) (sym (rest-is pin pins))

pub positions-none : (pins : List Word) → length pins ≡ 0 → positions_of pins ≡ [] ∷ []
positions-none [] none = refl
positions-none (pin ∷ pins) none = absurd (omega (arith, none))

pub table-none : (pins : List Word) → length pins ≡ 0 → HaveTable pins
table-none [] none = record { exact = tt; few = omega arith }
table-none (pin ∷ pins) none = absurd (omega (arith, none))

-- a product is not less than its factors
factor-less : (n m : ℕ) → m ≤ suc n * m
factor-less n m = let product = suc-mul n m in omega arith

other-factor : (n m : ℕ) → 1 ≤ m → n ≤ n * m
other-factor n zero some = absurd (omega (arith, some))
other-factor n (suc m) some = let product = mul-suc n m in omega arith

pub length-cons : (pins : List Word) → 1 ≤ length pins → length (positions_of pins) ≡ suc (exact_count (get_or pins 0 (constant_word false)).changes) * length (positions_of (slice_range pins 1 (length pins)))
length-cons pins some =
    ap length (positions-cons pins some)
    ∙ length-behind_numbers (suc (exact_count (get_or pins 0 (constant_word false)).changes)) (positions_of (slice_range pins 1 (length pins)))

pub table-cons : (pins : List Word) → 1 ≤ length pins → IsExactCount (get_or pins 0 (constant_word false)).changes → HaveTable (slice_range pins 1 (length pins)) → suc (exact_count (get_or pins 0 (constant_word false)).changes) * length (positions_of (slice_range pins 1 (length pins))) ≤ most_places → HaveTable pins
table-cons [] some exact rest few = absurd (omega arith)
table-cons (pin ∷ pins) some exact rest few =
    record {
      exact = (exact, subst AreExact (rest-is pin pins) rest.exact);
      few = let long = length-cons (pin ∷ pins) some in omega (arith, few, long);
    }

pub table-first : (pins : List Word) → 1 ≤ length pins → HaveTable pins → IsExactCount (get_or pins 0 (constant_word false)).changes × (exact_count (get_or pins 0 (constant_word false)).changes < most_places)
table-first [] some table = absurd (omega arith)
table-first (pin ∷ pins) some table = (
  table.exact.0,
  let few = table.few in
      let long = length-behind_numbers (suc (exact_count pin.changes)) (positions_of pins) in
      let product = other-factor (suc (exact_count pin.changes)) (length (positions_of pins)) (some-positions pins) in
      omega arith,
)

pub table-rest : (pins : List Word) → 1 ≤ length pins → HaveTable pins → HaveTable (slice_range pins 1 (length pins))
table-rest [] some table = absurd (omega arith)
table-rest (pin ∷ pins) some table =
    subst HaveTable (sym (rest-is pin pins))
    (record {
      exact = table.exact.1;
      few = let few = table.few in
          let long = length-behind_numbers (suc (exact_count pin.changes)) (positions_of pins) in
          let product = factor-less (exact_count pin.changes) (length (positions_of pins)) in
          omega arith;
    })

-- lists behind numbers, one after the other
abbrev behind : ℕ → List (List ℕ) → List (List ℕ)
behind times tails = map (λ (tail : List ℕ). times ∷ tail) tails

pub more-behind : (times place next : ℕ) (tails initial so_far new : List (List ℕ)) (row : List ℕ) → next ≡ suc place → place < length tails → so_far ≡ initial ++ behind times (take place tails) → new ≡ so_far ++ row ∷ [] → row ≡ times ∷ get_or tails place [] → new ≡ initial ++ behind times (take next tails)
more-behind times place next tails initial so_far new row is_next few before is_new is_row =
    let taken : behind times (take next tails) ≡ behind times (take place tails) ++ row ∷ [] =
    ap (λ (n : ℕ). behind times (take n tails)) is_next
    ∙ (ap (behind times) (take-suc tails place [] few)
    ∙ (map-append (λ (tail : List ℕ). times ∷ tail) (take place tails) (get_or tails place [] ∷ [])
    ∙ ap (λ (r : List ℕ). behind times (take place tails) ++ r ∷ []) (sym is_row))) in
    is_new
    ∙ (ap (λ (front : List (List ℕ)). front ++ row ∷ []) before
    ∙ (append_assoc initial (behind times (take place tails)) (row ∷ [])
    ∙ ap (λ (more : List (List ℕ)). initial ++ more) (sym taken)))

pub all-behind : (times place : ℕ) (tails initial so_far : List (List ℕ)) → length tails ≤ place → so_far ≡ initial ++ behind times (take place tails) → so_far ≡ initial ++ behind times tails
all-behind times place tails initial so_far all before =
    before ∙ ap (λ (front : List (List ℕ)). initial ++ behind times front) (take_all place tails all)

pub more-numbers : (times next : ℕ) (tails so_far new : List (List ℕ)) → next ≡ suc times → so_far ≡ behind_numbers times tails → new ≡ so_far ++ behind times tails → new ≡ behind_numbers next tails
more-numbers times next tails so_far new is_next before is_new =
    is_new
    ∙ (ap (λ (front : List (List ℕ)). front ++ behind times tails) before
    ∙ ap (λ (n : ℕ). behind_numbers n tails) (sym is_next))

-- what holds of a value that is there
pub if-ok : {T E : Type 0} (r : Result T E) (P Q : T → Type 0) → ((x : T) → P x → Q x) → IfOk r P → IfOk r Q
if-ok (Ok x) P Q each holds = each x holds
if-ok (Err e) P Q each holds = tt

pub some-places : (pins : List Word) (rest : ℕ) (o : Option ℕ) → 1 ≤ length pins → HaveTable (slice_range pins 1 (length pins)) → rest ≡ length (positions_of (slice_range pins 1 (length pins))) → IfSome o (λ places. IsExactCount (get_or pins 0 (constant_word false)).changes × (places ≡ suc (exact_count (get_or pins 0 (constant_word false)).changes) * rest) × (places ≤ most_places)) → IfSome o (λ places. HaveTable pins × (places ≡ length (positions_of pins)))
some-places pins rest None some table same is = tt
some-places pins rest (Some places) some table same is =
    let product : places ≡ suc (exact_count (get_or pins 0 (constant_word false)).changes) * length (positions_of (slice_range pins 1 (length pins))) =
    is.1 ∙ ap (λ (r : ℕ). suc (exact_count (get_or pins 0 (constant_word false)).changes) * r) same in
    let few = is.2 in
    (table-cons pins some is.0 table (subst (λ (n : ℕ). n ≤ most_places) product few), product ∙ sym (length-cons pins some))

pub no-places : (pins : List Word) (rest : ℕ) → 1 ≤ length pins → rest ≡ length (positions_of (slice_range pins 1 (length pins))) → HaveTable pins → (IsExactCount (get_or pins 0 (constant_word false)).changes → 1 ≤ rest → suc (exact_count (get_or pins 0 (constant_word false)).changes) * rest ≤ most_places → ⊥) → ⊥
no-places pins rest some same table none =
    let positions = some-positions (slice_range pins 1 (length pins)) in
    let product : length (positions_of pins) ≡ suc (exact_count (get_or pins 0 (constant_word false)).changes) * rest =
    length-cons pins some ∙ ap (λ (r : ℕ). suc (exact_count (get_or pins 0 (constant_word false)).changes) * r) (sym same) in
    none (table-first pins some table).0 (omega (arith, positions, same)) (subst (λ (n : ℕ). n ≤ most_places) product table.few)

pub positions-more : (pins : List Word) (below : ℕ) (tails : List (List ℕ)) → 1 ≤ length pins → below ≡ suc (exact_count (get_or pins 0 (constant_word false)).changes) → tails ≡ positions_of (slice_range pins 1 (length pins)) → behind_numbers below tails ≡ positions_of pins
positions-more pins below tails some is_below is_tails =
    ap (λ (n : ℕ). behind_numbers n tails) is_below
    ∙ (ap (behind_numbers (suc (exact_count (get_or pins 0 (constant_word false)).changes))) is_tails
    ∙ sym (positions-cons pins some))
