-- There is an order of the feedback-free variables of every network, each behind the variables that it reads. So hz_free proves it,
-- where it is private.
use Rattle.std.proofs.Common.{◌≡◌, ℕ, zero, suc, ◌+◌, ◌-◌, ◌<◌, ◌≤◌, Bool, List, [], ◌∷◌, ◌++◌, map, length, get_or, set, All, subst, arith, inl, inr, eqb, add-one}
use Rattle.hz_bounds.proofs.Words.{range_with_len, cases_lt, cases_eq, both_ways, length-map-range_with_len, get_or-map-range_with_len, Netlist, IsCircuit, network_of}
use Rattle.std.proofs.lemmas.List.Elements.{All-head, All-tail}
use Rattle.std.proofs.Common.{false, refl}
use Rattle.hz_net.specs.Reads.{readers_of}
use Rattle.hz_net.proofs.Readers.{readers-inside}
use Rattle.hz_free.specs.FreePart.{FreePart}
use Rattle.hz_free.specs.Order.{unplaced_count, IsOrdering, AreReads, AreFirst}
use Rattle.hz_lists.proofs.ListedLemmas.{is_repeat_free-bound, listed-at}
use Rattle.hz_free.proofs.Kahn.{begin-telling, unread-reader, told-waits, told-placed}
use Rattle.hz_free.proofs.Counting.{first-more, first-same, first-ordering}
use Rattle.hz_free.proofs.Parts.{free-AreMarks, marks-listed, after-reads}
use Rattle.hz_free.proofs.AllWords.{IsOrdered}

-- an order that is finished
record Ordered (readers : ℕ → List ℕ) (variables : ℕ) : Type 0 where
  unread : List ℕ
  order : List ℕ
  is_ordering : IsOrdering readers variables (length order) [] unread order

-- an order whose readers are told up to a place
record OrderedTo (readers : ℕ → List ℕ) (variables place : ℕ) : Type 0 where
  unread : List ℕ
  order : List ℕ
  is_ordering : IsOrdering readers variables place [] unread order

module _ (readers : ℕ → List ℕ) (variables : ℕ) (inside : (i : ℕ) → i < variables → All (λ reader. reader < variables) (readers i)) where
  -- how many variables each one reads
  counts : List ℕ
  counts = map (λ i. unplaced_count readers [] variables i) (range_with_len 0 variables)

  count-at : (i : ℕ) → i < variables → get_or counts i 0 ≡ unplaced_count readers [] variables i
  unfolding counts
  count-at i few =
      get_or-map-range_with_len (λ i. unplaced_count readers [] variables i) 0 variables i i 0 few (omega arith)

  counted : AreReads readers variables variables [] counts
  unfolding counts
  counted = record {
    long = length-map-range_with_len (λ i. unplaced_count readers [] variables i) 0 variables;
    counted = λ i few. let at = count-at i few in omega arith;
  }

  -- those that read nothing
  firsts : (below : ℕ) → (order : List ℕ) × AreFirst below counts order
  firsts zero = ([], record { listed = λ i few. absurd (omega arith); inside = λ i there. absurd (both_ways false refl there); once = tt })
  firsts (suc below) =
      let so_far = firsts below in
      elim (cases_eq (get_or counts below 0) 0) [
        | inl none ↦ (so_far.0 ++ below ∷ [], rw add-one at (first-more readers variables counts below so_far.0 so_far.1 none))
        | inr some ↦ (so_far.0, rw add-one at (first-same readers variables counts below so_far.0 so_far.1 some))
      ]

  -- the readers of a variable are told one after the other
  tell-all : (place : ℕ) (left unread order : List ℕ) → All (λ reader. reader < variables) left → IsOrdering readers variables place left unread order → OrderedTo readers variables place
  tell-all place [] unread order all is = record { unread = unread; order = order; is_ordering = is }
  tell-all place (reader ∷ left) unread order all is =
      let few = All-head (λ reader. reader < variables) reader left all in
      let positive = unread-reader readers variables place reader left unread order is few in
      elim (cases_lt 0 (get_or unread reader 0 - 1)) [
        | inl waits ↦
            tell-all place left (set unread reader (get_or unread reader 0 - 1)) order (All-tail (λ reader. reader < variables) reader left all)
            (told-waits readers variables place reader left unread order is few (omega arith))
        | inr none ↦
            tell-all place left (set unread reader (get_or unread reader 0 - 1)) (order ++ reader ∷ []) (All-tail (λ reader. reader < variables) reader left all)
            (told-placed readers variables place reader left unread order is few (omega arith))
      ]

  -- one variable after the other, as long as the order goes on
  finish : (fuel place : ℕ) (unread order : List ℕ) → variables ≤ place + fuel → IsOrdering readers variables place [] unread order → Ordered readers variables
  finish zero place unread order enough is =
      let within = is.within in
      let bound = is_repeat_free-bound order variables is.once is.inside in
      let ends : place ≡ length order = omega arith in
      record { unread = unread; order = order; is_ordering = subst (λ (n : ℕ). IsOrdering readers variables n [] unread order) ends is }
  finish (suc fuel) place unread order enough is =
      elim (cases_lt place (length order)) [
        | inr done ↦
            let within = is.within in
            let ends : place ≡ length order = omega arith in
            record { unread = unread; order = order; is_ordering = subst (λ (n : ℕ). IsOrdering readers variables n [] unread order) ends is }
        | inl more ↦
            let var = get_or order place 0 in
            let few = is.inside var (listed-at order place more) in
            let next = tell-all (place + 1) (readers var) unread order (inside var few) (begin-telling readers variables place unread order is more) in
            finish fuel (place + 1) next.unread next.order (omega arith) next.is_ordering
      ]

  ordered : Ordered readers variables
  ordered =
      let first = firsts variables in
      finish variables 0 counts first.0 (omega arith) (first-ordering readers variables counts first.0 counted first.1)

-- the marks and the order of a feedback-free part
pub ordered-marks : (netlist : Netlist) → IsCircuit netlist → (part : FreePart) × IsOrdered netlist part
ordered-marks netlist circuit =
    let found = ordered (readers_of netlist) (length (network_of netlist)) (readers-inside netlist circuit) in
    let free : List Bool = map (λ n. eqb n 0) found.unread in (
      record { free = free; order = found.order; cycles = []; cores = [] },
      record {
        marks = free-AreMarks netlist circuit found.unread found.order found.is_ordering free refl;
        listed = marks-listed netlist circuit found.unread found.order found.is_ordering free refl;
        once = found.is_ordering.once;
        inside = found.is_ordering.inside;
        after = after-reads netlist circuit found.unread found.order found.is_ordering;
      },
    )
