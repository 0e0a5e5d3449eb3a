-- The loops over the current state: what is known after some variables, and that one more keeps it.
use Rattle.std.proofs.Common.{◌≡◌, ◌≢◌, ℕ, ◌+◌, ◌-◌, ◌<◌, ◌≤◌, Bool, true, false, not, List, ◌∷◌, length, get_or, set, drop, refl, sym, ap, ◌∙◌, subst, arith, inl, inr}
use Rattle.std.specs.Prelude.{sum_by}
use Rattle.std.specs.Bool.{beq}
use Rattle.std.proofs.lemmas.Bool.{cases_lt, false≢true, not-true, not-false}
use Rattle.std.proofs.lemmas.List.{ext_get_or, get_or-set_same, get_or-set_other, get_or_read, drop_more, drop_all}
use Rattle.std.proofs.lemmas.List.Sums.{sum_by-cons}
use Rattle.hz_net.specs.Network.{bit_at}
use Rattle.hz_lists.specs.Listed.{IsRepeatFree}
use Rattle.hz_gmw.specs.Runs.{state_after}
use Rattle.hz_gmw.proofs.Bits.{beq-same, beq-refl, other-bit}
use Rattle.hz_gmw.proofs.Flips.{state_after-first, state_after-none}

-- a list is its next element and what is left
pub next-due : (list : List ℕ) (k x : ℕ) → k < length list → x ≡ get_or list k 0 → drop k list ≡ x ∷ drop (k + 1) list
next-due list k x few at = drop_more list k 0 few ∙ ap (λ (y : ℕ). y ∷ drop (k + 1) list) (sym at)

-- what a read of a bit and its comparison with another tell
pub read-same : (bits : List Bool) (k : ℕ) (read given : Bool) → k < length bits → read ≡ get_or bits k read → not (beq read given) ≡ false → bit_at bits k ≡ given
read-same bits k read given inside is same =
    sym (get_or_read bits k read inside is false) ∙ beq-same read given (not-false (beq read given) same)

pub read-differs : (bits : List Bool) (k : ℕ) (read given : Bool) → k < length bits → read ≡ get_or bits k read → not (beq read given) ≡ true → bit_at bits k ≡ given → ⊥
read-differs bits k read given inside is differs same =
    let e : read ≡ given = get_or_read bits k read inside is false ∙ same in
    false≢true (sym (not-true (beq read given) differs) ∙ (ap (beq read) (sym e) ∙ beq-refl read))

-- the first variables of a list changed, and those that are left make the whole
pub record FlippedSoFar (flips : List ℕ) (first state : List Bool) (k : ℕ) : Type 0 where
  pub once : IsRepeatFree (drop k flips)
  pub state_is : state_after (drop k flips) state ≡ state_after flips first

pub flip-begin : (flips : List ℕ) (state : List Bool) → IsRepeatFree flips → FlippedSoFar flips state state 0
flip-begin flips state once = record { once = once; state_is = refl }

pub flip-step : (flips : List ℕ) (first state : List Bool) (k x : ℕ) → FlippedSoFar flips first state k → k < length flips → x ≡ get_or flips k 0 → FlippedSoFar flips first (set state x (not (bit_at state x))) (k + 1)
flip-step flips first state k x so_far few at =
    let due = next-due flips k x few at in
    let once : IsRepeatFree (x ∷ drop (k + 1) flips) = subst IsRepeatFree due so_far.once in
    record {
      once = once.1;
      state_is = sym (state_after-first x (drop (k + 1) flips) state once.0) ∙ (ap (λ (list : List ℕ). state_after list state) (sym due) ∙ so_far.state_is);
    }

pub flip-state : (flips : List ℕ) (first state : List Bool) (k : ℕ) → FlippedSoFar flips first state k → length flips ≤ k → state ≡ state_after flips first
flip-state flips first state k so_far end =
    sym (state_after-none 0 state) ∙ (ap (λ (list : List ℕ). state_after list state) (sym (drop_all k flips end)) ∙ so_far.state_is)

-- a bit that differs is turned, and so is set
pub turned-is : (state : List Bool) (var : ℕ) (value : Bool) → (bit_at state var ≡ value → ⊥) → set state var (not (bit_at state var)) ≡ set state var value
turned-is state var value differ = ap (set state var) (other-bit (bit_at state var) value differ)

-- the first bits are given ones
pub set-below : (given bits next : List Bool) (k : ℕ) → ((i : ℕ) → i < k → bit_at bits i ≡ bit_at given i) → k < length bits → next ≡ set bits k (bit_at given k) → (i : ℕ) → i < k + 1 → bit_at next i ≡ bit_at given i
set-below given bits next k below inside is i few = ap (λ (now : List Bool). bit_at now i) is ∙ (elim (cases_lt i k) [
  | inl less ↦ (let other : i ≢ k = omega (arith, less) in get_or-set_other bits k i (bit_at given k) false other ∙ below i less)
  | inr from ↦ (
      let e : i ≡ k = omega (arith, few, from) in
      ap (bit_at (set bits k (bit_at given k))) e ∙ (get_or-set_same bits k (bit_at given k) false inside ∙ ap (bit_at given) (sym e))
      )
])

pub all-below : (given bits : List Bool) (k : ℕ) → ((i : ℕ) → i < k → bit_at bits i ≡ bit_at given i) → length bits ≡ length given → length given ≤ k → bits ≡ given
all-below given bits k below long end = ext_get_or false bits given long (λ i inside. below i (omega (arith, inside, long, end)))

-- a number less what listed variables weigh, by one more of them
pub less-step : (weigh : ℕ → ℕ) (list : List ℕ) (k x left next whole : ℕ) → k < length list → x ≡ get_or list k 0 → next ≡ left - weigh x → left - sum_by weigh (drop k list) ≡ whole → next - sum_by weigh (drop (k + 1) list) ≡ whole
less-step weigh list k x left next whole few at is so_far =
    let due : sum_by weigh (drop k list) ≡ sum_by weigh (x ∷ drop (k + 1) list) = ap (sum_by weigh) (next-due list k x few at) in
    omega (arith, due, is, so_far, sum_by-cons weigh x (drop (k + 1) list))

pub less-end : (weigh : ℕ → ℕ) (list : List ℕ) (k left whole : ℕ) → length list ≤ k → left - sum_by weigh (drop k list) ≡ whole → left ≡ whole
less-end weigh list k left whole end so_far =
    let none : sum_by weigh (drop k list) ≡ 0 = ap (sum_by weigh) (drop_all k list end) in
    omega (arith, none, so_far)
