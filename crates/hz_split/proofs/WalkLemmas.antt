-- The marks of unstable variables, when a variable flips.
use Rattle.std.proofs.Common.{◌≡◌, ◌∙◌, ℕ, ◌<◌, Bool, true, false, List, [], ◌∷◌, length, set, inl, inr, refl, sym, ap, subst, arith}
use Rattle.hz_split.proofs.Words.{cases_Bool, false≢true, length-set, append-nil, Netlist, Driver, network_of, bit_at, is_unstable, unstable_variables, state_after}
use Rattle.std.proofs.lemmas.Bool.{cases_eq}
use Rattle.std.proofs.lemmas.List.{get_or-set_same, get_or-set_other}
use Rattle.std.proofs.lemmas.List.FromFn.{length-map-range_with_len}
use Rattle.hz_core.specs.Netlist.{IsCircuit}
use Rattle.hz_net.specs.Reads.{readers_of}
use Rattle.hz_gmw.specs.CurrentState.{with_readers}
use Rattle.hz_lists.specs.Listed.{is_listed}
use Rattle.hz_lists.proofs.ListedLemmas.{listed-first, first-or-later, listed-other}
use Rattle.hz_gmw.proofs.ReplayLemmas.{at-unstable_variables, unstable-list}
use Rattle.hz_gmw.proofs.Unchanged.{is_unstable-state_after}
use Rattle.hz_split.specs.Walks.{with_looks}

module _ (net : List Driver) (input state : List Bool) where
  pub length-looks : (marks : List Bool) (list : List ℕ) → length (with_looks net input state marks list) ≡ length marks
  length-looks marks [] = refl
  length-looks marks (var ∷ list) = length-looks (set marks var (is_unstable net input state var)) list ∙ length-set marks var (is_unstable net input state var)

  -- a listed variable has the right mark, and no other mark is changed
  looked : (marks : List Bool) (list : List ℕ) (i : ℕ) → i < length marks → bit_at marks i ≡ is_unstable net input state i → bit_at (with_looks net input state marks list) i ≡ is_unstable net input state i
  looked marks [] i inside is = is
  looked marks (var ∷ list) i inside is =
      let bit = is_unstable net input state var in
      let long = length-set marks var bit in
      elim (cases_eq i var) [
        | inl same ↦ looked (set marks var bit) list i (omega (arith, inside, long)) (rw same (get_or-set_same marks var bit false (rw same at inside)))
        | inr apart ↦ looked (set marks var bit) list i (omega (arith, inside, long)) (get_or-set_other marks var i bit false apart ∙ is)
      ]

  pub at-looks : (marks : List Bool) (list : List ℕ) (i : ℕ) → i < length marks → is_listed list i ≡ true → bit_at (with_looks net input state marks list) i ≡ is_unstable net input state i
  at-looks marks [] i inside listed = absurd (false≢true listed)
  at-looks marks (var ∷ list) i inside listed =
      let bit = is_unstable net input state var in
      let long = length-set marks var bit in
      elim (first-or-later i var list listed) [
        | inl same ↦ looked (set marks var bit) list i (omega (arith, inside, long)) (rw same (get_or-set_same marks var bit false (rw same at inside)))
        | inr later ↦ at-looks (set marks var bit) list i (omega (arith, inside, long)) later
      ]

  pub past-looks : (marks : List Bool) (list : List ℕ) (i : ℕ) → is_listed list i ≡ false → bit_at (with_looks net input state marks list) i ≡ bit_at marks i
  past-looks marks [] i listed = refl
  past-looks marks (var ∷ list) i listed =
      let bit = is_unstable net input state var in
      elim (cases_eq i var) [
        | inl same ↦ absurd (false≢true (sym listed ∙ listed-first i var list same))
        | inr apart ↦ past-looks (set marks var bit) list i (sym (listed-other i var list apart) ∙ listed) ∙ get_or-set_other marks var i bit false apart
      ]

-- a variable flips, and the marks of it and of its readers are looked up
pub flipped : (netlist : Netlist) (input state marks : List Bool) (var : ℕ) → IsCircuit netlist → var < length (network_of netlist) → marks ≡ unstable_variables (network_of netlist) input state
    → with_looks (network_of netlist) input (state_after (var ∷ []) state) marks (with_readers netlist var) ≡ unstable_variables (network_of netlist) input (state_after (var ∷ []) state)
flipped netlist input state marks var circuit inside are =
    let net = network_of netlist in
    let next = state_after (var ∷ []) state in
    let around = with_readers netlist var in
    let long : length marks ≡ length net = ap (length {A = Bool}) are ∙ length-map-range_with_len (is_unstable net input state) 0 (length net) in
    unstable-list net input next (with_looks net input next marks around) (length-looks net input next marks around ∙ long)
    (λ i within.
    elim (cases_Bool (is_listed around i)) [
      | inl there ↦ at-looks net input next marks around i (omega (arith, within, long)) there
      | inr apart ↦
          past-looks net input next marks around i apart
          ∙ (ap (λ (list : List Bool). bit_at list i) are
          ∙ (at-unstable_variables net input state i within
          ∙ sym (is_unstable-state_after netlist input state (var ∷ []) i circuit (ap (λ (list : List ℕ). is_listed list i) (append-nil around) ∙ apart))))
    ])

pub long-marks : (net : List Driver) (input state marks : List Bool) → marks ≡ unstable_variables net input state → length marks ≡ length net
long-marks net input state marks are = ap (length {A = Bool}) are ∙ length-map-range_with_len (is_unstable net input state) 0 (length net)

-- the same, as the code does it: the variable first, then its readers
pub flip-marks : (netlist : Netlist) (input state next marks first last : List Bool) (var : ℕ) (readers : List ℕ) → IsCircuit netlist → var < length (network_of netlist) → marks ≡ unstable_variables (network_of netlist) input state
    → next ≡ state_after (var ∷ []) state → first ≡ set marks var (is_unstable (network_of netlist) input next var) → readers ≡ readers_of netlist var → last ≡ with_looks (network_of netlist) input next first readers
    → last ≡ unstable_variables (network_of netlist) input next
flip-marks netlist input state next marks first last var readers circuit inside are is_next is_first is_readers is_last =
    let net = network_of netlist in
    let whole : with_looks net input next first readers ≡ with_looks net input next marks (with_readers netlist var) =
    ap (λ (list : List Bool). with_looks net input next list readers) is_first
    ∙ ap (λ (list : List ℕ). with_looks net input next (set marks var (is_unstable net input next var)) list) is_readers in
    is_last ∙ (whole ∙ subst (λ (s : List Bool). with_looks net input s marks (with_readers netlist var) ≡ unstable_variables net input s) (sym is_next) (flipped netlist input state marks var circuit inside are))
