-- A variable that Algorithm A keeps is told enough if it is told no change, and so is everything that Algorithm A keeps.
use Rattle.std.proofs.Common.{◌≡◌, ◌⊎◌, ℕ, ◌+◌, ◌<◌, Bool, true, false, List, [], map, length, get_or, IsTrue, refl, sym, ap, ◌∙◌, subst, arith, inl, inr}
use Rattle.hz_bounds.proofs.Words.{slice_range, cases_lt, le-leb, length-map, Kind, Tri, takes, Netlist, IsCircuit, IsWhole, Driver, External, Function, Source, network_of}
use Rattle.hz_bounds.proofs.Words.{driver_at, bit_at, value_at, IsKnown, IsStableStart, length-part, at-part, Count, Exact, Word, first_letter, change_count, capped_word}
use Rattle.hz_bounds.proofs.Words.{IsAtMost, IsWithinCap, constant_word, stretched, AreWords-stretched, map-capped-stretched, input_word, told_at, AreCounted, AreStill}
use Rattle.std.proofs.lemmas.List.{get_or-map}
use Rattle.hz_core.specs.declared.tri.Tri.TheVariants.{Zero, One, Unknown}
use Rattle.hz_core.specs.Ternary.{tri_of, join_of, admits}
use Rattle.hz_core.specs.Netlist.{gate_at}
use Rattle.hz_core.proofs.CircuitLemmas.{takes-at_gate}
use Rattle.hz_core.proofs.Extensions.{gate_value-known}
use Rattle.hz_core.proofs.Refinements.{get_or-Refines}
use Rattle.hz_net.specs.Network.{driver_value3}
use Rattle.hz_net.specs.Passes.{algorithm_a, excitations, IsResult, IsUnknown}
use Rattle.hz_net.specs.Reads.{Reads}
use Rattle.hz_net.proofs.Wired.{wired-network_of, is_gate_of}
use Rattle.hz_net.proofs.Excitations.{length-excitations, at-excitations, at-join_each}
use Rattle.hz_net.proofs.Sequences.{length-algorithm_a, start-refines, closed-result}
use Rattle.hz_word.specs.Capped.{capped_count}
use Rattle.hz_word.specs.Pairs.{kind_word}
use Rattle.hz_word.proofs.Folds.{IsFold-kind_word}
use Rattle.hz_word.proofs.Forms.{same_fields}
use Rattle.hz_free.specs.Inductive.{GivesWord, IsToldEnough}
use Rattle.hz_free.proofs.Chains.{reads-inside}
use Rattle.hz_free.proofs.Changing.{AdmitsAll, AdmitWords, admits_all-unknown, admit-each, walk-constant, join-other, tri_of-or-not, input_word-differs}

pub known-or : (value : Tri) → IsUnknown value ⊎ IsKnown value
known-or Zero = inr (λ e. cc)
known-or One = inr (λ e. cc)
known-or Unknown = inl refl

tri_of-known : (bit : Bool) (value : Tri) → value ≡ tri_of bit → IsKnown value
tri_of-known bit value same unknown = not_unknown bit (sym same ∙ unknown)
  where
    not_unknown : (bit : Bool) → tri_of bit ≡ Unknown → ⊥
    not_unknown true e = cc
    not_unknown false e = cc

-- no change is counted as none
zero-counted : (cap : ℕ) → capped_count cap 0 ≡ Exact 0
zero-counted cap = rw (le-leb 0 cap (omega arith)) refl

none-at_most : (cap n : ℕ) → n ≡ 0 → IsAtMost (capped_count cap n) (Exact 0)
none-at_most cap n none = subst (λ (count : Count). IsAtMost count (Exact 0)) (sym (ap (capped_count cap) none ∙ zero-counted cap)) (omega arith)

pub constant-capped : (cap : ℕ) (word : List Bool) (bit : Bool) → first_letter word ≡ bit → change_count word ≡ 0 → capped_word cap word ≡ constant_word bit
constant-capped cap word bit first none = same_fields first (ap (capped_count cap) none ∙ zero-counted cap)

module _ (netlist : Netlist) (circuit : IsCircuit netlist) (whole : IsWhole netlist) (input start : List Bool) (begins : IsStableStart netlist start) (cap : ℕ) (a : List Tri) (result : IsResult (algorithm_a (network_of netlist) input start) a) where
  abbrev net : List Driver
  net = network_of netlist

  -- the result admits the start
  admitted : (i : ℕ) → IsTrue (admits (value_at a i) (bit_at start i))
  admitted i =
      subst (λ (values : List Tri). IsTrue (admits (value_at values i) (bit_at start i))) (sym result.2)
      (get_or-Refines start (algorithm_a net input start result.0) (start-refines net input start begins.long result.0) i)

  -- and is closed: it has joined what each variable asks for
  closed : (i : ℕ) → i < length net → value_at a i ≡ join_of (value_at a i) (driver_value3 input a (driver_at net i))
  closed i few =
      subst (λ (values : List Tri). value_at values i ≡ join_of (value_at values i) (driver_value3 input values (driver_at net i))) (sym result.2)
      (let same = (closed-result net input start result.0 begins.long result.1).same in
      ap (λ (values : List Tri). value_at values i) same
      ∙ (at-join_each (algorithm_a net input start result.0) (excitations net input (algorithm_a net input start result.0))
      (length-algorithm_a net input start begins.long result.0 ∙ sym (length-excitations net input (algorithm_a net input start result.0))) i
      ∙ ap (join_of (value_at (algorithm_a net input start result.0) i)) (at-excitations net input (algorithm_a net input start result.0) i few)))

  -- so what is kept asks for its start
  asked : (i : ℕ) → i < length net → IsKnown (value_at a i) → (driver : Driver) → driver_at net i ≡ driver → driver_value3 input a driver ≡ tri_of (bit_at start i)
  asked i few known driver driven =
      elim (tri_of-or-not (driver_value3 input a driver) (bit_at start i)) [
        | inl same ↦ same
        | inr differ ↦
            absurd (known (join-other (value_at a i) (driver_value3 input a driver) (bit_at start i) (admitted i)
            (closed i few ∙ ap (λ (driver : Driver). join_of (value_at a i) (driver_value3 input a driver)) driven) differ))
      ]

  module _ (told : List Word) (long : length told ≡ length net) (counted : AreCounted cap told) (still : AreStill net start a told) where
    module _ (i : ℕ) (kind : Kind) (first pins : ℕ) (few : i < length net) (known : IsKnown (value_at a i)) (driven : driver_at net i ≡ Function kind first pins) where
      abbrev parts : List Word
      parts = slice_range told first (first + pins)

      abbrev words : List (List Bool)
      words = map (stretched cap 0) (slice_range told first (first + pins))

      inside : (k : ℕ) → k < pins → first + k < length net
      inside k less =
          reads-inside net i (first + k) (wired-network_of netlist circuit)
          (subst (λ (driver : Driver). Reads driver (first + k)) (sym driven) (omega arith, omega arith))

      length-parts : length parts ≡ pins
      length-parts = length-part told first pins (λ k less. omega (arith, long, inside k less))

      length-values : length (slice_range a first (first + pins)) ≡ pins
      length-values =
          let long_a : length a ≡ length net = ap length result.2 ∙ length-algorithm_a net input start begins.long result.0 in
          length-part a first pins (λ k less. omega (arith, long_a, inside k less))

      length-words : length words ≡ pins
      length-words = length-map parts (stretched cap 0) ∙ length-parts

      takes-pins : IsTrue (takes kind (length parts))
      takes-pins =
          let gate = is_gate_of netlist circuit i kind first pins driven in
          subst (λ (n : ℕ). IsTrue (takes kind n)) (gate.pins_are ∙ sym length-parts)
          (subst (λ (k : Kind). IsTrue (takes k (length (gate_at netlist i).sources))) gate.same_kind (takes-at_gate netlist i circuit whole gate.is_gate))

      -- a wire that is kept has one letter, any other may have all
      admits-wire : (j : ℕ) → j < length net → AdmitsAll (value_at a j) (stretched cap 0 (told_at told j))
      admits-wire j few_j =
          elim (known-or (value_at a j)) [
            | inl unknown ↦ subst (λ (value : Tri). AdmitsAll value (stretched cap 0 (told_at told j))) (sym unknown) (admits_all-unknown (stretched cap 0 (told_at told j)))
            | inr kept ↦ subst (λ (word : Word). AdmitsAll (value_at a j) (stretched cap 0 word)) (sym (still j few_j kept)) (admitted j, tt)
          ]

      admits-words : AdmitWords (slice_range a first (first + pins)) words
      admits-words = admit-each (slice_range a first (first + pins)) words (length-values ∙ sym length-words) (λ k less.
          let less' : k < pins = omega (arith, less, length-words) in
          let at_value = at-part a first pins k Zero less' in
          let at_word : get_or words k [] ≡ stretched cap 0 (told_at told (first + k)) =
          get_or-map (stretched cap 0) parts k (constant_word false) [] (omega (arith, less', length-parts)) ∙ ap (stretched cap 0) (at-part told first pins k (constant_word false) less') in
          subst (λ (value : Tri). AdmitsAll value (get_or words k [])) (sym at_value)
          (subst (λ (word : List Bool). AdmitsAll (value_at a (first + k)) word) (sym at_word) (admits-wire (first + k) (inside k less'))))

      gate-enough : (given : Word) → given ≡ kind_word kind cap parts → IsAtMost given.changes (Exact 0)
      gate-enough given same =
          let made = IsFold-kind_word kind parts cap takes-pins words (AreWords-stretched cap 0 parts)
          (map-capped-stretched cap 0 (constant_word false) parts (λ k less.
          let less' : k < pins = omega (arith, less, length-parts) in
          subst (λ (word : Word). IsWithinCap cap word.changes) (sym (at-part told first pins k (constant_word false) less'))
          (counted (first + k) (constant_word false) (omega (arith, long, inside k less'))))) in
          let attained = made.1.attained in
          let constant = walk-constant kind (slice_range a first (first + pins)) (bit_at start i) words attained.0 (AreWords-stretched cap 0 parts) admits-words
          (λ bits refines. gate_value-known kind (slice_range a first (first + pins)) bits (bit_at start i) (asked i few known (Function kind first pins) driven) refines) attained.1 in
          let counted = attained.2 in
          subst (λ (word : Word). IsAtMost word.changes (Exact 0)) (made.2 ∙ sym same)
          (none-at_most cap (change_count made.0) (omega (arith, constant, counted)))

    -- the word that the driver of a kept variable gives has no change
    gives-none : (i : ℕ) → i < length net → IsKnown (value_at a i) → (driver : Driver) → driver_at net i ≡ driver → (given : Word) × GivesWord input start cap told i driver given × IsAtMost given.changes (Exact 0)
    gives-none i few known (External place) driven =
        let word = input_word (bit_at start i) (bit_at input place) in (
          capped_word cap (input_word (bit_at start i) (bit_at input place)),
          refl,
          elim (cases_lt 0 (change_count (input_word (bit_at start i) (bit_at input place)))) [
            | inl some ↦ absurd (input_word-differs (bit_at start i) (bit_at input place) (omega (arith, some)) (asked i few known (External place) driven))
            | inr none ↦ none-at_most cap (change_count (input_word (bit_at start i) (bit_at input place))) (omega (arith, none))
          ],
        )
    gives-none i few known (Source node) driven =
        let kept : IsKnown (value_at a node) = tri_of-known (bit_at start i) (value_at a node) (asked i few known (Source node) driven) in
        let inside = (wired-network_of netlist circuit).node_inside i node driven in (
          told_at told node,
          refl,
          subst (λ (word : Word). IsAtMost word.changes (Exact 0)) (sym (still node inside kept)) (omega arith),
        )
    gives-none i few known (Function kind first pins) driven = (
      kind_word kind cap (slice_range told first (first + pins)),
      IsFold-kind_word kind (slice_range told first (first + pins)) cap (takes-pins i kind first pins few known driven),
      gate-enough i kind first pins few known driven (kind_word kind cap (slice_range told first (first + pins))) refl,
    )

    pub still-enough : (i : ℕ) → i < length net → IsKnown (value_at a i) → IsToldEnough net input start cap told i
    still-enough i few known =
        let here = still i few known in
        let none = gives-none i few known (driver_at net i) refl in
        record {
          begins = ap (λ (word : Word). word.first) here;
          given = none.0;
          gives = none.1;
          enough = subst (λ (word : Word). IsAtMost none.0.changes word.changes) (sym here) none.2;
        }
