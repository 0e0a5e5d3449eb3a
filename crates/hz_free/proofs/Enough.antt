-- What is enough for a variable: many changes for each, and none for one that Algorithm A keeps.
use Rattle.std.proofs.Common.{◌≡◌, ◌≢◌, ◌⊎◌, ℕ, ◌+◌, ◌<◌, ◌≤◌, Bool, true, false, List, [], ◌∷◌, map, length, get_or, cond, IsTrue, refl, sym, ap, ◌∙◌, subst, arith, inl, inr}
use Rattle.std.specs.Prelude.{slice_range}
use Rattle.std.specs.List.{range_with_len}
use Rattle.std.proofs.lemmas.Bool.{cases_Bool, cases_lt, le-leb, both_ways}
use Rattle.std.proofs.lemmas.List.{length-map, get_or-map}
use Rattle.std.proofs.lemmas.List.FromFn.{get_or-map-range_with_len, length-map-range_with_len}
use Rattle.hz_core.specs.declared.kind.Kind.{Kind}
use Rattle.hz_core.specs.Gate.{takes}
use Rattle.hz_core.specs.Netlist.{Netlist, IsCircuit, IsWhole, gate_at}
use Rattle.hz_core.proofs.CircuitLemmas.{takes-at_gate}
use Rattle.hz_net.specs.Network.{Driver, External, Function, Source, network_of, driver_at, driver_value3, bit_at, value_at}
use Rattle.hz_net.specs.Reads.{Reads}
use Rattle.hz_net.specs.Starts.{IsStableStart}
use Rattle.hz_net.proofs.Wired.{wired-network_of, is_gate_of}
use Rattle.hz_lists.proofs.PartLemmas.{length-part, at-part}
use Rattle.hz_gmw.specs.Runs.{IsRun}
use Rattle.hz_word.specs.declared.count.Count.TheVariants.{Exact, Many}
use Rattle.hz_word.specs.declared.word.Word.{Word}
use Rattle.hz_word.specs.Word.{change_count}
use Rattle.hz_word.specs.Capped.{capped_word, capped_count, IsAtMost, IsWithinCap}
use Rattle.hz_word.specs.Covers.{Covers}
use Rattle.hz_word.specs.Pairs.{constant_word, kind_word}
use Rattle.hz_word.proofs.AtMost.{at_most-many}
use Rattle.hz_word.proofs.Folds.{IsFold-kind_word}
use Rattle.hz_word.proofs.Stretched.{counted-capped_count, stretched, AreWords-stretched, map-capped-stretched}
use Rattle.hz_free.specs.Chains.{IsFeedbackFree}
use Rattle.hz_free.specs.VariableWords.{input_word, AreVariableWords, variable_history}
use Rattle.hz_free.specs.Inductive.{told_at, GivesWord, IsToldEnough, AreCounted, AreFreeWords, IsInductive}
use Rattle.hz_free.proofs.Chains.{reads-inside}
use Rattle.hz_free.proofs.NextWord.{default-same}
use Rattle.hz_free.proofs.WordsExist.{marks}
use Rattle.hz_free.proofs.FreeWords.{free-enough}
use Rattle.hz_free.proofs.Inductively.{inductive-covers}

-- a variable is feedback-free or not
pub is_free : (netlist : Netlist) (i : ℕ) → IsCircuit netlist → i < length (network_of netlist) → IsFeedbackFree (network_of netlist) i ⊎ (IsFeedbackFree (network_of netlist) i → ⊥)
is_free netlist i circuit few =
    let found = marks netlist circuit in
    elim (cases_Bool (bit_at found.0 i)) [
      | inl free ↦ inl ((found.1.exact i few).0 free)
      | inr other ↦ inr (λ free. absurd (both_ways (bit_at found.0 i) other ((found.1.exact i few).1 free)))
    ]

module _ (netlist : Netlist) (circuit : IsCircuit netlist) (whole : IsWhole netlist) (input start : List Bool) (cap : ℕ) (told : List Word) (long : length told ≡ length (network_of netlist)) where
  -- the wires of a gate are inside
  wire-inside : (i : ℕ) (kind : Kind) (first pins k : ℕ) → driver_at (network_of netlist) i ≡ Function kind first pins → k < pins → first + k < length (network_of netlist)
  wire-inside i kind first pins k driven less =
      reads-inside (network_of netlist) i (first + k) (wired-network_of netlist circuit)
      (subst (λ (driver : Driver). Reads driver (first + k)) (sym driven) (omega arith, omega arith))

  takes-pins : (i : ℕ) (kind : Kind) (first pins : ℕ) → driver_at (network_of netlist) i ≡ Function kind first pins → IsTrue (takes kind (length (slice_range told first (first + pins))))
  takes-pins i kind first pins driven =
      let gate = is_gate_of netlist circuit i kind first pins driven in
      let inside : (k : ℕ) → k < pins → first + k < length told = λ k less. omega (arith, long, wire-inside i kind first pins k driven less) in
      subst (λ (n : ℕ). IsTrue (takes kind n)) (gate.pins_are ∙ sym (length-part told first pins inside))
      (subst (λ (k : Kind). IsTrue (takes k (length (gate_at netlist i).sources))) gate.same_kind (takes-at_gate netlist i circuit whole gate.is_gate))

  -- every driver gives some word
  gives-some : (i : ℕ) (driver : Driver) → driver_at (network_of netlist) i ≡ driver → (word : Word) × GivesWord input start cap told i driver word
  gives-some i (External place) driven = (capped_word cap (input_word (bit_at start i) (bit_at input place)), refl)
  gives-some i (Source node) driven = (told_at told node, refl)
  gives-some i (Function kind first pins) driven =
      (kind_word kind cap (slice_range told first (first + pins)), IsFold-kind_word kind (slice_range told first (first + pins)) cap (takes-pins i kind first pins driven))

  -- many changes are enough
  pub many-enough : (i : ℕ) → told_at told i ≡ record { first = bit_at start i; changes = Many } → IsToldEnough (network_of netlist) input start cap told i
  many-enough i here =
      let some = gives-some i (driver_at (network_of netlist) i) refl in
      record {
        begins = ap (λ (word : Word). word.first) here;
        given = some.0;
        gives = some.1;
        enough = subst (λ (word : Word). IsAtMost some.0.changes word.changes) (sym here) (at_most-many some.0.changes);
      }

-- The word of a feedback-free variable covers: it is told its word, and every other variable many changes.
module _ (netlist : Netlist) (circuit : IsCircuit netlist) (whole : IsWhole netlist) (input start : List Bool) (begins : IsStableStart netlist start) (words : List (List Bool)) (are : AreVariableWords (network_of netlist) input start words) (cap : ℕ) where
  abbrev told_with : (free : List Bool) → ℕ → Word
  told_with free i = cond (bit_at free i) (capped_word cap (get_or words i [])) (record { first = bit_at start i; changes = Many })

  abbrev told : List Word
  told = map (told_with (marks netlist circuit).0) (range_with_len 0 (length (network_of netlist)))

  long : length told ≡ length (network_of netlist)
  long = length-map-range_with_len (told_with (marks netlist circuit).0) 0 (length (network_of netlist))

  at : (i : ℕ) → i < length (network_of netlist) → told_at told i ≡ told_with (marks netlist circuit).0 i
  at i few = get_or-map-range_with_len (told_with (marks netlist circuit).0) 0 (length (network_of netlist)) i i (constant_word false) few (omega arith)

  at-free : (i : ℕ) → i < length (network_of netlist) → IsFeedbackFree (network_of netlist) i → told_at told i ≡ capped_word cap (get_or words i [])
  at-free i few free =
      let marked : bit_at (marks netlist circuit).0 i ≡ true = ((marks netlist circuit).1.exact i few).1 free in
      at i few ∙ ap (λ (bit : Bool). cond bit (capped_word cap (get_or words i [])) (record { first = bit_at start i; changes = Many })) marked

  counted : AreCounted cap told
  counted k d few =
      let inside : k < length (network_of netlist) = omega (arith, few, long) in
      subst (λ (word : Word). IsWithinCap cap word.changes) (sym (default-same told k d (constant_word false) few ∙ at k inside))
      (elim (cases_Bool (bit_at (marks netlist circuit).0 k)) [
        | inl marked ↦ rw marked (counted-capped_count cap (change_count (get_or words k [])))
        | inr other ↦ rw other tt
      ])

  enough : (i : ℕ) → i < length (network_of netlist) → IsToldEnough (network_of netlist) input start cap told i
  enough i few =
      elim (cases_Bool (bit_at (marks netlist circuit).0 i)) [
        | inl marked ↦
            free-enough netlist circuit whole input start begins cap told long
            (record { words = words; are_words = are; each = at-free }) i few (((marks netlist circuit).1.exact i few).0 marked)
        | inr other ↦
            many-enough netlist circuit whole input start cap told long i
            (at i few ∙ ap (λ (bit : Bool). cond bit (capped_word cap (get_or words i [])) (record { first = bit_at start i; changes = Many })) other)
      ]

  pub free-covered : (i : ℕ) (steps : List (List ℕ)) → i < length (network_of netlist) → IsFeedbackFree (network_of netlist) i → IsRun (network_of netlist) input start steps → Covers (capped_word cap (get_or words i [])) (variable_history start steps i)
  free-covered i steps few free run =
      subst (λ (word : Word). Covers word (variable_history start steps i)) (at-free i few free)
      (inductive-covers netlist circuit whole input start begins cap told (record { long = long; counted = counted; each = enough }) steps run i few)
