-- What lists of values and bits tell that variables rest at, and the rows of variables that do.
use Rattle.std.proofs.Common.{◌≡◌, ◌≢◌, ◌∙◌, refl, sym, ap, subst, ℕ, ◌<◌, Bool, true, false, Option, Some, None, List, length, set, replicate, get_or, get_or-set_same, get_or-set_other, length-set, arith, inl, inr}
use Rattle.std.specs.List.{slice_get, slice_index_or}
use Rattle.std.proofs.lemmas.Bool.{cases_eq}
use Rattle.std.proofs.lemmas.List.{get_or-replicate, length-replicate}
use Rattle.std.proofs.lemmas.List.FromFn.{fill_by_all, get_or-map-range_with_len, length-map-range_with_len}
use Rattle.hz_core.specs.declared.tri.Tri.{Tri}
use Rattle.hz_core.specs.declared.tri.Tri.TheVariants.{Zero, Unknown}
use Rattle.hz_core.specs.Ternary.{tri_of}
use Rattle.hz_net.specs.Network.{bit_at, value_at}
use Rattle.hz_word.specs.declared.word.Word.{Word}
use Rattle.hz_free.specs.CappedWords.{constant_if}
use Rattle.hz_desk.specs.declared.finding.Rest.{Rest}
use Rattle.hz_desk.specs.declared.finding.Row.{Row}
use Rattle.hz_desk.specs.RowsOf.{row_with, row_at_rest, row_at, rows_of, AreEquallyLong}
use Rattle.hz_desk.specs.RestsOf.{rest_told, value_told, counted_told, rest_at, rests_of}
use Rattle.hz_desk.proofs.RowLists.{length-rows, row-there}

module _ (values : List Tri) (counted : List Bool) where
  pub length-rests : length (rests_of values counted) ≡ length values
  length-rests = length-map-range_with_len (rest_at values counted) 0 (length values)

  pub rest-there : (i : ℕ) → i < length values → get_or (rests_of values counted) i None ≡ rest_at values counted i
  rest-there i inside = get_or-map-range_with_len (rest_at values counted) 0 (length values) i i None inside (omega arith)

  -- if all are X, nothing is told
  pub rests-blank : (count : ℕ) → values ≡ replicate count Unknown → rests_of values counted ≡ replicate count None
  rests-blank count blank =
      let long : length values ≡ count = ap (length {A = Tri}) blank ∙ length-replicate count Unknown in
      sym (fill_by_all (rest_at values counted) (replicate count None) (length values) None (length-replicate {A = Option Rest} count None ∙ sym long) (λ k less.
      let few : k < count = omega (arith, less, long) in
      let x : value_at values k ≡ Unknown = ap (λ (list : List Tri). value_at list k) blank ∙ get_or-replicate count k Unknown Zero few in
      get_or-replicate {A = Option Rest} count k None None few ∙ sym (ap (λ (v : Tri). rest_told v (bit_at counted k)) x)))

told-some : (value counts : Bool) → rest_told (tri_of value) counts ≡ Some (record { value = value; counted = counts })
told-some false counts = refl
told-some true counts = refl

told-back : (rest : Option Rest) → rest_told (value_told rest) (counted_told rest) ≡ rest
told-back None = refl
told-back (Some rest) = told-some rest.value rest.counted

-- one variable is told something else
pub rests-set : (values : List Tri) (counted : List Bool) (var : ℕ) (rest : Option Rest) → length counted ≡ length values → var < length values
    → rests_of (set values var (value_told rest)) (set counted var (counted_told rest)) ≡ set (rests_of values counted) var rest
rests-set values counted var rest long inside =
    let told = rests_of values counted in
    let now = set values var (value_told rest) in
    let counts = set counted var (counted_told rest) in
    sym (fill_by_all (rest_at now counts) (set told var rest) (length now) None (length-set told var rest ∙ length-rests values counted ∙ sym (length-set values var (value_told rest))) (λ k less.
    elim (cases_eq k var) [
      | inl at ↦
          (ap (λ (n : ℕ). get_or (set told var rest) n None) at
          ∙ (set-here told var rest (omega (arith, inside, length-rests values counted))
          ∙ (sym (told-back rest)
          ∙ (sym (ap (λ (v : Tri). rest_told v (counted_told rest)) (value-here values var (value_told rest) inside))
          ∙ (sym (ap (rest_told (value_at now var)) (bit-here counted var (counted_told rest) (omega (arith, inside, long))))
          ∙ sym (ap (rest_at now counts) at))))))
      | inr ne ↦
          (set-aside told var k rest ne
          ∙ (rest-there values counted k (omega (arith, less, length-set values var (value_told rest)))
          ∙ (sym (ap (λ (v : Tri). rest_told v (bit_at counted k)) (value-aside values var k (value_told rest) ne))
          ∙ sym (ap (rest_told (value_at now k)) (bit-aside counted var k (counted_told rest) ne)))))
    ]))
  where
    set-here : (list : List (Option Rest)) (i : ℕ) (value : Option Rest) → i < length list → get_or (set list i value) i None ≡ value
    set-here list i value inside = rw get_or-set_same refl

    set-aside : (list : List (Option Rest)) (i k : ℕ) (value : Option Rest) → k ≢ i → get_or (set list i value) k None ≡ get_or list k None
    set-aside list i k value ne = rw get_or-set_other refl

    value-here : (list : List Tri) (i : ℕ) (value : Tri) → i < length list → value_at (set list i value) i ≡ value
    value-here list i value inside = rw get_or-set_same refl

    value-aside : (list : List Tri) (i k : ℕ) (value : Tri) → k ≢ i → value_at (set list i value) k ≡ value_at list k
    value-aside list i k value ne = rw get_or-set_other refl

    bit-here : (list : List Bool) (i : ℕ) (value : Bool) → i < length list → bit_at (set list i value) i ≡ value
    bit-here list i value inside = rw get_or-set_same refl

    bit-aside : (list : List Bool) (i k : ℕ) (value : Bool) → k ≢ i → bit_at (set list i value) k ≡ bit_at list k
    bit-aside list i k value ne = rw get_or-set_other refl

-- the row of a variable that keeps a value
resting-row : (value counts : Bool) → row_with value (tri_of value) (tri_of value) (constant_if counts value) ≡ row_at_rest (record { value = value; counted = counts })
resting-row false false = refl
resting-row false true = refl
resting-row true false = refl
resting-row true true = refl

-- what is seen in the lists: the variable has the row of one that rests at what is told
pub rests-in : (start : List Bool) (a b : List Tri) (words : List (Option Word)) (values : List Tri) (counted : List Bool) (i : ℕ) → AreEquallyLong start a b words
    → i < length start → i < length values → value_at a i ≡ value_at values i → value_at b i ≡ value_at values i → tri_of (bit_at start i) ≡ value_at values i
    → slice_index_or words i None ≡ constant_if (bit_at counted i) (bit_at start i)
    → (rest : Rest) × (get_or (rests_of values counted) i None ≡ Some rest) × (slice_get (rows_of start a b words) i ≡ Some (row_at_rest rest))
rests-in start a b words values counted i long inside told a_is b_is start_is word_is =
    let value = bit_at start i in
    let counts = bit_at counted i in
    let rest : Rest = record { value = value; counted = counts } in
    let row : row_at start a b words i ≡ row_at_rest rest =
    ap (λ (v : Tri). row_with value v (value_at b i) (slice_index_or words i None)) (a_is ∙ sym start_is)
    ∙ (ap (λ (v : Tri). row_with value (tri_of value) v (slice_index_or words i None)) (b_is ∙ sym start_is)
    ∙ (ap (row_with value (tri_of value) (tri_of value)) word_is ∙ resting-row value counts)) in (
      rest,
      rest-there values counted i told ∙ (ap (λ (v : Tri). rest_told v counts) (sym start_is) ∙ told-some value counts),
      row-there start a b words i inside ∙ ap (λ (r : Row). Some r) row,
    )
