-- The rows that lists of values and words stand for.
use Rattle.std.proofs.Common.{◌≡◌, ◌∙◌, refl, sym, ap, subst, ℕ, ◌<◌, Bool, false, Option, Some, None, List, length, map, get_or, All, arith}
use Rattle.std.specs.List.{slice_get, range_with_len}
use Rattle.std.specs.Prelude.{IfSome}
use Rattle.std.proofs.lemmas.List.{get_or-map, get_or_read, length-map}
use Rattle.std.proofs.lemmas.List.Elements.{All-from_get_or, All-map}
use Rattle.std.proofs.lemmas.List.FromFn.{fill_by_all, get_or-map-range_with_len, get_or-range_with_len, length-map-range_with_len, length-range_with_len}
use Rattle.std.proofs.lemmas.Option.{slice_get-get_or}
use Rattle.std.proofs.lemmas.Simd.{map-map}
use Rattle.hz_core.specs.declared.tri.Tri.{Tri}
use Rattle.hz_core.specs.declared.tri.Tri.TheVariants.{Zero}
use Rattle.hz_core.specs.Netlist.{Netlist}
use Rattle.hz_net.specs.Network.{Driver, bit_at, value_at}
use Rattle.hz_word.specs.declared.word.Word.{Word}
use Rattle.hz_desk.specs.declared.finding.Rest.{Rest}
use Rattle.hz_desk.specs.declared.finding.Row.{Row}
use Rattle.hz_desk.specs.Class.{IsClass}
use Rattle.hz_free.specs.VariableWords.{AreCappedWords}
use Rattle.hz_desk.specs.Filled.{AreRowsOfChange}
use Rattle.hz_desk.specs.Finding.{values_a, values_b}
use Rattle.hz_desk.specs.ResultsOfPasses.{ArePassResults}
use Rattle.hz_desk.specs.Rows.{changes_of, AreRowsOf, MayBeRows}
use Rattle.hz_desk.specs.RowsOf.{row_with, row_at_rest, row_at, rows_of, AreEquallyLong}
use Rattle.hz_desk.proofs.ClassTable.{has_class}

-- a row has the class of what it holds
abbrev HasClass : Row → Type 0
HasClass row = IsClass row.start row.a row.b row.changes row.class

module _ (start : List Bool) (a b : List Tri) (words : List (Option Word)) where
  -- there is a row for each variable
  pub length-rows : length (rows_of start a b words) ≡ length start
  length-rows = length-map-range_with_len (row_at start a b words) 0 (length start)

  pub row-there : (i : ℕ) → i < length start → slice_get (rows_of start a b words) i ≡ Some (row_at start a b words i)
  row-there i inside =
      let row = row_at start a b words i in
      slice_get-get_or (rows_of start a b words) i row (omega (arith, inside, length-rows))
      ∙ ap (λ (r : Row). Some r) (get_or-map-range_with_len (row_at start a b words) 0 (length start) i i row inside (omega arith))

  -- it is made of what stands at the variable's place in each list
  pub row-read : AreEquallyLong start a b words → (i : ℕ) (bit : Bool) (x y : Tri) (word : Option Word) → i < length start → bit ≡ get_or start i bit → x ≡ get_or a i x
      → y ≡ get_or b i y → word ≡ get_or words i word → slice_get (rows_of start a b words) i ≡ Some (row_with bit x y word)
  row-read long i bit x y word inside bit_is x_is y_is word_is =
      let at_start : bit ≡ bit_at start i = get_or_read start i bit inside bit_is false in
      let at_a : x ≡ value_at a i = get_or_read a i x (omega (arith, inside, long.a_long)) x_is Zero in
      let at_b : y ≡ value_at b i = get_or_read b i y (omega (arith, inside, long.b_long)) y_is Zero in
      let at_words : word ≡ get_or words i None = get_or_read words i word (omega (arith, inside, long.words_long)) word_is None in
      row-there i inside ∙ sym (rw (at_start, at_a, at_b, at_words) refl)

  -- what the rows have of one kind is the list that has it place by place
  in-rows : {Y : Type 0} (f : Row → Y) (list : List Y) (d : Y) → length list ≡ length start
      → ((i : ℕ) → i < length start → get_or list i d ≡ f (row_at start a b words i)) → map f (rows_of start a b words) ≡ list
  in-rows f list d long each =
      map-map f (row_at start a b words) (range_with_len 0 (length start))
      ∙ sym (fill_by_all (λ (i : ℕ). f (row_at start a b words i)) list (length start) d long each)

  pub starts-are : map (λ (row : Row). row.start) (rows_of start a b words) ≡ start
  starts-are = in-rows (λ (row : Row). row.start) start false refl (λ i inside. refl)

  pub a-are : AreEquallyLong start a b words → values_a (rows_of start a b words) ≡ a
  a-are long = in-rows (λ (row : Row). row.a) a Zero long.a_long (λ i inside. refl)

  pub b-are : AreEquallyLong start a b words → values_b (rows_of start a b words) ≡ b
  b-are long = in-rows (λ (row : Row). row.b) b Zero long.b_long (λ i inside. refl)

  changes-are : AreEquallyLong start a b words → map (λ (row : Row). row.changes) (rows_of start a b words) ≡ map changes_of words
  changes-are long =
      in-rows (λ (row : Row). row.changes) (map changes_of words) None (length-map words changes_of ∙ long.words_long)
      (λ i inside. get_or-map changes_of words i None None (omega (arith, inside, long.words_long)))

  -- variables of which so much is known have equally many values
  equally-long : (variables : ℕ) → MayBeRows variables start a b words → AreEquallyLong start a b words
  equally-long variables may = record {
    a_long = may.a_long ∙ sym may.start_long;
    b_long = may.b_long ∙ sym may.start_long;
    words_long = may.words_long ∙ sym may.start_long;
  }

  -- and classes, as their rows say
  class-at : (variables : ℕ) → MayBeRows variables start a b words → (i : ℕ) → i < length start → HasClass (row_at start a b words i)
  class-at variables may i inside =
      has_class (bit_at start i) (value_at a i) (value_at b i) (changes_of (get_or words i None)) (may.each i (omega (arith, inside, may.start_long)))

  classes-are : (variables : ℕ) → MayBeRows variables start a b words → All HasClass (rows_of start a b words)
  classes-are variables may =
      let numbers = range_with_len 0 (length start) in
      let long = length-range_with_len 0 (length start) in
      All-map HasClass (row_at start a b words) numbers
      (All-from_get_or (λ (i : ℕ). HasClass (row_at start a b words i)) numbers 0 (λ i inside.
      let within : i < length start = omega (arith, inside, long) in
      let here : get_or numbers i 0 ≡ i = get_or-range_with_len 0 (length start) i 0 within ∙ omega arith in
      subst (λ (n : ℕ). HasClass (row_at start a b words n)) (sym here) (class-at variables may i within)))

  -- so these are their rows
  pub are-rows : (variables : ℕ) → MayBeRows variables start a b words → AreRowsOf start a b words (rows_of start a b words)
  are-rows variables may =
      let long = equally-long variables may in
      record { starts = starts-are; in_a = a-are long; in_b = b-are long; changes = changes-are long; classes = classes-are variables may }

  -- the rows of the same lists
  pub same-rows : (from : List Bool) (x y : List Tri) (told : List (Option Word)) → from ≡ start → x ≡ a → y ≡ b → told ≡ words → rows_of from x y told ≡ rows_of start a b words
  same-rows from x y told start_is a_is b_is words_are =
      ap (λ (list : List Bool). rows_of list x y told) start_is
      ∙ (ap (λ (list : List Tri). rows_of start list y told) a_is
      ∙ (ap (λ (list : List Tri). rows_of start a list told) b_is ∙ ap (rows_of start a b) words_are))

  -- the rows have the results of both passes
  pub results-in-rows : (variables : ℕ) → MayBeRows variables start a b words → (netlist : Netlist) (input : List Bool) (ranks when : List ℕ) (rounds_a rounds_b : ℕ)
      → ArePassResults netlist input start a ranks b when rounds_a rounds_b
      → ArePassResults netlist input start (values_a (rows_of start a b words)) ranks (values_b (rows_of start a b words)) when rounds_a rounds_b
  results-in-rows variables may netlist input ranks when rounds_a rounds_b passed =
      let long = equally-long variables may in
      subst (λ (list : List Tri). ArePassResults netlist input start list ranks (values_b (rows_of start a b words)) when rounds_a rounds_b) (sym (a-are long))
      (subst (λ (list : List Tri). ArePassResults netlist input start a ranks list when rounds_a rounds_b) (sym (b-are long)) passed)

  -- and the words of the variables
  pub rows-of-change : (variables : ℕ) → MayBeRows variables start a b words → (net : List Driver) (input : List Bool) (cap : ℕ) → AreCappedWords net input start cap words
      → AreRowsOfChange net input start cap (rows_of start a b words)
  rows-of-change variables may net input cap are =
      let rows = are-rows variables may in
      record {
        words = words;
        are_words = are;
        are_rows = record { starts = rows.starts; in_a = refl; in_b = refl; changes = rows.changes; classes = rows.classes };
      }

-- the row of a variable that rests
pub rest-read : (rows : List Row) (i : ℕ) (row : Row) → slice_get rows i ≡ Some row → (rest : Option Rest) → IfSome rest (λ (r : Rest). row ≡ row_at_rest r)
    → IfSome rest (λ (r : Rest). slice_get rows i ≡ Some (row_at_rest r))
rest-read rows i row there None known = known
rest-read rows i row there (Some rest) known = there ∙ ap (λ (r : Row). Some r) known
