-- The lines that are kept while rows are put over them: a node that stays, one that is written anew, and one that is passed over.
use Rattle.std.proofs.Common.{◌≡◌, ◌∙◌, refl, sym, ap, subst, ℕ, zero, suc, ◌+◌, ◌-◌, ◌<◌, ◌≤◌, ◌≢◌, List, [], ◌∷◌, ◌++◌, length, map, take, drop, set, replicate, false, get_or, get_or-set_same, get_or-set_other, length-set, slice_get, Option, Some, None, arith, inl, inr}
use Rattle.std.specs.Prelude.{IfSome}
use Rattle.std.specs.List.{between}
use Rattle.std.proofs.lemmas.Bool.{cases_eq, cases_lt}
use Rattle.std.proofs.lemmas.List.{get_or-replicate, length-replicate, take-set, map-append, length-take-le}
use Rattle.std.proofs.lemmas.List.Edits.{between_none, between_more, split_between}
use Rattle.std.proofs.lemmas.Option.{get_or_from_slice_get, slice_get_within}
use Rattle.std.proofs.lemmas.Slice.{between_is}
use Rattle.hz_core.specs.Netlist.{Netlist, node_name}
use Rattle.hz_write.specs.Writes.{newline}
use Rattle.hz_desk.specs.declared.finding.Rest.{Rest}
use Rattle.hz_desk.specs.declared.finding.Row.{Row}
use Rattle.hz_desk.specs.RowsOf.{row_at_rest}
use Rattle.hz_report.specs.Report.{row_text}
use Rattle.hz_report.specs.Kept.{ArePartsOf, AreRowParts, AreRowLines, AreShown}
use Rattle.hz_report.proofs.PartLemmas.{IsUnder, written-one}

-- lines of which nothing is told
pub none-shown : (netlist : Netlist) (text begins : List ℕ) (shown : List (Option Rest)) (count : ℕ) → AreRowParts netlist (length netlist.names) text begins → shown ≡ replicate count None
    → count ≡ length netlist.names → AreRowLines netlist text begins shown
none-shown netlist text begins shown count parts is many = record {
  middles = parts.middles;
  are = parts.are;
  shown_long = ap (length {A = Option Rest}) is ∙ length-replicate count None ∙ many;
  shows = λ i rest few same.
      absurd (none-some rest
      (sym (ap (λ (values : List (Option Rest)). get_or values i None) is ∙ get_or-replicate count i None None (omega (arith, few, many))) ∙ same));
}
  where
    none-some : (rest : Rest) → None ≡ Some rest → ⊥
    none-some rest e = cc

-- a row to look one up with
pub no_row : Row
no_row = row_at_rest (record { value = false; counted = false })

-- so many nodes more rest at what is shown
pub shown-more : (rows : List Row) (shown : List (Option Rest)) (from upto count : ℕ)
    → ((i : ℕ) → i < count → (rest : Rest) × (get_or shown (upto + i) None ≡ Some rest) × (slice_get rows (upto + i) ≡ Some (row_at_rest rest)))
    → AreShown rows shown from upto → AreShown rows shown from (upto + count)
shown-more rows shown from upto count more stay i above below =
    elim (cases_lt i upto) [
      | inl before ↦ stay i above before
      | inr behind ↦
          (let here : upto + (i - upto) ≡ i = omega (arith, behind) in
          subst (λ (n : ℕ). (rest : Rest) × (get_or shown n None ≡ Some rest) × (slice_get rows n ≡ Some (row_at_rest rest))) here
          (more (i - upto) (omega (arith, behind, below))))
    ]

-- Rows up to a node are put over the lines, and those from a node on were not given so far.
pub record ArePut (netlist : Netlist) (rows : List Row) (from upto : ℕ) (text begins : List ℕ) (shown : List (Option Rest)) : Type 0 where
  pub kept : AreRowLines netlist text begins shown
  pub ordered : from ≤ upto
  pub done : between from upto kept.middles ≡ map row_text (between from upto rows)

module _ (netlist : Netlist) (rows : List Row) (begins : List ℕ) where
  pub put-begin : (text : List ℕ) (shown : List (Option Rest)) → AreRowLines netlist text begins shown → ArePut netlist rows 0 0 text begins shown
  put-begin text shown kept = record {
    kept = kept;
    ordered = omega arith;
    done = between_none kept.middles 0 ∙ ap (map row_text) (sym (between_none rows 0));
  }

  pub put-skip : (from upto : ℕ) (text : List ℕ) (shown : List (Option Rest)) → ArePut netlist rows from upto text begins shown → ArePut netlist rows (upto + 1) (upto + 1) text begins shown
  put-skip from upto text shown put = record {
    kept = put.kept;
    ordered = omega arith;
    done = between_none put.kept.middles (upto + 1) ∙ ap (map row_text) (sym (between_none rows (upto + 1)));
  }

  -- one row more, which stands in its line
  done-more : (middles : List (List ℕ)) (from upto : ℕ) (row : Row) → from ≤ upto → upto < length middles → slice_get rows upto ≡ Some row → get_or middles upto [] ≡ row_text row
      → between from upto middles ≡ map row_text (between from upto rows) → between from (upto + 1) middles ≡ map row_text (between from (upto + 1) rows)
  done-more middles from upto row ordered inside there is done =
      let rows_more : between from (upto + 1) rows ≡ between from upto rows ++ row ∷ [] =
      between_more rows from upto row ordered (slice_get_within rows upto row there)
      ∙ ap (λ (last : Row). between from upto rows ++ last ∷ []) (get_or_from_slice_get rows upto row row there) in
      between_more middles from upto [] ordered inside
      ∙ ap (λ (last : List ℕ). between from upto middles ++ last ∷ []) is
      ∙ ap (λ (list : List (List ℕ)). list ++ row_text row ∷ []) done
      ∙ sym (ap (map row_text) rows_more ∙ map-append row_text (between from upto rows) (row ∷ []))

  -- a node stays as it is shown
  pub put-stay : (from upto : ℕ) (text : List ℕ) (shown : List (Option Rest)) (rest : Rest) → upto < length netlist.names → get_or shown upto None ≡ Some rest
      → slice_get rows upto ≡ Some (row_at_rest rest) → ArePut netlist rows from upto text begins shown → ArePut netlist rows from (upto + 1) text begins shown
  put-stay from upto text shown rest few told there put = record {
    kept = put.kept;
    ordered = omega (arith, put.ordered);
    done = done-more put.kept.middles from upto (row_at_rest rest) put.ordered (omega (arith, few, put.kept.are.long)) there (put.kept.shows upto rest few told) put.done;
  }

  -- so many nodes stay
  pub put-stay-many : (from upto count : ℕ) (text : List ℕ) (shown : List (Option Rest)) → upto + count ≤ length netlist.names
      → ((i : ℕ) → i < count → (rest : Rest) × (get_or shown (upto + i) None ≡ Some rest) × (slice_get rows (upto + i) ≡ Some (row_at_rest rest)))
      → ArePut netlist rows from upto text begins shown → ArePut netlist rows from (upto + count) text begins shown
  put-stay-many from upto zero text shown few stays put =
      let same : upto ≡ upto + zero = omega arith in
      subst (λ (n : ℕ). ArePut netlist rows from n text begins shown) same put
  put-stay-many from upto (suc count) text shown few stays put =
      let here = stays count (omega arith) in
      let next : upto + count + 1 ≡ upto + suc count = omega arith in
      subst (λ (n : ℕ). ArePut netlist rows from n text begins shown) next
      (put-stay from (upto + count) text shown here.0 (omega (arith, few)) here.1 here.2
      (put-stay-many from upto count text shown (omega (arith, few)) (λ i less. stays i (omega (arith, less))) put))

  -- the nodes stay that are seen to
  pub put-shown : (from upto next : ℕ) (text : List ℕ) (shown : List (Option Rest)) → upto ≤ next → next ≤ length netlist.names → AreShown rows shown upto next
      → ArePut netlist rows from upto text begins shown → ArePut netlist rows from next text begins shown
  put-shown from upto next text shown ordered within stay put =
      let end : upto + (next - upto) ≡ next = omega (arith, ordered) in
      subst (λ (n : ℕ). ArePut netlist rows from n text begins shown) end
      (put-stay-many from upto (next - upto) text shown (omega (arith, ordered, within)) (λ i less. stay (upto + i) (omega arith) (omega (arith, less, ordered))) put)

  -- the row of a node is written over its line
  pub put-set : (from upto : ℕ) (row : Row) (now text : List ℕ) (shown : List (Option Rest)) (rest : Option Rest) → length netlist.names ≤ length rows → upto < length netlist.names
      → slice_get rows upto ≡ Some row → now ≡ row_text row → length now ≡ 33 → IfSome rest (λ (r : Rest). slice_get rows upto ≡ Some (row_at_rest r))
      → ArePut netlist rows from upto text begins shown
      → ArePut netlist rows from (upto + 1)
      (take (get_or begins (upto + 1) 0 - 1 - 33) text ++ (now ++ drop (get_or begins (upto + 1) 0 - 1) text)) begins (set shown upto rest)
  put-set from upto row now text shown rest enough few there is wide rests put =
      let middles = put.kept.middles in
      let inside : upto < length middles = omega (arith, few, put.kept.are.long) in
      let inside_shown : upto < length shown = omega (arith, few, put.kept.shown_long) in
      let before : between from upto (set middles upto now) ≡ between from upto middles =
      between_is (set middles upto now) from upto ∙ ap (drop from) (take-set middles upto now) ∙ sym (between_is middles from upto) in
      let here : get_or (set middles upto now) upto [] ≡ row_text row = rw get_or-set_same is in
      record {
        kept = record {
          middles = set middles upto now;
          are = written-one row_text (node_name netlist.names) newline 33 (length netlist.names) rows upto row now text begins middles put.kept.are few enough there is wide;
          shown_long = length-set shown upto rest ∙ put.kept.shown_long;
          shows = λ i other less same.
              elim (cases_eq i upto) [
                | inl at ↦
                    (let shows_here : get_or (set shown upto rest) upto None ≡ Some other = subst (λ (n : ℕ). get_or (set shown upto rest) n None ≡ Some other) at same in
                    let told : rest ≡ Some other = sym (set-at shown upto rest inside_shown) ∙ shows_here in
                    let also : slice_get rows upto ≡ Some (row_at_rest other) = subst (λ (r : Option Rest). IfSome r (λ (r : Rest). slice_get rows upto ≡ Some (row_at_rest r))) told rests in
                    let rests_here : row ≡ row_at_rest other = sym (get_or_from_slice_get rows upto row row there) ∙ get_or_from_slice_get rows upto (row_at_rest other) row also in
                    ap (λ (n : ℕ). get_or (set middles upto now) n []) at ∙ here ∙ ap row_text rests_here)
                | inr ne ↦
                    (let old : get_or shown i None ≡ Some other = sym (set-aside shown upto i rest ne) ∙ same in
                    rw get_or-set_other (put.kept.shows i other less old))
              ];
        };
        ordered = omega (arith, put.ordered);
        done = done-more (set middles upto now) from upto row put.ordered (omega (arith, inside, length-set middles upto now)) there here (before ∙ put.done);
      }
    where
      set-at : (values : List (Option Rest)) (i : ℕ) (value : Option Rest) → i < length values → get_or (set values i value) i None ≡ value
      set-at values i value inside = rw get_or-set_same refl

      set-aside : (values : List (Option Rest)) (i k : ℕ) (value : Option Rest) → k ≢ i → get_or (set values i value) k None ≡ get_or values k None
      set-aside values i k value ne = rw get_or-set_other refl

  -- the lines are those of rows in their places
  pub put-under : (from upto : ℕ) (text : List ℕ) (shown : List (Option Rest)) → from ≤ length netlist.names → ArePut netlist rows from upto text begins shown
      → IsUnder row_text (node_name netlist.names) newline 33 (length netlist.names) rows from upto text begins
  put-under from upto text shown few put =
      let middles = put.kept.middles in
      record {
        ahead = take from middles;
        left = drop upto middles;
        long = length-take-le from middles (omega (arith, few, put.kept.are.long));
        ordered = put.ordered;
        are = subst (λ (list : List (List ℕ)). ArePartsOf (node_name netlist.names) newline 33 (length netlist.names) list text begins)
            (split_between middles from upto put.ordered ∙ ap (λ (list : List (List ℕ)). take from middles ++ (list ++ drop upto middles)) put.done) put.kept.are;
      }

  pub put-parts : (from upto : ℕ) (text : List ℕ) (shown : List (Option Rest)) → ArePut netlist rows from upto text begins shown → AreRowParts netlist (length netlist.names) text begins
  put-parts from upto text shown put = record { middles = put.kept.middles; are = put.kept.are }
