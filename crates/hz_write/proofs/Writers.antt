-- Calls of a writer one after the other: what was given in all, and what its end answers.
use Rattle.std.proofs.Common.{◌≡◌, ◌∙◌, refl, sym, ap, ℕ, ◌+◌, true, false, List, [], ◌∷◌, ◌++◌, get_or, slice_get, map, take, drop, Option, Some, None, is_some, Result, Err, append_assoc, zero-add}
use Rattle.std.specs.List.{concat, flat_map, range_with_len}
use Rattle.std.proofs.lemmas.List.{append-nil, map-id, take_more, take-append-drop}
use Rattle.std.proofs.lemmas.List.Concat.{flat_map-append}
use Rattle.std.proofs.lemmas.List.FromFn.{map-range_with_len_more}
use Rattle.std.proofs.lemmas.Option.{same_Some, get_or_from_slice_get, slice_get_within}
use Rattle.hz_outside.specs.WrittenText.{extended_text, Output, settled, Took}
use Rattle.hz_outside.specs.declared.fault.PutFault.{PutFault}
use Rattle.hz_outside.specs.declared.fault.PutFault.TheVariants.{Memory}
use Rattle.hz_write.specs.declared.writer.Writer.{Writer}
use Rattle.hz_write.specs.Writes.{Puts, Stops, Wrote, IsBuffered}
use Rattle.hz_write.specs.Writer.{Given, Begins, Writes, Finishes}
use Rattle.hz_write.proofs.Writing.{IsBuffered-start, IsBuffered-append, Puts-waiting, Stops-before, Stops-longer, Stops-waiting, Wrote-ended}

-- one number more of a range from 0
pub flat_map_of_range : (text_of : ℕ → List ℕ) (n : ℕ) → flat_map text_of (range_with_len 0 (n + 1)) ≡ flat_map text_of (range_with_len 0 n) ++ text_of n
flat_map_of_range text_of n =
    let more : range_with_len 0 (n + 1) ≡ range_with_len 0 n ++ n ∷ [] =
    sym (map-id (range_with_len 0 (n + 1))) ∙ map-range_with_len_more (λ i. i) 0 n n (zero-add n)
    ∙ ap (λ (numbers : List ℕ). numbers ++ n ∷ []) (map-id (range_with_len 0 n)) in
    ap (flat_map text_of) more ∙ flat_map-append text_of (range_with_len 0 n) (n ∷ [])
    ∙ ap (λ (text : List ℕ). flat_map text_of (range_with_len 0 n) ++ text) (append-nil (text_of n))

-- the texts of items, one after the other
pub concat-texts : {X : Type 0} (text_of : X → List ℕ) (items : List X) → concat (map text_of items) ≡ flat_map text_of items
concat-texts text_of [] = refl
concat-texts text_of (item ∷ items) = ap (λ (rest : List ℕ). text_of item ++ rest) (concat-texts text_of items)

-- one item more
pub flat_map_of_take : {X : Type 0} (text_of : X → List ℕ) (items : List X) (i : ℕ) (item : X) → slice_get items i ≡ Some item
    → flat_map text_of (take (i + 1) items) ≡ flat_map text_of (take i items) ++ text_of item
flat_map_of_take text_of items i item there =
    let is : get_or items i item ≡ item = get_or_from_slice_get items i item item there in
    ap (flat_map text_of) (take_more items i item (slice_get_within items i item there))
    ∙ flat_map-append text_of (take i items) (get_or items i item ∷ [])
    ∙ ap (λ (text : List ℕ). flat_map text_of (take i items) ++ text) (append-nil (text_of (get_or items i item)))
    ∙ ap (λ (last : _). flat_map text_of (take i items) ++ text_of last) is

-- what a sink in memory has, if a whole text was written to it as a new one
pub plain_bytes : {text bytes : List ℕ} → Took (settled (Some [])) text (settled (Some bytes)) → bytes ≡ text
unfolding extended_text
plain_bytes {text} {bytes} took = same_Some bytes took.front took.grew ∙ sym (append-nil took.front) ∙ took.parts

no_none : (fault : PutFault) → None ≡ Some fault → ⊥
no_none fault h = cc

no_fault : (fault : Option PutFault) → is_some fault ≡ false → fault ≡ None
no_fault None h = refl
no_fault (Some fault) h = absurd (cc)

-- after a fault any text is one of which nothing more is put
given_longer : {S : Type 0} (output : S → Output) (faults : S → ℕ) (start : S) (text waiting : List ℕ) (fault : Option PutFault) (now : S) (more : List ℕ)
    → is_some fault ≡ true → Given output faults start text waiting fault now → Given output faults start (text ++ more) waiting fault now
unfolding Given
given_longer output faults start text waiting None now more failed given = absurd (cc)
given_longer output faults start text waiting (Some fault) now more failed given = Stops-longer more given

-- more of a line, all of which waits; after a fault it is never put
given_waiting : {S : Type 0} (output : S → Output) (faults : S → ℕ) (start : S) (text waiting : List ℕ) (fault : Option PutFault) (now : S) (more : List ℕ)
    → Given output faults start text waiting fault now → Given output faults start (text ++ more) (waiting ++ more) fault now
unfolding Given
given_waiting output faults start text waiting None now more given = IsBuffered-append more given (IsBuffered-start (waiting ++ more) now)
given_waiting output faults start text waiting (Some fault) now more given = Stops-longer more given

module _ {S : Type 0} {output : S → Output} {faults : S → ℕ} where
  -- no call
  pub writes_nothing : (writer : Writer S) → Writes output faults [] writer writer
  writes_nothing writer = record {
    sink = refl;
    gave = λ start before given. rw (append-nil before) given;
  }

  -- one text and then another
  pub writes_then : {x y z : List ℕ} {a b c : Writer S} → Writes output faults x a b → Writes output faults y b c → x ++ y ≡ z → Writes output faults z a c
  writes_then {x} {y} p q e = record {
    sink = q.sink ∙ p.sink;
    gave = λ start before given. rw (← e, ← append_assoc) (q.gave start (before ++ x) (p.gave start before given));
  }

  -- the same text in other words
  pub writes_same : {x z : List ℕ} {a b : Writer S} → Writes output faults x a b → x ≡ z → Writes output faults z a b
  writes_same p e = rw e at p

  -- nothing more is put after a fault
  pub writes_failed : {a : Writer S} (text : List ℕ) → is_some a.fault ≡ true → Writes output faults text a a
  writes_failed {a} text failed = record {
    sink = refl;
    gave = λ start before given. given_longer output faults start before a.line a.fault a.out.now text failed given;
  }

  -- the texts of some of the items, and then a fault
  pub writes_cut : {X : Type 0} (text_of : X → List ℕ) (items : List X) (i : ℕ) {a b : Writer S}
      → Writes output faults (flat_map text_of (take i items)) a b → is_some b.fault ≡ true → Writes output faults (flat_map text_of items) a b
  writes_cut text_of items i p failed =
      writes_then p (writes_failed (flat_map text_of (drop i items)) failed)
      (sym (flat_map-append text_of (take i items) (drop i items)) ∙ ap (flat_map text_of) (take-append-drop i items))

  -- a piece of a line, all of which waits
  pub writes_waiting : {a b : Writer S} (text : List ℕ) → b.out.ghost_name ≡ a.out.ghost_name → b.out.now ≡ a.out.now → b.fault ≡ a.fault
      → b.line ≡ a.line ++ text → Writes output faults text a b
  writes_waiting {a} text sink out same waits = record {
    sink = sink;
    gave = λ start before given. rw (same, waits, out) (given_waiting output faults start before a.line a.fault a.out.now text given);
  }

  -- a piece of a line: all of it waits or was put
  pub writes_added : {a b : Writer S} (text : List ℕ) → b.out.ghost_name ≡ a.out.ghost_name → is_some a.fault ≡ false → b.fault ≡ a.fault
      → IsBuffered output faults (a.line ++ text) a.out.now b.out.now b.line → Writes output faults text a b
  unfolding Given
  writes_added {a} text sink was same waits = record {
    sink = sink;
    gave = λ start before given. rw (same ∙ no_fault a.fault was) (IsBuffered-append text (rw (no_fault a.fault was) at given) waits);
  }

  -- the end of a line
  pub writes_ended : {a b : Writer S} (text : List ℕ) → b.out.ghost_name ≡ a.out.ghost_name → is_some a.fault ≡ false → b.fault ≡ a.fault → b.line ≡ []
      → Puts output faults (a.line ++ text) a.out.now b.out.now → Writes output faults text a b
  unfolding Given
  writes_ended {a} text sink was same none puts = record {
    sink = sink;
    gave = λ start before given. rw (same ∙ no_fault a.fault was, none) (record {
      done = before ++ text;
      puts = Puts-waiting text (rw (no_fault a.fault was) at given) puts;
      parts = append-nil (before ++ text);
    });
  }

  -- a put that failed
  pub writes_stopped : {a b : Writer S} {fault : PutFault} (text : List ℕ) → b.out.ghost_name ≡ a.out.ghost_name → is_some a.fault ≡ false → b.fault ≡ Some fault
      → Stops output faults fault (a.line ++ text) a.out.now b.out.now → Writes output faults text a b
  unfolding Given
  writes_stopped {a} text sink was now stops = record {
    sink = sink;
    gave = λ start before given. rw now (Stops-waiting text (rw (no_fault a.fault was) at given) stops);
  }

  -- memory ran out elsewhere: what waits is not put
  pub writes_given_up : {a b : Writer S} → b.out.ghost_name ≡ a.out.ghost_name → b.out.now ≡ a.out.now → is_some a.fault ≡ false → b.fault ≡ Some Memory
      → Writes output faults [] a b
  writes_given_up {a} sink out was now = writes_stopped [] sink was now (rw out (Stops-before (a.line ++ []) a.out.now))

-- the answers of writers: here all is explicit, since an answer computes
module _ {S : Type 0} (output : S → Output) (faults : S → ℕ) where
  -- the end of a writer without a fault
  pub finishes_waiting : (writer : Writer S) (now : S) (result : Result (Unit {0}) PutFault) → writer.fault ≡ None
      → Wrote output faults writer.line writer.out.now now result → Finishes output faults writer now result
  unfolding Given
  finishes_waiting writer now result none wrote = record {
    wrote = λ start text given. Wrote-ended output faults text writer.line start writer.out.now now result (rw none at given) wrote;
    failed = λ fault is. absurd (no_none fault (sym none ∙ is));
  }

  -- the end of a writer with a fault
  pub finishes_failed : (writer : Writer S) (now : S) (fault : PutFault) → writer.fault ≡ Some fault → now ≡ writer.out.now
      → Finishes output faults writer now (Err fault)
  unfolding Given
  finishes_failed writer now fault failed same = record {
    wrote = λ start text given. rw same (rw failed at given);
    failed = λ other is. ap Err (same_Some fault other (sym failed ∙ is));
  }

  -- what the end of a writer answers, by all that was given since it was new
  pub wrote_whole : (text : List ℕ) (start : S) (begun writer : Writer S) (now : S) (result : Result (Unit {0}) PutFault)
      → Begins start begun → Writes output faults text begun writer → Finishes output faults writer now result → Wrote output faults text start now result
  unfolding Given
  wrote_whole text start begun writer now result begins writes finishes =
      finishes.wrote start text (writes.gave start [] (rw (begins.no_fault, begins.none_waits, begins.same) (IsBuffered-start [] start)))
