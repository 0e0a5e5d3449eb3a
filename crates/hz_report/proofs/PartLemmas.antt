-- Texts of parts: where each part stands, and what a text is once the middle of one is written over.
use Rattle.std.proofs.Common.{◌≡◌, ◌∙◌, refl, sym, ap, subst, ℕ, zero, suc, ◌+◌, ◌-◌, ◌<◌, ◌≤◌, List, [], ◌∷◌, ◌++◌, length, map, take, drop, set, get_or, slice_get, Some, append_assoc, arith, zero-add}
use Rattle.std.proofs.Math.Numerals.{add-one}
use Rattle.std.specs.List.{between}
use Rattle.std.proofs.lemmas.List.{append-nil, length-append, length-map, map-append, take_at, drop_at, take-append-drop, take-take, drop-take, drop-drop, take-set, drop-set, set-get_or, length-take-le}
use Rattle.std.proofs.lemmas.List.Edits.{between_none, between_more, length-between}
use Rattle.std.proofs.lemmas.List.FromFn.{get_or-map-range_with_len, map-range_with_len_more, length-map-range_with_len}
use Rattle.std.proofs.lemmas.Option.{get_or_from_slice_get}
use Rattle.hz_report.specs.Kept.{parts_text, part_place, AreWide, ArePartsOf, AreParts}

-- parts after parts
pub parts-append : (stem : ℕ → List ℕ) (tail : List ℕ) (node : ℕ) (xs ys : List (List ℕ))
    → parts_text stem tail node (xs ++ ys) ≡ parts_text stem tail node xs ++ parts_text stem tail (node + length xs) ys
parts-append stem tail node [] ys =
    let here : node ≡ node + 0 = omega arith in
    ap (λ (n : ℕ). parts_text stem tail n ys) here
parts-append stem tail node (x ∷ xs) ys =
    let part : List ℕ = stem node ++ (x ++ tail) in
    let here : (node + 1) + length xs ≡ node + suc (length xs) = omega arith in
    ap (λ (rest : List ℕ). part ++ rest) (parts-append stem tail (node + 1) xs ys)
    ∙ sym (append_assoc part (parts_text stem tail (node + 1) xs) (parts_text stem tail ((node + 1) + length xs) ys))
    ∙ ap (λ (n : ℕ). (part ++ parts_text stem tail (node + 1) xs) ++ parts_text stem tail n ys) here

-- the place of the next part
place-more : (stem : ℕ → List ℕ) (size node : ℕ) → part_place stem size (node + 1) ≡ part_place stem size node + (length (stem node) + size)
place-more stem size node = ap (part_place stem size) (add-one node)

-- how long parts are
place-behind : (stem : ℕ → List ℕ) (tail : List ℕ) (width node : ℕ) (xs : List (List ℕ)) → AreWide width xs
    → part_place stem (width + length tail) node + length (parts_text stem tail node xs) ≡ part_place stem (width + length tail) (node + length xs)
place-behind stem tail width node [] wide =
    let here : node ≡ node + 0 = omega arith in
    let same : part_place stem (width + length tail) node ≡ part_place stem (width + length tail) (node + 0) = ap (part_place stem (width + length tail)) here in
    omega (arith, same)
place-behind stem tail width node (x ∷ xs) wide =
    let size = width + length tail in
    let here : (node + 1) + length xs ≡ node + suc (length xs) = omega arith in
    let same : part_place stem size ((node + 1) + length xs) ≡ part_place stem size (node + suc (length xs)) = ap (part_place stem size) here in
    let rest = place-behind stem tail width (node + 1) xs wide.1 in
    let long = length-append (stem node ++ (x ++ tail)) (parts_text stem tail (node + 1) xs) in
    let one = length-append (stem node) (x ++ tail) in
    let two = length-append x tail in
    omega (arith, same, rest, long, one, two, wide.0, place-more stem size node)

-- a later part begins no earlier
place-mono : (stem : ℕ → List ℕ) (size i k : ℕ) → part_place stem size i ≤ part_place stem size (i + k)
place-mono stem size i zero =
    let here : i ≡ i + 0 = omega arith in
    let same : part_place stem size i ≡ part_place stem size (i + 0) = ap (part_place stem size) here in
    omega (arith, same)
place-mono stem size i (suc k) =
    let here : (i + k) + 1 ≡ i + suc k = omega arith in
    let same : part_place stem size ((i + k) + 1) ≡ part_place stem size (i + suc k) = ap (part_place stem size) here in
    omega (arith, same, place-mono stem size i k, place-more stem size (i + k))

pub place-ordered : (stem : ℕ → List ℕ) (size i j : ℕ) → i ≤ j → part_place stem size i ≤ part_place stem size j
place-ordered stem size i j below =
    let there : i + (j - i) ≡ j = omega (arith, below) in
    let same : part_place stem size (i + (j - i)) ≡ part_place stem size j = ap (part_place stem size) there in
    omega (arith, same, place-mono stem size i (j - i))

-- the middles of parts that are parts of a list
wide-front : (width : ℕ) (xs ys : List (List ℕ)) → AreWide width (xs ++ ys) → AreWide width xs
wide-front width [] ys wide = tt
wide-front width (x ∷ xs) ys wide = (wide.0, wide-front width xs ys wide.1)

wide-back : (width : ℕ) (xs ys : List (List ℕ)) → AreWide width (xs ++ ys) → AreWide width ys
wide-back width [] ys wide = wide
wide-back width (x ∷ xs) ys wide = wide-back width xs ys wide.1

wide-both : (width : ℕ) (xs ys : List (List ℕ)) → AreWide width xs → AreWide width ys → AreWide width (xs ++ ys)
wide-both width [] ys front back = back
wide-both width (x ∷ xs) ys front back = (front.0, wide-both width xs ys front.1 back)

-- where a part begins by the list of places
pub begin-at : (stem : ℕ → List ℕ) (tail : List ℕ) (width count : ℕ) (middles : List (List ℕ)) (text begins : List ℕ) (i : ℕ)
    → ArePartsOf stem tail width count middles text begins → i ≤ count → get_or begins i 0 ≡ part_place stem (width + length tail) i
begin-at stem tail width count middles text begins i are within =
    ap (λ (list : List ℕ). get_or list i 0) are.begins_are
    ∙ get_or-map-range_with_len (part_place stem (width + length tail)) 0 (count + 1) i i 0 (omega (arith, within)) (zero-add i)

pub length-begins : (stem : ℕ → List ℕ) (tail : List ℕ) (width count : ℕ) (text begins : List ℕ) → AreParts stem tail width count text begins → length begins ≡ count + 1
length-begins stem tail width count text begins parts =
    ap (length {A = ℕ}) parts.are.begins_are ∙ length-map-range_with_len (part_place stem (width + length tail)) 0 (count + 1)

length-text : (stem : ℕ → List ℕ) (tail : List ℕ) (width count : ℕ) (middles : List (List ℕ)) (text begins : List ℕ)
    → ArePartsOf stem tail width count middles text begins → length text ≡ part_place stem (width + length tail) count
length-text stem tail width count middles text begins are =
    let behind = place-behind stem tail width 0 middles are.wide in
    let here : 0 + length middles ≡ count = omega (arith, are.long) in
    let same : part_place stem (width + length tail) (0 + length middles) ≡ part_place stem (width + length tail) count = ap (part_place stem (width + length tail)) here in
    let long : length text ≡ length (parts_text stem tail 0 middles) = ap (length {A = ℕ}) are.text_is in
    omega (arith, behind, same, long)

-- a part begins in the text
pub begin-within : (stem : ℕ → List ℕ) (tail : List ℕ) (width count : ℕ) (text begins : List ℕ) (i : ℕ) → AreParts stem tail width count text begins → i ≤ count
    → get_or begins i 0 ≤ length text
begin-within stem tail width count text begins i parts within =
    omega (
      arith,
      begin-at stem tail width count parts.middles text begins i parts.are within,
      length-text stem tail width count parts.middles text begins parts.are,
      place-ordered stem (width + length tail) i count within,
    )

pub begin-ordered : (stem : ℕ → List ℕ) (tail : List ℕ) (width count : ℕ) (text begins : List ℕ) (i j : ℕ) → AreParts stem tail width count text begins → i ≤ j → j ≤ count
    → get_or begins i 0 ≤ get_or begins j 0
begin-ordered stem tail width count text begins i j parts ordered within =
    omega (
      arith,
      begin-at stem tail width count parts.middles text begins i parts.are (omega (arith, ordered, within)),
      begin-at stem tail width count parts.middles text begins j parts.are within,
      place-ordered stem (width + length tail) i j ordered,
    )

-- the middle and the end of a part stand before the next one
pub middle-within : (stem : ℕ → List ℕ) (tail : List ℕ) (width count : ℕ) (text begins : List ℕ) (i : ℕ) → AreParts stem tail width count text begins → i < count
    → width + length tail ≤ get_or begins (i + 1) 0
middle-within stem tail width count text begins i parts within =
    omega (arith, begin-at stem tail width count parts.middles text begins (i + 1) parts.are (omega (arith, within)), place-more stem (width + length tail) i)

-- no part
pub parts-none : (stem : ℕ → List ℕ) (tail : List ℕ) (width : ℕ) (text begins : List ℕ) → text ≡ [] → begins ≡ 0 ∷ [] → AreParts stem tail width 0 text begins
parts-none stem tail width text begins none first =
    record { middles = []; are = record { long = refl; wide = tt; text_is = none; begins_are = first } }

-- one part more
pub parts-longer : (stem : ℕ → List ℕ) (tail : List ℕ) (width count : ℕ) (middles : List (List ℕ)) (middle text begins text' begins' : List ℕ)
    → ArePartsOf stem tail width count middles text begins → length middle ≡ width
    → text' ≡ text ++ (stem count ++ (middle ++ tail)) → begins' ≡ begins ++ length text' ∷ []
    → ArePartsOf stem tail width (count + 1) (middles ++ middle ∷ []) text' begins'
parts-longer stem tail width count middles middle text begins text' begins' are wide longer placed =
    let size = width + length tail in
    let part : List ℕ = stem count ++ (middle ++ tail) in
    let here : 0 + length middles ≡ count = omega (arith, are.long) in
    let all : parts_text stem tail 0 (middles ++ middle ∷ []) ≡ parts_text stem tail 0 middles ++ part =
    parts-append stem tail 0 middles (middle ∷ [])
    ∙ ap (λ (n : ℕ). parts_text stem tail 0 middles ++ parts_text stem tail n (middle ∷ [])) here
    ∙ ap (λ (last : List ℕ). parts_text stem tail 0 middles ++ last) (append-nil part) in
    let end : length text' ≡ part_place stem size (count + 1) =
    omega (
      arith,
      ap (length {A = ℕ}) longer,
      length-append text part,
      length-append (stem count) (middle ++ tail),
      length-append middle tail,
      wide,
      length-text stem tail width count middles text begins are,
      place-more stem size count,
    ) in
    record {
      long = length-append middles (middle ∷ []) ∙ ap (λ (n : ℕ). n + 1) are.long;
      wide = wide-both width middles (middle ∷ []) are.wide (wide, tt);
      text_is = longer ∙ ap (λ (list : List ℕ). list ++ part) are.text_is ∙ sym all;
      begins_are = placed ∙ ap (λ (n : ℕ). begins ++ n ∷ []) end ∙ ap (λ (list : List ℕ). list ++ part_place stem size (count + 1) ∷ []) are.begins_are
          ∙ sym (map-range_with_len_more (part_place stem size) 0 (count + 1) (count + 1) (zero-add (count + 1)));
    }

pub parts-more : (stem : ℕ → List ℕ) (tail : List ℕ) (width count : ℕ) (middle text begins text' begins' : List ℕ) → AreParts stem tail width count text begins → length middle ≡ width
    → text' ≡ text ++ (stem count ++ (middle ++ tail)) → begins' ≡ begins ++ length text' ∷ [] → AreParts stem tail width (count + 1) text' begins'
parts-more stem tail width count middle text begins text' begins' parts wide longer placed = record {
  middles = parts.middles ++ middle ∷ [];
  are = parts-longer stem tail width count parts.middles middle text begins text' begins' parts.are wide longer placed;
}

-- what stands between two places is written over
pub written-over : (front middle back now : List ℕ) (i k : ℕ) → length front ≡ i → length middle ≡ k
    → take i (front ++ (middle ++ back)) ++ (now ++ drop (i + k) (front ++ (middle ++ back))) ≡ front ++ (now ++ back)
written-over front middle back now i k before long =
    let start : take i (front ++ (middle ++ back)) ≡ front = take_at front (middle ++ back) i before in
    let whole : front ++ (middle ++ back) ≡ (front ++ middle) ++ back = sym (append_assoc front middle back) in
    let rest : drop (i + k) (front ++ (middle ++ back)) ≡ back =
    ap (drop (i + k)) whole ∙ drop_at (front ++ middle) back (i + k) (omega (arith, length-append front middle, before, long)) in
    rw (start, rest) refl

-- The middles from one node up to another are those of items.
pub record IsUnder {X : Type 0} (value : X → List ℕ) (stem : ℕ → List ℕ) (tail : List ℕ) (width count : ℕ) (items : List X) (from upto : ℕ) (text begins : List ℕ) : Type 0 where
  pub ahead : List (List ℕ)
  pub left : List (List ℕ)
  pub long : length ahead ≡ from
  pub ordered : from ≤ upto
  pub are : ArePartsOf stem tail width count (ahead ++ (map value (between from upto items) ++ left)) text begins

module _ {X : Type 0} (value : X → List ℕ) (stem : ℕ → List ℕ) (tail : List ℕ) (width count : ℕ) (items : List X) where
  -- how many middles are left
  count-left : (from upto : ℕ) (ahead left : List (List ℕ)) → length ahead ≡ from → from ≤ upto → upto ≤ count → count ≤ length items
      → length (ahead ++ (map value (between from upto items) ++ left)) ≡ count → upto + length left ≡ count
  count-left from upto ahead left long ordered within enough whole =
      omega (
        arith,
        length-append ahead (map value (between from upto items) ++ left),
        length-append (map value (between from upto items)) left,
        length-map (between from upto items) value,
        length-between items from upto (omega (arith, within, enough)),
        long,
        ordered,
        whole,
      )

  -- one middle more is that of its item
  more : (from upto : ℕ) (ahead left : List (List ℕ)) (item : X) (now text begins : List ℕ) → length ahead ≡ from → from ≤ upto → upto < count → count ≤ length items
      → slice_get items upto ≡ Some item → now ≡ value item → length now ≡ width
      → ArePartsOf stem tail width count (ahead ++ (map value (between from upto items) ++ left)) text begins
      → IsUnder value stem tail width count items from (upto + 1)
      (take (get_or begins (upto + 1) 0 - length tail - width) text ++ (now ++ drop (get_or begins (upto + 1) 0 - length tail) text)) begins
  more from upto ahead [] item now text begins long ordered within enough there is wide are =
      absurd (omega (arith, within, count-left from upto ahead [] long ordered (omega (arith, within)) enough are.long))
  more from upto ahead (middle ∷ left) item now text begins long ordered within enough there is wide are =
      let size = width + length tail in
      let block = map value (between from upto items) in
      let front = ahead ++ block in
      let few = count-left from upto ahead (middle ∷ left) long ordered (omega (arith, within)) enough are.long in
      let count_front : length front ≡ upto =
      omega (arith, length-append ahead block, length-map (between from upto items) value, length-between items from upto (omega (arith, within, enough)), long, ordered) in
      let cut : (list : List (List ℕ)) → ahead ++ (block ++ list) ≡ front ++ list = λ list. sym (append_assoc ahead block list) in
      let wide_all : AreWide width (front ++ middle ∷ left) = subst (AreWide width) (cut (middle ∷ left)) are.wide in
      let wide_front : AreWide width front = wide-front width front (middle ∷ left) wide_all in
      let wide_back = wide-back width front (middle ∷ left) wide_all in
      let before = parts_text stem tail 0 front in
      let after = parts_text stem tail (upto + 1) left in
      let parted : (one : List ℕ) → parts_text stem tail 0 (front ++ one ∷ left) ≡ (before ++ stem upto) ++ (one ++ (tail ++ after)) = λ one.
      parts-append stem tail 0 front (one ∷ left)
      ∙ ap (λ (n : ℕ). before ++ parts_text stem tail n (one ∷ left)) (zero-add (length front) ∙ count_front)
      ∙ moved before (stem upto) one tail after in
      let end : get_or begins (upto + 1) 0 ≡ part_place stem size (upto + 1) = begin-at stem tail width count _ text begins (upto + 1) are (omega (arith, within)) in
      let begun : part_place stem size 0 + length before ≡ part_place stem size (0 + length front) = place-behind stem tail width 0 front wide_front in
      let same : part_place stem size (0 + length front) ≡ part_place stem size upto = ap (part_place stem size) (zero-add (length front) ∙ count_front) in
      let head : length (before ++ stem upto) ≡ get_or begins (upto + 1) 0 - length tail - width =
      omega (arith, length-append before (stem upto), end, begun, same, place-more stem size upto) in
      let next : get_or begins (upto + 1) 0 - length tail ≡ (get_or begins (upto + 1) 0 - length tail - width) + width =
      omega (arith, end, place-more stem size upto) in
      let text_was : text ≡ (before ++ stem upto) ++ (middle ++ (tail ++ after)) = are.text_is ∙ ap (parts_text stem tail 0) (cut (middle ∷ left)) ∙ parted middle in
      let item_is : between from (upto + 1) items ≡ between from upto items ++ item ∷ [] =
      between_more items from upto item ordered (omega (arith, within, enough))
      ∙ ap (λ (last : X). between from upto items ++ last ∷ []) (get_or_from_slice_get items upto item item there) in
      let middles_now : ahead ++ (map value (between from (upto + 1) items) ++ left) ≡ front ++ now ∷ left =
      ap (λ (list : List X). ahead ++ (map value list ++ left)) item_is
      ∙ ap (λ (list : List (List ℕ)). ahead ++ (list ++ left)) (map-append value (between from upto items) (item ∷ []))
      ∙ ap (λ (list : List (List ℕ)). ahead ++ list) (append_assoc block (value item ∷ []) left)
      ∙ cut (value item ∷ left)
      ∙ ap (λ (one : List ℕ). front ++ one ∷ left) (sym is) in
      record {
        ahead = ahead;
        left = left;
        long = long;
        ordered = omega (arith, ordered);
        are = record {
          long = ap (length {A = List ℕ}) middles_now ∙ omega (arith, length-append front (now ∷ left), count_front, few);
          wide = subst (AreWide width) (sym middles_now) (wide-both width front (now ∷ left) wide_front (wide, wide_back.1));
          text_is = ap (λ (list : List ℕ). take (get_or begins (upto + 1) 0 - length tail - width) list ++ (now ++ drop (get_or begins (upto + 1) 0 - length tail) list)) text_was
              ∙ ap (λ (n : ℕ). take (get_or begins (upto + 1) 0 - length tail - width) ((before ++ stem upto) ++ (middle ++ (tail ++ after))) ++ (now ++ drop n ((before ++ stem upto) ++ (middle ++ (tail ++ after))))) next
              ∙ written-over (before ++ stem upto) middle (tail ++ after) now _ width head wide_back.0
              ∙ sym (parted now) ∙ ap (parts_text stem tail 0) (sym middles_now);
          begins_are = are.begins_are;
        };
      }
    where
      moved : (a s m t b : List ℕ) → a ++ ((s ++ (m ++ t)) ++ b) ≡ (a ++ s) ++ (m ++ (t ++ b))
      moved a s m t b = simp append_assoc

  -- one middle is written over
  pub written-one : (upto : ℕ) (item : X) (now text begins : List ℕ) (middles : List (List ℕ)) → ArePartsOf stem tail width count middles text begins → upto < count → count ≤ length items
      → slice_get items upto ≡ Some item → now ≡ value item → length now ≡ width
      → ArePartsOf stem tail width count (set middles upto now)
      (take (get_or begins (upto + 1) 0 - length tail - width) text ++ (now ++ drop (get_or begins (upto + 1) 0 - length tail) text)) begins
  unfolding more
  written-one upto item now text begins middles are within enough there is wide =
      let inside : upto < length middles = omega (arith, are.long, within) in
      let ahead = take upto middles in
      let left = drop (upto + 1) middles in
      let middle = get_or middles upto [] in
      let cut : (one : List ℕ) → set middles upto one ≡ ahead ++ one ∷ left = λ one.
      sym (take-append-drop upto (set middles upto one))
      ∙ ap (λ (list : List (List ℕ)). list ++ drop upto (set middles upto one)) (take-set middles upto one)
      ∙ ap (λ (list : List (List ℕ)). ahead ++ list) (drop-set middles upto one inside) in
      let block : map value (between upto upto items) ≡ [] = ap (map value) (between_none items upto) in
      let was : middles ≡ ahead ++ (map value (between upto upto items) ++ middle ∷ left) =
      sym (set-get_or middles upto []) ∙ cut middle ∙ ap (λ (list : List (List ℕ)). ahead ++ (list ++ middle ∷ left)) (sym block) in
      let one : map value (between upto (upto + 1) items) ≡ now ∷ [] =
      ap (map value) (between_more items upto upto item (omega arith) (omega (arith, within, enough)))
      ∙ ap (λ (list : List X). map value (list ++ get_or items upto item ∷ [])) (between_none items upto)
      ∙ ap (λ (last : X). value last ∷ []) (get_or_from_slice_get items upto item item there)
      ∙ ap (λ (last : List ℕ). last ∷ []) (sym is) in
      let put = more upto upto ahead (middle ∷ left) item now text begins (length-take-le upto middles (omega arith)) (omega arith) within enough there is wide
      (subst (λ (list : List (List ℕ)). ArePartsOf stem tail width count list text begins) was are) in
      subst (λ (list : List (List ℕ)). ArePartsOf stem tail width count list
      (take (get_or begins (upto + 1) 0 - length tail - width) text ++ (now ++ drop (get_or begins (upto + 1) 0 - length tail) text)) begins)
      (ap (λ (list : List (List ℕ)). ahead ++ (list ++ left)) one ∙ sym (cut now)) put.are

  -- what the text has from one node up to another
  pub under-text : (from upto : ℕ) (text begins : List ℕ) → IsUnder value stem tail width count items from upto text begins → upto ≤ count → count ≤ length items
      → between (get_or begins from 0) (get_or begins upto 0) text ≡ parts_text stem tail from (map value (between from upto items))
  under-text from upto text begins under within enough =
      let size = width + length tail in
      let block = map value (between from upto items) in
      let before = parts_text stem tail 0 under.ahead in
      let inside = parts_text stem tail from block in
      let after = parts_text stem tail (from + length block) under.left in
      let wide_ahead : AreWide width under.ahead = wide-front width under.ahead (block ++ under.left) under.are.wide in
      let wide_block : AreWide width block = wide-front width block under.left (wide-back width under.ahead (block ++ under.left) under.are.wide) in
      let here : 0 + length under.ahead ≡ from = omega (arith, under.long) in
      let text_is : text ≡ before ++ (inside ++ after) =
      under.are.text_is ∙ parts-append stem tail 0 under.ahead (block ++ under.left)
      ∙ ap (λ (n : ℕ). before ++ parts_text stem tail n (block ++ under.left)) here
      ∙ ap (λ (list : List ℕ). before ++ list) (parts-append stem tail from block under.left) in
      let first : get_or begins from 0 ≡ length before =
      omega (
        arith,
        begin-at stem tail width count _ text begins from under.are (omega (arith, under.ordered, within)),
        place-behind stem tail width 0 under.ahead wide_ahead,
        ap (part_place stem size) here,
      ) in
      let there : from + length block ≡ upto =
      omega (arith, length-map (between from upto items) value, length-between items from upto (omega (arith, within, enough)), under.ordered) in
      let last : get_or begins upto 0 - get_or begins from 0 ≡ length inside =
      omega (
        arith,
        begin-at stem tail width count _ text begins upto under.are within,
        begin-at stem tail width count _ text begins from under.are (omega (arith, under.ordered, within)),
        place-behind stem tail width from block wide_block,
        ap (part_place stem size) there,
      ) in
      let behind : drop (get_or begins from 0) text ≡ inside ++ after = ap (drop (get_or begins from 0)) text_is ∙ drop_at before (inside ++ after) (get_or begins from 0) (sym first) in
      ap (take (get_or begins upto 0 - get_or begins from 0)) behind ∙ take_at inside after (get_or begins upto 0 - get_or begins from 0) (sym last)

-- the bytes between two places, and then those up to a third one
pub between-joined : (i j k : ℕ) (xs : List ℕ) → i ≤ j → j ≤ k → between i j xs ++ between j k xs ≡ between i k xs
between-joined i j k xs low high =
    let n = j - i in
    let m = k - j in
    let zs = drop i xs in
    let width : n + m ≡ k - i = omega (arith, low, high) in
    let place : i + n ≡ j = omega (arith, low) in
    let parts : take n zs ++ take m (drop n zs) ≡ take (n + m) zs =
    ap (λ (front : List ℕ). front ++ take m (drop n zs)) (sym (take-take n (n + m) zs (omega arith)))
    ∙ ap (λ (back : List ℕ). take n (take (n + m) zs) ++ back) (sym (drop-take n m zs)) ∙ take-append-drop n (take (n + m) zs) in
    let behind : drop j xs ≡ drop n zs = ap (λ (place : ℕ). drop place xs) (sym place) ∙ sym (drop-drop n i xs) in
    ap (λ (back : List ℕ). take n zs ++ take m back) behind ∙ parts ∙ ap (λ (count : ℕ). take count zs) width
