-- Parts of a list by their elements, and a list that is cut into parts: one part more, and the part with a number.
use Rattle.std.proofs.Common.{◌≡◌, ◌∙◌, sym, ap, refl, Some, zero, suc, ℕ, ◌+◌, ◌-◌, ◌<◌, ◌≤◌, List, [], ◌∷◌, ◌++◌, length, get_or, take, drop, arith}
use Rattle.std.specs.List.{slice_range}
use Rattle.std.specs.Prelude.{sum_by, slice_get}
use Rattle.std.proofs.lemmas.List.{take-append-le, drop-append-le, drop_at, take_all, ext_get_or, get_or-take, get_or-drop, length-drop, length-take}
use Rattle.std.proofs.lemmas.List.Sums.{sum_by-cons}
use Rattle.hz_lists.specs.Parts.{parts_from, EndsAt, part_start}

-- a part of a list has as many elements as its places, if all of these are in the list
pub length-part :
    {X : Type 0} (list : List X) (first count : ℕ) → ((k : ℕ) → k < count → first + k < length list) →
    length (slice_range list first (first + count)) ≡ count
length-part list first zero inside = omega (arith, length-take (first + 0 - first) (drop first list))
length-part list first (suc k) inside =
    omega (arith, inside k (omega arith), length-take (first + suc k - first) (drop first list), length-drop first list)

-- its elements stand as many places on
pub at-part :
    {X : Type 0} (list : List X) (first count k : ℕ) (none : X) → k < count →
    get_or (slice_range list first (first + count)) k none ≡ get_or list (first + k) none
at-part list first count k none less =
    get_or-take (first + count - first) (drop first list) k none (omega (arith, less)) ∙ get_or-drop first list k none

-- lists of one length with the same elements in a part have the same part
pub same-parts :
    {X : Type 0} (none : X) (left right : List X) (first count : ℕ) → length left ≡ length right →
    ((k : ℕ) → k < count → get_or left (first + k) none ≡ get_or right (first + k) none) →
    slice_range left first (first + count) ≡ slice_range right first (first + count)
same-parts none left right first count long each =
    let whole = length-take (first + count - first) (drop first left) in
    ext_get_or none (slice_range left first (first + count)) (slice_range right first (first + count))
    (omega (arith, long, whole, length-take (first + count - first) (drop first right), length-drop first left, length-drop first right))
    (λ k few.
    let less : k < count = omega (arith, few, whole) in
    at-part left first count k none less ∙ each k less ∙ sym (at-part right first count k none less))

-- where the parts end at a place, they begin no later
pub EndsAt-within : (start : ℕ) (ends : List ℕ) (last : ℕ) → EndsAt start ends last → start ≤ last
EndsAt-within start [] last cut = omega (arith, cut)
EndsAt-within start (end ∷ ends) last cut = omega (arith, cut.0, EndsAt-within end ends last cut.1)

pub EndsAt-push : (start : ℕ) (ends : List ℕ) (last more : ℕ) → EndsAt start ends last → last ≤ more → EndsAt start (ends ++ more ∷ []) more
EndsAt-push start [] last more cut longer = (omega (arith, cut, longer), refl)
EndsAt-push start (end ∷ ends) last more cut longer = (cut.0, EndsAt-push end ends last more cut.1 longer)

-- a part of a list is the same in a longer list
pub slice_range-longer :
    {X : Type 0} (list more : List X) (from to : ℕ) → from ≤ to → to ≤ length list → slice_range (list ++ more) from to ≡ slice_range list from to
slice_range-longer list more from to ordered within =
    ap (take (to - from)) (drop-append-le from list more (omega arith)) ∙
    take-append-le (to - from) (drop from list) more (omega (arith, length-drop from list))

-- what stands after a list
pub slice_range-after : {X : Type 0} (list more : List X) (start : ℕ) → start ≡ length list → slice_range (list ++ more) start (length list + length more) ≡ more
slice_range-after list more start here =
    ap (take (length list + length more - start)) (drop_at list more start (sym here)) ∙
    take_all (length list + length more - start) more (omega (arith, here))

-- one part more
pub parts_from-push :
    {X : Type 0} (start : ℕ) (ends : List ℕ) (list more : List X) → EndsAt start ends (length list) →
    parts_from start (ends ++ (length list + length more) ∷ []) (list ++ more) ≡ parts_from start ends list ++ more ∷ []
parts_from-push start [] list more cut = ap (λ part. part ∷ []) (slice_range-after list more start cut)
parts_from-push start (end ∷ ends) list more cut =
    ap (λ part. part ∷ parts_from end (ends ++ (length list + length more) ∷ []) (list ++ more))
    (slice_range-longer list more start end cut.0 (EndsAt-within end ends (length list) cut.1)) ∙
    ap (λ parts. slice_range list start end ∷ parts) (parts_from-push end ends list more cut.1)

-- there are as many parts as ends
pub length-parts_from : {X : Type 0} (start : ℕ) (ends : List ℕ) (list : List X) → length (parts_from start ends list) ≡ length ends
length-parts_from start [] list = refl
length-parts_from start (end ∷ ends) list = ap suc (length-parts_from end ends list)

-- the parts have together what the list has from the start on
pub sum_by-parts_from :
    {X : Type 0} (start : ℕ) (ends : List ℕ) (list : List X) → EndsAt start ends (length list) → start + sum_by length (parts_from start ends list) ≡ length list
sum_by-parts_from start [] list cut = omega (arith, cut)
sum_by-parts_from start (end ∷ ends) list cut =
    let within = EndsAt-within end ends (length list) cut.1 in
    omega (
      arith,
      sum_by-cons length (slice_range list start end) (parts_from end ends list),
      sum_by-parts_from end ends list cut.1,
      length-take (end - start) (drop start list),
      length-drop start list,
      within,
      cut.0,
    )

-- what stands in a list from a place up to another
pub record IsPart {X : Type 0} (list part : List X) (begin end : ℕ) : Type 0 where
  pub ordered : begin ≤ end
  pub inside : end ≤ length list
  pub same : slice_range list begin end ≡ part

-- the part with a number
pub is_part :
    {X : Type 0} (start : ℕ) (ends : List ℕ) (list : List X) (number : ℕ) → EndsAt start ends (length list) → number < length ends →
    IsPart list (get_or (parts_from start ends list) number []) (part_start start ends number) (get_or ends number 0)
is_part start [] list number cut within = absurd (omega (arith, within))
is_part start (end ∷ ends) list zero cut within = record { ordered = cut.0; inside = EndsAt-within end ends (length list) cut.1; same = refl }
is_part start (end ∷ ends) list (suc number) cut within = is_part end ends list number cut.1 (omega (arith, within))

-- the part with a number
pub slice_get-parts : {X : Type 0} (start : ℕ) (ends : List ℕ) (items : List X) (k : ℕ) → k < length ends → slice_get (parts_from start ends items) k ≡ Some (slice_range items (get_or (start ∷ ends) k 0) (get_or ends k 0))
slice_get-parts start [] items k h = absurd (omega arith)
slice_get-parts start (end ∷ ends) items zero h = refl
slice_get-parts start (end ∷ ends) items (suc k) h = slice_get-parts end ends items k (omega arith)
