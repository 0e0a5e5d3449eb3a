-- What a start lists, entry by entry.
use Rattle.std.proofs.Common.{◌≡◌, ◌∙◌, ℕ, ◌+◌, ◌<◌, ◌≤◌, Bool, false, List, [], ◌∷◌, ◌++◌, Option, Some, None, suc, length, get_or, map, take, ap, sym, arith}
use Rattle.std.specs.List.{flat_map, All}
use Rattle.std.proofs.lemmas.List.{take_more, append-nil, length-take-le, length-map, map-append}
use Rattle.std.proofs.lemmas.List.Concat.{flat_map-append}
use Rattle.std.proofs.lemmas.List.Elements.{All-nil, All-cons}
use Rattle.hz_text.specs.Printed.{listed_from, all_listed}

listed-within : (node bound : ℕ) (start : List (Option Bool)) → node + length start ≤ bound → All (λ pair. pair.0 < bound) (listed_from node start)
listed-within node bound [] h = All-nil (λ (pair : ℕ × Bool). pair.0 < bound)
listed-within node bound (None ∷ later) h = listed-within (suc node) bound later (omega (arith, h))
listed-within node bound (Some bit ∷ later) h = All-cons (λ (pair : ℕ × Bool). pair.0 < bound) (node, bit) _ (omega (arith, h)) (listed-within (suc node) bound later (omega (arith, h)))

-- what a start lists are nodes
pub listed-below : (start : List (Option Bool)) → All (λ pair. pair.0 < length start) (listed_from 0 start)
listed-below start = listed-within 0 (length start) start (omega arith)

listed_from-append : (node : ℕ) (xs ys : List (Option Bool)) → listed_from node (xs ++ ys) ≡ listed_from node xs ++ listed_from (node + length xs) ys
listed_from-append node [] ys = let same : node ≡ node + 0 = omega arith in ap (λ (n : ℕ). listed_from n ys) same
listed_from-append node (None ∷ xs) ys =
    let same : suc node + length xs ≡ node + suc (length xs) = omega arith in
    listed_from-append (suc node) xs ys ∙ ap (λ (n : ℕ). listed_from (suc node) xs ++ listed_from n ys) same
listed_from-append node (Some bit ∷ xs) ys =
    let same : suc node + length xs ≡ node + suc (length xs) = omega arith in
    ap (λ (rest : List (ℕ × Bool)). (node, bit) ∷ rest) (listed_from-append (suc node) xs ys ∙ ap (λ (n : ℕ). listed_from (suc node) xs ++ listed_from n ys) same)

-- one entry more of a start
listed_more : (start : List (Option Bool)) (i : ℕ) (entry : Option Bool) → i < length start → get_or start i None ≡ entry
    → listed_from 0 (take (i + 1) start) ≡ listed_from 0 (take i start) ++ listed_from i (entry ∷ [])
listed_more start i entry within is =
    let number : 0 + length (take i start) ≡ i = omega (arith, length-take-le i start (omega arith)) in
    ap (listed_from 0) (take_more start i None within) ∙ listed_from-append 0 (take i start) (get_or start i None ∷ [])
    ∙ ap (λ (n : ℕ). listed_from 0 (take i start) ++ listed_from n (get_or start i None ∷ [])) number
    ∙ ap (λ (last : Option Bool). listed_from 0 (take i start) ++ listed_from i (last ∷ [])) is

module _ (text_of : ℕ × Bool → List ℕ) where
  -- the texts of the entries so far, and that of one more that lists its node
  pub listed_some : (start : List (Option Bool)) (i : ℕ) (bit : Bool) → i < length start → get_or start i None ≡ Some bit
      → flat_map text_of (listed_from 0 (take i start)) ++ text_of (i, bit) ≡ flat_map text_of (listed_from 0 (take (i + 1) start))
  listed_some start i bit within is =
      sym (ap (flat_map text_of) (listed_more start i (Some bit) within is)
      ∙ flat_map-append text_of (listed_from 0 (take i start)) ((i, bit) ∷ [])
      ∙ ap (λ (text : List ℕ). flat_map text_of (listed_from 0 (take i start)) ++ text) (append-nil (text_of (i, bit))))

  -- and of one more that lists none
  pub listed_none : (start : List (Option Bool)) (i : ℕ) → i < length start → get_or start i None ≡ None
      → flat_map text_of (listed_from 0 (take i start)) ≡ flat_map text_of (listed_from 0 (take (i + 1) start))
  listed_none start i within is =
      sym (ap (flat_map text_of) (listed_more start i None within is ∙ append-nil (listed_from 0 (take i start))))

  -- the texts of the bits so far, and that of one more
  pub listed_bit : (bits : List Bool) (i : ℕ) → i < length bits
      → flat_map text_of (all_listed (take i bits)) ++ text_of (i, get_or bits i false) ≡ flat_map text_of (all_listed (take (i + 1) bits))
  listed_bit bits i below =
      let number : 0 + length (map Some (take i bits)) ≡ i = omega (arith, length-map (take i bits) (λ bit. Some bit), length-take-le i bits (omega arith)) in
      let more : all_listed (take (i + 1) bits) ≡ all_listed (take i bits) ++ (i, get_or bits i false) ∷ [] =
      ap all_listed (take_more bits i false below) ∙ ap (listed_from 0) (map-append (λ bit. Some bit) (take i bits) (get_or bits i false ∷ []))
      ∙ listed_from-append 0 (map Some (take i bits)) (Some (get_or bits i false) ∷ [])
      ∙ ap (λ (n : ℕ). all_listed (take i bits) ++ listed_from n (Some (get_or bits i false) ∷ [])) number in
      sym (ap (flat_map text_of) more ∙ flat_map-append text_of (all_listed (take i bits)) ((i, get_or bits i false) ∷ [])
      ∙ ap (λ (text : List ℕ). flat_map text_of (all_listed (take i bits)) ++ text) (append-nil (text_of (i, get_or bits i false))))
