-- Lists that are laid into one: one list more.
use Rattle.std.proofs.Common.{◌≡◌, ◌∙◌, ℕ, ◌+◌, ◌<◌, List, [], ◌∷◌, ◌++◌, length, map, take, get_or, sym, subst, ap, arith}
use Rattle.std.proofs.lemmas.List.{length-append, take_more, map_push}
use Rattle.smallvec.specs.SmallVec.{SmallVec}
use Rattle.hz_lists.specs.Parts.{parts_from, EndsAt}
use Rattle.hz_lists.proofs.PartLemmas.{EndsAt-push, parts_from-push}

pub record AreLaid (ends numbers : List ℕ) (lists : List (List ℕ)) : Type 0 where
  pub cut : EndsAt 0 ends (length numbers)
  pub parts : parts_from 0 ends numbers ≡ lists

laid-push : (ends numbers part : List ℕ) (lists : List (List ℕ)) → AreLaid ends numbers lists → AreLaid (ends ++ length (numbers ++ part) ∷ []) (numbers ++ part) (lists ++ part ∷ [])
laid-push ends numbers part lists are =
    let long : length (numbers ++ part) ≡ length numbers + length part = length-append numbers part in
    record {
      cut = EndsAt-push 0 ends (length numbers) (length (numbers ++ part)) are.cut (omega (arith, long));
      parts = ap (λ (n : ℕ). parts_from 0 (ends ++ n ∷ []) (numbers ++ part)) long ∙
          (parts_from-push 0 ends numbers part are.cut ∙ ap (λ (all : List (List ℕ)). all ++ part ∷ []) are.parts);
    }

-- the next list goes last
pub laid-step :
    (ends numbers ends' numbers' part : List ℕ) (last k : ℕ) (lists : List (SmallVec ℕ)) (list : SmallVec ℕ) →
    AreLaid ends numbers (map (λ (list : SmallVec ℕ). list.items) (take k lists)) → k < length lists → list ≡ get_or lists k list →
    part ≡ list.items → numbers' ≡ numbers ++ part → ends' ≡ ends ++ last ∷ [] → last ≡ length numbers' →
    AreLaid ends' numbers' (map (λ (list : SmallVec ℕ). list.items) (take (k + 1) lists))
laid-step ends numbers ends' numbers' part last k lists list are within read is grown pushed end =
    let items : SmallVec ℕ → List ℕ = λ list. list.items in
    let same_ends : ends' ≡ ends ++ length (numbers ++ part) ∷ [] = pushed ∙ ap (λ m. ends ++ m ∷ []) (end ∙ ap length grown) in
    let same_parts : map items (take (k + 1) lists) ≡ map items (take k lists) ++ part ∷ [] =
    ap (map items) (take_more lists k list within) ∙ map_push items (take k lists) (get_or lists k list) ∙
    ap (λ x. map items (take k lists) ++ x ∷ []) (ap items (sym read) ∙ sym is) in
    subst (λ e. AreLaid e numbers' (map items (take (k + 1) lists))) (sym same_ends)
    (subst (λ n. AreLaid (ends ++ length (numbers ++ part) ∷ []) n (map items (take (k + 1) lists))) (sym grown)
    (subst (AreLaid (ends ++ length (numbers ++ part) ∷ []) (numbers ++ part)) (sym same_parts)
    (laid-push ends numbers part (map items (take k lists)) are)))
