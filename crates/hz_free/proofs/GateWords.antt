-- The words of a gate's wires, gathered, and the word of the gate.
use Rattle.std.proofs.Common.{◌≡◌, ℕ, zero, suc, ◌+◌, ◌<◌, Bool, List, [], ◌∷◌, map, length, take, get_or, set, Option, Some, None, All, refl, sym, ap, ◌∙◌, subst, arith, add-one}
use Rattle.std.proofs.lemmas.List.Elements.{All-head, All-tail, All-cons, All-nil}
use Rattle.hz_core.specs.declared.kind.Kind.{Kind}
use Rattle.hz_word.specs.declared.word.Word.{Word}
use Rattle.hz_word.specs.Capped.{capped_word, IsWithinCap, IsFold}
use Rattle.hz_free.specs.CappedWords.{HasCountedWord, IsGateWord}

gather-step_suc : (k : ℕ) (pins : List Word) (wires : List (Option Word)) (word : Word) → k < length pins → length pins ≡ length wires → get_or wires k None ≡ Some word → map Some (take k pins) ≡ take k wires → map Some (take (suc k) (set pins k word)) ≡ take (suc k) wires
gather-step_suc k [] wires word few long here so_far = absurd (omega arith)
gather-step_suc k (pin ∷ pins) [] word few long here so_far = absurd (omega arith)
gather-step_suc zero (pin ∷ pins) (wire ∷ wires) word few long here so_far = ap (λ w. w ∷ []) (sym here)
gather-step_suc (suc k) (pin ∷ pins) (wire ∷ wires) word few long here so_far =
    let head : Some pin ≡ wire = cc in
    let tail : map Some (take k pins) ≡ take k wires = cc in
    let rest = gather-step_suc k pins wires word (omega arith) (omega arith) here tail in
    cc

pub gather-step : (k : ℕ) (pins : List Word) (wires : List (Option Word)) (word : Word) → k < length pins → length pins ≡ length wires → get_or wires k None ≡ Some word → map Some (take k pins) ≡ take k wires → map Some (take (k + 1) (set pins k word)) ≡ take (k + 1) wires
gather-step k pins wires word few long here so_far = rw add-one (gather-step_suc k pins wires word few long here so_far)

-- the words of the pins are those of the wires
same-some : (words : List Word) (others : List Word) → map Some words ≡ map Some others → words ≡ others
same-some [] [] e = refl
same-some [] (other ∷ others) e = cc
same-some (word ∷ words) [] e = cc
same-some (word ∷ words) (other ∷ others) e =
    let head : word ≡ other = cc in
    let tail : map Some words ≡ map Some others = cc in
    let rest = same-some words others tail in
    cc

map-some : (cap : ℕ) (words : List (List Bool)) → map (λ word. Some (capped_word cap word)) words ≡ map Some (map (capped_word cap) words)
map-some cap [] = refl
map-some cap (word ∷ words) = ap (λ rest. Some (capped_word cap word) ∷ rest) (map-some cap words)

pub IsGateWord-from_fold : (kind : Kind) (pins : List Word) (wires : List (Option Word)) (cap : ℕ) (outcome : Word) → map Some pins ≡ wires → IsFold kind pins cap outcome → IsGateWord kind wires cap outcome
IsGateWord-from_fold kind pins wires cap outcome gathered is_fold words are_words same =
    is_fold words are_words (same-some (map (capped_word cap) words) pins (sym (map-some cap words) ∙ (same ∙ sym gathered)))

pub counted-pins : (cap : ℕ) (pins : List Word) (wires : List (Option Word)) → map Some pins ≡ wires → All (HasCountedWord cap) wires → All (λ pin. IsWithinCap cap pin.changes) pins
counted-pins cap [] wires gathered counted = All-nil (λ (pin : Word). IsWithinCap cap pin.changes)
counted-pins cap (pin ∷ pins) [] gathered counted = cc
counted-pins cap (pin ∷ pins) (wire ∷ wires) gathered counted =
    let head : Some pin ≡ wire = cc in
    let tail : map Some pins ≡ wires = cc in
    All-cons (λ (pin : Word). IsWithinCap cap pin.changes) pin pins
    (subst (HasCountedWord cap) (sym head) (All-head (HasCountedWord cap) wire wires counted))
    (counted-pins cap pins wires tail (All-tail (HasCountedWord cap) wire wires counted))
