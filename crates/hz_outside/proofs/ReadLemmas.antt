-- What a reader lost in one read and then in another.
use Rattle.std.proofs.Common.{◌≡◌, ◌∙◌, ℕ, ◌+◌, List, ◌++◌, Option, None, Some, take, drop, ap, sym, subst, arith, append_assoc, take-take, take-append-drop}
use Rattle.std.proofs.lemmas.List.{drop-take}
use Rattle.std.specs.Io.KnownBytes.{Consumes}

consumed-then : (a b c : Option (List ℕ)) (front back : List ℕ) → Consumes a b front → Consumes b c back → Consumes a c (front ++ back)
consumed-then None b c front back p q = tt
consumed-then (Some all) None c front back p q = absurd p
consumed-then (Some all) (Some left) None front back p q = absurd q
consumed-then (Some all) (Some left) (Some rest) front back p q = p ∙ ap (λ later. front ++ later) q ∙ sym (append_assoc front back rest)

-- what was read behind the first bytes stands behind them
pub read-more : (a b c : Option (List ℕ)) (old new : List ℕ) (filled count : ℕ) → take filled new ≡ take filled old → Consumes a b (take filled old) → Consumes b c (take count (drop filled new)) → Consumes a c (take (filled + count) new)
read-more a b c old new filled count front before read =
    let both = take (filled + count) new in
    let first : take filled both ≡ take filled old = take-take filled (filled + count) new (omega arith) ∙ front in
    let joined : take filled old ++ take count (drop filled new) ≡ both =
    ap (λ later. take filled old ++ later) (sym (drop-take filled count new)) ∙ ap (λ front. front ++ drop filled both) (sym first) ∙ take-append-drop filled both in
    subst (Consumes a c) joined (consumed-then a b c (take filled old) (take count (drop filled new)) before read)
