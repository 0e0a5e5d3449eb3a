-- Lists of pairs: one more pair.
use Rattle.std.proofs.Common.{◌≡◌, ◌+◌, ◌-◌, ℕ, List, [], ◌∷◌, ◌++◌, length, get_or, refl, sym, ap, ◌∙◌, subst, arith, inl, inr}
use Rattle.std.proofs.lemmas.Bool.{cases_lt}
use Rattle.std.proofs.lemmas.List.{length-append, get_or_append_left, get_or-append_right}
use Rattle.hz_plane.specs.declared.pair.Pair.{Pair}
use Rattle.hz_plane.specs.Bits.{ArePlanes}
use Rattle.hz_plane.specs.Pairs.{no_pair}
use Rattle.hz_plane.specs.Steps.{AreAllPlanes}

pub one-more-pair : (planes : List Pair) (pair : Pair) → AreAllPlanes planes → ArePlanes pair → AreAllPlanes (planes ++ pair ∷ [])
one-more-pair planes pair are is = record {
  each = λ node inside. elim (cases_lt node (length planes)) [
    | inl before ↦ subst ArePlanes (sym (get_or_append_left planes (pair ∷ []) no_pair node before)) (are.each node before)
    | inr past ↦ (
        let none : node - length planes ≡ 0 = omega (arith, inside, length-append planes (pair ∷ [])) in
        subst ArePlanes (sym (get_or-append_right planes (pair ∷ []) (length planes) node no_pair refl past ∙ ap (λ (k : ℕ). get_or (pair ∷ []) k no_pair) none)) is
        )
  ];
}

pub pushed-planes : (planes planes' : List Pair) (pair : Pair) → planes' ≡ planes ++ pair ∷ [] → AreAllPlanes planes → ArePlanes pair → AreAllPlanes planes'
pushed-planes planes planes' pair made are is = subst AreAllPlanes (sym made) (one-more-pair planes pair are is)

pub pushed-count : (planes planes' : List Pair) (pair : Pair) (count : ℕ) → planes' ≡ planes ++ pair ∷ [] → length planes ≡ count → length planes' ≡ count + 1
pushed-count planes planes' pair count made long = omega (arith, ap (length {A = Pair}) made, length-append planes (pair ∷ []), long)
