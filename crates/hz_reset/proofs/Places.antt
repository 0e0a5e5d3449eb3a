-- A list that has the values of a function, place by place.
use Rattle.std.proofs.Common.{◌≡◌, ℕ, ◌<◌, List, length, map, sym, ◌∙◌, arith}
use Rattle.std.specs.List.{range_with_len}
use Rattle.std.proofs.lemmas.List.FromFn.{length-map-range_with_len, get_or-map-range_with_len}
use Rattle.hz_core.specs.declared.tri.Tri.{Tri}
use Rattle.hz_core.specs.declared.tri.Tri.TheVariants.{Zero}
use Rattle.hz_net.specs.Network.{value_at}
use Rattle.hz_pass.proofs.Places.{same-values}

pub are-values : (value : ℕ → Tri) (values : List Tri) (count : ℕ) → length values ≡ count → ((k : ℕ) → k < count → value_at values k ≡ value k) → values ≡ map value (range_with_len 0 count)
are-values value values count long each =
    same-values values (map value (range_with_len 0 count)) (long ∙ sym (length-map-range_with_len value 0 count))
    (λ k few.
    let inside : k < count = omega (arith, few, long) in
    each k inside ∙ sym (get_or-map-range_with_len value 0 count k k Zero inside (omega arith)))
