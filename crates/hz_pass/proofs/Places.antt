-- Lists of ternary values, place by place.
use Rattle.std.proofs.Common.{◌≡◌, ℕ, ◌<◌, Bool, List, length, map, sym, ◌∙◌, arith}
use Rattle.std.proofs.lemmas.List.{ext_get_or, length-map}
use Rattle.hz_core.specs.declared.tri.Tri.{Tri}
use Rattle.hz_core.specs.declared.tri.Tri.TheVariants.{Zero}
use Rattle.hz_core.specs.Ternary.{tri_of}
use Rattle.hz_net.specs.Network.{value_at, bit_at}
use Rattle.hz_net.proofs.Ranks.{at-tri_of}

-- lists of one length with the same value at each place are equal
pub same-values : (xs ys : List Tri) → length xs ≡ length ys → ((k : ℕ) → k < length xs → value_at xs k ≡ value_at ys k) → xs ≡ ys
same-values xs ys long each = ext_get_or Zero xs ys long each

-- a list with the known bit at each place
pub are-known : (bits : List Bool) (values : List Tri) → length values ≡ length bits → ((k : ℕ) → k < length bits → value_at values k ≡ tri_of (bit_at bits k)) → values ≡ map tri_of bits
are-known bits values long each =
    same-values values (map tri_of bits) (long ∙ sym (length-map bits tri_of)) (λ k few. each k (omega (arith, few, long)) ∙ sym (at-tri_of bits k))
