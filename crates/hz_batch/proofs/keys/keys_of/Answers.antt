use Rattle.std.proofs.Common.{◌≡◌, ◌%◌, ℕ, List, [], ◌∷◌, get_or, refl, arith}
use Rattle.hz_batch.specs.Keys.{SaysBoth}
use Rattle.hz_batch.proofs.KeyLemmas.{each_of_four}
use Rattle.hz_batch.proofs.keys.keys_of.Goals as goal

pub returns : goal.returns
returns c lane inside =
    let keys : List (List ℕ) = c.keys_at.result ∷ c.keys_at-2.result ∷ c.keys_at-3.result ∷ c.keys_at-4.result ∷ [] in
    each_of_four (λ (k : ℕ). lane % 4 ≡ k → SaysBoth c.args.first.now c.args.second.now (get_or keys k []) lane)
    (c.keys_at.ensures lane inside) (c.keys_at-2.ensures lane inside) (c.keys_at-3.ensures lane inside) (c.keys_at-4.ensures lane inside) (lane % 4) (omega arith) refl
