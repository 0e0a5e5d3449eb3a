-- Without a change in the script, each input alone is a burst.
use Rattle.std.proofs.Common.{◌≡◌, ◌∙◌, sym, ap, ℕ, ◌+◌, ◌-◌, ◌<◌, Bool, List, [], ◌∷◌, take, drop, slice_get, Some, length, arith}
use Rattle.hz_explore.proofs.Words.{length-map, each_alone, bursts_in}
use Rattle.hz_explore.proofs.BurstLemmas.{no-changes, one-alone}
use Rattle.hz_explore.proofs.bursts.Bursts.get.Goals as goal

pub returns-then-changes-eq0 : goal.returns-then-changes-eq0
returns-then-changes-eq0 c =
    let n = c.args.number in
    let alone = c.args.self.now.alone.items in
    let none : bursts_in c.args.self.now ≡ each_alone alone = no-changes c.args.self.now.script.now.changes (each_alone alone) (omega (arith, c.changes.ensures.changes, c.if-changes-eq0.true)) in
    let few : n < length alone = omega (arith, c.requires, ap (length {A = List (ℕ × Bool)}) none, length-map alone (λ (pair : ℕ × Bool). pair ∷ [])) in
    ap (λ (list : List (List (ℕ × Bool))). slice_get list n) none
    ∙ (one-alone alone n few ∙ ap (λ (pairs : List (ℕ × Bool)). Some (take ((n + 1) - n) (drop n pairs))) (sym c.deref.ensures.value))
