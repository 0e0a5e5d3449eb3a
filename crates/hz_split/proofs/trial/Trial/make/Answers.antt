-- The turns of an attempt.
use Rattle.std.proofs.Common.{◌∙◌, ◌∷◌, ◌*◌, ◌+◌, [], ℕ, Bool, length, sym, ap, arith, rules}
use Rattle.hz_split.proofs.Words.{network_of, length-state_after}
use Rattle.std.specs.Option.{is_none}
use Rattle.std.proofs.lemmas.List.{length-append}
use Rattle.hz_gmw.specs.Follower.{FollowerOf}
use Rattle.hz_split.specs.Trials.{TrialOf}
use Rattle.hz_split.proofs.AttemptLemmas.{tried-more, tried-stopped, picked-inside, picked-settled, none-from}
use Rattle.hz_split.proofs.trial.Trial.make.Goals as goal

pub returns-in_default-clause-turns : goal.returns-in_default-clause-turns
returns-in_default-clause-turns c =
    let so_far = c.loop-turn.invariant in
    let net = network_of c.args.self.now.circuit in
    let walk = c.loop-turn.self-inside.walk in
    tried-stopped net c.args.input.now c.args.state.now c.args.pick (2 * length net) c.loop-turn.self-inside.turns.items walk.state so_far.6
    (rw (so_far.1, so_far.2) at (sym c.picked.ensures ∙ c.in_default.is))

pub returns-in_default-clause-settled : goal.returns-in_default-clause-settled
returns-in_default-clause-settled c =
    let so_far = c.loop-turn.invariant in
    let net = network_of c.args.self.now.circuit in
    let walk = c.loop-turn.self-inside.walk in
    ap (is_none {T = ℕ}) (sym (rw (so_far.1, so_far.2) at (sym c.picked.ensures ∙ c.in_default.is))) ∙ picked-settled net c.args.input.now walk.state c.args.pick

pub flip-requires : goal.flip-requires
flip-requires c =
    let walk = c.loop-turn.self-inside.walk in
    picked-inside (network_of walk.circuit) walk.input walk.state c.args.pick c.in-Some.var (sym c.picked.ensures ∙ c.in-Some.is)

pub loop-turn-preserved : goal.loop-turn-preserved
loop-turn-preserved c =
    let so_far = c.loop-turn.invariant in
    let net = network_of c.args.self.now.circuit in
    let walk = c.loop-turn.self-inside.walk in
    let turns = c.loop-turn.self-inside.turns.items in
    let var = c.in-Some.var in
    let next = ap (λ (w : FollowerOf). w.state) c.flip.ensures in (
      so_far.0,
      ap (λ (w : FollowerOf). w.circuit) c.flip.ensures ∙ so_far.1,
      ap (λ (w : FollowerOf). w.input) c.flip.ensures ∙ so_far.2,
      ap (length {A = Bool}) next ∙ (length-state_after (var ∷ []) walk.state ∙ so_far.3),
      omega (arith, so_far.4, c.push_reserved.ensures.capacity),
      ap (length {A = ℕ}) c.push_reserved.ensures.items ∙ (length-append turns (var ∷ []) ∙ ap (λ (n : ℕ). n + 1) so_far.5),
      rw (c.push_reserved.ensures.items, next)
          (tried-more net c.args.input.now c.args.state.now c.args.pick (2 * length net) turns walk.state so_far.6 var
          (omega (arith, so_far.5, c.loop-turn-test.true, c.len-most.ensures.len, ap (λ (t : TrialOf). length (network_of t.circuit)) c.self.view_is))
          (rw (so_far.1, so_far.2) at (sym c.picked.ensures ∙ c.in-Some.is))),
    )

pub returns-clause-settled : goal.returns-clause-settled
returns-clause-settled c =
    let so_far = c.loop-turn.invariant in
    let net = network_of c.args.self.now.circuit in
    let walk = c.loop-turn.self-inside.walk in
    none-from c.picked-2.result c.is_none.result (search rules) ∙ (ap (is_none {T = ℕ}) (rw (so_far.1, so_far.2) at c.picked-2.ensures) ∙ picked-settled net c.args.input.now walk.state c.args.pick)
