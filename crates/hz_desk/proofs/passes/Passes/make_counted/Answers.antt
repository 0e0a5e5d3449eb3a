-- Algorithm B begins with the result of Algorithm A, which was copied.
use Rattle.std.proofs.Common.{◌≡◌, ◌∙◌, ap, sym, List, ℕ, subst, arith}
use Rattle.std.specs.Vec.{with_items}
use Rattle.std.proofs.lemmas.List.{with_items_is}
use Rattle.hz_core.specs.declared.tri.Tri.{Tri}
use Rattle.hz_net.specs.Network.{network_of}
use Rattle.hz_net.specs.Passes.{algorithm_a, algorithm_b, AreRanks, AreRounds, AreSettlingRounds}
use Rattle.hz_desk.proofs.BelowA.{below-result}
use Rattle.hz_desk.proofs.passes.Passes.make_counted.Goals as goal

pub settle-rounds_b-requires-clause-below : goal.settle-rounds_b-requires-clause-below
settle-rounds_b-requires-clause-below g c =
    below-result (network_of c.args.change.now.net.now) c.args.change.now.input.now c.args.change.now.start.now c.spread_stable-rounds_a.new.out c.copy_from_slice.new.self c.spread_stable-rounds_a.result
    c.requires.start.long c.spread_stable-rounds_a.ensures.rounds c.spread_stable-rounds_a.ensures.out c.copy_from_slice.ensures.after

pub returns-clause-passed : goal.returns-clause-passed
returns-clause-passed g c =
    let net = network_of c.args.change.now.net.now in
    let input = c.args.change.now.input.now in
    let same = c.copy_from_slice.ensures.after in
    let was = c.args.self.now in
    let ranks : List ℕ = c.spread_stable-rounds_a.new.rank in
    let when : List ℕ = c.settle-rounds_b.new.when in
    let ranks_are : (with_items was.ranks ranks).items ≡ ranks = with_items_is was.ranks ranks (omega (arith, c.spread_stable-rounds_a.auto.rank, c.as_mut_slice.ensures.len)) in
    let when_is : (with_items was.when when).items ≡ when = with_items_is was.when when (omega (arith, c.settle-rounds_b.auto.when, c.as_mut_slice-3.ensures.len)) in
    record {
      a_rounds = c.spread_stable-rounds_a.ensures.rounds;
      a_result = c.spread_stable-rounds_a.ensures.out;
      a_bound = c.spread_stable-rounds_a.ensures.bound;
      ranked = subst (AreRanks (algorithm_a net input c.args.change.now.start.now) c.spread_stable-rounds_a.new.out) (sym ranks_are) c.spread_stable-rounds_a.ensures.rank;
      b_rounds = subst (λ (values : List Tri). AreRounds (algorithm_b net input values) c.settle-rounds_b.result) same c.settle-rounds_b.ensures.rounds;
      b_result = c.settle-rounds_b.ensures.state ∙ ap (λ (values : List Tri). algorithm_b net input values c.settle-rounds_b.result) same;
      b_bound = c.settle-rounds_b.ensures.bound;
      settling = subst (AreSettlingRounds (algorithm_b net input c.spread_stable-rounds_a.new.out) c.spread_stable-rounds_a.new.out c.settle-rounds_b.new.state) (sym when_is)
          (subst (λ (values : List Tri). AreSettlingRounds (algorithm_b net input values) values c.settle-rounds_b.new.state when) same c.settle-rounds_b.ensures.when);
    }
