-- Algorithm B begins with the result of Algorithm A, which was copied.
use Rattle.std.proofs.Common.{◌≡◌, ◌∙◌, sym, ap, List, ℕ, subst, arith}
use Rattle.std.specs.Vec.{with_items}
use Rattle.std.proofs.lemmas.List.{with_items_is}
use Rattle.hz_core.specs.declared.tri.Tri.{Tri}
use Rattle.hz_net.specs.Network.{network_of}
use Rattle.hz_net.specs.Passes.{excitations, algorithm_a, algorithm_b, AreRanks, AreRounds, AreSettlingRounds}
use Rattle.hz_net.proofs.Sequences.{AllBelow-closed, closed-result}
use Rattle.hz_core.specs.Ternary.{AllBelow}
use Rattle.hz_run_tests.proofs.passes.make_passes.Goals as goal

pub settle-rounds_b-requires-clause-below : goal.settle-rounds_b-requires-clause-below
settle-rounds_b-requires-clause-below g c =
    let net = network_of c.args.change.now.net.now in
    let input = c.args.change.now.input.now in
    let result = algorithm_a net input c.args.change.now.start.now c.spread-rounds_a.result in
    subst (λ (values : List Tri). AllBelow (excitations net input values) values) (sym (c.copy_from_slice.ensures.after ∙ c.spread-rounds_a.ensures.out))
    (AllBelow-closed net input result (closed-result net input c.args.change.now.start.now c.spread-rounds_a.result c.requires.start.long c.spread-rounds_a.ensures.rounds))

pub returns : goal.returns
returns g c =
    let net = network_of c.args.change.now.net.now in
    let input = c.args.change.now.input.now in
    let same = c.copy_from_slice.ensures.after in
    let was = c.args.room.now in
    let ranks : List ℕ = c.spread-rounds_a.new.rank in
    let when : List ℕ = c.settle-rounds_b.new.when in
    let ranks_are : (with_items was.ranks ranks).items ≡ ranks = with_items_is was.ranks ranks (omega (arith, c.spread-rounds_a.auto.rank, c.as_mut_slice.ensures.len)) in
    let when_is : (with_items was.when when).items ≡ when = with_items_is was.when when (omega (arith, c.settle-rounds_b.auto.when, c.as_mut_slice-3.ensures.len)) in
    record {
      of_a = record {
        begins = c.requires.start;
        input_long = c.requires.input;
        a_result = (c.spread-rounds_a.result, c.spread-rounds_a.ensures.rounds, c.spread-rounds_a.ensures.out);
        ranked = subst (AreRanks (algorithm_a net input c.args.change.now.start.now) c.spread-rounds_a.new.out) (sym ranks_are) c.spread-rounds_a.ensures.rank;
      };
      b_result = (
        c.settle-rounds_b.result,
        subst (λ (values : List Tri). AreRounds (algorithm_b net input values) c.settle-rounds_b.result) same c.settle-rounds_b.ensures.rounds,
        c.settle-rounds_b.ensures.state ∙ ap (λ (values : List Tri). algorithm_b net input values c.settle-rounds_b.result) same,
      );
      settling = subst (AreSettlingRounds (algorithm_b net input c.spread-rounds_a.new.out) c.spread-rounds_a.new.out c.settle-rounds_b.new.state) (sym when_is)
          (subst (λ (values : List Tri). AreSettlingRounds (algorithm_b net input values) values c.settle-rounds_b.new.state when) same c.settle-rounds_b.ensures.when);
    }
