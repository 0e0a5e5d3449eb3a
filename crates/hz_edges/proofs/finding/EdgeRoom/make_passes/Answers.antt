-- The passes leave their results in the room.
use Rattle.std.proofs.Common.{◌≡◌, List, ℕ, sym, subst, arith}
use Rattle.std.specs.Vec.{with_items}
use Rattle.std.proofs.lemmas.List.{with_items_is}
use Rattle.hz_core.specs.declared.tri.Tri.{Tri}
use Rattle.hz_reach.specs.Cycles.{AreResultsOfBoth}
use Rattle.hz_edges.proofs.finding.EdgeRoom.make_passes.Goals as goal

pub returns-clause-results : goal.returns-clause-results
returns-clause-results c =
    let change = c.args.change.now in
    let netlist = change.net.now in
    let a : List Tri = c.make.new.a in
    let b : List Tri = c.make.new.b in
    let a_is : (with_items c.args.self.now.a a).items ≡ a = with_items_is c.args.self.now.a a (omega (arith, c.make.auto.a, c.as_mut_slice.ensures.len)) in
    let b_is : (with_items c.args.self.now.b b).items ≡ b = with_items_is c.args.self.now.b b (omega (arith, c.make.auto.b, c.as_mut_slice-2.ensures.len)) in
    let passed = c.make.ensures.passed in
    let ranks : List ℕ = c.make.new.self.ranks.items in
    let when : List ℕ = c.make.new.self.when.items in
    let both : AreResultsOfBoth netlist change.start.now change.input.now a ranks b when = record {
      of_a = record {
        begins = c.requires.start;
        input_long = c.requires.input;
        a_result = (c.make.result.a, passed.a_rounds, passed.a_result);
        ranked = passed.ranked;
      };
      b_result = (c.make.result.b, passed.b_rounds, passed.b_result);
      settling = passed.settling;
    } in
    subst (λ (values : List Tri). AreResultsOfBoth netlist change.start.now change.input.now values ranks (with_items c.args.self.now.b b).items when) (sym a_is)
    (subst (λ (values : List Tri). AreResultsOfBoth netlist change.start.now change.input.now a ranks values when) (sym b_is) both)
