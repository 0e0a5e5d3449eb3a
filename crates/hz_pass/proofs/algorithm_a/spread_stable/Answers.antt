use Rattle.std.proofs.Common.{rules, List, sym, ap, subst, arith}
use Rattle.hz_core.specs.declared.tri.Tri.{Tri}
use Rattle.hz_core.specs.Netlist.{Netlist}
use Rattle.hz_net.specs.Network.{network_of}
use Rattle.hz_net.proofs.Places.{length-network_of}
use Rattle.hz_pass.specs.declared.round.Rule.TheVariants.{Join}
use Rattle.hz_pass.specs.Frontier.{IsMade}
use Rattle.hz_pass.proofs.PassResults.{rounds-a, result-a, ranks-a}
use Rattle.hz_pass.proofs.StableStarts.{stable-made}
use Rattle.hz_pass.proofs.algorithm_a.spread_stable.Goals as goal

pub make_rounds-requires-clause-pass : goal.make_rounds-requires-clause-pass
make_rounds-requires-clause-pass g c =
    let circuit = c.keeps_shape.ensures.circuit in
    let inputs = c.inputs-inputs.ensures.inputs in
    let same = ap (λ (n : Netlist). n.inputs) c.circuit.ensures.same in record {
      input = c.requires.input;
      state = search rules;
      falls = search rules;
      first = omega (arith, same, inputs, circuit.nodes, length-network_of c.args.net.now circuit);
      rest = λ i above inside.
          subst (λ (values : List Tri). IsMade Join (network_of c.args.net.now) c.args.input.now values values i) (sym c.write_bits.ensures)
          (stable-made c.args.net.now c.args.input.now c.args.start.now circuit c.requires.start i
          (omega (arith, same, inputs, above)) inside);
    }

pub returns-clause-rounds : goal.returns-clause-rounds
returns-clause-rounds g c =
    rounds-a (network_of c.args.net.now) c.args.input.now c.args.start.now c.write_bits.new.values c.make_rounds.result c.write_bits.ensures c.make_rounds.ensures.rounds

pub returns-clause-out : goal.returns-clause-out
returns-clause-out g c =
    result-a (network_of c.args.net.now) c.args.input.now c.args.start.now c.write_bits.new.values c.make_rounds.new.state c.make_rounds.result c.write_bits.ensures c.make_rounds.ensures.state

pub returns-clause-rank : goal.returns-clause-rank
returns-clause-rank g c =
    ranks-a (network_of c.args.net.now) c.args.input.now c.args.start.now c.requires.start.long c.write_bits.new.values c.make_rounds.new.state c.make_rounds.new.noted c.make_rounds.result c.write_bits.ensures c.make_rounds.ensures.state c.make_rounds.ensures.noted

pub returns-clause-most_steps : goal.returns-clause-most_steps
returns-clause-most_steps g c =
    let same = ap (λ (n : Netlist). n.inputs) c.circuit.ensures.same in
    omega (arith, same, c.inputs-inputs.ensures.inputs, c.make_rounds.ensures.most_steps)
