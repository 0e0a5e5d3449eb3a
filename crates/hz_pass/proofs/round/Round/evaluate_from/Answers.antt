use Rattle.std.proofs.Common.{◌≡◌, ◌<◌, ◌∙◌, ℕ, [], ◌∷◌, All, Some, length, subst, sym, ap, arith}
use Rattle.hz_net.specs.Network.{network_of, value_at, excitation3}
use Rattle.hz_net.specs.Reads.{readers_by, readers_of}
use Rattle.hz_net.proofs.Readers.{readers-inside}
use Rattle.hz_pass.proofs.WholeRounds.{readers-excited}
use Rattle.hz_pass.proofs.round.Round.evaluate_from.Goals as goal

pub evaluate-requires-clause-var : goal.evaluate-requires-clause-var
evaluate-requires-clause-var g c =
    let netlist = c.args.self.now.net.now in
    let readers : readers_of netlist c.args.source ≡ c.in-Wire.gate ∷ [] = ap (readers_by netlist c.args.source) (c.kind_of.ensures ∙ ap Some c.in-Wire.is) in
    subst (All (λ (reader : ℕ). reader < length (network_of netlist))) readers (readers-inside netlist c.requires.circuit c.args.source c.requires.source) 0 0 (omega arith)

pub evaluate_wires-requires : goal.evaluate_wires-requires
evaluate_wires-requires g c =
    let round = c.args.self.now in
    let netlist = round.net.now in
    let state = round.state.now in
    record {
      round = c.requires.round;
      inside = c.readers.ensures.inside;
      excited = subst (All (λ (reader : ℕ). value_at state c.args.source ≡ excitation3 (network_of netlist) round.input.now state reader)) (sym c.readers.ensures.readers)
          (readers-excited netlist c.requires.circuit round.input.now state c.args.source c.kind_of.result c.requires.source c.kind_of.ensures (λ gate pin from. c.in_default.not-Wire gate pin from));
      so_far = c.requires.so_far;
      room = c.requires.room;
    }
