-- The turns fit, and the run is added if its last state is stable.
use Rattle.std.proofs.Common.{◌≡◌, ◌∙◌, ◌*◌, Bool, length, sym, ap}
use Rattle.hz_split.proofs.Words.{network_of, turns_from, flips_alone}
use Rattle.hz_gmw.proofs.CoverB.{length-end_of}
use Rattle.hz_split.proofs.FoundLemmas.{few-turns}
use Rattle.hz_split.proofs.split.attempt.Goals as goal

pub add-requires-clause-room : goal.add-requires-clause-room
add-requires-clause-room c =
    let net = network_of c.args.trial.now.circuit in
    let turns : c.turns.result.now ≡ turns_from net c.args.finding.now.input c.args.pick (2 * length net) c.args.here.now =
    c.turns.ensures ∙ rw c.as_slice.ensures at c.make.ensures.turns in
    rw (c.requires.variables, turns)
    (record {
      inside = c.requires.room.inside;
      few_fronts = c.requires.room.few_fronts;
      settle_flips = c.requires.room.settle_flips;
      settle_steps = c.requires.room.settle_steps;
      cycle_flips = c.requires.room.cycle_flips;
      few_turns = few-turns net c.args.finding.now.input c.args.pick (2 * length net) c.args.here.now;
    })

pub add-requires-clause-state : goal.add-requires-clause-state
add-requires-clause-state c =
    ap (length {A = Bool}) (c.state.ensures ∙ c.make.ensures.ends)
    ∙ (length-end_of c.args.here.now (flips_alone c.make.new.self.turns) ∙ (c.requires.here ∙ sym c.requires.variables))
