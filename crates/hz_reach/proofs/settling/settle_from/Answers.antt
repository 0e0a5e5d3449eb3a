-- The rounds begin where the run so far ends, the pass where they end; the three are the settle run.
use Rattle.std.proofs.Common.{◌≡◌, ◌∙◌, ◌++◌, append_assoc, ℕ, Bool, List, length, sym, ap, subst, arith}
use Rattle.hz_reach.proofs.Words.{length-Refines, network_of, end_of, length-end_of}
use Rattle.hz_reach.proofs.Room.{spends-more}
use Rattle.hz_reach.specs.Cycles.{IsSettleRun}
use Rattle.hz_reach.proofs.ChangeResults.{of-both, change-fixed, fixed-and-ranked}
use Rattle.hz_reach.proofs.SettleRunExists.{spent-so-far, before-pass, round-ranked, rounds-may-begin, rounds-room, pass-may-begin, pass-room, settle-found, settle-end}
use Rattle.hz_reach.proofs.settling.settle_from.Goals as goal

pub settle_rounds-requires : goal.settle_rounds-requires
settle_rounds-requires c =
    let change = of-both c.keeps_shape.ensures.circuit c.requires.change in
    let begins = c.requires.change.of_a.begins in
    let state = sym (ap (length {A = Bool}) c.requires.state ∙ (length-end_of c.args.change.now.start.now c.args.run.now.steps ∙ begins.long)) in
    let room = rounds-room c.requires.begun (record { flips = c.requires.room_for_flips; steps = c.requires.room_for_steps }) in
    record {
      when = c.requires.change.settling.long ∙ (change.turns.long_a ∙ state);
      b = (change-fixed change).long ∙ state;
      none_marked = c.requires.none_marked;
      among = λ i some. (c.requires.sorted.keyed i).1 (round-ranked change c.requires.change.settling i some);
      rounds = (network_of c.args.change.now.net.now, c.args.change.now.input.now, c.args.results.now.a.now, rounds-may-begin change c.requires.change.settling c.requires.begun c.requires.state);
      room = record { flips = omega (arith, room.flips, c.requires.change.settling.long, change.turns.long_a); steps = omega (arith, room.steps, c.requires.change.settling.long, change.turns.long_a) };
    }

pub make_pass-requires : goal.make_pass-requires
make_pass-requires c =
    let change = of-both c.keeps_shape.ensures.circuit c.requires.change in
    let before = before-pass c.requires.change.of_a.begins change c.requires.change.settling c.requires.begun c.requires.state (c.settle_rounds.ensures.rounds.settling _ _ _) in
    record {
      given = fixed-and-ranked change;
      begins = pass-may-begin before;
      scratch = record { long = length-Refines c.settle_rounds.new.scratch.state c.args.results.now.b.now before.settling.values ∙ (change-fixed change).long; none_marked = c.settle_rounds.ensures.marked };
      sorted = rw c.settle_rounds.ensures.sorted c.requires.sorted;
      room = pass-room before c.settle_rounds.ensures.rounds.whole (spends-more (spent-so-far c.args.run.now) c.settle_rounds.ensures.room)
          (record { flips = c.requires.room_for_flips; steps = c.requires.room_for_steps });
    }

pub returns : goal.returns
returns c =
    let change = of-both c.keeps_shape.ensures.circuit c.requires.change in
    let rounds = c.settle_rounds.ensures.rounds in
    let before = before-pass c.requires.change.of_a.begins change c.requires.change.settling c.requires.begun c.requires.state (rounds.settling _ _ _) in
    let passed = c.make_pass.ensures.pass in
    let pass = passed.pass c.args.change.now.input.now (change-fixed change) in
    let whole : c.make_pass.new.run.steps ≡ (c.args.run.now.steps ++ rounds.made) ++ passed.made =
    passed.whole ∙ ap (λ (list : List (List ℕ)). list ++ passed.made) rounds.whole in
    record {
      run = subst (IsSettleRun (network_of c.args.change.now.net.now) c.args.change.now.input.now c.args.change.now.start.now c.args.results.now.a.now c.args.results.now.b.now) (sym whole) (settle-found before pass);
      turned = pass.turned;
      state = settle-end before pass ∙ ap (end_of c.args.change.now.start.now) (sym whole);
      marked = c.make_pass.ensures.marked;
      sorted = c.make_pass.ensures.sorted;
      goes_on = (rounds.made ++ passed.made, whole ∙ append_assoc c.args.run.now.steps rounds.made passed.made);
      room = spends-more c.settle_rounds.ensures.room c.make_pass.ensures.room;
    }
