-- The second pass leads back to the state in which the first began.
use Rattle.std.proofs.Common.{◌≡◌, ◌∙◌, [], ◌++◌, ℕ, List, sym, ap, subst, arith}
use Rattle.hz_reach.proofs.Words.{length-Refines, network_of, wired-network_of, nil_from_length}
use Rattle.hz_reach.specs.Cycles.{IsCycleOf}
use Rattle.hz_reach.proofs.ChangeResults.{of-change, change-fixed, fixed-and-ranked}
use Rattle.hz_reach.proofs.CycleExists.{stays, cycle-found, cycle-rests, returned, room-twice, room-again}
use Rattle.hz_reach.proofs.TurnedStates.{turned-may-begin}
use Rattle.hz_reach.proofs.cycling.cycle_in_order.Goals as goal

pub make_pass-requires : goal.make_pass-requires
make_pass-requires c =
    let change = of-change c.requires.change c.keeps_shape.ensures.circuit in
    record {
      given = fixed-and-ranked change;
      begins = turned-may-begin c.requires.turned;
      scratch = record { long = length-Refines c.args.scratch.now.state c.args.b.now c.requires.turned.settled ∙ (change-fixed change).long; none_marked = c.requires.none_marked };
      sorted = c.requires.sorted;
      room = room-twice (network_of c.args.net.now) c.args.rank.now c.args.b.now c.args.scratch.now.state c.args.run.now
          (record { flips = omega (arith, c.requires.run.flips); steps = omega (arith, c.requires.run.steps) });
    }

pub make_pass-requires-2 : goal.make_pass-requires-2
make_pass-requires-2 c =
    let change = of-change c.requires.change c.keeps_shape.ensures.circuit in
    let once = c.make_pass.ensures.pass.pass c.args.input.now (change-fixed change) in
    record {
      given = fixed-and-ranked change;
      begins = turned-may-begin once.turned;
      scratch = record { long = length-Refines c.make_pass.new.scratch.state c.args.b.now once.turned.settled ∙ (change-fixed change).long; none_marked = c.make_pass.ensures.marked };
      sorted = c.make_pass.ensures.sorted;
      room = room-again once c.make_pass.ensures.pass.whole c.make_pass.ensures.room (record { flips = c.requires.run.flips; steps = c.requires.run.steps });
    }

pub returns-clause-cycle : goal.returns-clause-cycle
returns-clause-cycle c =
    let fixed = change-fixed (of-change c.requires.change c.keeps_shape.ensures.circuit) in
    let once = c.make_pass.ensures.pass in
    let again = c.make_pass-2.ensures.pass in
    let whole : c.make_pass-2.new.run.steps ≡ once.made ++ again.made =
    again.whole ∙ ap (λ (list : List (List ℕ)). list ++ again.made) (once.whole ∙ ap (λ (list : List (List ℕ)). list ++ once.made) c.requires.run.empty) in
    subst (IsCycleOf (network_of c.args.net.now) c.args.input.now c.args.b.now c.args.scratch.now.state) (sym whole)
    (cycle-found (wired-network_of c.args.net.now c.keeps_shape.ensures.circuit) fixed c.requires.turned (once.pass c.args.input.now fixed) (again.pass c.args.input.now fixed))

pub returns-clause-state : goal.returns-clause-state
returns-clause-state c =
    let fixed = change-fixed (of-change c.requires.change c.keeps_shape.ensures.circuit) in
    returned (wired-network_of c.args.net.now c.keeps_shape.ensures.circuit) fixed c.requires.turned
    (c.make_pass.ensures.pass.pass c.args.input.now fixed) (c.make_pass-2.ensures.pass.pass c.args.input.now fixed)

-- If the first pass has no step, it is the second one too.
pub returns-then-steps-eq0-clause-cycle : goal.returns-then-steps-eq0-clause-cycle
returns-then-steps-eq0-clause-cycle c =
    let fixed = change-fixed (of-change c.requires.change c.keeps_shape.ensures.circuit) in
    let once = c.make_pass.ensures.pass in
    let pass = once.pass c.args.input.now fixed in
    let empty : c.make_pass.new.run.steps ≡ [] = nil_from_length c.make_pass.new.run.steps (sym c.steps.ensures ∙ c.if-steps-eq0.true) in
    let none : once.made ≡ [] = ap (λ (list : List (List ℕ)). list ++ once.made) (sym c.requires.run.empty) ∙ (sym once.whole ∙ empty) in
    cycle-rests c.make_pass.new.run.steps (wired-network_of c.args.net.now c.keeps_shape.ensures.circuit) fixed c.requires.turned pass none empty

pub returns-then-steps-eq0-clause-state : goal.returns-then-steps-eq0-clause-state
returns-then-steps-eq0-clause-state c =
    let fixed = change-fixed (of-change c.requires.change c.keeps_shape.ensures.circuit) in
    let once = c.make_pass.ensures.pass in
    let empty : c.make_pass.new.run.steps ≡ [] = nil_from_length c.make_pass.new.run.steps (sym c.steps.ensures ∙ c.if-steps-eq0.true) in
    let none : once.made ≡ [] = ap (λ (list : List (List ℕ)). list ++ once.made) (sym c.requires.run.empty) ∙ (sym once.whole ∙ empty) in
    stays (once.pass c.args.input.now fixed) none
