use Rattle.std.proofs.Common.{ℕ, List, subst, Option, Some, arith}
use Rattle.std.specs.Borrow.{Bor}
use Rattle.hz_bench.specs.Entry.{numbered_line}
use Rattle.hz_bench.proofs.ParseLemmas.{IsParsing, IsParsing-begin, IsParsing-roomier, IsParsing-statement, variables_fit}
use Rattle.hz_bench.proofs.parse.parse.Goals as goal

pub loop-left-init : goal.loop-left-init
loop-left-init c = IsParsing-begin c.args.text c.new-statements.result c.new-statements.ensures

pub add-requires-clause-variables : goal.add-requires-clause-variables
add-requires-clause-variables c =
    let was = subst (λ (left : Option (Bor (List ℕ))). IsParsing c.args.text.now c.loop-left.statements c.loop-left.line left) c.in-Some.is c.loop-left.invariant in
    let one = numbered_line c.in-Some-statement_of.statement in
    let fits = variables_fit c.args.text.now c.loop-left.statements one.statement c.loop-left.line c.split_line-cut.result.line.now c.split_line-cut.result.rest c.in-Some.rest was c.split_line-cut.ensures.within c.in-Some-statement_of.ensures.meant.1 in
    omega (arith, fits, c.requires)

pub loop-left-preserved-in-Ok-add : goal.loop-left-preserved-in-Ok-add
loop-left-preserved-in-Ok-add c =
    let was = subst (λ (left : Option (Bor (List ℕ))). IsParsing c.args.text.now c.loop-left.statements c.loop-left.line left) c.in-Some.is c.loop-left.invariant in
    let read = c.in-Some-statement_of.ensures.meant in
    let roomy = record c.loop-left.statements { names = c.make_room.new.self } in
    IsParsing-statement c.args.text.now roomy (numbered_line c.in-Some-statement_of.statement) c.add.new.self c.loop-left.line c.split_line-cut.result.line.now c.split_line-cut.result.rest c.in-Some.rest
    (IsParsing-roomier c.args.text.now c.loop-left.statements c.make_room.new.self c.loop-left.line (Some c.in-Some.rest) c.make_room.ensures was)
    c.split_line-cut.ensures.lines c.split_line-cut.ensures.within read.0 read.1 c.in-Ok-add.ensures
