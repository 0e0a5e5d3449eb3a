-- One command after the other.
use Rattle.std.proofs.Common.{sym, subst}
use Rattle.hz_vcd.specs.Reading.{Ending, Reads, all_words}
use Rattle.hz_vcd.proofs.ReadingLaws.{past-past, past-fails, past-reads, reads-exit}
use Rattle.hz_vcd.proofs.HeadLaws.{declarations, after_unit, after_scope, after_up, after_head, head-is, up-goes, head-goes, scope-goes, declarations-go}
use Rattle.hz_vcd.proofs.head.read_head.Goals as goal

pub returns-in_err-expect_command : goal.returns-in_err-expect_command
returns-in_err-expect_command c = λ next goes.
    let netlist = c.args.net.now in
    let two = after_scope (all_words (declarations netlist) (after_up (after_head next))) in
    let why = c.in_err-expect_command.field-0.0 in
    subst (λ (ending : Ending). Reads ending c.args.words.now next c.expect_command.new.words c.from_residual.result) (sym (head-is netlist next))
    (reads-exit why (after_unit two) c.args.words.now next c.expect_command.new.words c.from_residual.result c.from_residual.ensures.1
    (c.in_err-expect_command.ensures two (scope-goes netlist next goes)))

pub returns-in_err-expect_command-2 : goal.returns-in_err-expect_command-2
returns-in_err-expect_command-2 c = λ next goes.
    let netlist = c.args.net.now in
    let three = all_words (declarations netlist) (after_up (after_head next)) in
    let two = after_scope three in
    let why = c.in_err-expect_command-2.field-0.0 in
    let first = c.in_ok-expect_command.ensures two (scope-goes netlist next goes) in
    subst (λ (ending : Ending). Reads ending c.args.words.now next c.expect_command-2.new.words c.from_residual-in_err-expect_command-2.result) (sym (head-is netlist next))
    (reads-exit why (after_unit two) c.args.words.now next c.expect_command-2.new.words c.from_residual-in_err-expect_command-2.result c.from_residual-in_err-expect_command-2.ensures.1
    (past-fails (after_unit two) c.args.words.now two c.expect_command.new.words why first (c.in_err-expect_command-2.ensures three (declarations-go netlist next goes))))

pub returns-in_err-read_declarations : goal.returns-in_err-read_declarations
returns-in_err-read_declarations c = λ next goes.
    let netlist = c.args.net.now in
    let four = after_up (after_head next) in
    let three = all_words (declarations netlist) four in
    let two = after_scope three in
    let why = c.in_err-read_declarations.field-0.0 in
    let first = c.in_ok-expect_command.ensures two (scope-goes netlist next goes) in
    let second = past-past (after_unit two) c.args.words.now two c.expect_command.new.words three c.expect_command-2.new.words first (c.in_ok-expect_command-2.ensures three (declarations-go netlist next goes)) in
    subst (λ (ending : Ending). Reads ending c.args.words.now next c.read_declarations.new.words c.from_residual-in_err-read_declarations.result) (sym (head-is netlist next))
    (reads-exit why (after_unit two) c.args.words.now next c.read_declarations.new.words c.from_residual-in_err-read_declarations.result c.from_residual-in_err-read_declarations.ensures.1
    (past-fails (after_unit two) c.args.words.now three c.expect_command-2.new.words why second (c.in_err-read_declarations.ensures four (up-goes next goes))))

pub returns-in_err-expect_command-3 : goal.returns-in_err-expect_command-3
returns-in_err-expect_command-3 c = λ next goes.
    let netlist = c.args.net.now in
    let five = after_head next in
    let four = after_up five in
    let three = all_words (declarations netlist) four in
    let two = after_scope three in
    let why = c.in_err-expect_command-3.field-0.0 in
    let first = c.in_ok-expect_command.ensures two (scope-goes netlist next goes) in
    let second = past-past (after_unit two) c.args.words.now two c.expect_command.new.words three c.expect_command-2.new.words first (c.in_ok-expect_command-2.ensures three (declarations-go netlist next goes)) in
    let third = past-past (after_unit two) c.args.words.now three c.expect_command-2.new.words four c.read_declarations.new.words second (c.in_ok-read_declarations.ensures four (up-goes next goes)) in
    subst (λ (ending : Ending). Reads ending c.args.words.now next c.expect_command-3.new.words c.from_residual-in_err-expect_command-3.result) (sym (head-is netlist next))
    (reads-exit why (after_unit two) c.args.words.now next c.expect_command-3.new.words c.from_residual-in_err-expect_command-3.result c.from_residual-in_err-expect_command-3.ensures.1
    (past-fails (after_unit two) c.args.words.now four c.read_declarations.new.words why third (c.in_err-expect_command-3.ensures five (head-goes next goes))))

pub returns : goal.returns
returns c = λ next goes.
    let netlist = c.args.net.now in
    let five = after_head next in
    let four = after_up five in
    let three = all_words (declarations netlist) four in
    let two = after_scope three in
    let first = c.in_ok-expect_command.ensures two (scope-goes netlist next goes) in
    let second = past-past (after_unit two) c.args.words.now two c.expect_command.new.words three c.expect_command-2.new.words first (c.in_ok-expect_command-2.ensures three (declarations-go netlist next goes)) in
    let third = past-past (after_unit two) c.args.words.now three c.expect_command-2.new.words four c.read_declarations.new.words second (c.in_ok-read_declarations.ensures four (up-goes next goes)) in
    let fourth = past-past (after_unit two) c.args.words.now four c.read_declarations.new.words five c.expect_command-3.new.words third (c.in_ok-expect_command-3.ensures five (head-goes next goes)) in
    subst (λ (ending : Ending). Reads ending c.args.words.now next c.expect_command-4.new.words c.expect_command-4.result) (sym (head-is netlist next))
    (past-reads (after_unit two) c.args.words.now five c.expect_command-3.new.words next c.expect_command-4.new.words c.expect_command-4.result fourth (c.expect_command-4.ensures next goes))
