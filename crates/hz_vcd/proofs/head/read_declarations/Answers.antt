-- One declaration after the other.
use Rattle.std.proofs.Common.{◌≡◌, ◌∙◌, ◌+◌, ◌-◌, ◌<◌, ℕ, List, sym, ap, subst, arith}
use Rattle.std.specs.List.{flat_map, range_with_len}
use Rattle.hz_vcd.specs.Word.{words_of}
use Rattle.hz_vcd.specs.Dump.{variables_of, declaration_of}
use Rattle.hz_vcd.specs.Reading.{Ending, Past, all_words}
use Rattle.hz_vcd.proofs.ReadingLaws.{past-none, past-past, past-fails, reads-exit}
use Rattle.hz_vcd.proofs.HeadLaws.{declarations, declaration-is, all-goes, all_words-append, range-next}
use Rattle.hz_vcd.proofs.head.read_declarations.Goals as goal

pub loop-var-init : goal.loop-var-init
loop-var-init c = λ next goes.
    let netlist = c.args.net.now in
    let whole = all_words (declarations netlist) next in
    let all : variables_of netlist ≡ variables_of netlist - 0 = omega arith in
    subst (λ (n : ℕ). Past whole c.args.words.now (all_words (flat_map (declaration_of netlist) (range_with_len 0 n)) next) c.args.words.now) all
    (past-none whole c.args.words.now)

pub returns-in_err-expect_all : goal.returns-in_err-expect_all
returns-in_err-expect_all c = λ next goes.
    let netlist = c.args.net.now in
    let var = c.loop-var.var in
    let there : var < variables_of netlist = omega (arith, c.len-var-end.ensures.len) in
    let whole = all_words (declarations netlist) next in
    let later = flat_map (declaration_of netlist) (range_with_len (var + 1) (variables_of netlist - (var + 1))) in
    let rest = all_words later next in
    let text = c.as_slice.ensures.value ∙ c.in_ok-line.ensures in
    let is = ap words_of text ∙ declaration-is netlist var c.len-var-end.ensures.circuit there in
    let same : all_words (flat_map (declaration_of netlist) (range_with_len var (variables_of netlist - var))) next ≡ all_words (words_of c.as_slice.result.now) rest =
    ap (λ (vars : List ℕ). all_words (flat_map (declaration_of netlist) vars) next) (range-next var (variables_of netlist) there)
    ∙ all_words-append (declaration_of netlist var) later next ∙ ap (λ (words : List (List ℕ)). all_words words rest) (sym is) in
    let why = c.in_err-expect_all.field-0.0 in
    reads-exit why whole c.args.words.now next c.expect_all.new.words c.from_residual-in_err-expect_all.result c.from_residual-in_err-expect_all.ensures.1
    (past-fails whole c.args.words.now (all_words (words_of c.as_slice.result.now) rest) c.loop-var.words why
    (subst (λ (ending : Ending). Past whole c.args.words.now ending c.loop-var.words) same (c.loop-var.invariant next goes))
    (c.in_err-expect_all.ensures rest (all-goes later next goes)))

pub loop-var-preserved : goal.loop-var-preserved
loop-var-preserved c = λ next goes.
    let netlist = c.args.net.now in
    let var = c.loop-var.var in
    let there : var < variables_of netlist = omega (arith, c.len-var-end.ensures.len) in
    let whole = all_words (declarations netlist) next in
    let later = flat_map (declaration_of netlist) (range_with_len (var + 1) (variables_of netlist - (var + 1))) in
    let rest = all_words later next in
    let text = c.as_slice.ensures.value ∙ c.in_ok-line.ensures in
    let is = ap words_of text ∙ declaration-is netlist var c.len-var-end.ensures.circuit there in
    let same : all_words (flat_map (declaration_of netlist) (range_with_len var (variables_of netlist - var))) next ≡ all_words (words_of c.as_slice.result.now) rest =
    ap (λ (vars : List ℕ). all_words (flat_map (declaration_of netlist) vars) next) (range-next var (variables_of netlist) there)
    ∙ all_words-append (declaration_of netlist var) later next ∙ ap (λ (words : List (List ℕ)). all_words words rest) (sym is) in
    past-past whole c.args.words.now (all_words (words_of c.as_slice.result.now) rest) c.loop-var.words rest c.expect_all.new.words
    (subst (λ (ending : Ending). Past whole c.args.words.now ending c.loop-var.words) same (c.loop-var.invariant next goes))
    (c.in_ok-expect_all.ensures rest (all-goes later next goes))

pub returns : goal.returns
returns c = λ next goes.
    let netlist = c.args.net.now in
    let none : variables_of netlist - c.loop-var.var ≡ 0 = omega (arith, c.len-var-end.ensures.len) in
    subst (λ (n : ℕ). Past (all_words (declarations netlist) next) c.args.words.now (all_words (flat_map (declaration_of netlist) (range_with_len c.loop-var.var n)) next) c.loop-var.words) none
    (c.loop-var.invariant next goes)
