-- The words before the bits, the bits, and the word behind them.
use Rattle.std.proofs.Common.{List, [], ℕ, refl, subst, arith}
use Rattle.hz_vcd.specs.Dump.{end_word}
use Rattle.hz_vcd.specs.Reading.{Past, Fails, Word, Values, Steps, all_words, state_head, StateRead}
use Rattle.hz_vcd.proofs.ReadingLaws.{past-past, past-fails, match-exit}
use Rattle.hz_vcd.proofs.ValueLaws.{values-go, values-done, steps-go, head-words}
use Rattle.hz_vcd.proofs.reading.read_state.Goals as goal

pub returns-in_err-expect_all : goal.returns-in_err-expect_all
returns-in_err-expect_all c =
    let variables = c.args.variables in
    let whole = all_words state_head (Values variables 0 []) in
    let why = c.in_err-expect_all.field-0.0 in
    match-exit why whole c.args.words.now (λ state. StateRead variables c.args.words.now c.expect_all.new.words state.items) c.from_residual.result c.from_residual.ensures.1
    (subst (λ (words : List (List ℕ)). Fails (all_words words (Values variables 0 [])) c.args.words.now why) head-words
    (c.in_err-expect_all.ensures (Values variables 0 []) (values-go variables 0 [] refl (omega arith))))

pub returns-in_err-state : goal.returns-in_err-state
returns-in_err-state c =
    let variables = c.args.variables in
    let whole = all_words state_head (Values variables 0 []) in
    let why = c.in_err-state.field-0.0 in
    let first = subst (λ (words : List (List ℕ)). Past (all_words words (Values variables 0 [])) c.args.words.now (Values variables 0 []) c.expect_all.new.words) head-words
    (c.in_ok-expect_all.ensures (Values variables 0 []) (values-go variables 0 [] refl (omega arith))) in
    match-exit why whole c.args.words.now (λ state. StateRead variables c.args.words.now c.read_values.new.words state.items) c.from_residual-in_err-state.result c.from_residual-in_err-state.ensures.1
    (past-fails whole c.args.words.now (Values variables 0 []) c.expect_all.new.words why first c.in_err-state.ensures)

pub returns-in_err-expect : goal.returns-in_err-expect
returns-in_err-expect c =
    let variables = c.args.variables in
    let whole = all_words state_head (Values variables 0 []) in
    let known = c.in_ok-state.state.items in
    let why = c.in_err-expect.field-0.0 in
    let first = subst (λ (words : List (List ℕ)). Past (all_words words (Values variables 0 [])) c.args.words.now (Values variables 0 []) c.expect_all.new.words) head-words
    (c.in_ok-expect_all.ensures (Values variables 0 []) (values-go variables 0 [] refl (omega arith))) in
    let second = past-past whole c.args.words.now (Values variables 0 []) c.expect_all.new.words (Values variables variables known) c.read_values.new.words first c.in_ok-state.ensures.1 in
    let third = past-past whole c.args.words.now (Values variables variables known) c.read_values.new.words (Word end_word (Steps variables known)) c.read_values.new.words second
    (values-done variables known c.read_values.new.words c.in_ok-state.ensures.0) in
    match-exit why whole c.args.words.now (λ state. StateRead variables c.args.words.now c.expect.new.words state.items) c.from_residual-in_err-expect.result c.from_residual-in_err-expect.ensures.1
    (past-fails whole c.args.words.now (Word end_word (Steps variables known)) c.read_values.new.words why third
    (c.in_err-expect.ensures (Steps variables known) (steps-go variables known)))

pub returns : goal.returns
returns c =
    let variables = c.args.variables in
    let whole = all_words state_head (Values variables 0 []) in
    let known = c.in_ok-state.state.items in
    let first = subst (λ (words : List (List ℕ)). Past (all_words words (Values variables 0 [])) c.args.words.now (Values variables 0 []) c.expect_all.new.words) head-words
    (c.in_ok-expect_all.ensures (Values variables 0 []) (values-go variables 0 [] refl (omega arith))) in
    let second = past-past whole c.args.words.now (Values variables 0 []) c.expect_all.new.words (Values variables variables known) c.read_values.new.words first c.in_ok-state.ensures.1 in
    let third = past-past whole c.args.words.now (Values variables variables known) c.read_values.new.words (Word end_word (Steps variables known)) c.read_values.new.words second
    (values-done variables known c.read_values.new.words c.in_ok-state.ensures.0) in (
      c.in_ok-state.ensures.0,
      past-past whole c.args.words.now (Word end_word (Steps variables known)) c.read_values.new.words (Steps variables known) c.expect.new.words third
          (c.in_ok-expect.ensures (Steps variables known) (steps-go variables known)),
    )
