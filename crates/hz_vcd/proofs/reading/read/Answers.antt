-- The head, the state and the steps.
use Rattle.std.proofs.Common.{Bool, List, ℕ, [], length, refl, sym, ap, subst, arith}
use Rattle.hz_vcd.specs.Word.{words_of}
use Rattle.hz_vcd.specs.Dump.{variables_of}
use Rattle.hz_vcd.specs.FirstWrong.{MeansAlone, IsFaultOf}
use Rattle.hz_vcd.specs.Reading.{WordsLeft, Fails, Means, Goes, Values, Steps, StateRead, all_words, state_head}
use Rattle.hz_vcd.proofs.ReadingLaws.{past-past, past-fails, past-means, any-exit}
use Rattle.hz_vcd.proofs.HeadLaws.{all-goes}
use Rattle.hz_vcd.proofs.ValueLaws.{values-go}
use Rattle.hz_vcd.proofs.DumpLaws.{means-alone, fault-of, whole_dump}
use Rattle.hz_vcd.proofs.reading.read.Goals as goal

-- a state may come
state-goes : (variables : ℕ) → Goes (all_words state_head (Values variables 0 [])) []
state-goes variables = all-goes state_head (Values variables 0 []) (values-go variables 0 [] refl (omega arith))

pub returns-in_err-read_head : goal.returns-in_err-read_head
returns-in_err-read_head c =
    let netlist = c.args.net.now in
    let n = variables_of netlist in
    let text = words_of c.args.text.now in
    let why = c.in_err-read_head.field-0.0 in
    let was = c.new-words.result in
    let fails = c.in_err-read_head.ensures (all_words state_head (Values n 0 [])) (state-goes n) in
    let fault = fault-of netlist was why (ap (λ (w : WordsLeft). w.read) c.new-words.ensures) fails in
    any-exit why (MeansAlone netlist text) (IsFaultOf netlist text) c.from_residual.result c.from_residual.ensures.1
    (subst (λ (words : List (List ℕ)). IsFaultOf netlist words why) (ap (λ (w : WordsLeft). w.words) c.new-words.ensures) fault)

pub returns-in_err-state : goal.returns-in_err-state
returns-in_err-state c =
    let netlist = c.args.net.now in
    let n = variables_of netlist in
    let text = words_of c.args.text.now in
    let next = all_words state_head (Values n 0 []) in
    let why = c.in_err-state.field-0.0 in
    let was = c.new-words.result in
    let first = c.in_ok-read_head.ensures next (state-goes n) in
    let fails = subst (λ (m : ℕ). Fails (all_words state_head (Values m 0 [])) c.read_head.new.words why) c.len.ensures.len c.in_err-state.ensures in
    let fault = fault-of netlist was why (ap (λ (w : WordsLeft). w.read) c.new-words.ensures)
    (past-fails (whole_dump netlist) was next c.read_head.new.words why first fails) in
    any-exit why (MeansAlone netlist text) (IsFaultOf netlist text) c.from_residual-in_err-state.result c.from_residual-in_err-state.ensures.1
    (subst (λ (words : List (List ℕ)). IsFaultOf netlist words why) (ap (λ (w : WordsLeft). w.words) c.new-words.ensures) fault)

pub returns-in_err-run : goal.returns-in_err-run
returns-in_err-run c =
    let netlist = c.args.net.now in
    let n = variables_of netlist in
    let text = words_of c.args.text.now in
    let next = all_words state_head (Values n 0 []) in
    let state = c.in_ok-state.state.items in
    let why = c.in_err-run.field-0.0 in
    let was = c.new-words.result in
    let first = c.in_ok-read_head.ensures next (state-goes n) in
    let read = subst (λ (m : ℕ). StateRead m c.read_head.new.words c.read_state.new.words state) c.len.ensures.len c.in_ok-state.ensures in
    let second = past-past (whole_dump netlist) was next c.read_head.new.words (Steps n state) c.read_state.new.words first read.1 in
    let slice = subst (λ (s : List Bool). Fails (Steps (length s) s) c.read_state.new.words why) c.as_slice.ensures.value c.in_err-run.ensures in
    let fails = subst (λ (m : ℕ). Fails (Steps m state) c.read_state.new.words why) read.0 slice in
    let fault = fault-of netlist was why (ap (λ (w : WordsLeft). w.read) c.new-words.ensures)
    (past-fails (whole_dump netlist) was (Steps n state) c.read_state.new.words why second fails) in
    any-exit why (MeansAlone netlist text) (IsFaultOf netlist text) c.from_residual-in_err-run.result c.from_residual-in_err-run.ensures.1
    (subst (λ (words : List (List ℕ)). IsFaultOf netlist words why) (ap (λ (w : WordsLeft). w.words) c.new-words.ensures) fault)

pub returns : goal.returns
returns c =
    let netlist = c.args.net.now in
    let n = variables_of netlist in
    let next = all_words state_head (Values n 0 []) in
    let state = c.in_ok-state.state.items in
    let steps = c.in_ok-run.run'.steps in
    let was = c.new-words.result in
    let wave = c.of.result in
    let first = c.in_ok-read_head.ensures next (state-goes n) in
    let read = subst (λ (m : ℕ). StateRead m c.read_head.new.words c.read_state.new.words state) c.len.ensures.len c.in_ok-state.ensures in
    let second = past-past (whole_dump netlist) was next c.read_head.new.words (Steps n state) c.read_state.new.words first read.1 in
    let slice = subst (λ (s : List Bool). Means (Steps (length s) s) c.read_state.new.words s steps) c.as_slice.ensures.value c.in_ok-run.ensures in
    let means = past-means (whole_dump netlist) was (Steps n state) c.read_state.new.words state steps second
    (subst (λ (m : ℕ). Means (Steps m state) c.read_state.new.words state steps) read.0 slice) in
    let whole = subst (λ (s : List Bool). Means (whole_dump netlist) was s wave.steps) (sym c.of.ensures.state)
    (subst (λ (r : List (List ℕ)). Means (whole_dump netlist) was state r) (sym c.of.ensures.steps) means) in
    subst (λ (words : List (List ℕ)). MeansAlone netlist words wave) (ap (λ (w : WordsLeft). w.words) c.new-words.ensures) (means-alone netlist was wave whole)
