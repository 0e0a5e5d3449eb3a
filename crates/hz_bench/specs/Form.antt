-- What the form of an entry says of its statement.
use Rattle.std.specs.Prelude.{ℕ, Bool, false, not, ◌==◌, is_some, List, Option, Some, None, if◌then◌else◌}
use Rattle.hz_bench.specs.declared.forms.Form.{Form}
use Rattle.hz_bench.specs.declared.forms.Form.TheVariants as form
use Rattle.hz_bench.specs.Statement.{Statement, Input, Output, FlipFlop, Gate, kind_named, is_flip_flop, refuses_pin_count, words_in}

-- the form of a flip-flop or a gate, by the word in the kind's place
abbrev pub form_named : List ℕ → Form
form_named word = if is_flip_flop word then form.FlipFlop else form.Gate (kind_named word)

-- the form of the node that a statement defines, if it defines one
abbrev pub form_of : Statement → Option Form
form_of (Input name) = Some form.Input
form_of (Output name) = None
form_of (FlipFlop name sources) = Some form.FlipFlop
form_of (Gate name kind sources) = Some (form.Gate kind)

-- the statement of this form, with this name; a flip-flop or a gate reads the words of the part of its line where they begin
abbrev pub statement_with : List ℕ → Form → List ℕ → Statement
statement_with name form.Input part = Input name
statement_with name form.FlipFlop part = FlipFlop name (words_in part)
statement_with name (form.Gate kind) part = Gate name kind (words_in part)

-- the word in the kind's place names no kind
abbrev pub names_no_kind : Form → Bool
names_no_kind form.Input = false
names_no_kind form.FlipFlop = false
names_no_kind (form.Gate kind) = not (is_some kind)

-- so many names are wrong
abbrev pub refuses_pins : Form → ℕ → Bool
refuses_pins form.Input pins = false
refuses_pins form.FlipFlop pins = not (pins == 1)
refuses_pins (form.Gate kind) pins = refuses_pin_count kind pins
