-- Entries as statements, and with their lines.
use Rattle.std.proofs.Common.{◌≡◌, ℕ, List, Some, refl}
use Rattle.hz_bench.specs.declared.entry.Entry.{Entry}
use Rattle.hz_bench.specs.declared.forms.Form.{Form}
use Rattle.hz_bench.specs.declared.forms.Form.TheVariants as form
use Rattle.hz_bench.specs.Entry.{statement_of_entry}
use Rattle.hz_bench.specs.Form.{form_of, statement_with}
use Rattle.hz_bench.specs.Statement.{defined_name}

-- a statement has the name and the form that it is made with
form_of-statement_with : (name : List ℕ) (made : Form) (part : List ℕ) → Some made ≡ form_of (statement_with name made part)
form_of-statement_with name form.Input part = refl
form_of-statement_with name form.FlipFlop part = refl
form_of-statement_with name (form.Gate kind) part = refl

-- so an entry has those of its statement
pub entry-formed : (entry : Entry) → Some entry.form ≡ form_of (statement_of_entry entry)
entry-formed entry = form_of-statement_with entry.name.now entry.form entry.sources.now

-- and defines its name
defined_name-statement_with : (name : List ℕ) (made : Form) (part : List ℕ) → defined_name (statement_with name made part) ≡ Some name
defined_name-statement_with name form.Input part = refl
defined_name-statement_with name form.FlipFlop part = refl
defined_name-statement_with name (form.Gate kind) part = refl

pub entry-defines : (entry : Entry) → defined_name (statement_of_entry entry) ≡ Some entry.name.now
entry-defines entry = defined_name-statement_with entry.name.now entry.form entry.sources.now
