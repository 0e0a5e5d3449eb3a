-- What one more argument makes of a command.
use Rattle.std.proofs.Common.{◌≡◌, ◌∙◌, ◌&&◌, Bool, true, false, not, is_some, ap, ap₂, refl, sym, true≢false}
use Rattle.clap.specs.Words.{AddsArg, App, Rule, app_of, rule_of, with_rule}
use Rattle.clap.specs.Walk.{is_empty, is_simple_arg}
use Rattle.clap.specs.declared.builder.arg.Arg.{Arg}
use Rattle.clap.specs.declared.builder.command.Command.{Command}

not_global : (global : Bool) → not global ≡ true → global ≡ false
not_global true e = sym e
not_global false e = refl

rest : (first others : Bool) → (first && others) ≡ true → others ≡ true
rest true others e = e
rest false others e = absurd (true≢false (sym e))

-- an argument with a simple rule is of its command alone
pub simple-local : (arg : Arg) → is_simple_arg arg ≡ true → arg.global ≡ false
simple-local arg simple =
    let no_override = rest (is_empty arg.overrides.items) _ simple in
    let no_condition = rest (is_empty arg.default_vals_ifs.items) _ no_override in
    let no_group = rest (is_empty arg.groups.items) _ no_condition in
    let no_delimiter = rest (not (is_some arg.val_delim)) _ no_group in
    let no_terminator = rest (not (is_some arg.terminator)) _ no_delimiter in
    let no_hyphens = rest (not arg.allow_hyphen_values) _ no_terminator in
    let no_numbers = rest (not arg.allow_negative_numbers) _ no_hyphens in
    let no_equals = rest (not arg.require_equals) _ no_numbers in
    not_global arg.global (rest (not arg.last) _ no_equals)

-- the command with one more argument
pub added : (old new : Command) (arg : Arg) (app : App) (rule : Rule) → AddsArg old arg new → app_of old ≡ app → rule_of arg ≡ rule
    → rule.is_simple ≡ true → app_of new ≡ with_rule app rule
added old new arg app rule adds old_is rule_is simple =
    adds.shape (simple-local arg (ap (λ (r : Rule). r.is_simple) rule_is ∙ simple)) ∙ ap₂ with_rule old_is rule_is
