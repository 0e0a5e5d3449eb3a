use Rattle.std.proofs.Common.{◌≡◌, ◌∙◌, true, ap, refl}
use Rattle.std.proofs.lemmas.Result.{IfOk-weaker}
use Rattle.clap.specs.Words.{app_of}
use Rattle.clap.specs.Simple.{app_of_fields, on_top}
use Rattle.hz_words.specs.Command.{empty_command}
use Rattle.hz_words.proofs.Building.{added}
use Rattle.hz_words.proofs.command.hazard_command.Goals as goal

pub returns : goal.returns
returns c =
    let start : app_of c.no_binary_name.result ≡ empty_command =
    ap app_of_fields c.no_binary_name.ensures ∙ ap (on_top (λ top. record top { no_binary_name = true })) c.new.ensures.app in
    let job = added _ _ _ _ _ c.in_ok-arg.ensures start c.required.ensures refl in
    let first = added _ _ _ _ _ c.in_ok-arg-2.ensures job c.required-2.ensures refl in
    let second = added _ _ _ _ _ c.in_ok-arg-3.ensures first c.new-2.ensures.rule refl in
    let cap = added _ _ _ _ _ c.in_ok-arg-4.ensures second c.option.ensures refl in
    IfOk-weaker c.arg-5.result _ _ (λ command adds. added _ command _ _ _ adds cap c.option-2.ensures refl) c.arg-5.ensures
