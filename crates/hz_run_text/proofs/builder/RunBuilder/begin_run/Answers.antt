use Rattle.std.proofs.Common.{◌≡◌, ◌∙◌, ◌++◌, ◌∷◌, [], List, Option, Some, None, ap, sym, subst}
use Rattle.std.specs.Prelude.{option_to_list}
use Rattle.hz_run_text.specs.RunStatement.{Run}
use Rattle.hz_text.specs.RunParts.{RunOf}
use Rattle.hz_run_text.specs.RunBuilt.{IsRunAdded}
use Rattle.hz_run_text.proofs.RunBuildLaws.{begun}
use Rattle.hz_run_text.proofs.builder.RunBuilder.begin_run.Goals as goal

pub returns-in_ok-push : goal.returns-in_ok-push
returns-in_ok-push c =
    let over = c.self.inside.over in
    let all = c.args.self.now in
    let fresh : RunOf = record { lead = []; cycle = None } in
    let before : c.push.new.self ≡ all =
    c.in_ok-push.ensures.ok ∙ ap (λ (run : RunOf). over ++ run ∷ []) c.run.view_is
    ∙ ap (λ (going : Option RunOf). over ++ option_to_list going) (sym c.in-Some.is ∙ c.replace.ensures.value) ∙ c.self.view_is in
    let next : c.replace.new.dest ≡ Some fresh = c.replace.ensures.after ∙ ap Some c.new.ensures in
    let P : Option RunOf → Type 0 = λ dest. IsRunAdded all Run (c.push.new.self ++ option_to_list dest) in
    let Q : List RunOf → Type 0 = λ runs. IsRunAdded all Run (runs ++ fresh ∷ []) in
    subst P (sym next) (subst Q (sym before) (begun all))
