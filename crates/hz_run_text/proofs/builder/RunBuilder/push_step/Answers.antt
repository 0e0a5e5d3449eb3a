use Rattle.std.proofs.Common.{◌≡◌, ◌∙◌, ◌++◌, ◌∷◌, [], List, Option, ap, sym, subst}
use Rattle.std.specs.Prelude.{option_to_list}
use Rattle.std.proofs.lemmas.Result.{on_ok_weaker}
use Rattle.hz_text.specs.RunParts.{RunOf}
use Rattle.hz_run_text.specs.RunText.{step_of}
use Rattle.hz_run_text.specs.RunBuilt.{IsRunAdded}
use Rattle.hz_run_text.proofs.RunBuildLaws.{added_step}
use Rattle.hz_run_text.proofs.builder.RunBuilder.push_step.Goals as goal

pub returns : goal.returns
returns c =
    let over = c.self.inside.over in
    let run = c.in-Some.run' in
    let flips = c.args.flips.now in
    let whole : over ++ run ∷ [] ≡ c.args.self.now = ap (λ (going : Option RunOf). over ++ option_to_list going) (sym c.in-Some.is) ∙ c.self.view_is in
    let P : List RunOf → Type 0 = λ old. IsRunAdded old (step_of flips) (over ++ c.push_step.new.self ∷ []) in
    let Q : RunOf → Type 0 = λ new. IsRunAdded (over ++ run ∷ []) (step_of flips) (over ++ new ∷ []) in
    on_ok_weaker c.push_step.result (λ e. subst P whole (subst Q (sym e) (added_step over run flips))) c.push_step.ensures
