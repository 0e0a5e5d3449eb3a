use Rattle.std.proofs.Common.{◌≡◌, ◌∙◌, ◌++◌, ◌∷◌, [], List, Option, ap, sym, subst}
use Rattle.std.specs.Prelude.{option_to_list, IsSome}
use Rattle.hz_run_text.specs.RunStatement.{Cycle}
use Rattle.hz_run_text.specs.RunOrder.{place_after}
use Rattle.hz_text.specs.RunParts.{RunOf}
use Rattle.hz_run_text.specs.RunBuilt.{last_place, IsRunAdded}
use Rattle.hz_run_text.proofs.RunBuildLaws.{added_cycle}
use Rattle.hz_run_text.proofs.builder.RunBuilder.begin_cycle.Goals as goal

pub returns : goal.returns
returns c =
    let over = c.self.inside.over in
    let run = c.in-Some.run' in
    let whole : over ++ run ∷ [] ≡ c.args.self.now = ap (λ (going : Option RunOf). over ++ option_to_list going) (sym c.in-Some.is) ∙ c.self.view_is in
    let F : List RunOf → Type 0 = λ runs. IsSome (place_after (last_place runs) Cycle) in
    let P : List RunOf → Type 0 = λ old. IsRunAdded old Cycle (over ++ c.begin_cycle.new.self ∷ []) in
    let Q : RunOf → Type 0 = λ new. IsRunAdded (over ++ run ∷ []) Cycle (over ++ new ∷ []) in
    subst P whole (subst Q (sym c.begin_cycle.ensures) (added_cycle over run (subst F (sym whole) c.requires.follows)))
