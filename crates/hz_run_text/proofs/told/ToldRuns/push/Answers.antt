use Rattle.std.proofs.Common.{◌∙◌, ◌++◌, ◌∷◌, [], length, map, ap, sym, subst, arith}
use Rattle.std.specs.List.{All}
use Rattle.std.proofs.lemmas.List.{map_push}
use Rattle.hz_outside.proofs.WrittenLemmas.{on_any_err}
use Rattle.hz_run_text.specs.declared.told.Places.{Places}
use Rattle.hz_run_text.specs.RunInside.{run_at, IsPlaced}
use Rattle.hz_run_text.proofs.RunBuilderLaws.{still-holds, placed-one, run-one}
use Rattle.hz_run_text.proofs.told.ToldRuns.push.Goals as goal

pub returns-in_err-lead-clause-err : goal.returns-in_err-lead-clause-err
returns-in_err-lead-clause-err c =
    let held = c.self.invariant in
    let lead = still-holds c.self.inside.told.items c.tell.new.told.items c.self.inside.places.items c.tell.ensures.more held.some held.none held.placed in
    on_any_err _ c.from_residual.result (lead.same ∙ c.self.view_is)

pub returns-in_err-cycle-clause-err : goal.returns-in_err-cycle-clause-err
returns-in_err-cycle-clause-err c =
    let held = c.self.invariant in
    let lead = still-holds c.self.inside.told.items c.tell.new.told.items c.self.inside.places.items c.tell.ensures.more held.some held.none held.placed in
    let cycle = still-holds c.tell.new.told.items c.tell_cycle.new.told.items c.self.inside.places.items c.tell_cycle.ensures.more lead.some lead.none lead.placed in
    on_any_err _ c.from_residual-in_err-cycle.result (cycle.same ∙ lead.same ∙ c.self.view_is)

pub invariant_of-self-in_err-push : goal.invariant_of-self-in_err-push
invariant_of-self-in_err-push c =
    let held = c.self.invariant in
    let lead = still-holds c.self.inside.told.items c.tell.new.told.items c.self.inside.places.items c.tell.ensures.more held.some held.none held.placed in
    let cycle = still-holds c.tell.new.told.items c.tell_cycle.new.told.items c.self.inside.places.items c.tell_cycle.ensures.more lead.some lead.none lead.placed in
    record { some = cycle.some; none = cycle.none; placed = subst (λ all. All (IsPlaced (length c.tell_cycle.new.told.items)) all) (sym c.in_err-push.ensures.items) cycle.placed }

pub returns-in_err-push-clause-err : goal.returns-in_err-push-clause-err
returns-in_err-push-clause-err c =
    let held = c.self.invariant in
    let lead = still-holds c.self.inside.told.items c.tell.new.told.items c.self.inside.places.items c.tell.ensures.more held.some held.none held.placed in
    let cycle = still-holds c.tell.new.told.items c.tell_cycle.new.told.items c.self.inside.places.items c.tell_cycle.ensures.more lead.some lead.none lead.placed in
    on_any_err _ c.from_residual-in_err-push.result (ap (map (run_at c.tell_cycle.new.told.items)) c.in_err-push.ensures.items ∙ cycle.same ∙ lead.same ∙ c.self.view_is)

pub invariant_of-self-2 : goal.invariant_of-self-2
invariant_of-self-2 c =
    let held = c.self.invariant in
    let lead = still-holds c.self.inside.told.items c.tell.new.told.items c.self.inside.places.items c.tell.ensures.more held.some held.none held.placed in
    let cycle = still-holds c.tell.new.told.items c.tell_cycle.new.told.items c.self.inside.places.items c.tell_cycle.ensures.more lead.some lead.none lead.placed in
    let placed : IsPlaced (length c.tell_cycle.new.told.items) (record { lead = c.in_ok-lead.lead; cycle = c.in_ok-cycle.cycle }) = record { lead = omega (arith, c.in_ok-lead.ensures.within, cycle.longer); cycle = c.in_ok-cycle.ensures.within } in
    record {
      some = cycle.some;
      none = cycle.none;
      placed = subst (λ all. All (IsPlaced (length c.tell_cycle.new.told.items)) all) (sym c.in_ok-push.ensures.items) (placed-one (length c.tell_cycle.new.told.items) c.self.inside.places.items (record { lead = c.in_ok-lead.lead; cycle = c.in_ok-cycle.cycle }) cycle.placed placed);
    }

pub returns-clause-ok : goal.returns-clause-ok
returns-clause-ok c =
    let held = c.self.invariant in
    let told = c.tell_cycle.new.told.items in
    let one : Places = record { lead = c.in_ok-lead.lead; cycle = c.in_ok-cycle.cycle } in
    let lead = still-holds c.self.inside.told.items c.tell.new.told.items c.self.inside.places.items c.tell.ensures.more held.some held.none held.placed in
    let cycle = still-holds c.tell.new.told.items told c.self.inside.places.items c.tell_cycle.ensures.more lead.some lead.none lead.placed in
    ap (map (run_at told)) c.in_ok-push.ensures.items
    ∙ map_push (run_at told) c.self.inside.places.items one
    ∙ ap (λ runs. runs ++ run_at told one ∷ []) (cycle.same ∙ lead.same ∙ c.self.view_is)
    ∙ ap (λ run. c.args.self.now ++ run ∷ []) (run-one c.tell.new.told.items told c.in_ok-lead.lead c.in_ok-cycle.cycle _ _ c.tell_cycle.ensures.more c.in_ok-lead.ensures.within.0 c.in_ok-lead.ensures.steps c.in_ok-cycle.ensures.steps)
