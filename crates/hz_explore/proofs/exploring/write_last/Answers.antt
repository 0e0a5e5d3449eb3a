-- The totals are those of the transitions, if all lines before are written.
use Rattle.std.proofs.Common.{◌≡◌, ◌∙◌, sym, ap, ℕ, true, length}
use Rattle.hz_explore.proofs.Words.{has_failed, writes_failed, writes_same, Totals}
use Rattle.hz_explore.specs.ExploreText.{totals_line, totals_text}
use Rattle.hz_explore.proofs.exploring.write_last.Goals as goal

pub returns-then-has_failed : goal.returns-then-has_failed
returns-then-has_failed g c netlist explored counted =
    let failed : has_failed c.args.writer.now ≡ true = sym c.has_failed.ensures ∙ c.if-has_failed.true in
    writes_failed (totals_line netlist explored) failed

pub returns : goal.returns
returns g c netlist explored counted =
    let is = counted (sym c.has_failed.ensures ∙ c.if-has_failed.false) in
    writes_same c.write_totals.ensures.gave
    (ap (λ (n : ℕ). totals_text c.args.room.now.totals.is_whole n c.args.room.now.totals.clean c.args.room.now.totals.hazards c.args.room.now.totals.unsettled) (c.len.ensures.count ∙ is.states)
    ∙ ap (λ (t : Totals). totals_text t.is_whole (length explored) t.clean t.hazards t.unsettled) is.totals)
