use Rattle.std.proofs.Common.{◌≡◌, ◌∙◌, true, false, sym, arith}
use Rattle.hz_plane.proofs.LoadLemmas.{no-lane}
use Rattle.hz_plane.proofs.NoFaults.{known-not-unknown}
use Rattle.hz_plane.proofs.faults.unsettled_lanes.Goals as goal

pub returns-then-are_evaluated : goal.returns-then-are_evaluated
returns-then-are_evaluated c lane inside = (
  λ there. (let wrong : false ≡ true = sym (no-lane lane) ∙ there in cc),
  λ out node few unknown. known-not-unknown c.args.values.now lane node inside ((c.requires.evaluated c.if-are_evaluated.true).known node (omega (arith, few, c.requires.values))) unknown,
)
