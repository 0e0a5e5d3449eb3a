-- What a run's fields hold: the vectors count it, and the step with a number stands where its ends say.
use Rattle.std.proofs.Common.{◌≡◌, ◌∙◌, ℕ, List, [], sym, ap, length, arith}
use Rattle.std.proofs.lemmas.List.{nil_from_length}
use Rattle.std.specs.Vec.{vec_len}
use Rattle.hz_gmw.specs.RunRecord.{RunRecord, flip_count}
use Rattle.hz_gmw.specs.Inside.{run_record_of, HoldsRun}
use Rattle.hz_gmw.specs.declared.run.Run.TheInside.{Inside}
use Rattle.hz_lists.proofs.PartLemmas.{length-parts_from, sum_by-parts_from}

pub held_steps : (fields : Inside) (run : RunRecord) → run_record_of fields ≡ run → vec_len fields.ends ≡ length run.steps
held_steps fields run is =
    fields.ends.ok.0 ∙ sym (length-parts_from 0 fields.ends.items fields.flips.items) ∙ ap (λ (run : RunRecord). length run.steps) is

pub held_flips : (fields : Inside) (run : RunRecord) → run_record_of fields ≡ run → HoldsRun fields → vec_len fields.flips ≡ flip_count run.steps
held_flips fields run is held =
    omega (
      arith,
      fields.flips.ok.0,
      sum_by-parts_from 0 fields.ends.items fields.flips.items held.cut,
      ap (λ (run : RunRecord). flip_count run.steps) is,
    )

-- a run without a step has no flips and no ends
pub held_none : (fields : Inside) (run : RunRecord) → run_record_of fields ≡ run → HoldsRun fields → run.steps ≡ [] → (fields.flips.items ≡ []) × (fields.ends.items ≡ [])
held_none fields run is held none = (
  nil_from_length fields.flips.items (omega (arith, fields.flips.ok.0, held_flips fields run is held, ap flip_count none)),
  nil_from_length fields.ends.items (omega (arith, fields.ends.ok.0, held_steps fields run is, ap (length {A = List ℕ}) none)),
)
