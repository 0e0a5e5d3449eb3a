-- A list of cycles is as long as its list of ends.
use Rattle.std.proofs.Common.{◌≡◌, ◌∙◌, ℕ, List, sym, ap, length}
use Rattle.std.specs.Vec.{vec_len}
use Rattle.hz_lists.specs.Parts.{parts_from}
use Rattle.hz_lists.proofs.PartLemmas.{length-parts_from}
use Rattle.hz_free.specs.declared.cycles.Cycles.TheInside.{Inside}

pub held-cycles : (fields : Inside) (cycles : List (List ℕ)) → parts_from 0 fields.ends.items fields.variables.items ≡ cycles → vec_len fields.ends ≡ length cycles
held-cycles fields cycles is = fields.ends.ok.0 ∙ (sym (length-parts_from 0 fields.ends.items fields.variables.items) ∙ ap length is)
