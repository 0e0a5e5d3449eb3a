-- Without an order that is used nothing is said of what is told.
use Rattle.std.proofs.Common.{◌∙◌, sym, arith}
use Rattle.std.specs.Vec.{vec_len}
use Rattle.std.proofs.lemmas.Bool.{eqb-true}
use Rattle.hz_edge_reports.proofs.UsedMore.{no-order}
use Rattle.hz_edge_reports.proofs.room.ChangeRoom.find_edges.Goals as goal

pub returns-then-is_empty-clause-told : goal.returns-then-is_empty-clause-told
returns-then-is_empty-clause-told c = λ some. absurd (some (no-order c.args.self.now.used.items (omega (arith, eqb-true (vec_len c.args.self.now.used) 0 (sym c.is_empty.ensures ∙ c.if-is_empty.true), c.args.self.now.used.ok.0))))
