use Rattle.hz_edge_reports.proofs.ChangesThere.{changes_exist}
use Rattle.hz_edge_reports.proofs.existence.changes_exist.Goals as goal

pub returns : goal.returns
returns c =
    changes_exist (record { read = c.printed_runs_are_read.ensures; a_exact = c.a_is_exact.ensures; b_exact = c.b_is_exact.ensures.exact }) c.passes_end.ensures.a c.passes_end.ensures.b c.edges_exist.ensures c.words_are_told.ensures c.used_by_b.ensures
    c.inductive_under_orders.ensures.any c.ordered_covers.ensures
