-- The lines that are kept are those that were written over. The words stay.
use Rattle.std.proofs.Common.{◌≡◌, List, ℕ, sym, subst, arith}
use Rattle.std.specs.Vec.{with_items}
use Rattle.std.proofs.lemmas.List.{with_items_is}
use Rattle.hz_report.specs.Kept.{AreRowLines}
use Rattle.hz_report.proofs.plate.Plate.write_rows.Goals as goal
use Rattle.hz_report.proofs.plate.Plate.write_rows.Goals.{in-Some, in-None}

pub invariant_of-self : goal.invariant_of-self
invariant_of-self g c =
    elim c.match-self.branch [
      | in-Some w ↦
          (let netlist = c.self.inside.net.now in
          let was = w.in-Some.kept in
          let begins = was.rows.begins.items in
          let text : List ℕ = w.write_kept_rows.new.text in
          let text_is : (with_items was.rows.text text).items ≡ text = with_items_is was.rows.text text (omega (arith, w.write_kept_rows.auto.text, w.as_mut_slice.ensures.len)) in
          let before = rw w.in-Some.is at c.self.invariant in
          let are : AreRowLines netlist text begins w.write_kept_rows.new.shown = rw w.as_slice.ensures.value at w.write_kept_rows.ensures.kept in
          rw w.self-inside-is (
            before.0,
            record {
              rows = subst (λ (list : List ℕ). AreRowLines netlist list begins w.write_kept_rows.new.shown) (sym text_is) are;
              words = before.1.words;
            },
          ))
      | in-None w ↦ rw w.self-inside-is c.self.invariant
    ]
