-- The words with their bits, and what stands before them.
use Rattle.std.proofs.Common.{◌≡◌, List, ℕ, append_assoc, sym, subst, arith}
use Rattle.std.specs.Vec.{with_items}
use Rattle.std.proofs.lemmas.List.{with_items_is}
use Rattle.hz_text.specs.Printed.{statement_text}
use Rattle.hz_write.proofs.Writers.{writes_then}
use Rattle.hz_report.specs.Kept.{AreWords}
use Rattle.hz_report.proofs.plate.Plate.write_bits.Goals as goal
use Rattle.hz_report.proofs.plate.Plate.write_bits.Goals.{in-Some, in-None}

pub invariant_of-self : goal.invariant_of-self
invariant_of-self g c =
    elim c.match-self.branch [
      | in-Some w ↦
          (let netlist = c.self.inside.net.now in
          let was = w.in-Some.kept in
          let begins = was.start.begins.items in
          let text : List ℕ = w.write_kept_bits.new.text in
          let text_is : (with_items was.start.text text).items ≡ text = with_items_is was.start.text text (omega (arith, w.write_kept_bits.auto.text, w.as_mut_slice.ensures.len)) in
          let before = rw w.in-Some.is at c.self.invariant in
          let words : AreWords netlist text begins = rw w.as_slice.ensures.value at w.write_kept_bits.ensures.kept in
          rw w.self-inside-is (
            before.0,
            record { rows = before.1.rows; words = subst (λ (list : List ℕ). AreWords netlist list begins) (sym text_is) words },
          ))
      | in-None w ↦ rw w.self-inside-is c.self.invariant
    ]

pub returns-clause-gave : goal.returns-clause-gave
unfolding statement_text
returns-clause-gave g c =
    elim c.match-self.branch [
      | in-Some w ↦ rw (w.writer-is, ← c.self.view_is) (writes_then w.text.ensures w.write_kept_bits.ensures.gave (sym (append_assoc c.args.keyword.now _ _)))
      | in-None w ↦ rw (w.writer-is, ← c.self.view_is) (rw w.circuit.ensures.same at w.write_bits.ensures.gave)
    ]
