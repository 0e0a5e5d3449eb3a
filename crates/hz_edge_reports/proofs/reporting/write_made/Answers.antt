-- What is found of the change is right. If memory runs out, something is right all the same.
use Rattle.std.proofs.Common.{◌∙◌, refl, sym}
use Rattle.hz_edge_reports.proofs.Words.{writes_then, writes_failed, change_of}
use Rattle.std.proofs.lemmas.Bool.{false≢true}
use Rattle.hz_changes.proofs.Writable.{below-names}
use Rattle.hz_edge_reports.specs.EdgeText.{found_text}
use Rattle.hz_edge_reports.proofs.Leading.{found-used, found-run, made-from}
use Rattle.hz_edge_reports.proofs.FirstEdges.{one-exists}
use Rattle.hz_edge_reports.proofs.reporting.write_made.Goals as goal

pub find-requires-clause-start : goal.find-requires-clause-start
find-requires-clause-start g c = rw c.take_input.ensures.start c.requires.stable

pub write_found-requires-clause-change : goal.write_found-requires-clause-change
write_found-requires-clause-change g c = below-names c.args.making.now.net.now c.args.change.now c.requires.making.circuit c.requires.change

pub write_found-requires-clause-used : goal.write_found-requires-clause-used
write_found-requires-clause-used g c =
    let making = c.args.making.now in
    let from = made-from making.net.now c.args.change.now c.args.room.now c.take_input.new.self c.find.new.self c.take_input.ensures.start c.take_input.ensures.input c.find.ensures.start c.find.ensures.input in
    found-used making.net.now making.cap making.assumptions.now c.args.room.now.start.items c.args.change.now (change_of c.find.new.self) c.requires.making.circuit c.requires.making.assumptions c.requires.stable from c.in-Ok.ensures.right

pub write_found-requires-clause-run : goal.write_found-requires-clause-run
write_found-requires-clause-run g c =
    let making = c.args.making.now in
    let from = made-from making.net.now c.args.change.now c.args.room.now c.take_input.new.self c.find.new.self c.take_input.ensures.start c.take_input.ensures.input c.find.ensures.start c.find.ensures.input in
    found-run making.net.now making.cap making.assumptions.now c.args.room.now.start.items c.args.change.now (change_of c.find.new.self) c.requires.making.circuit c.requires.making.assumptions c.requires.stable from c.in-Ok.ensures.right

pub returns-in-Ok-clause-gave : goal.returns-in-Ok-clause-gave
returns-in-Ok-clause-gave g c =
    let making = c.args.making.now in
    let from = made-from making.net.now c.args.change.now c.args.room.now c.take_input.new.self c.find.new.self c.take_input.ensures.start c.take_input.ensures.input c.find.ensures.start c.find.ensures.input in
    (change_of c.find.new.self, from, c.in-Ok.ensures.right, λ fine. c.go_on.ensures.leads, c.write_found.ensures.gave)

pub returns-in-Err-clause-gave : goal.returns-in-Err-clause-gave
returns-in-Err-clause-gave g c =
    let making = c.args.making.now in
    let made = one-exists c.changes_exist.ensures making.net.now making.cap making.assumptions.now c.requires.making.circuit c.requires.making.whole c.requires.making.assumptions c.requires.making.cap.0 c.requires.making.cap.1
    c.args.room.now.start.items c.args.change.now c.requires.stable in (
      made.0,
      made.1,
      made.2,
      λ fine. absurd (false≢true (sym fine ∙ c.give_up.ensures.failed)),
      writes_then c.give_up.ensures.gave
          (writes_failed (found_text making.net.now c.args.show making.assumptions.now c.args.number c.args.change.now made.0) c.give_up.ensures.failed) refl,
    )
