-- What was found of the change stays, and where it ends is noted by it.
use Rattle.std.proofs.Common.{◌≡◌, ◌∙◌, refl, ap, Bool, ◌&&◌}
use Rattle.hz_explore.proofs.Words.{ChangeOf, change_of, Classes, classes_of, is_clean_change, is_shown}
use Rattle.hz_explore.specs.Transitions.{node_classes}
use Rattle.hz_explore.proofs.RoomLemmas.{noted-from}
use Rattle.hz_explore.proofs.room.ExploreRoom.make.Goals as goal

pub returns-clause-made : goal.returns-clause-made
returns-clause-made c =
    let netlist = c.args.making.now.net.now in
    let there = c.find.new.self in
    let found : ChangeOf = change_of there.change in
    let shown : c.is_shown-shown.result ≡ is_shown there.change.used.items there.change.kept = rw c.as_slice.ensures.value at c.is_shown-shown.ensures in
    let clean : (c.in_ok-classes.classes.is_clean && c.is_shown-shown.result) ≡ is_clean_change netlist found =
    ap (λ (classes : Classes). classes.is_clean && c.is_shown-shown.result) c.in_ok-classes.ensures.classes ∙ ap (λ (is : Bool). (classes_of (node_classes netlist found)).is_clean && is) shown in
    record {
      found = found;
      from = c.in_ok-classes.ensures.from;
      right = c.in_ok-classes.ensures.right;
      classes = c.in_ok-classes.ensures.classes;
      noted = noted-from netlist found _ (is_clean_change netlist found) c.args.self.now there c.note_end.new.self c.in_ok-end.end clean c.find.ensures.states c.find.ensures.totals c.in_ok-end.ensures.noted;
      used = rw c.in_ok-end.ensures.used refl;
      kept = c.in_ok-end.ensures.kept;
    }
