use Rattle.std.proofs.Common.{◌≡◌, ◌<◌, ◌++◌, ◌∷◌, [], refl, ap, length, arith, length-append}
use Rattle.hz_lists.specs.Parts.{parts_from}
use Rattle.hz_script.specs.Inside.{script_of}
use Rattle.hz_text.specs.Bits.{IsChange}
use Rattle.hz_lists.proofs.PartLemmas.{EndsAt-push}
use Rattle.hz_script.proofs.PartLemmas.{parts-grown}
use Rattle.hz_script.proofs.ScriptLemmas.{IsScript-add}
use Rattle.hz_script.proofs.script.Script.add_change.Goals as goal
use Rattle.hz_script.specs.Limits.{most_changes}

pub invariant_of-self-2 : goal.invariant_of-self-2
invariant_of-self-2 c =
    let inside = c.self.inside in
    let change = c.args.change.now in
    let items : c.extend_from_slice.new.self.items ≡ inside.assignments.items ++ change = c.in_ok-extend_from_slice.ensures.items in
    let long : c.in-Ok.end ≡ length c.extend_from_slice.new.self.items = omega (arith, c.in-Ok.ensures, c.len.ensures, inside.assignments.ok.0, ap length items, length-append inside.assignments.items change) in
    let ends : c.push_reserved.new.self.items ≡ inside.ends.items ++ length c.extend_from_slice.new.self.items ∷ [] = rw (← long, ← c.reserve.ensures.items) c.push_reserved.ensures.items in
    let grown = parts-grown inside.ends.items c.push_reserved.new.self.items inside.assignments.items c.extend_from_slice.new.self.items change items ends c.self.invariant.ends in
    let fits : IsChange (length inside.start.items) change = rw (← c.self.view_is) at c.requires.change in
    let few : length (parts_from 0 inside.ends.items inside.assignments.items) < most_changes = rw (← c.self.view_is) at c.requires.few in
    record {
      ends = rw ends (EndsAt-push 0 inside.ends.items (length inside.assignments.items) _ c.self.invariant.ends (omega (arith, ap length items, length-append inside.assignments.items change)));
      script = rw grown (IsScript-add (script_of inside) change c.self.invariant.script fits few);
    }

pub returns-clause-ok : goal.returns-clause-ok
returns-clause-ok c =
    let inside = c.self.inside in
    let change = c.args.change.now in
    let items : c.extend_from_slice.new.self.items ≡ inside.assignments.items ++ change = c.in_ok-extend_from_slice.ensures.items in
    let long : c.in-Ok.end ≡ length c.extend_from_slice.new.self.items = omega (arith, c.in-Ok.ensures, c.len.ensures, inside.assignments.ok.0, ap length items, length-append inside.assignments.items change) in
    let ends : c.push_reserved.new.self.items ≡ inside.ends.items ++ length c.extend_from_slice.new.self.items ∷ [] = rw (← long, ← c.reserve.ensures.items) c.push_reserved.ensures.items in
    let grown = parts-grown inside.ends.items c.push_reserved.new.self.items inside.assignments.items c.extend_from_slice.new.self.items change items ends c.self.invariant.ends in
    rw (grown, ← c.self.view_is) refl
