use Rattle.std.proofs.Common.{◌≡◌, ◌∙◌, refl, ap, ◌+◌, length, sym, arith}
use Rattle.hz_gen.proofs.Scripts.{script_by, listed-long, go-change, script-built}
use Rattle.hz_gen.proofs.script.make_script.Goals as goal

pub add_change-requires-clause-change : goal.add_change-requires-clause-change
add_change-requires-clause-change c =
    let long : length c.list-3.new.self.start ≡ c.args.nodes =
    rw (c.list-3.ensures, c.list-2.ensures, c.list.ensures)
    (listed-long c.in_ok-script.script.start c.args.nodes _ _ _ _ _ _ c.in_ok-script.ensures.start) in
    rw long (go-change c.args.nodes _ (omega (arith, c.requires.nodes)))

pub returns : goal.returns
returns c =
    let script : c.add_change.new.self ≡ script_by c.args.nodes c.ring_gate.result =
    rw (
      c.in_ok-add_change.ensures.ok,
      c.list-3.ensures,
      c.list-2.ensures,
      c.list.ensures,
      c.in_ok-script.ensures.start,
      c.in_ok-script.ensures.changes,
    ) refl in
    script ∙ ap (script_by c.args.nodes) c.ring_gate.ensures
    ∙ ap (λ nodes. script_by nodes (c.args.n + 3)) c.requires.nodes
    ∙ sym (script-built c.args.n c.requires.number.least c.requires.number.most)
