use Rattle.std.proofs.Common.{◌∙◌, ap}
use Rattle.hz_bench.specs.ReaderState.{redefinition_with}
use Rattle.hz_bench.proofs.ReaderLemmas.{node-added}
use Rattle.hz_bench.proofs.parse.Statements.add_node.Goals as goal

pub returns : goal.returns
returns c =
    node-added c.args.self.now _ c.args.entry c.in_ok-definition.definition.number c.define_name.new.self c.add.new.self c.note_again.new.again
    c.in_ok-definition.ensures.names c.in_ok-definition.ensures.number c.add.ensures
    (c.note_again.ensures ∙ ap (redefinition_with c.args.self.now.again c.args.entry.line) c.in_ok-definition.ensures.first) c.in_ok-keep.ensures
