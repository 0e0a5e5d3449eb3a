use Rattle.std.proofs.Common.{◌∙◌, sym}
use Rattle.hz_net.specs.Network.{value_at}
use Rattle.hz_pass.specs.Frontier.{is_open}
use Rattle.hz_pass.proofs.Values.{not-true}
use Rattle.hz_pass.proofs.Evaluations.{made-final}
use Rattle.hz_pass.proofs.round.Round.evaluate.Goals as goal

pub returns-then-is_final-clause-made : goal.returns-then-is_final-clause-made
returns-then-is_final-clause-made g c =
    made-final c.requires.round.state c.requires.var c.requires.round.falls c.requires.so_far
    (not-true (is_open c.args.self.now.rule (value_at c.args.next.now c.args.var)) (sym (sym c.is_final.ensures ∙ c.if-is_final.true)))
