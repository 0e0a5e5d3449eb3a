-- What was found is the feedback of each network with these choices.
use Rattle.std.proofs.Common.{◌∙◌, sym, length}
use Rattle.hz_free.proofs.Roots.{choosers-AreLinks, roots-inside}
use Rattle.hz_free.proofs.FoundCycles.{found-AreFeedback, are-AreChoosers}
use Rattle.hz_free.proofs.feedback.find_cycles.Goals as goal

pub list_cycles-requires-clause-links : goal.list_cycles-requires-clause-links
list_cycles-requires-clause-links c =
    choosers-AreLinks c.args.choices.now c.find_roots.new.choosers c.find_roots.new.roots (length c.args.choices.now) c.in_ok-find_roots.ensures

pub write_cores-requires : goal.write_cores-requires
write_cores-requires c =
    roots-inside c.args.choices.now c.find_roots.new.choosers c.find_roots.new.roots (length c.args.choices.now) (length c.list_cycles.new.numbers) c.in_ok-find_roots.ensures
    (c.list_cycles.auto.numbers ∙ (c.requires.numbers.long ∙ sym c.in_ok-find_roots.ensures.choosers_long))

pub returns : goal.returns
returns c =
    λ net wired are.
    found-AreFeedback net wired c.args.choices.now c.find_roots.new.choosers c.find_roots.new.roots c.list_cycles.new.numbers c.in_ok-cycles.cycles
    are c.in_ok-find_roots.ensures
    (c.in_ok-cycles.ensures net (are-AreChoosers net c.args.choices.now c.find_roots.new.choosers c.find_roots.new.roots (length c.args.choices.now) are c.in_ok-find_roots.ensures))
    c.write_cores.new.roots c.write_cores.ensures
