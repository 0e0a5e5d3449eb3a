use Rattle.hz_blif.proofs.DraftSteps.{holds-seen}
use Rattle.hz_netlist.proofs.Places.{named-at, number-few}
use Rattle.hz_blif.proofs.draft.Draft.sight.Goals as goal

pub returns-clause-holds : goal.returns-clause-holds
returns-clause-holds c = λ read held. holds-seen read c.args.self.now c.args.name.now c.sight.new.self c.in_ok-number.ensures.seen held

pub returns-clause-number : goal.returns-clause-number
returns-clause-number c = number-few c.sight.new.self c.args.name.now c.in_ok-number.number c.in_ok-number.ensures.number

pub returns-clause-name : goal.returns-clause-name
returns-clause-name c = named-at c.sight.new.self c.args.name.now c.in_ok-number.number c.in_ok-number.ensures.number
