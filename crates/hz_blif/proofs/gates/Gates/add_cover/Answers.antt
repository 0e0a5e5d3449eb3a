use Rattle.std.proofs.lemmas.Result.{on_ok_weaker}
use Rattle.hz_blif.proofs.EntryLemmas.{grown-counted}
use Rattle.hz_blif.proofs.gates.Gates.add_cover.Goals as goal

pub returns-clause-counted : goal.returns-clause-counted
returns-clause-counted c =
    on_ok_weaker c.add_planes.result
    (λ grown. grown-counted c.args.cover.now c.args.self.now c.add_planes.new.self _ c.requires.holds grown)
    c.add_planes.ensures
