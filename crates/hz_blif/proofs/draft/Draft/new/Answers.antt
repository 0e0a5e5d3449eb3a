use Rattle.std.proofs.Common.{refl}
use Rattle.hz_blif.proofs.CoverSteps.{holds-nothing}
use Rattle.hz_blif.proofs.draft.Draft.new.Goals as goal

pub returns : goal.returns
returns c =
    holds-nothing _ c.new.ensures c.new-2.ensures.items c.new-3.ensures.items refl c.new-4.ensures.holds c.new-4.ensures.gates c.new-4.ensures.sources
    c.new-5.ensures.items c.new-6.ensures.items c.new-7.ensures refl
