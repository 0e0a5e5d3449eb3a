use Rattle.std.proofs.Common.{subst, sym}
use Rattle.std.specs.List.{AllByRecursion}
use Rattle.hz_netlist.specs.Names.{Names, seen_names}
use Rattle.hz_blif.specs.Plain.{IsPlain}
use Rattle.hz_blif.proofs.names.TextNames.make_room.Goals as goal

pub invariant_of-self : goal.invariant_of-self
invariant_of-self c = subst (λ (names : Names). AllByRecursion IsPlain (seen_names names)) (sym c.make_room.ensures) c.self.invariant
