use Rattle.std.proofs.Common.{arith}
use Rattle.hz_net.proofs.Fields.{network_length_is}
use Rattle.hz_net.proofs.net.Net.len.Goals as goal

pub returns-clause-len : goal.returns-clause-len
returns-clause-len c =
    let long = network_length_is c.self.inside _ c.self.view_is c.self.invariant in
    let counted = c.variables.ensures.variables in
    let same = c.self.view_is in
    grind (arith, long, counted, same)
