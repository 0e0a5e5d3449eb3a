use Rattle.std.proofs.Common.{◌<◌, sym, subst}
use Rattle.hz_core.specs.Netlist.{Netlist, variable_count}
use Rattle.hz_net.proofs.Fields.{network_bound_is, driver_is, seen_is, within_is, place_is}
use Rattle.hz_net.proofs.net.Net.entry.Goals as goal

pub at-requires-clause-var : goal.at-requires-clause-var
at-requires-clause-var c =
    subst (λ (n : Netlist). c.args.var < variable_count n) (sym c.self.view_is)
    (within_is c.self.inside c.args.self.now c.self.view_is c.self.invariant c.args.var c.requires)

pub returns-clause-driver : goal.returns-clause-driver
returns-clause-driver c =
    driver_is c.self.inside c.args.self.now c.self.view_is c.self.invariant c.args.var c.at.result c.requires c.at.ensures

pub returns-clause-seen : goal.returns-clause-seen
returns-clause-seen c =
    seen_is c.self.inside c.args.self.now c.self.view_is c.self.invariant c.args.var c.at.result c.requires c.at.ensures

pub returns-clause-place : goal.returns-clause-place
returns-clause-place c =
    place_is c.self.inside c.args.self.now c.self.view_is c.self.invariant c.args.var c.at.result
    (within_is c.self.inside c.args.self.now c.self.view_is c.self.invariant c.args.var c.requires) c.at.ensures

pub returns-clause-bound : goal.returns-clause-bound
returns-clause-bound c = network_bound_is c.self.inside c.args.self.now c.self.view_is c.self.invariant
