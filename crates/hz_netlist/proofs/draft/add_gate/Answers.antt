use Rattle.std.proofs.Common.{◌≡◌, None, subst}
use Rattle.hz_core.specs.Netlist.{IsName, node_named}
use Rattle.hz_netlist.specs.Draft.{role_name}
use Rattle.hz_netlist.specs.Names.{name_at}
use Rattle.hz_netlist.proofs.draft.add_gate.Goals as goal

pub add_gate-requires-clause-name : goal.add_gate-requires-clause-name
add_gate-requires-clause-name c =
    rw (c.name-name.ensures) (subst (λ role. IsName (role_name role (name_at c.args.names.now c.args.gate.now.output))) c.in-Output.is c.requires.may.named)

pub add_gate-requires-clause-fresh : goal.add_gate-requires-clause-fresh
add_gate-requires-clause-fresh c =
    rw (c.name-name.ensures) (subst (λ role. node_named c.args.circuit.now (role_name role (name_at c.args.names.now c.args.gate.now.output)) ≡ None) c.in-Output.is c.requires.may.fresh)
