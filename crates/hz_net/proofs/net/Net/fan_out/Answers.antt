use Rattle.std.proofs.Common.{◌≡◌, ◌∙◌, ◌+◌, ◌<◌, ℕ, List, length, get_or, sym, subst, arith}
use Rattle.hz_core.specs.Netlist.{Netlist}
use Rattle.hz_net.specs.Variables.{fan_out_of}
use Rattle.hz_net.specs.Inside.{HoldsNetwork}
use Rattle.hz_net.specs.declared.net.Net.TheInside.{Inside}
use Rattle.hz_net.proofs.Fields.{starts_counted, fan_out_is}
use Rattle.hz_lists.proofs.PartLemmas.{IsPart}
use Rattle.hz_net.proofs.net.Net.fan_out.Goals as goal

pub index-start-requires : goal.index-start-requires
index-start-requires c =
    omega (arith, starts_counted c.self.inside c.args.self.now c.self.view_is c.self.invariant, c.requires)

pub index-end-requires : goal.index-end-requires
index-end-requires c =
    omega (arith, starts_counted c.self.inside c.args.self.now c.self.view_is c.self.invariant, c.requires)

-- the part of the list between the two starts that were read
held :
    (fields : Inside) (netlist : Netlist) (node start end : ℕ) (readers : List ℕ) → fields.circuit ≡ netlist → HoldsNetwork fields →
    node < length netlist.names → start ≡ get_or fields.fan_out.starts.items node start →
    end ≡ get_or fields.fan_out.starts.items (node + 1) end → readers ≡ fields.fan_out.readers.items →
    IsPart readers (fan_out_of netlist node) start end
held fields netlist node start end readers same holds within read_start read_end is =
    subst (λ list. IsPart list (fan_out_of netlist node) start end) (sym is)
    (fan_out_is fields netlist same holds node start end within read_start read_end)

pub part-requires-clause-ordered : goal.part-requires-clause-ordered
part-requires-clause-ordered c =
    (held c.self.inside c.args.self.now c.args.node c.index-start.result.now c.index-end.result.now c.as_slice.result.now c.self.view_is
    c.self.invariant c.requires c.index-start.ensures c.index-end.ensures c.as_slice.ensures.value).ordered

pub part-requires-clause-inside : goal.part-requires-clause-inside
part-requires-clause-inside c =
    (held c.self.inside c.args.self.now c.args.node c.index-start.result.now c.index-end.result.now c.as_slice.result.now c.self.view_is
    c.self.invariant c.requires c.index-start.ensures c.index-end.ensures c.as_slice.ensures.value).inside

pub returns : goal.returns
returns c =
    c.part.ensures ∙
    (held c.self.inside c.args.self.now c.args.node c.index-start.result.now c.index-end.result.now c.as_slice.result.now c.self.view_is
    c.self.invariant c.requires c.index-start.ensures c.index-end.ensures c.as_slice.ensures.value).same
