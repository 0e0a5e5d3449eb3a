use Rattle.std.proofs.Common.{◌∙◌, sym, ap, not}
use Rattle.hz_core.specs.declared.kind.Kind.{Kind}
use Rattle.hz_core.specs.Gate.{gate_value, some_pin}
use Rattle.hz_gmw.proofs.GateOnes.{and-value, or-value, twice-not}
use Rattle.hz_gmw.proofs.ones.value_of_ones.Goals as goal

pub returns-in-And : goal.returns-in-And
returns-in-And c = λ bits long counted.
    and-value bits c.args.ones c.args.pins long counted ∙ sym (ap (λ (kind : Kind). gate_value kind bits) c.in-And.is)

pub returns-in-Nand : goal.returns-in-Nand
returns-in-Nand c = λ bits long counted.
    ap not (and-value bits c.args.ones c.args.pins long counted) ∙ sym (ap (λ (kind : Kind). gate_value kind bits) c.in-Nand.is)

pub returns-in-Or : goal.returns-in-Or
returns-in-Or c = λ bits long counted.
    or-value bits c.args.ones counted ∙ sym (ap (λ (kind : Kind). gate_value kind bits) c.in-Or.is)

pub returns-in-Nor : goal.returns-in-Nor
returns-in-Nor c = λ bits long counted.
    twice-not _ (some_pin bits) (or-value bits c.args.ones counted) ∙ sym (ap (λ (kind : Kind). gate_value kind bits) c.in-Nor.is)
