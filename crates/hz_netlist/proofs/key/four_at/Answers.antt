use Rattle.std.specs.Hash.FoldHasher.{read_u32}
use Rattle.hz_netlist.proofs.key.four_at.Goals as goal

pub returns-clause-value : goal.returns-clause-value
unfolding read_u32
returns-clause-value c = c.from_le_bytes.ensures

pub returns-clause-bytes : goal.returns-clause-bytes
returns-clause-bytes c = λ place. (c.type_inv.bytes place).fits
