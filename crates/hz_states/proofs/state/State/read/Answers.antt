use Rattle.std.proofs.Common.{arith}
use Rattle.hz_states.proofs.PackingLemmas.{bit-inside, read-all}
use Rattle.hz_states.proofs.state.State.read.Goals as goal

pub bit_of-requires : goal.bit_of-requires
bit_of-requires c =
    rw c.as_slice.ensures (bit-inside c.self.inside.count c.self.inside.bytes.items c.args.self.now c.loop-place.place c.self.invariant c.self.view_is (omega (arith, c.loop-place-test.true, c.loop-place.invariant.0)))

pub returns : goal.returns
returns c = read-all c.self.inside.count c.self.inside.bytes.items c.args.self.now c.loop-place.bits c.self.view_is c.loop-place.invariant.0 (λ place inside. c.loop-place.invariant.1 place (omega (arith, inside, c.loop-place.invariant.0, c.loop-place-test.false)))
