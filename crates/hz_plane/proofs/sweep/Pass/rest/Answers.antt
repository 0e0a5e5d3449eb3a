use Rattle.std.proofs.Common.{arith, inl, inr}
use Rattle.hz_plane.proofs.Marks.{ran-then}
use Rattle.hz_plane.proofs.sweep.Pass.rest.Goals as goal

pub loop-span-preserved : goal.loop-span-preserved
loop-span-preserved c = record {
  ran = ran-then c.args.self.now.rule c.args.self.now.net.now c.args.planes.now c.loop-span.planes c.sweep-span.new.planes c.loop-span.invariant.ran c.sweep-span.ensures.ran;
  planes = c.sweep-span.ensures.planes;
  bound = omega (arith, c.loop-span.auto.marks, c.sweep-span.ensures.within);
  due = c.sweep-span.ensures.due;
  within = c.sweep-span.ensures.marked;
}

pub returns-clause-none : goal.returns-clause-none
returns-clause-none c place marked = elim (c.loop-span.invariant.within place marked) [
  | inl none ↦ omega (arith, none.1)
  | inr some ↦ omega (arith, some.0, some.1, c.loop-span-test.false)
]
