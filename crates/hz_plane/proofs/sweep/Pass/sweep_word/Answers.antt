use Rattle.std.proofs.Common.{◌∙◌, ℕ, subst, arith, inl, inr}
use Rattle.hz_plane.specs.Sweeps.{AreMarkedWithin}
use Rattle.hz_plane.proofs.Marks.{ran-then}
use Rattle.hz_plane.proofs.sweep.Pass.sweep_word.Goals as goal

pub loop-marks-preserved : goal.loop-marks-preserved
loop-marks-preserved c = record {
  ran = ran-then c.args.self.now.rule c.args.self.now.net.now c.args.planes.now c.loop-marks.planes c.visit-next.new.planes c.loop-marks.invariant.ran c.visit-next.ensures.ran;
  planes = c.visit-next.ensures.planes;
  due = c.visit-next.ensures.due;
  within = subst (λ (n : ℕ). AreMarkedWithin c.visit-next.new.marks n c.args.to.words c.visit-next.result.begin c.visit-next.result.end) c.take-place.ensures.word c.visit-next.ensures.within;
  bound = λ few. omega (arith, c.loop-marks.invariant.bound few, c.loop-marks.auto.marks, c.take-place.auto.marks, c.visit-next.ensures.bound);
  less = elim c.visit-next.ensures.less [
    | inl same ↦ elim c.loop-marks.invariant.less [
      | inl none ↦ inl (same.0 ∙ none)
      | inr less ↦ inr (omega (arith, less, same.2))
    ]
    | inr less ↦ inr (omega (arith, less, c.loop-marks.invariant.most))
  ];
  most = elim c.visit-next.ensures.less [
    | inl same ↦ omega (arith, same.2, c.loop-marks.invariant.most)
    | inr less ↦ omega (arith, less, c.loop-marks.invariant.most)
  ];
}
