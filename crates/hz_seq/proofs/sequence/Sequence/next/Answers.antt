use Rattle.std.proofs.Common.{◌≡◌, ◌∙◌, refl, sym, ap, subst}
use Rattle.hz_desk.specs.Finding.{finding_of}
use Rattle.hz_seq.specs.Sequence.{SequenceState, IsFindingOfChange}
use Rattle.hz_seq.proofs.FindingEffects.{left-same}
use Rattle.hz_seq.proofs.sequence.Sequence.next.Goals as goal

pub returns : goal.returns
returns c =
    let shown : SequenceState = record { desk = c.self.inside.desk; start = c.self.inside.start.items; stopped = c.self.inside.stopped } in
    let same : shown ≡ c.make.new.self = c.self.view_is in
    let found : c.make.new.self.desk.finding ≡ finding_of c.finding.result.now = sym (c.finding.ensures.same ∙ ap (λ (s : SequenceState). s.desk.finding) same) in (
      (refl, (λ _. tt), left-same c.args.self.now c.make.new.self shown (finding_of c.finding.result.now) same c.finding.ensures.same c.in_ok-make.ensures.after),
      record {
        finding = (
          c.in_ok-make.ensures.finding.0,
          subst (IsFindingOfChange c.args.self.now.desk.netlist c.args.cap c.args.self.now.start c.args.change.now) found c.in_ok-make.ensures.finding.1,
        );
        after = tt;
      },
    )
