-- The sequence begins at the start.
use Rattle.std.proofs.Common.{◌≡◌, ap}
use Rattle.hz_seq.specs.Sequence.{SequenceState}
use Rattle.hz_changes.proofs.splitting.split.Goals as goal

pub returns : goal.returns
returns g c =
    let begins : c.in-Ok-new.sequence.start ≡ c.args.start.now = ap (λ (s : SequenceState). s.start) c.in-Ok-new.ensures in
    rw begins at c.split_changes.ensures
