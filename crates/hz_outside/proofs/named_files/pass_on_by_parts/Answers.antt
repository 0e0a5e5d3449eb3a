use Rattle.std.proofs.Common.{◌≡◌, ◌++◌, IfSome, List, OnOk, subst, ℕ}
use Rattle.hz_outside.proofs.named_files.pass_on_by_parts.Goals as goal

-- what was received before did not change when the receiver took room
pub returns-clause-whole : goal.returns-clause-whole
returns-clause-whole g c =
    let P : List ℕ → Type 0 = λ before. OnOk c.pass_on.result
    (IfSome (g.R.Read.remaining c.args.reader.now) (λ left. g.T.Receive.received c.pass_on.new.receiver ≡ before ++ left)) in
    subst P c.in-Ok.ensures.received c.pass_on.ensures.whole
