-- What was gathered is put, and then the piece.
use Rattle.std.proofs.Common.{rules}
use Rattle.hz_outside.proofs.WrittenLemmas.{on_ok, Took-none_apart, TookPrefix-none_apart, Took-passed, Took-append, TookPrefix-append, TookPrefix-longer}
use Rattle.hz_outside.proofs.gathered.Gathered.put_beyond.Goals as goal

pub returns-in_err-pass_on-clause-failed : goal.returns-in_err-pass_on-clause-failed
returns-in_err-pass_on-clause-failed g c = λ failed.
    TookPrefix-longer c.args.piece.now (c.pass_on.ensures.failed (search rules))

pub returns-then-piece-gt-GATHERED-clause-whole : goal.returns-then-piece-gt-GATHERED-clause-whole
returns-then-piece-gt-GATHERED-clause-whole g c =
    let passed = rw (← c.self.view_is) at c.in_ok-pass_on.ensures.whole in
    let none = rw (← c.self.view_is) at c.in_ok-pass_on.ensures.emptied in
    on_ok _ _ c.put.result (λ put. Took-none_apart _ none (Took-append (Took-passed passed) put)) c.put.ensures.whole

pub returns-then-piece-gt-GATHERED-clause-failed : goal.returns-then-piece-gt-GATHERED-clause-failed
returns-then-piece-gt-GATHERED-clause-failed g c = λ failed.
    let passed = rw (← c.self.view_is) at c.in_ok-pass_on.ensures.whole in
    let none = rw (← c.self.view_is) at c.in_ok-pass_on.ensures.emptied in
    TookPrefix-none_apart _ none (TookPrefix-append (Took-passed passed) (c.put.ensures.failed failed))

pub returns-then-piece-gt-GATHERED-clause-memory : goal.returns-then-piece-gt-GATHERED-clause-memory
returns-then-piece-gt-GATHERED-clause-memory g c = λ refused.
    let passed = rw (← c.self.view_is) at c.in_ok-pass_on.ensures.whole in
    let none = rw (← c.self.view_is) at c.in_ok-pass_on.ensures.emptied in
    Took-none_apart _ none (Took-append (Took-passed passed) (c.put.ensures.memory refused))
