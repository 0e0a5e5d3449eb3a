-- What was gathered is put, and then the other sink is flushed.
use Rattle.hz_outside.proofs.WrittenLemmas.{on_ok, Took-none_apart, TookPrefix-none_apart, Took-passed, Took-append, TookPrefix-append}
use Rattle.hz_outside.proofs.gathered.GatheredSink.flush.Goals as goal

pub returns-clause-whole : goal.returns-clause-whole
returns-clause-whole g c =
    let passed = rw (← c.self.view_is) at c.in_ok-pass_on.ensures.whole in
    let none = rw (← c.self.view_is) at c.in_ok-pass_on.ensures.emptied in
    on_ok _ _ c.flush.result (λ flushed. Took-none_apart _ none (Took-append (Took-passed passed) flushed)) c.flush.ensures.whole

pub returns-clause-failed : goal.returns-clause-failed
returns-clause-failed g c = λ failed.
    let passed = rw (← c.self.view_is) at c.in_ok-pass_on.ensures.whole in
    let none = rw (← c.self.view_is) at c.in_ok-pass_on.ensures.emptied in
    TookPrefix-none_apart _ none (TookPrefix-append (Took-passed passed) (c.flush.ensures.failed failed))

pub returns-clause-memory : goal.returns-clause-memory
returns-clause-memory g c = λ refused.
    let passed = rw (← c.self.view_is) at c.in_ok-pass_on.ensures.whole in
    let none = rw (← c.self.view_is) at c.in_ok-pass_on.ensures.emptied in
    Took-none_apart _ none (Took-append (Took-passed passed) (c.flush.ensures.memory refused))
