-- The three ways to the pattern: nothing changed, all pins by one bit, the first free pin changed.
use Rattle.std.proofs.Common.{◌≡◌, Bool, true, false, refl, sym, ◌∙◌}
use Rattle.std.specs.Bool.{beq}
use Rattle.std.proofs.lemmas.Bool.{false≢true, true≢false}
use Rattle.hz_core.proofs.Patterns.{IsPattern-now, IsPattern-lone, IsPattern-changed}
use Rattle.hz_core.proofs.kind.Kind.choose.Goals as goal

same-beq : (a b : Bool) → beq a b ≡ true → a ≡ b
same-beq false false e = refl
same-beq false true e = absurd (false≢true e)
same-beq true false e = absurd (false≢true e)
same-beq true true e = refl

beq-same : (a b : Bool) → beq a b ≡ false → a ≡ b → ⊥
beq-same false false e same = true≢false e
beq-same false true e same = false≢true same
beq-same true false e same = true≢false same
beq-same true true e same = true≢false e

pub returns-then-eval-want : goal.returns-then-eval-want
returns-then-eval-want c =
    rw c.copy_from_slice.ensures.after
    (IsPattern-now c.args.self c.args.now.now c.args.free.now c.args.want
    (sym c.eval.ensures ∙ same-beq c.eval.result c.args.want c.if-eval-want.true))

pub returns-in-Some : goal.returns-in-Some
returns-in-Some c =
    rw (c.fill.ensures.after (λ y e. e), c.requires.to_length)
    (IsPattern-lone c.args.self c.args.now.now c.args.free.now c.args.want c.in-Some.bit c.in-Some.ensures
    c.requires.possible.0
    c.requires.possible.1)

pub returns-in-None : goal.returns-in-None
returns-in-None c =
    let differs = λ (same : _). beq-same c.eval.result c.args.want c.if-eval-want.false (c.eval.ensures ∙ same) in
    IsPattern-changed c.args.self c.args.now.now c.args.free.now c.change_first.new.to c.args.want _ c.requires.takes c.requires.free_length differs c.in-None.ensures
    c.requires.possible.0
    c.requires.possible.1
    refl
    (rw c.copy_from_slice-in-None.ensures.after at c.change_first.ensures)
