-- Without a feedback cycle no variable can have a core, so each has its mark.
use Rattle.std.proofs.Common.{arith, ◌≡◌, ◌∙◌, ◌<◌, true, false, sym, ap, subst, get_or, length, List, Bool}
use Rattle.std.proofs.lemmas.List.{length-map}
use Rattle.hz_net.specs.Network.{bit_at}
use Rattle.hz_free.specs.CappedWords.{constant_if}
use Rattle.hz_free.specs.FreePart.{FreePart}
use Rattle.hz_free.proofs.Parts.{all-marked}
use Rattle.hz_free.proofs.free.Free.fill.Goals as goal

pub returns-then-len-eq0 : goal.returns-then-len-eq0
returns-then-len-eq0 g c = λ i few.
    let same : c.self.inside.free.items ≡ c.args.self.now.free = ap (λ (part : FreePart). part.free) c.self.view_is in
    let long : length c.self.inside.free.items ≡ length c.args.self.now.free = ap length same in
    let kept = c.fill_all.auto.out in
    let inside : i < length c.args.out.now = omega (arith, few, kept, length-map c.fill_all.new.out g.S.StoredWord.word_in) in
    let marked = all-marked c.self.inside.free.items c.self.inside.feedback.cycles c.self.inside.feedback.cores.items c.self.invariant (sym c.len.ensures ∙ c.if-len-eq0.true) i (omega (arith, inside, long, c.requires.free)) in
    c.fill_all.ensures i inside
    ∙ ap (λ (mark : Bool). constant_if mark (bit_at c.args.start.now i)) (sym (subst (λ (free : List Bool). get_or free i false ≡ true) same marked))
