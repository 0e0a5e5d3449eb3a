-- Each write takes a front of what is left.
use Rattle.std.proofs.Common.{◌≡◌, ◌∙◌, ◌-◌, ◌++◌, ℕ, List, [], length, ap, sym, append_assoc, take, drop, take-append-drop, refl, rules, arith}
use Rattle.std.proofs.lemmas.List.{append-nil, take_all, length-drop, nil_from_length}
use Rattle.hz_outside.specs.WrittenText.{extended_text}
use Rattle.hz_outside.proofs.WrittenLemmas.{extended_text-nil, extended_text-append, Took-at_once, TookPrefix-at_once}
use Rattle.hz_outside.proofs.whole_sink.write_all.Goals as goal

-- what was done, what is done now and what is left are the piece
more : (piece done rest : List ℕ) (count : ℕ) → done ++ rest ≡ piece → (done ++ take count rest) ++ take (length rest - count) (drop count rest) ≡ piece
more piece done rest count whole =
    ap (λ (back : List ℕ). (done ++ take count rest) ++ back) (take_all (length rest - count) (drop count rest) (omega (arith, length-drop count rest)))
    ∙ append_assoc done (take count rest) (drop count rest) ∙ ap (λ (xs : List ℕ). done ++ xs) (take-append-drop count rest) ∙ whole

pub loop-rest-init : goal.loop-rest-init
loop-rest-init g c = ([], refl, sym (extended_text-nil _))

pub loop-rest-preserved : goal.loop-rest-preserved
loop-rest-preserved g c =
    let done = c.loop-rest.invariant.0 in
    let taken = take c.in-Some.count c.loop-rest.rest.now in (
      done ++ taken,
      more _ done _ c.in-Some.count c.loop-rest.invariant.1,
      c.in-Some.ensures.some ∙ ap (λ was. extended_text was taken) c.loop-rest.invariant.2 ∙ sym (extended_text-append _ done taken),
    )

pub returns-in_default-clause-front : goal.returns-in_default-clause-front
returns-in_default-clause-front g c = λ _.
    TookPrefix-at_once _ _ c.loop-rest.invariant.1 (c.in_default.ensures.none refl ∙ c.loop-rest.invariant.2)

pub returns-then-count-eq0-clause-front : goal.returns-then-count-eq0-clause-front
returns-then-count-eq0-clause-front g c = λ _.
    let none = rw c.if-count-eq0.true at c.in-Some.ensures.some in
    TookPrefix-at_once _ _ c.loop-rest.invariant.1 (none ∙ extended_text-nil _ ∙ c.loop-rest.invariant.2)

pub returns-clause-whole : goal.returns-clause-whole
returns-clause-whole g c = λ _.
    let done = c.loop-rest.invariant.0 in
    let none : c.loop-rest.rest.now ≡ [] = nil_from_length c.loop-rest.rest.now (search rules) in
    let whole : done ≡ c.args.piece.now = sym (append-nil done) ∙ ap (λ (xs : List ℕ). done ++ xs) (sym none) ∙ c.loop-rest.invariant.1 in
    Took-at_once c.args.piece.now (c.loop-rest.invariant.2 ∙ ap (extended_text (g.W.WriteSome.written c.args.to.now)) whole)
