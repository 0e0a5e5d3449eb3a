-- One node after the other.
use Rattle.std.proofs.Common.{arith, ◌≡◌, ◌∙◌, sym, subst, length, map, take, get_or, List, ℕ}
use Rattle.std.proofs.lemmas.List.{length-map}
use Rattle.std.proofs.Math.Seq.{take-length}
use Rattle.hz_free.proofs.ToldWords.{AreTold, within-given, known-given, begin-told, placed-below, placed-inside, ready-words, folded-told, constant-told, all-told}
use Rattle.hz_free.proofs.free.write_words.Goals as goal
use Rattle.hz_free.proofs.free.write_words.Goals.{then-may_change, else-may_change}

pub loop-node-init : goal.loop-node-init
loop-node-init g c =
    begin-told c.args.folding.now.net.now c.args.folding.now.input.now c.args.folding.now.start.now c.args.folding.now.cap c.requires.folding.start (record { free = c.requires.part.0; order = c.args.order.now; cycles = c.requires.part.1; cores = c.requires.part.2 }) c.requires.part.3
    (map g.S.StoredWord.word_in c.args.out.now) (length-map c.args.out.now g.S.StoredWord.word_in ∙ c.requires.out) c.requires.part.4

pub may_change-requires : goal.may_change-requires
may_change-requires g c =
    within-given c.args.folding.now.net.now c.args.folding.now.input.now c.args.folding.now.start.now (λ a. a.now) c.args.a (get_or c.args.order.now c.loop-node.node-index 0) c.requires.folding.start
    (placed-inside c.args.folding.now.net.now c.args.folding.now.input.now c.args.folding.now.start.now c.args.folding.now.cap c.requires.folding.start (record { free = c.requires.part.0; order = c.args.order.now; cycles = c.requires.part.1; cores = c.requires.part.2 }) c.requires.part.3 c.loop-node.node-index c.loop-node-test.true)
    c.requires.a

pub write_word-requires-clause-ready : goal.write_word-requires-clause-ready
write_word-requires-clause-ready g c =
    ready-words c.args.folding.now.net.now c.args.folding.now.input.now c.args.folding.now.start.now c.args.folding.now.cap c.requires.folding.start (record { free = c.requires.part.0; order = c.args.order.now; cycles = c.requires.part.1; cores = c.requires.part.2 }) c.requires.part.3 c.loop-node.node-index c.loop-node-test.true (map g.S.StoredWord.word_in c.loop-node.out) c.loop-node.invariant

pub write_word-requires-clause-node : goal.write_word-requires-clause-node
write_word-requires-clause-node g c =
    placed-below c.args.folding.now.net.now c.args.folding.now.input.now c.args.folding.now.start.now c.args.folding.now.cap c.requires.folding.start (record { free = c.requires.part.0; order = c.args.order.now; cycles = c.requires.part.1; cores = c.requires.part.2 }) c.requires.part.3 c.loop-node.node-index c.loop-node-test.true

pub loop-node-preserved : goal.loop-node-preserved
loop-node-preserved g c =
    elim c.if-may_change.branch [
      | then-may_change w ↦
          rw w.out-is
          (folded-told c.args.folding.now.net.now c.args.folding.now.input.now c.args.folding.now.start.now c.args.folding.now.cap c.requires.folding.start (record { free = c.requires.part.0; order = c.args.order.now; cycles = c.requires.part.1; cores = c.requires.part.2 }) c.requires.part.3
          c.loop-node.node-index c.loop-node-test.true (map g.S.StoredWord.word_in c.loop-node.out) c.loop-node.invariant w.write_word.ensures.0 (map g.S.StoredWord.word_in w.write_word.new.out) w.write_word.ensures.1
          (length-map w.write_word.new.out g.S.StoredWord.word_in ∙ (w.write_word.auto.out ∙ sym (length-map c.loop-node.out g.S.StoredWord.word_in))) w.write_word.ensures.2)
      | else-may_change w ↦
          let given = known-given (λ a. a.now) c.args.a (get_or c.args.order.now c.loop-node.node-index 0) c.may_change.ensures w.if-may_change.false c.requires.a in
          rw w.out-is
          (constant-told c.args.folding.now.net.now c.args.folding.now.input.now c.args.folding.now.start.now c.args.folding.now.cap c.requires.folding.start (record { free = c.requires.part.0; order = c.args.order.now; cycles = c.requires.part.1; cores = c.requires.part.2 }) c.requires.part.3
          c.loop-node.node-index c.loop-node-test.true (map g.S.StoredWord.word_in c.loop-node.out) c.loop-node.invariant given.0 given.1 given.2)
    ]

pub returns : goal.returns
returns g c =
    let end : c.loop-node.node-index ≡ length c.args.order.now = omega arith in
    let whole : take c.loop-node.node-index c.args.order.now ≡ c.args.order.now = subst (λ (n : ℕ). take n c.args.order.now ≡ c.args.order.now) (sym end) (take-length c.args.order.now) in
    all-told c.args.folding.now.net.now c.args.folding.now.input.now c.args.folding.now.start.now c.args.folding.now.cap c.requires.folding.start (record { free = c.requires.part.0; order = c.args.order.now; cycles = c.requires.part.1; cores = c.requires.part.2 }) c.requires.part.3
    (map g.S.StoredWord.word_in c.loop-node.out)
    (subst (λ (placed : List ℕ). AreTold c.args.folding.now.net.now c.args.folding.now.input.now c.args.folding.now.start.now c.args.folding.now.cap placed (map g.S.StoredWord.word_in c.loop-node.out)) whole c.loop-node.invariant)
