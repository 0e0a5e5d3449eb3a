-- The text exists before its first line is made.
use Rattle.std.proofs.Common.{◌∙◌, ap, refl, length, rules, List, Option, Bool, arith}
use Rattle.hz_write.proofs.Writers.{wrote_whole}
use Rattle.hz_batch.proofs.Exist.{text-exists}
use Rattle.hz_batch.proofs.Texts.{few-nodes, stops-nothing}
use Rattle.hz_batch.proofs.writing.write_text.Goals as goal

pub held_at_start-requires : goal.held_at_start-requires
held_at_start-requires g c =
    few-nodes c.args.net.now (length c.held.result.now) c.keeps_shape.ensures.circuit (ap (λ (list : List (Option Bool)). length list) c.held.ensures ∙ c.requires.patterns.nodes)

pub returns-in_default-clause-wrote : goal.returns-in_default-clause-wrote
returns-in_default-clause-wrote g c =
    let exists = text-exists c.args.job c.args.net.now c.args.patterns.now c.laws_hold.ensures c.keeps_shape.ensures.circuit c.keeps_shape.ensures.whole c.requires.patterns in
    (exists.0, exists.1, stops-nothing g.K.Sink.output g.K.Sink.faults exists.0 c.args.out.now)

pub returns-in_default-room_for-clause-wrote : goal.returns-in_default-room_for-clause-wrote
returns-in_default-room_for-clause-wrote g c =
    let exists = text-exists c.args.job c.args.net.now c.args.patterns.now c.laws_hold.ensures c.keeps_shape.ensures.circuit c.keeps_shape.ensures.whole c.requires.patterns in
    (exists.0, exists.1, stops-nothing g.K.Sink.output g.K.Sink.faults exists.0 c.args.out.now)

pub returns-clause-wrote : goal.returns-clause-wrote
returns-clause-wrote g c =
    let gave = c.write_all.ensures.gave in
    let is = gave.1 in
    let wrote = wrote_whole _ _ _ _ _ _ _ _ c.new-writer.ensures.begins gave.2 c.finish.ensures in
    search rules

pub returns-in_default-clause-looked : goal.returns-in_default-clause-looked
returns-in_default-clause-looked g c = (0, omega arith, refl)

pub returns-in_default-room_for-clause-looked : goal.returns-in_default-room_for-clause-looked
returns-in_default-room_for-clause-looked g c = (0, omega arith, refl)
