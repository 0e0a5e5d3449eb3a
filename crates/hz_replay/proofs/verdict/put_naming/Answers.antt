-- All that the writer was given.
use Rattle.std.proofs.Common.{refl, sym, rules}
use Rattle.hz_write.specs.Pieces.{piece_text}
use Rattle.hz_write.proofs.Writers.{concat-texts, writes_then, writes_same, wrote_whole}
use Rattle.hz_replay.specs.Verdict.{naming_line}
use Rattle.hz_replay.proofs.verdict.put_naming.Goals as goal

pub returns : goal.returns
unfolding naming_line
returns g c =
    let words = writes_same c.add.ensures (sym (concat-texts piece_text c.args.words.now)) in
    let line = writes_then (writes_then words c.write_variable.ensures refl) c.end.ensures.gave refl in
    let wrote = wrote_whole _ _ _ _ _ _ _ _ c.new-writer.ensures.begins line c.finish.ensures in
    search rules
