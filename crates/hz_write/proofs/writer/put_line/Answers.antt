-- All that the writer was given.
use Rattle.std.proofs.Common.{List, ℕ, ◌++◌, ap, sym, rules}
use Rattle.hz_write.specs.Pieces.{piece_text}
use Rattle.hz_write.specs.Writes.{newline, line_of}
use Rattle.hz_write.proofs.Writers.{concat-texts, writes_same, wrote_whole}
use Rattle.hz_write.proofs.writer.put_line.Goals as goal

pub returns : goal.returns
unfolding line_of
returns g c =
    let line = writes_same c.line.ensures.gave (ap (λ (text : List ℕ). text ++ newline) (sym (concat-texts piece_text c.args.pieces.now))) in
    let wrote = wrote_whole _ _ _ _ _ _ _ _ c.new-writer.ensures.begins line c.finish.ensures in
    search rules
