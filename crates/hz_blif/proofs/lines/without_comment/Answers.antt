use Rattle.std.proofs.Common.{sym, subst}
use Rattle.memchr.specs.Find.{IsFirstByte, is_byte}
use Rattle.hz_blif.proofs.LineLemmas.{cut_comment, uncut_comment}
use Rattle.hz_blif.proofs.lines.without_comment.Goals as goal

pub returns-in-Some : goal.returns-in-Some
returns-in-Some c = sym (cut_comment c.args.line.now c.in-Some.start (subst (IsFirstByte (is_byte 35) c.args.line.now) c.in-Some.is c.memchr.ensures))

pub returns-in-None : goal.returns-in-None
returns-in-None c = sym (uncut_comment c.args.line.now (subst (IsFirstByte (is_byte 35) c.args.line.now) c.in-None.is c.memchr.ensures))
