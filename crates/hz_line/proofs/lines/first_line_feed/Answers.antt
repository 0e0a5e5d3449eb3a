use Rattle.hz_line.proofs.LineLemmas.{position-first_byte}
use Rattle.hz_line.proofs.lines.first_line_feed.Goals as goal

pub returns-clause-value : goal.returns-clause-value
returns-clause-value c = position-first_byte c.args.text.now _ c.memchr.ensures
