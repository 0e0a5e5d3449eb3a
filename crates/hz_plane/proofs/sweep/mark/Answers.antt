use Rattle.hz_plane.proofs.Marks.{marked-here, marked-kept}
use Rattle.hz_plane.proofs.sweep.mark.Goals as goal

pub returns-then-place-words-clause-here : goal.returns-then-place-words-clause-here
returns-then-place-words-clause-here c = marked-here c.args.marks.now c.args.reader c.requires.inside

pub returns-then-place-words-clause-kept : goal.returns-then-place-words-clause-kept
returns-then-place-words-clause-kept c = marked-kept c.args.marks.now c.args.reader c.requires.inside

pub returns-else-place-words-clause-here : goal.returns-else-place-words-clause-here
returns-else-place-words-clause-here c = marked-here c.args.marks.now c.args.reader c.requires.inside

pub returns-else-place-words-clause-kept : goal.returns-else-place-words-clause-kept
returns-else-place-words-clause-kept c = marked-kept c.args.marks.now c.args.reader c.requires.inside
