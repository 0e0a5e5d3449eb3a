use Rattle.std.proofs.Common.{rules}
use Rattle.hz_plane.proofs.Marks.{first-word, first-kept, first-none, first-less}
use Rattle.hz_plane.proofs.sweep.take.Goals as goal

pub returns-clause-word : goal.returns-clause-word
returns-clause-word c = first-word c.args.marks.now c.args.word c.requires.inside c.requires.some (search rules)

pub returns-clause-kept : goal.returns-clause-kept
returns-clause-kept c = first-kept c.args.marks.now c.args.word c.requires.inside c.requires.some (search rules)

pub returns-clause-none : goal.returns-clause-none
returns-clause-none c = first-none c.args.marks.now c.args.word c.requires.inside c.requires.some (search rules)

pub returns-clause-less : goal.returns-clause-less
returns-clause-less c = first-less c.args.marks.now c.args.word c.requires.inside c.requires.some (search rules)
