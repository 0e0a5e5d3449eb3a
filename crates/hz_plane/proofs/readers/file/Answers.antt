use Rattle.hz_plane.proofs.ReaderLemmas.{filed-push}
use Rattle.hz_plane.proofs.readers.file.Goals as goal

pub returns : goal.returns
returns c = filed-push c.args.lists.now c.args.node c.args.place c.index-lists-node.result c.push.new.self c.requires c.in_ok-push.ensures.ok
