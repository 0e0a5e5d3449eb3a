use Rattle.hz_pass.proofs.CutLists.{filed-push}
use Rattle.hz_pass.proofs.cuts.file.Goals as goal

pub returns : goal.returns
returns c = filed-push c.args.lists.now c.args.node c.args.cut c.index-lists-node.result c.push.new.self c.requires c.in_ok-push.ensures.items
