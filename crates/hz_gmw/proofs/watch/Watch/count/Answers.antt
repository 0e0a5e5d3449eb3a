use Rattle.std.proofs.Common.{arith}
use Rattle.hz_gmw.proofs.WatchLemmas.{count-watched}
use Rattle.hz_gmw.proofs.watch.Watch.count.Goals as goal

pub returns : goal.returns
returns c =
    let current = c.args.current.now in
    let watch = c.args.self.now in
    omega (
      arith,
      c.without_stable.ensures,
      c.without_nodes-unchanged.ensures,
      c.requires.exact.unstable,
      count-watched c.args.net.now c.requires.exact.counted.fits.circuit current.input.items current.state.items watch.changed watch.been_stable c.members.result.now c.members-2.result.now c.members.ensures c.members-2.ensures c.requires.fits.changed c.requires.fits.been_stable,
    )
