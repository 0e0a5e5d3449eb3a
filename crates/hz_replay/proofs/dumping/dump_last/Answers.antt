-- The dump was put, or a prefix of it; without room nothing was.
use Rattle.std.proofs.Common.{refl}
use Rattle.hz_refusal.specs.declared.status.Status.TheVariants as status
use Rattle.hz_refusal.proofs.PutEndings.{Ends-put}
use Rattle.hz_replay.specs.Dumps.{IsLastWritten, last_dump}
use Rattle.hz_replay.proofs.dumping.dump_last.Goals as goal

pub returns : goal.returns
returns g c =
    let netlist = c.args.net.now in
    let text = c.args.runs.now in
    Ends-put g.K.Sink.output g.K.Sink.faults (IsLastWritten netlist text) c.args.out.now c.put_last-put.new.out status.Done (last_dump netlist text)
    c.put_last-put.result c.status_after.result tt (refl, refl, c.put_last-put.ensures.means) c.put_last-put.ensures.wrote c.status_after.ensures
