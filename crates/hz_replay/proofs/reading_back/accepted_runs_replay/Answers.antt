-- What is printed is read as the runs, by the law on printed run texts.
use Rattle.hz_replay.proofs.ReadBack.{accepted-replays}
use Rattle.hz_replay.proofs.reading_back.accepted_runs_replay.Goals as goal

pub returns : goal.returns
returns c = accepted-replays c.printed_runs_are_read.ensures
