use Rattle.hz_run_text.proofs.RunBuildLaws.{all_known}
use Rattle.hz_run_text.proofs.build.add_step.Goals as goal

pub read_known-requires : goal.read_known-requires
read_known-requires c = all_known c.args.variables.now c.requires.known
