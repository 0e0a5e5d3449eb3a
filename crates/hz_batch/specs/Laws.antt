-- What is known of starts and of both algorithms.
use Rattle.hz_pass.specs.Decided.{StartsAreDecided}
use Rattle.hz_plane.specs.View.{ListedInputsFill}
use Rattle.hz_net.specs.PassEnds.{ResultOfAExists, ResultOfBExists}
use Rattle.hz_reset.specs.Values.{ValuesExist, BeginsAllUnknown}

-- every pattern comes to something, and planes that list the inputs alone hold what these bring about
pub record AreLaws : Type 0 where
  pub decided : StartsAreDecided
  pub a_exists : ResultOfAExists
  pub b_exists : ResultOfBExists
  pub values_exist : ValuesExist
  pub begins_unknown : BeginsAllUnknown
  pub inputs_fill : ListedInputsFill
