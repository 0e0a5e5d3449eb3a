use Rattle.std.proofs.Common.{rules}
use Rattle.std.proofs.lemmas.Iterator.{YieldsList-from_map, YieldsList-from_slice}
use Rattle.std.proofs.lemmas.Iterator.Adapters.{items_from_extend}
use Rattle.hz_pattern_text.specs.PatternModel.{slack_by}
use Rattle.hz_pattern_text.proofs.printed.slack_of.Goals as goal

pub returns : goal.returns
returns c =
    let h = items_from_extend c.extend.result c.extend.ensures.ran (YieldsList-from_map _ (λ byte. slack_by byte) (YieldsList-from_slice c.args.model.now cc) c.map.ensures.closure (λ x r q k. search rules)) in
    search rules
