use Rattle.std.proofs.Common.{rules, nat_eq, take}
use Rattle.std.proofs.lemmas.Iterator.{YieldsList-from_map, YieldsList-from_slice}
use Rattle.std.proofs.lemmas.Iterator.Adapters.{items_from_extend}
use Rattle.hz_pattern_text.proofs.word.push_bits.Goals as goal

pub returns : goal.returns
returns c =
    let h = items_from_extend c.extend.result c.extend.ensures.ran (YieldsList-from_map _ (λ letter. nat_eq letter 49) (YieldsList-from_slice (take c.args.inputs c.args.word.now) cc) c.map.ensures.closure (λ x r q k. search rules)) in
    search rules
