use Rattle.std.proofs.Common.{rules, nat_eq}
use Rattle.std.proofs.lemmas.Iterator.{YieldsList-from_map, YieldsList-from_slice}
use Rattle.std.proofs.lemmas.Iterator.Adapters.{items_from_extend}
use Rattle.hz_pattern_text.proofs.printed.mark_ones.Goals as goal

pub returns : goal.returns
returns c =
    let h = items_from_extend c.extend.result c.extend.ensures.ran (YieldsList-from_map _ (λ byte. nat_eq byte 49) (YieldsList-from_slice c.args.bytes.now cc) c.map.ensures.closure (λ x r q k. search rules)) in
    search rules
