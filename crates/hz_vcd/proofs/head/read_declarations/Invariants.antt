use Rattle.std.proofs.Common.{◌-◌, []}
use Rattle.std.specs.List.{flat_map, range_with_len}
use Rattle.hz_vcd.specs.Dump.{variables_of, declaration_of}
use Rattle.hz_vcd.specs.Reading.{Ending, Goes, Past, all_words}
use Rattle.hz_vcd.proofs.HeadLaws.{declarations}
use Rattle.hz_vcd.proofs.head.read_declarations.Given as goal

-- the declarations so far were read
abbrev pub invariant-loop-var : goal.invariant-loop-var
invariant-loop-var l = (next : Ending) → Goes next []
    → Past (all_words (declarations l.net) next) l.fn.words
    (all_words (flat_map (declaration_of l.net) (range_with_len l.var (variables_of l.net - l.var))) next) l.words
