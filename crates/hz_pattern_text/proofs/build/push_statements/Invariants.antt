use Rattle.std.proofs.Common.{◌≡◌, ◌++◌, take}
use Rattle.std.specs.List.{flat_map}
use Rattle.hz_pattern_text.specs.PatternInside.{statement_bits}
use Rattle.hz_pattern_text.specs.PatternResolution.{pattern_resolution_of}
use Rattle.hz_pattern_text.proofs.build.push_statements.Given as goal

abbrev pub invariant-loop-entry : goal.invariant-loop-entry
invariant-loop-entry l = l.bits.items ≡ l.fn.bits.items ++ flat_map (λ entry. statement_bits l.inputs (pattern_resolution_of entry.held)) (take l.entry-index l.entries)
