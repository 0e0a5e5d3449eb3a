use Rattle.std.proofs.Common.{◌≡◌, ◌∙◌, ◌++◌, ◌+◌, ◌*◌, List, length, length-append, map, ap, sym, subst, arith}
use Rattle.std.specs.List.{range_with_len}
use Rattle.std.proofs.Math.Nat.{add-mul}
use Rattle.std.proofs.lemmas.List.{map-append}
use Rattle.std.proofs.lemmas.Simd.{map-map}
use Rattle.hz_line.specs.Statement.{Numbered}
use Rattle.hz_text.specs.Assignment.{Assigned, assigned_bit}
use Rattle.hz_pattern_text.specs.PatternInside.{patterns_in}
use Rattle.hz_pattern_text.specs.PatternResolution.{ResolvedPatternStatement, PatternEntry, pattern_resolution_of, numbered_pattern_resolution}
use Rattle.hz_pattern_text.specs.PatternRules.{ArePatternsBehind}
use Rattle.hz_pattern_text.specs.PatternText.{held_first, pattern_statement}
use Rattle.hz_pattern_text.specs.PatternValue.{PatternsOf}
use Rattle.hz_pattern_text.proofs.PatternBehindLaws.{clear-behind}
use Rattle.hz_pattern_text.proofs.PatternBuildLaws.{held-pairs, right-entries, bits_in, built-back, length-built}
use Rattle.hz_pattern_text.proofs.PatternModelLaws.{patterns-append}
use Rattle.hz_pattern_text.proofs.build.build.Goals as goal

pub bits_of-requires : goal.bits_of-requires
bits_of-requires c =
    rw (c.nodes.ensures.nodes, c.held_first.ensures) (held-pairs c.args.circuit.now.inputs _ c.args.entries.now (clear-behind c.args.front.count _ _ c.requires.clear) c.requires.below)

pub push_statements-requires : goal.push_statements-requires
push_statements-requires c =
    let right = right-entries c.args.circuit.now.inputs c.args.entries.now c.behind_hold-patterns.result.now (clear-behind c.args.front.count _ _ c.requires.clear) c.behind_hold-patterns.ensures in
    rw c.inputs-inputs.ensures.inputs (λ k d l. (right k d l).1)

pub of-requires : goal.of-requires
of-requires c =
    let inputs = c.args.circuit.now.inputs in
    let patterns = c.behind_hold-patterns.result.now in
    let right = right-entries inputs c.args.entries.now patterns (clear-behind c.args.front.count _ _ c.requires.clear) c.behind_hold-patterns.ensures in
    let f = λ (entry : PatternEntry). pattern_resolution_of entry.held in
    let more = bits_in inputs f patterns in
    let front = c.args.front.bits.items in
    let long : length (front ++ more) ≡ (c.args.front.count + length patterns) * (2 * inputs) =
    omega (arith, c.requires.long, length-built inputs f patterns right, length-append front more, add-mul c.args.front.count (length patterns) (2 * inputs)) in
    rw (c.in_ok-push_statements.ensures, c.inputs-inputs.ensures.inputs) long

pub returns : goal.returns
returns c =
    let inputs = c.args.circuit.now.inputs in
    let entries = c.args.entries.now in
    let patterns = c.behind_hold-patterns.result.now in
    let right = right-entries inputs entries patterns (clear-behind c.args.front.count _ _ c.requires.clear) c.behind_hold-patterns.ensures in
    let f = λ (entry : PatternEntry). pattern_resolution_of entry.held in
    let statement_of = λ (numbered : Numbered ResolvedPatternStatement). numbered.statement in
    let more = bits_in inputs f patterns in
    let front = patterns_in c.args.front.count inputs c.args.front.bits.items in
    let P : PatternsOf → Type 0 = ArePatternsBehind front (length c.args.circuit.now.names) (map numbered_pattern_resolution entries) in
    subst P (sym c.of.ensures) (record {
      held =
          c.in_ok-held.ensures
          ∙ ap (λ (all : List Assigned). map (assigned_bit all) (range_with_len 0 c.nodes.result)) c.held_first.ensures
          ∙ ap (λ nodes. map (assigned_bit (held_first (map numbered_pattern_resolution entries))) (range_with_len 0 nodes)) c.nodes.ensures.nodes;
      patterns =
          rw (c.in_ok-push_statements.ensures, c.inputs-inputs.ensures.inputs)
          (ap (map pattern_statement) (patterns-append c.args.front.count (length patterns) inputs c.args.front.bits.items more c.requires.long)
          ∙ map-append pattern_statement front (patterns_in (length patterns) inputs more)
          ∙ ap (λ (later : List ResolvedPatternStatement). map pattern_statement front ++ later)
          (built-back inputs f patterns right
          ∙ sym (map-map statement_of numbered_pattern_resolution patterns)
          ∙ ap (map statement_of) c.behind_hold-patterns.ensures));
    })
