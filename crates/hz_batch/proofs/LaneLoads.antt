-- Lanes that are loaded with patterns, one after the other.
use Rattle.std.proofs.Common.{◌≡◌, ◌∙◌, refl, sym, ap, ℕ, ◌+◌, ◌-◌, ◌*◌, ◌<◌, ◌≤◌, Bool, List, [], ◌∷◌, ◌++◌, length, map, take, drop, replicate, get_or, Option, Some, None, arith}
use Rattle.std.specs.Prelude.{slice_get}
use Rattle.std.specs.List.{flat_map, All}
use Rattle.std.proofs.Math.Nat.{suc-mul, zero-mul}
use Rattle.std.proofs.lemmas.List.Elements.{All-head, All-tail, All-take, All-drop}
use Rattle.std.proofs.lemmas.List.{length-append, length-map, length-drop, length-take-le, get_or_append_left, get_or-map, get_or-take}
use Rattle.std.proofs.lemmas.Option.{slice_get-get_or}
use Rattle.hz_core.specs.Netlist.{Netlist, IsCircuit}
use Rattle.hz_pattern_text.specs.PatternText.{ArePatternsFor, IsPatternOf}
use Rattle.hz_pattern_text.specs.PatternValue.{PatternOf, PatternsOf, bits_of_pattern}
use Rattle.hz_text.specs.Printed.{listed_from}
use Rattle.hz_pattern_text.proofs.PatternBuildLaws.{cut}
use Rattle.hz_plane.specs.Loads.{Loaded, loads_in, block_loads}
use Rattle.hz_batch.specs.Blocks.{load_of, lanes_with}
use Rattle.hz_batch.proofs.HeldLemmas.{listing-loaded}

-- so many patterns have two bits for each input
bits-long : (inputs : ℕ) (patterns : List PatternOf) → All (IsPatternOf inputs) patterns → length (flat_map bits_of_pattern patterns) ≡ length patterns * (2 * inputs)
bits-long inputs [] all = sym (zero-mul (2 * inputs))
bits-long inputs (pattern ∷ patterns) all =
    let this = All-head (IsPatternOf inputs) pattern patterns all in
    let rest = bits-long inputs patterns (All-tail (IsPatternOf inputs) pattern patterns all) in
    omega (arith, rest, this.from, this.to, length-append pattern.from pattern.to, length-append (bits_of_pattern pattern) (flat_map bits_of_pattern patterns), suc-mul (length patterns) (2 * inputs))

-- the patterns of a block
block-patterns : (netlist : Netlist) (value : PatternsOf) (first lanes : ℕ) → ArePatternsFor netlist value → first + lanes ≤ length value.patterns → All (IsPatternOf netlist.inputs) (take lanes (drop first value.patterns))
block-patterns netlist value first lanes for few =
    All-take (IsPatternOf netlist.inputs) lanes (drop first value.patterns) (All-drop (IsPatternOf netlist.inputs) first value.patterns for.patterns)

block-long : (value : PatternsOf) (first lanes : ℕ) → first + lanes ≤ length value.patterns → length (take lanes (drop first value.patterns)) ≡ lanes
block-long value first lanes few = length-take-le lanes (drop first value.patterns) (omega (arith, few, length-drop first value.patterns))

pub block-bits : (netlist : Netlist) (value : PatternsOf) (first lanes : ℕ) → ArePatternsFor netlist value → first + lanes ≤ length value.patterns →
    length (flat_map bits_of_pattern (take lanes (drop first value.patterns))) ≡ lanes * (2 * netlist.inputs)
block-bits netlist value first lanes for few =
    bits-long netlist.inputs (take lanes (drop first value.patterns)) (block-patterns netlist value first lanes for few)
    ∙ ap (λ (n : ℕ). n * (2 * netlist.inputs)) (block-long value first lanes few)

-- lanes that are loaded from the bits of patterns
loads-are : (netlist : Netlist) (value : PatternsOf) (patterns : List PatternOf) → IsCircuit netlist → ArePatternsFor netlist value → All (IsPatternOf netlist.inputs) patterns →
    loads_in (length netlist.names) netlist.inputs (listed_from 0 value.held) (length patterns) (flat_map bits_of_pattern patterns) ≡ map (load_of value.held) patterns
loads-are netlist value [] circuit for all = refl
loads-are netlist value (pattern ∷ patterns) circuit for all =
    let inputs = netlist.inputs in
    let this = All-head (IsPatternOf inputs) pattern patterns all in
    let parts = cut inputs pattern.from pattern.to (flat_map bits_of_pattern patterns) this.from this.to in
    let listed = listing-loaded netlist value pattern circuit for this.from in
    let rest = loads-are netlist value patterns circuit for (All-tail (IsPatternOf inputs) pattern patterns all) in
    rw (parts.from, parts.to, parts.later, listed, rest) refl

-- the lanes of a block
pub block-loaded : (netlist : Netlist) (value : PatternsOf) (first lanes : ℕ) → IsCircuit netlist → ArePatternsFor netlist value → first + lanes ≤ length value.patterns →
    block_loads (length netlist.names) netlist.inputs (listed_from 0 value.held) lanes (flat_map bits_of_pattern (take lanes (drop first value.patterns))) ≡ lanes_with value.held (take lanes (drop first value.patterns))
block-loaded netlist value first lanes circuit for few =
    let block = take lanes (drop first value.patterns) in
    let is = loads-are netlist value block circuit for (block-patterns netlist value first lanes for few) in
    let long = block-long value first lanes few in
    ap (λ (n : ℕ). loads_in (length netlist.names) netlist.inputs (listed_from 0 value.held) n (flat_map bits_of_pattern block) ++ replicate (512 - n) None) (sym long)
    ∙ ap (λ (loads : List (Option Loaded)). loads ++ replicate (512 - length block) None) is

-- what a lane of a block holds
pub lane-holds : (held : List (Option Bool)) (block : List PatternOf) (lane : ℕ) (d : PatternOf) → lane < length block → slice_get (lanes_with held block) lane ≡ Some (load_of held (get_or block lane d))
lane-holds held block lane d inside =
    let lanes = map (load_of held) block in
    let rest : List (Option Loaded) = replicate (512 - length block) None in
    let long : length lanes ≡ length block = length-map block (load_of held) in
    slice_get-get_or (lanes ++ rest) lane None (omega (arith, inside, long, length-append lanes rest))
    ∙ ap (λ (entry : Option Loaded). Some entry) (get_or_append_left lanes rest None lane (omega (arith, inside, long)) ∙ get_or-map (load_of held) block lane d None inside)

-- what a lane holds once the first patterns of a rest are loaded
pub lane-of-rest : (held : List (Option Bool)) (rest : List PatternOf) (lanes lane : ℕ) (d : PatternOf) → lane < lanes → lanes ≤ length rest → slice_get (lanes_with held (take lanes rest)) lane ≡ Some (load_of held (get_or rest lane d))
lane-of-rest held rest lanes lane d inside all =
    lane-holds held (take lanes rest) lane d (omega (arith, inside, length-take-le lanes rest all))
    ∙ ap (λ (pattern : PatternOf). Some (load_of held pattern)) (get_or-take lanes rest lane d inside)
