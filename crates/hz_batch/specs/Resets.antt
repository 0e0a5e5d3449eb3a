-- What patterns come to in the job `reset`.
use Rattle.std.specs.Prelude.{◌≡◌, ℕ, Bool, Option, List, [], ◌∷◌}
use Rattle.hz_core.specs.declared.tri.Tri.{Tri}
use Rattle.hz_core.specs.Ternary.{tri_of, Refines}
use Rattle.hz_core.specs.Netlist.{Netlist}
use Rattle.hz_net.specs.Network.{network_of, bit_at, value_at}
use Rattle.hz_net.specs.TernaryStarts.{unknown_start}
use Rattle.hz_reset.specs.Values.{IsOutcomeAlong}
use Rattle.hz_pattern_text.specs.PatternValue.{PatternOf, PatternsOf}
use Rattle.hz_batch.specs.Each.{AreEach}
use Rattle.hz_batch.specs.ResetText.{BothValues, IsResetText}
use Rattle.hz_refusal.specs.declared.status.Status.{Status}
use Rattle.hz_refusal.specs.declared.status.Status.TheVariants as status

-- Where a value is 0 or 1, it is right. Take any state that the circuit may come up in, that is any whose held gates have their
-- bits, and for each input after the other any outcome of the state before. Then the last one has this bit. An X promises nothing.
abbrev pub AreRight : Netlist → List (Option Bool) → (inputs : List (List Bool)) →
    (values : List Tri) → Type 0
AreRight netlist held inputs values =
    (start state : List Bool) (var : ℕ) (bit : Bool) →
    Refines start (unknown_start (network_of netlist) held) →
    IsOutcomeAlong (network_of netlist) start inputs state → value_at values var ≡ tri_of bit →
    bit_at state var ≡ bit

-- What a pattern brings about is right after its first bits, and after its second bits. And from each state that the circuit may come up
-- in there is an outcome of the first bits, and then one of the second, so that this says something.
pub record IsRight (netlist : Netlist) (held : List (Option Bool)) (pattern : PatternOf)
    (values : BothValues) : Type 0 where
  pub first : AreRight netlist held (pattern.from ∷ []) values.first
  pub second : AreRight netlist held (pattern.from ∷ pattern.to ∷ []) values.second
  pub some : (start : List Bool) → Refines start (unknown_start (network_of netlist) held) →
      (state : List Bool)
      × IsOutcomeAlong (network_of netlist) start (pattern.from ∷ pattern.to ∷ []) state

-- the job is done with the text of what the patterns bring about, and each value in it is right
abbrev pub IsResetOutcome : Netlist → PatternsOf → Status → List ℕ → Type 0
IsResetOutcome netlist patterns own text =
    (own ≡ status.Done)
    × ((says : IsResetText netlist patterns text)
    × AreEach (IsRight netlist patterns.held) patterns.patterns says.values)
