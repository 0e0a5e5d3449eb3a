-- What patterns bring about where nobody knows the start is right.
use Rattle.std.proofs.Common.{◌≡◌, ◌∙◌, refl, ℕ, Bool, Option, List, [], ◌∷◌}
use Rattle.hz_core.specs.declared.tri.Tri.{Tri}
use Rattle.hz_core.specs.Ternary.{tri_of, Refines}
use Rattle.hz_core.specs.Netlist.{Netlist}
use Rattle.hz_core.proofs.Refinements.{length-Refines}
use Rattle.hz_net.specs.Network.{Driver, network_of, bit_at, value_at}
use Rattle.hz_net.specs.TernaryStarts.{unknown_start}
use Rattle.hz_reset.specs.Values.{SettlesAlong, IsOutcomeAlong, OutcomesExistAlong}
use Rattle.hz_reset.proofs.Covers.{length-unknown_start}
use Rattle.hz_pattern_text.specs.PatternValue.{PatternOf, PatternsOf}
use Rattle.hz_batch.specs.Each.{AreEach}
use Rattle.hz_batch.specs.ResetText.{BothValues, IsBroughtAbout, IsResetText}
use Rattle.hz_refusal.specs.declared.status.Status.TheVariants as status
use Rattle.hz_batch.specs.Resets.{IsRight, IsResetOutcome}

-- values along inputs cover the outcomes, as the law says
abbrev pub ValuesCover : Type 0
ValuesCover =
    (net : List Driver) (held : List (Option Bool)) (inputs : List (List Bool)) (values : List Tri) (start state : List Bool) (i : ℕ) (bit : Bool) →
    SettlesAlong net (unknown_start net held) inputs values → Refines start (unknown_start net held) → IsOutcomeAlong net start inputs state →
    value_at values i ≡ tri_of bit → bit_at state i ≡ bit

each-right : ValuesCover → OutcomesExistAlong → (netlist : Netlist) (held : List (Option Bool)) (patterns : List PatternOf) (values : List BothValues) → AreEach (IsBroughtAbout netlist held) patterns values → AreEach (IsRight netlist held) patterns values
each-right cover exist netlist held [] [] are = tt
each-right cover exist netlist held [] (both ∷ values) are = absurd are
each-right cover exist netlist held (pattern ∷ patterns) [] are = absurd are
each-right cover exist netlist held (pattern ∷ patterns) (both ∷ values) are = (
  record {
    first = λ start state var bit refined outcome known. cover _ held (pattern.from ∷ []) both.first start state var bit are.0.first refined outcome known;
    second = λ start state var bit refined outcome known. cover _ held (pattern.from ∷ pattern.to ∷ []) both.second start state var bit are.0.second refined outcome known;
    some = λ start refined. exist (network_of netlist) (pattern.from ∷ pattern.to ∷ []) start
        (length-Refines start (unknown_start (network_of netlist) held) refined ∙ length-unknown_start (network_of netlist) held);
  },
  each-right cover exist netlist held patterns values are.1,
)

-- so the text is an outcome of the job
pub reset-outcome : ValuesCover → OutcomesExistAlong → (netlist : Netlist) (patterns : PatternsOf) (text : List ℕ) → IsResetText netlist patterns text → IsResetOutcome netlist patterns status.Done text
reset-outcome cover exist netlist patterns text says = (refl, (says, each-right cover exist netlist patterns.held patterns.patterns says.values says.are_values))
