-- What patterns come to in the job `batch`.
use Rattle.std.specs.Prelude.{◌≡◌, ℕ, List}
use Rattle.hz_core.specs.Netlist.{Netlist}
use Rattle.hz_pattern_text.specs.PatternValue.{PatternsOf}
use Rattle.hz_batch.specs.BatchText.{IsBatchText}
use Rattle.hz_refusal.specs.declared.status.Status.{Status}
use Rattle.hz_refusal.specs.declared.status.Status.TheVariants as status

-- the job is done with the text of the patterns
abbrev pub IsBatchOutcome : Netlist → PatternsOf → Status → List ℕ → Type 0
IsBatchOutcome netlist patterns own text = (own ≡ status.Done) × IsBatchText netlist patterns text
