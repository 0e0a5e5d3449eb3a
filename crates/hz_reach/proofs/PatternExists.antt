-- Where some list gives a gate a value there is a canonical pattern for it.
use Rattle.std.proofs.Common.{◌≡◌, ◌≢◌, ℕ, Bool, true, false, not, List, length, get_or, set, replicate, Option, Some, None, IsTrue, refl, inl, inr}
use Rattle.std.proofs.Common.{position}
use Rattle.hz_reach.proofs.Words.{Kind, takes, gate_value, IsCandidate, IsPattern}
use Rattle.std.specs.Bool.{then_some}
use Rattle.hz_core.specs.declared.kind.Kind.TheVariants.{And, Nand, Or, Nor, Xor, Xnor, Not, Buff}
use Rattle.hz_core.specs.BitOrSwitch.{HasBitOrSwitch}
use Rattle.hz_core.proofs.Patterns.{IsPattern-now, IsPattern-lone, IsPattern-changed}
use Rattle.hz_core.proofs.BitOrSwitchLemmas.{reached-and, reached-nand, reached-or, reached-nor, reached-xor, reached-xnor, reached-not, reached-buff}
use Rattle.hz_reach.proofs.GateTurn.{same-or-differ}

reached : (kind : Kind) (value : Bool) → (answer : Option Bool) × HasBitOrSwitch kind value answer
reached And value = (then_some value true, reached-and value)
reached Nand value = (then_some (not value) true, reached-nand value)
reached Or value = (then_some (not value) false, reached-or value)
reached Nor value = (then_some value false, reached-nor value)
reached Xor value = (None, reached-xor value)
reached Xnor value = (None, reached-xnor value)
reached Not value = (None, reached-not value)
reached Buff value = (None, reached-buff value)

pub pattern-found : (kind : Kind) (now free : List Bool) (want : Bool) → IsTrue (takes kind (length now)) → length free ≡ length now → (other : List Bool) → IsCandidate kind now free want other → (list : List Bool) × IsPattern kind now free want list
pattern-found kind now free want taken long other candidate =
    elim (same-or-differ (gate_value kind now) want) [
      | inl same ↦ (now, IsPattern-now kind now free want same)
      | inr differ ↦ (let is = reached kind want in by_answer is.0 is.1 differ)
    ]
  where
    by_first : HasBitOrSwitch kind want None → gate_value kind now ≢ want → (first : Option ℕ) → position (λ f. f) free ≡ first → (list : List Bool) × IsPattern kind now free want list
    by_first turned differ None is = (now, IsPattern-changed kind now free now want None taken long differ turned other candidate is refl)
    by_first turned differ (Some pin) is = (
      set now pin (not (get_or now pin false)),
      IsPattern-changed kind now free (set now pin (not (get_or now pin false))) want (Some pin) taken long differ turned other candidate is refl,
    )

    by_answer : (answer : Option Bool) → HasBitOrSwitch kind want answer → gate_value kind now ≢ want → (list : List Bool) × IsPattern kind now free want list
    by_answer (Some bit) alone differ = (replicate (length now) bit, IsPattern-lone kind now free want bit alone other candidate)
    by_answer None turned differ = by_first turned differ (position (λ f. f) free) refl
