-- The pass over the starts answers the least input that some start leaves out.
use Rattle.std.proofs.Common.{◌≡◌, ◌∙◌, ℕ, ◌<◌, ◌≤◌, Bool, true, false, cond, nat_lt, List, [], ◌∷◌, Option, Some, None, refl, sym, subst, inl, inr, arith}
use Rattle.hz_timing.proofs.Words.{nat_tests, IsLeastOf, Numbered, Assigned, true-false, Ordered, Ideal, Start, Change, ResolvedTimed, StartLeavesOut, IsMissingInStarts}
use Rattle.std.proofs.lemmas.Bool.{cases_lt}
use Rattle.hz_text.specs.Rules.{least_unassigned}
use Rattle.hz_text.proofs.PassLaws.{unassigned-Some, unassigned-None}
use Rattle.hz_timing.specs.TimedRules.{or_known, left_out, left_out_by_any, least_missing}

-- a number is the least that is missing, or the bound, if none below it is
pub record IsLeastMissing (missing : ℕ → Type 0) (bound least : ℕ) : Type 0 where
  pub within : least ≤ bound
  pub none : (node : ℕ) → missing node → least ≤ node
  pub here : least < bound → missing least

by_assigned : (primary bound : ℕ) (assigned : List Assigned) (answer : Option ℕ) → bound ≤ primary → least_unassigned bound assigned ≡ answer → IsLeastMissing (StartLeavesOut primary (Start assigned)) bound (or_known bound answer)
by_assigned primary bound assigned None low e = record {
  within = omega arith;
  none = λ node out. elim (cases_lt node bound) [
    | inl less ↦ absurd (true-false (sym (unassigned-None bound assigned e node less) ∙ out.1))
    | inr more ↦ more
  ];
  here = λ less. absurd (omega (arith, less));
}
by_assigned primary bound assigned (Some least) low e =
    let is = unassigned-Some bound assigned least e in
    record {
      within = omega (arith, is.below);
      none = λ node out. elim (cases_lt node bound) [
        | inl less ↦ is.least node less out.1
        | inr more ↦ omega (arith, more, is.below)
      ];
      here = λ less. (omega (arith, low, is.below), is.unassigned);
    }

no_start : (missing : ℕ → Type 0) (bound : ℕ) → ((node : ℕ) → missing node → ⊥) → IsLeastMissing missing bound bound
no_start missing bound never = record { within = omega arith; none = λ node out. absurd (never node out); here = λ less. absurd (omega (arith, less)) }

-- what one statement leaves out
left_out-least : (primary bound : ℕ) (statement : ResolvedTimed) → bound ≤ primary → IsLeastMissing (StartLeavesOut primary statement) bound (left_out bound statement)
left_out-least primary bound (Start assigned) low = by_assigned primary bound assigned (least_unassigned bound assigned) low refl
left_out-least primary bound (Ordered first second number) low = no_start (StartLeavesOut primary (Ordered first second number)) bound (λ node out. out)
left_out-least primary bound (Ideal wire) low = no_start (StartLeavesOut primary (Ideal wire)) bound (λ node out. out)
left_out-least primary bound (Change assigned) low = no_start (StartLeavesOut primary (Change assigned)) bound (λ node out. out)

-- what all leave out
left_out_by_any-least : (primary bound : ℕ) (statements : List (Numbered ResolvedTimed)) → bound ≤ primary → IsLeastMissing (IsMissingInStarts primary statements) bound (left_out_by_any bound statements)
left_out_by_any-least primary bound [] low = no_start (IsMissingInStarts primary []) bound (λ node out. out)
left_out_by_any-least primary bound (first ∷ later) low =
    let one = left_out-least primary bound first.statement low in
    let next = left_out bound first.statement in
    let rest = left_out_by_any-least primary next later (omega (arith, low, one.within)) in
    let least = left_out_by_any next later in
    record {
      within = omega (arith, rest.within, one.within);
      none = λ node out. elim out [
        | inl here ↦ (let low_one = one.none node here in omega (arith, low_one, rest.within))
        | inr more ↦ rest.none node more
      ];
      here = λ less. elim (cases_lt least next) [
        | inl below ↦ inr (rest.here below)
        | inr above ↦
            let same : next ≡ least = omega (arith, above, rest.within) in
            inl (subst (StartLeavesOut primary first.statement) same (one.here (omega (arith, same, less))))
      ];
    }

-- a node that a start leaves out is an input
out-below : (primary node : ℕ) (statement : ResolvedTimed) → StartLeavesOut primary statement node → node < primary
out-below primary node (Start assigned) out = out.0
out-below primary node (Ordered first second number) out = absurd out
out-below primary node (Ideal wire) out = absurd out
out-below primary node (Change assigned) out = absurd out

pub missing-below : (primary node : ℕ) (statements : List (Numbered ResolvedTimed)) → IsMissingInStarts primary statements node → node < primary
missing-below primary node [] out = absurd out
missing-below primary node (first ∷ later) (inl here) = out-below primary node first.statement here
missing-below primary node (first ∷ later) (inr more) = missing-below primary node later more

-- the pass answers the least
pub answers_missing : (primary : ℕ) (statements : List (Numbered ResolvedTimed)) → IsLeastOf (IsMissingInStarts primary statements) (least_missing primary statements)
answers_missing primary statements = by_test (nat_lt (left_out_by_any primary statements) primary) refl
  where
    by_test : (b : Bool) → nat_lt (left_out_by_any primary statements) primary ≡ b → IsLeastOf (IsMissingInStarts primary statements) (cond b (Some (left_out_by_any primary statements)) None)
    by_test true t =
        let is = left_out_by_any-least primary primary statements (omega arith) in
        let below : left_out_by_any primary statements < primary = grind (arith, nat_tests, t) in
        record { here = is.here below; least = is.none }
    by_test false t =
        let is = left_out_by_any-least primary primary statements (omega arith) in
        let above : primary ≤ left_out_by_any primary statements = grind (arith, nat_tests, t) in
        λ node out. omega (arith, above, is.none node out, missing-below primary node statements out)
