use Rattle.std.proofs.Common.{◌≡◌, ◌≢◌, ◌<◌, ◌≤◌, ℕ, List, Bool, length, map, take, ap, sym, ◌∙◌, subst}
use Rattle.hz_core.specs.declared.tri.Tri.{Tri}
use Rattle.hz_core.specs.declared.tri.Tri.TheVariants.{Unknown}
use Rattle.hz_core.specs.Netlist.{IsGateNumber, primary_inputs}
use Rattle.hz_net.specs.Network.{network_of, value_at, bit_at, excitation}
use Rattle.hz_net.specs.Starts.{IsCompletedStart}
use Rattle.hz_pass.specs.Completed.{bit_or_zero, IsLeastUnknown, IsLeastUnstableIn}
use Rattle.hz_pass.proofs.Unlisted.{unlisted-stable}
use Rattle.hz_pass.proofs.CompletedLemmas.{bits-expanded, least-open, completed-start, accepted-start, least-unstable}
use Rattle.hz_pass.proofs.completed_start.complete.Goals as goal

pub returns-in-Some : goal.returns-in-Some
returns-in-Some c = record {
  start = least-open c.args.net.now c.args.listed.now c.in-Ok.values.items c.keeps_shape.ensures.circuit c.requires.inputs c.in-Ok.ensures.forced c.in-Some.node
      (subst (λ (v : List Tri). IsLeastUnknown c.args.net.now v c.in-Some.node) c.as_slice.ensures.value c.in-Some.ensures);
}

pub least_unstable-requires-clause-state : goal.least_unstable-requires-clause-state
least_unstable-requires-clause-state c =
    let completed : IsCompletedStart c.args.net.now c.args.listed.now c.in-Ok-bits_of.state.items = completed-start c.args.net.now c.args.listed.now c.in-Ok.values.items c.keeps_shape.ensures.circuit c.requires.inputs c.in-Ok.ensures.forced c.in-Ok-bits_of.state.items
    (subst (λ (v : List Tri). (node : ℕ) → primary_inputs c.args.net.now ≤ node → node < length c.args.net.now.names → value_at v node ≢ Unknown) c.as_slice.ensures.value c.in_default-least_open.ensures)
    (c.in-Ok-bits_of.ensures ∙ (ap (map bit_or_zero) c.as_slice-2.ensures.value ∙ bits-expanded c.args.net.now c.in-Ok.values.items c.keeps_shape.ensures.circuit c.in-Ok.ensures.forced.long c.in-Ok.ensures.delivered)) in
    ap length c.as_slice-3.ensures.value ∙ completed.long

pub least_unstable-requires-clause-follow : goal.least_unstable-requires-clause-follow
least_unstable-requires-clause-follow c =
    let completed : IsCompletedStart c.args.net.now c.args.listed.now c.in-Ok-bits_of.state.items = completed-start c.args.net.now c.args.listed.now c.in-Ok.values.items c.keeps_shape.ensures.circuit c.requires.inputs c.in-Ok.ensures.forced c.in-Ok-bits_of.state.items
    (subst (λ (v : List Tri). (node : ℕ) → primary_inputs c.args.net.now ≤ node → node < length c.args.net.now.names → value_at v node ≢ Unknown) c.as_slice.ensures.value c.in_default-least_open.ensures)
    (c.in-Ok-bits_of.ensures ∙ (ap (map bit_or_zero) c.as_slice-2.ensures.value ∙ bits-expanded c.args.net.now c.in-Ok.values.items c.keeps_shape.ensures.circuit c.in-Ok.ensures.forced.long c.in-Ok.ensures.delivered)) in
    λ gate is_gate unlisted.
    subst (λ (s : List Bool). bit_at s gate ≡ excitation (network_of c.args.net.now) (take c.args.net.now.inputs s) s gate) (sym c.as_slice-3.ensures.value)
    (unlisted-stable c.args.net.now c.args.listed.now c.keeps_shape.ensures.circuit c.in-Ok-bits_of.state.items completed gate is_gate unlisted)

pub returns-in-Some-least_unstable : goal.returns-in-Some-least_unstable
returns-in-Some-least_unstable c =
    let completed : IsCompletedStart c.args.net.now c.args.listed.now c.in-Ok-bits_of.state.items = completed-start c.args.net.now c.args.listed.now c.in-Ok.values.items c.keeps_shape.ensures.circuit c.requires.inputs c.in-Ok.ensures.forced c.in-Ok-bits_of.state.items
    (subst (λ (v : List Tri). (node : ℕ) → primary_inputs c.args.net.now ≤ node → node < length c.args.net.now.names → value_at v node ≢ Unknown) c.as_slice.ensures.value c.in_default-least_open.ensures)
    (c.in-Ok-bits_of.ensures ∙ (ap (map bit_or_zero) c.as_slice-2.ensures.value ∙ bits-expanded c.args.net.now c.in-Ok.values.items c.keeps_shape.ensures.circuit c.in-Ok.ensures.forced.long c.in-Ok.ensures.delivered)) in
    record {
      start = least-unstable c.args.net.now c.args.listed.now c.in-Ok-bits_of.state.items c.in-Some-least_unstable.gate completed
          (subst (λ (s : List Bool). IsLeastUnstableIn c.args.net.now s c.in-Some-least_unstable.gate) c.as_slice-3.ensures.value c.in-Some-least_unstable.ensures);
    }

pub returns : goal.returns
returns c =
    let completed : IsCompletedStart c.args.net.now c.args.listed.now c.in-Ok-bits_of.state.items = completed-start c.args.net.now c.args.listed.now c.in-Ok.values.items c.keeps_shape.ensures.circuit c.requires.inputs c.in-Ok.ensures.forced c.in-Ok-bits_of.state.items
    (subst (λ (v : List Tri). (node : ℕ) → primary_inputs c.args.net.now ≤ node → node < length c.args.net.now.names → value_at v node ≢ Unknown) c.as_slice.ensures.value c.in_default-least_open.ensures)
    (c.in-Ok-bits_of.ensures ∙ (ap (map bit_or_zero) c.as_slice-2.ensures.value ∙ bits-expanded c.args.net.now c.in-Ok.values.items c.keeps_shape.ensures.circuit c.in-Ok.ensures.forced.long c.in-Ok.ensures.delivered)) in
    record {
      start = accepted-start c.args.net.now c.args.listed.now c.in-Ok-bits_of.state.items c.keeps_shape.ensures.circuit completed
          (subst (λ (s : List Bool). (gate : ℕ) → IsGateNumber c.args.net.now gate → bit_at s gate ≡ excitation (network_of c.args.net.now) (take c.args.net.now.inputs s) s gate) c.as_slice-3.ensures.value c.in_default-least_unstable.ensures);
    }
