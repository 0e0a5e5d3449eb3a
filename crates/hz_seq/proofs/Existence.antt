-- Analyses of every list of changes, if there is a right finding for every change.
use Rattle.std.proofs.Common.{◌≡◌, ℕ, zero, suc, ◌≤◌, ◌⊎◌, Bool, true, false, List, [], ◌∷◌, ◌++◌, length, take, Option, Some, None, refl, sym, ap, ◌∙◌, arith, inl, inr}
use Rattle.std.proofs.lemmas.List.{length-map}
use Rattle.hz_core.specs.declared.tri.Tri.{Tri}
use Rattle.hz_core.specs.declared.tri.Tri.TheVariants.{Zero, One, Unknown}
use Rattle.hz_core.specs.Ternary.{tri_of}
use Rattle.hz_core.specs.Netlist.{Netlist, IsCircuit}
use Rattle.hz_net.specs.Network.{network_of, value_at}
use Rattle.hz_net.specs.Passes.{IsUnknown}
use Rattle.hz_net.specs.Starts.{IsStableStart}
use Rattle.hz_desk.specs.Finding.{FindingOf, values_b}
use Rattle.hz_desk.specs.RightFinding.{IsRightFinding}
use Rattle.hz_seq.specs.Sequence.{SequenceState, changed_input, IsSettledAt, IsFirstUnknown}
use Rattle.hz_seq.specs.Analyses.{Analysis, Found, Stopped, AreAnalyses, all_stopped}
use Rattle.hz_seq.proofs.NextStart.{next-start}
use Rattle.hz_seq.proofs.FirstAnalyses.{AreFirstAnalyses, AreLaterAnalyses, input-long}

-- every change from a stable start has a right finding
abbrev pub HasFindings : Netlist → ℕ → Type 0
HasFindings netlist cap =
    (start input : List Bool) → IsStableStart netlist start → length input ≡ netlist.inputs → (finding : FindingOf) × IsRightFinding (network_of netlist) input start cap finding

first-later : (value : Tri) (values : List Tri) (var : ℕ) → (value ≡ Unknown → ⊥) → IsFirstUnknown values var → IsFirstUnknown (value ∷ values) (suc var)
first-later value values var known first = record { here = first.here; least = no-earlier }
  where
    no-earlier : (j : ℕ) → IsUnknown (value_at (value ∷ values) j) → suc var ≤ j
    no-earlier zero unknown = absurd (known unknown)
    no-earlier (suc j) unknown = omega (arith, first.least j unknown)

with-value : (value : Tri) (bit : Bool) (values : List Tri) → value ≡ tri_of bit → ((state : List Bool) × IsSettledAt values state) ⊎ ((var : ℕ) × IsFirstUnknown values var) → ((state : List Bool) × IsSettledAt (value ∷ values) state) ⊎ ((var : ℕ) × IsFirstUnknown (value ∷ values) var)
with-value value bit values is (inl settled) = inl (bit ∷ settled.0, cc)
with-value value bit values is (inr first) = inr (suc first.0, first-later value values first.0 (λ e. known bit (sym is ∙ e)) first.1)
  where
    known : (b : Bool) → tri_of b ≡ Unknown → ⊥
    known false e = cc
    known true e = cc

-- a list of values has no X, or a first one
pub settled-or-unknown : (values : List Tri) → ((state : List Bool) × IsSettledAt values state) ⊎ ((var : ℕ) × IsFirstUnknown values var)
settled-or-unknown [] = inl ([], refl)
settled-or-unknown (Zero ∷ values) = with-value Zero false values refl (settled-or-unknown values)
settled-or-unknown (One ∷ values) = with-value One true values refl (settled-or-unknown values)
settled-or-unknown (Unknown ∷ values) = inr (0, record { here = refl; least = λ j unknown. omega arith })

module _ (netlist : Netlist) (cap : ℕ) (circuit : IsCircuit netlist) (has : HasFindings netlist cap) where
  pub exists-analyses : (changes : List (List (ℕ × Bool))) (start : List Bool) → IsStableStart netlist start → (analyses : List Analysis) × AreAnalyses netlist cap start changes analyses
  exists-analyses [] start stable = ([], tt)
  exists-analyses (change ∷ changes) start stable =
      let input : List Bool = changed_input (take netlist.inputs start) change in
      let given : length input ≡ netlist.inputs = input-long netlist start change circuit stable in
      let found : (finding : FindingOf) × IsRightFinding (network_of netlist) input start cap finding = has start input stable given in
      elim (settled-or-unknown (values_b found.0.rows)) [
        | inl settled ↦ (
            let rest = exists-analyses changes settled.0 (next-start netlist input start settled.0 cap found.0 circuit given found.1 settled.1) in
            (Found found.0 ∷ rest.0, (found.1, inl (settled.0, settled.1, rest.1)))
            )
        | inr first ↦ (Found found.0 ∷ all_stopped first.0 changes, (found.1, inr (first.0, first.1, refl)))
      ]

  pub later-exist : (later : List (List (ℕ × Bool))) (start : List Bool) (stopped : Option ℕ) → (stopped ≡ None → IsStableStart netlist start) → (more : List Analysis) × AreLaterAnalyses netlist cap start stopped later more
  later-exist later start None stable = exists-analyses later start (stable refl)
  later-exist later start (Some var) stable = (all_stopped var later, refl)

  -- the analyses of the first changes are the beginning of analyses of all
  pub with-later : (start : List Bool) (changes later : List (List (ℕ × Bool))) (analyses : List Analysis) (now : SequenceState) → AreFirstAnalyses netlist cap start changes analyses now → (more : List Analysis) × AreAnalyses netlist cap start (changes ++ later) (analyses ++ more)
  with-later start changes later analyses now first =
      let rest = later-exist later now.start now.stopped first.stable in
      (rest.0, first.with_later later rest.0 rest.1)

-- there is one analysis for each change
pub length-analyses : (netlist : Netlist) (cap : ℕ) (changes : List (List (ℕ × Bool))) (start : List Bool) (analyses : List Analysis) → AreAnalyses netlist cap start changes analyses → length analyses ≡ length changes
length-analyses netlist cap [] start [] are = refl
length-analyses netlist cap [] start (analysis ∷ analyses) are = absurd are
length-analyses netlist cap (change ∷ changes) start [] are = absurd are
length-analyses netlist cap (change ∷ changes) start (Stopped var ∷ analyses) are = absurd are
length-analyses netlist cap (change ∷ changes) start (Found finding ∷ analyses) are =
    elim are.1 [
      | inl settled ↦ ap suc (length-analyses netlist cap changes settled.0 analyses settled.2)
      | inr unsettled ↦ ap suc (ap length unsettled.2 ∙ length-map changes (λ (change : List (ℕ × Bool)). Stopped unsettled.0))
    ]
