-- What a pattern brings about where nothing is known of a start but the held gates.
use Rattle.std.proofs.Common.{◌≡◌, ◌∙◌, refl, sym, subst, ◌<◌, ◌≤◌, Bool, List, [], ◌∷◌, length, take, Option, None, inl, inr, arith}
use Rattle.std.specs.Prelude.{◌⊎◌}
use Rattle.std.proofs.lemmas.Bool.{cases_lt}
use Rattle.std.proofs.lemmas.List.{length-take-le, get_or-take, get_or_past}
use Rattle.hz_core.specs.declared.tri.Tri.{Tri}
use Rattle.hz_core.specs.Netlist.{Netlist, IsCircuit, IsWhole, IsGateNumber}
use Rattle.hz_net.specs.Network.{network_of}
use Rattle.hz_net.specs.TernaryStarts.{SettlesTo, unknown_start}
use Rattle.hz_plane.specs.Lanes.{IsFilledStart}
use Rattle.hz_plane.specs.Loads.{listed_with}
use Rattle.hz_reset.specs.Values.{HoldsGates, SettlesAlong}
use Rattle.hz_pattern_text.specs.PatternText.{ArePatternsFor, IsPatternOf}
use Rattle.hz_pattern_text.specs.PatternValue.{PatternOf, PatternsOf}
use Rattle.hz_text.specs.Printed.{listed_from}
use Rattle.hz_batch.specs.Blocks.{no_gate, without_held}
use Rattle.hz_batch.specs.Laws.{AreLaws}
use Rattle.hz_batch.specs.PatternEnd.{listing_of}
use Rattle.hz_batch.specs.ResetText.{IsBroughtAbout}
use Rattle.hz_batch.proofs.HeldLemmas.{listing-loaded, listed-no_gate, without_held-for}

-- only gates are held
pub holds-gates : (netlist : Netlist) (value : PatternsOf) → IsCircuit netlist → ArePatternsFor netlist value → HoldsGates netlist value.held
holds-gates netlist value circuit for node some = by_place (cases_lt node netlist.inputs) (cases_lt node (length netlist.names))
  where
    by_place : (node < netlist.inputs) ⊎ (netlist.inputs ≤ node) → (node < length netlist.names) ⊎ (length netlist.names ≤ node) → IsGateNumber netlist node
    by_place (inr beyond) (inl inside) = (beyond, inside)
    by_place (inl input) inside =
        let few : netlist.inputs ≤ length value.held = omega (arith, circuit.nodes, for.nodes) in
        let within : node < length (take netlist.inputs value.held) = omega (arith, input, length-take-le netlist.inputs value.held few) in
        absurd (some (sym (get_or-take netlist.inputs value.held node None input) ∙ for.gates node None within))
    by_place (inr beyond) (inr outside) = absurd (some (get_or_past value.held node None (omega (arith, outside, for.nodes))))

-- what a pattern brings about, and how planes hold it that list the first bits alone
pub record Brings (netlist : Netlist) (held : List (Option Bool)) (pattern : PatternOf) : Type 0 where
  pub first : List Tri
  pub second : List Tri
  pub is : IsBroughtAbout netlist held pattern (record { first = first; second = second })
  pub filled : IsFilledStart netlist (listing_of (no_gate held) pattern) first
  pub settles : SettlesTo (network_of netlist) pattern.to first second

pub brought-about : (netlist : Netlist) (value : PatternsOf) (pattern : PatternOf) → AreLaws → IsCircuit netlist → IsWhole netlist → ArePatternsFor netlist value → IsPatternOf netlist.inputs pattern → Brings netlist value.held pattern
brought-about netlist value pattern laws circuit whole for right = by_values (laws.values_exist (network_of netlist) value.held (pattern.from ∷ pattern.to ∷ []))
  where
    by_values : ((values : List Tri) × SettlesAlong (network_of netlist) (unknown_start (network_of netlist) value.held) (pattern.from ∷ pattern.to ∷ []) values) → Brings netlist value.held pattern
    by_values (values, (first, begins, (second, settles, same))) =
        let none : listed_from 0 (no_gate value.held) ≡ [] = listed-no_gate 0 value.held in
        let listed : listed_with (length netlist.names) pattern.from [] ≡ listing_of (no_gate value.held) pattern =
        rw none at (listing-loaded netlist (without_held value) pattern circuit (without_held-for netlist value circuit for) right.from) in
        record {
          first = first;
          second = second;
          is = record { first = (first, begins, refl); second = (first, begins, (second, settles, refl)) };
          filled = subst (λ (list : List (Option Bool)). IsFilledStart netlist list first) listed
              (laws.inputs_fill netlist pattern.from first circuit right.from
              (laws.begins_unknown netlist value.held pattern.from first circuit whole (holds-gates netlist value circuit for) begins));
          settles = settles;
        }
