-- The line of a lane, output by output.
use Rattle.std.proofs.Common.{◌≡◌, ◌∙◌, refl, sym, ap, ℕ, ◌+◌, ◌<◌, ◌≤◌, List, [], ◌∷◌, ◌++◌, length, take, set, get_or, arith}
use Rattle.std.proofs.lemmas.List.{length-set, length-map, take_more, take_more_set, take_all, get_or-map}
use Rattle.hz_core.specs.declared.tri.Tri.{Tri}
use Rattle.hz_core.specs.declared.tri.Tri.TheVariants.{Unknown}
use Rattle.hz_core.specs.Netlist.{Netlist}
use Rattle.hz_net.specs.Network.{value_at}
use Rattle.hz_plane.specs.declared.values.LaneValues.{LaneValues}
use Rattle.hz_plane.specs.View.{value_in}
use Rattle.hz_batch.specs.Outputs.{LineOf, output_values}
use Rattle.hz_batch.specs.Columns.{HasColumns, no_values}
use Rattle.hz_batch.specs.Lines.{IsLineFor}

-- the values of a column in a lane
abbrev pub in_lane : List LaneValues → (lane place : ℕ) → Tri
in_lane columns lane place = value_in (get_or columns place no_values) lane

-- the first outputs of a line have the values of a lane
pub record IsSetTo (netlist : Netlist) (firsts seconds : List LaneValues) (lane place : ℕ) (line : LineOf) : Type 0 where
  pub fits : IsLineFor netlist line
  pub each : (a b : List Tri) → HasColumns netlist.outputs firsts lane a → HasColumns netlist.outputs seconds lane b →
      take place line.values ≡ take place (output_values netlist a b)

pub set-none : (netlist : Netlist) (firsts seconds : List LaneValues) (lane : ℕ) (line : LineOf) → IsLineFor netlist line → IsSetTo netlist firsts seconds lane 0 line
set-none netlist firsts seconds lane line fits = record {
  fits = fits;
  each = λ a b kept told. refl;
}

pub set-next : (netlist : Netlist) (firsts seconds : List LaneValues) (lane place : ℕ) (line : LineOf) → place < length netlist.outputs → IsSetTo netlist firsts seconds lane place line →
    IsSetTo netlist firsts seconds lane (place + 1) (record line { values = set line.values place (in_lane firsts lane place, in_lane seconds lane place) })
set-next netlist firsts seconds lane place line inside before = record {
  fits = record { same = before.fits.same; count = length-set line.values place (in_lane firsts lane place, in_lane seconds lane place) ∙ before.fits.count };
  each = λ a b kept told.
      let first : Tri = in_lane firsts lane place in
      let second : Tri = in_lane seconds lane place in
      let node = get_or netlist.outputs place 0 in
      let value : ℕ → Tri × Tri = λ (n : ℕ). (value_at a n, value_at b n) in
      let one : first ≡ value_at a node = kept place inside in
      let two : second ≡ value_at b node = told place inside in
      let both : ◌≡◌ {A = Tri × Tri} (first, second) (value node) = rw (one, two) refl in
      let long : length (output_values netlist a b) ≡ length netlist.outputs = length-map netlist.outputs value in
      take_more_set line.values place (first, second) (omega (arith, inside, before.fits.count))
      ∙ (ap (λ (list : List (Tri × Tri)). list ++ (first, second) ∷ []) (before.each a b kept told)
      ∙ (ap (λ (pair : Tri × Tri). take place (output_values netlist a b) ++ pair ∷ []) (both ∙ sym (get_or-map value netlist.outputs place 0 (Unknown, Unknown) inside))
      ∙ sym (take_more (output_values netlist a b) place (Unknown, Unknown) (omega (arith, inside, long)))));
}

pub set-whole : (netlist : Netlist) (firsts seconds : List LaneValues) (lane place : ℕ) (line : LineOf) → length netlist.outputs ≤ place → IsSetTo netlist firsts seconds lane place line →
    (a b : List Tri) → HasColumns netlist.outputs firsts lane a → HasColumns netlist.outputs seconds lane b → line.values ≡ output_values netlist a b
set-whole netlist firsts seconds lane place line all before a b kept told =
    let value : ℕ → Tri × Tri = λ (node : ℕ). (value_at a node, value_at b node) in
    let long : length (output_values netlist a b) ≡ length netlist.outputs = length-map netlist.outputs value in
    sym (take_all place line.values (omega (arith, all, before.fits.count))) ∙ (before.each a b kept told ∙ take_all place (output_values netlist a b) (omega (arith, all, long)))
