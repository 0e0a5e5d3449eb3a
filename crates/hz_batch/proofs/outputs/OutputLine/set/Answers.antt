-- Two letters change.
use Rattle.std.proofs.Common.{◌≡◌, ◌∙◌, ◌+◌, ◌++◌, List, length, set, ap, sym, arith, rules}
use Rattle.std.specs.Vec.{vec_len}
use Rattle.std.proofs.lemmas.List.{length-set}
use Rattle.hz_core.specs.declared.tri.Tri.{Tri}
use Rattle.hz_write.specs.Writes.{newline}
use Rattle.hz_batch.specs.Outputs.{LineOf, output_words}
use Rattle.hz_batch.specs.LineInside.{values_at}
use Rattle.hz_batch.proofs.OutputLemmas.{has-place, has-letters, line-set, said-by-line, count-values}
use Rattle.hz_batch.proofs.outputs.OutputLine.set.Goals as goal

pub index-place-requires : goal.index-place-requires
index-place-requires c =
    let inside = rw (← c.self.view_is) at c.requires in
    let long : vec_len c.self.inside.places ≡ length c.self.inside.places.items = search rules in
    rw long (has-place c.self.inside.circuit.now (values_at c.self.inside.text.items c.self.inside.places.items) c.self.inside.places.items c.args.output (count-values c.self.inside.circuit.now c.self.inside.text.items c.self.inside.places.items c.self.invariant.places) inside c.self.invariant.places)

pub index_mut-requires : goal.index_mut-requires
index_mut-requires c =
    let inside = rw (← c.self.view_is) at c.requires in
    let long : vec_len c.self.inside.text ≡ length c.self.inside.text.items = search rules in
    let letters = has-letters c.self.inside.circuit.now (values_at c.self.inside.text.items c.self.inside.places.items) c.self.inside.text.items c.self.inside.places.items c.args.output c.index-place.result.now _ (count-values c.self.inside.circuit.now c.self.inside.text.items c.self.inside.places.items c.self.invariant.places) inside c.self.invariant.text c.self.invariant.places c.index-place.ensures in
    omega (arith, letters, long)

pub overflow_add-place : goal.overflow_add-place
overflow_add-place c =
    let inside = rw (← c.self.view_is) at c.requires in
    let letters = has-letters c.self.inside.circuit.now (values_at c.self.inside.text.items c.self.inside.places.items) c.self.inside.text.items c.self.inside.places.items c.args.output c.index-place.result.now _ (count-values c.self.inside.circuit.now c.self.inside.text.items c.self.inside.places.items c.self.invariant.places) inside c.self.invariant.text c.self.invariant.places c.index-place.ensures in
    omega (arith, letters, c.self.inside.text.small)

pub index_mut-requires-2 : goal.index_mut-requires-2
index_mut-requires-2 c =
    let inside = rw (← c.self.view_is) at c.requires in
    let long : vec_len c.self.inside.text ≡ length c.self.inside.text.items = search rules in
    let letters = has-letters c.self.inside.circuit.now (values_at c.self.inside.text.items c.self.inside.places.items) c.self.inside.text.items c.self.inside.places.items c.args.output c.index-place.result.now _ (count-values c.self.inside.circuit.now c.self.inside.text.items c.self.inside.places.items c.self.invariant.places) inside c.self.invariant.text c.self.invariant.places c.index-place.ensures in
    omega (arith, letters, long)

pub invariant_of-self : goal.invariant_of-self
invariant_of-self c =
    let netlist = c.self.inside.circuit.now in
    let text = c.self.inside.text.items in
    let places = c.self.inside.places.items in
    let inside = rw (← c.self.view_is) at c.requires in
    let count = count-values netlist text places c.self.invariant.places in
    let now = line-set netlist (values_at text places) text places c.args.output c.index-place.result.now _ (c.args.first, c.args.second) c.byte.result c.byte-2.result count inside c.self.invariant.text c.self.invariant.places c.index-place.ensures c.byte.ensures c.byte-2.ensures in
    let values = set (values_at text places) c.args.output (c.args.first, c.args.second) in
    record {
      circuit = c.self.invariant.circuit;
      text = now ∙ ap (λ (list : List (Tri × Tri)). output_words netlist netlist.outputs list ++ newline) (sym (said-by-line netlist values (set (set c.self.inside.text.items c.index-place.result.now c.byte.result) (c.index-place.result.now + 1) c.byte-2.result) places (length-set (values_at text places) c.args.output (c.args.first, c.args.second) ∙ count) now c.self.invariant.places));
      places = c.self.invariant.places;
    }

pub returns : goal.returns
returns c =
    let netlist = c.self.inside.circuit.now in
    let text = c.self.inside.text.items in
    let places = c.self.inside.places.items in
    let inside = rw (← c.self.view_is) at c.requires in
    let count = count-values netlist text places c.self.invariant.places in
    let now = line-set netlist (values_at text places) text places c.args.output c.index-place.result.now _ (c.args.first, c.args.second) c.byte.result c.byte-2.result count inside c.self.invariant.text c.self.invariant.places c.index-place.ensures c.byte.ensures c.byte-2.ensures in
    let pair : Tri × Tri = (c.args.first, c.args.second) in
    let values = set (values_at text places) c.args.output pair in
    ap (λ (list : List (Tri × Tri)). record { netlist = netlist; values = list }) (said-by-line netlist values (set (set c.self.inside.text.items c.index-place.result.now c.byte.result) (c.index-place.result.now + 1) c.byte-2.result) places (length-set (values_at text places) c.args.output pair ∙ count) now c.self.invariant.places)
    ∙ ap (λ (line : LineOf). record line { values = set line.values c.args.output pair }) c.self.view_is
