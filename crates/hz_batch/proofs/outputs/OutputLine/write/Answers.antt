-- Digits are written in front of the words, and the line is given from the first digit on.
use Rattle.std.proofs.Common.{◌≡◌, ◌∙◌, ℕ, ◌-◌, List, ◌++◌, length, take, drop, decimal, append_assoc, ap, sym, arith}
use Rattle.std.specs.Vec.{with_items}
use Rattle.std.proofs.lemmas.List.{length-drop, take_all, with_items_is}
use Rattle.hz_core.specs.declared.tri.Tri.{Tri}
use Rattle.hz_write.specs.Writes.{newline}
use Rattle.hz_write.proofs.Writers.{writes_same}
use Rattle.hz_batch.specs.Outputs.{LineOf, output_words, outputs_line}
use Rattle.hz_batch.specs.LineInside.{values_at}
use Rattle.hz_batch.proofs.OutputLemmas.{same-values, line-kept}
use Rattle.hz_batch.proofs.outputs.OutputLine.write.Goals as goal

pub invariant_of-self : goal.invariant_of-self
invariant_of-self g c =
    let was = c.self.inside in
    let now = c.put-begin.new.text in
    let items : (with_items was.text now).items ≡ now = with_items_is was.text now (omega (arith, c.put-begin.auto.text, c.as_mut_slice.ensures.len)) in
    let behind : drop 10 (with_items was.text now).items ≡ drop 10 was.text.items =
    ap (λ (list : List ℕ). drop 10 list) items ∙ c.put-begin.ensures.behind ∙ ap (λ (list : List ℕ). drop 10 list) c.as_mut_slice.ensures.value in
    record {
      circuit = c.self.invariant.circuit;
      text = line-kept was.circuit.now was.text.items (with_items was.text now).items was.places.items behind c.self.invariant.text c.self.invariant.places;
      places = c.self.invariant.places;
    }

pub returns-clause-same : goal.returns-clause-same
returns-clause-same g c =
    let was = c.self.inside in
    let now = c.put-begin.new.text in
    let items : (with_items was.text now).items ≡ now = with_items_is was.text now (omega (arith, c.put-begin.auto.text, c.as_mut_slice.ensures.len)) in
    let behind : drop 10 (with_items was.text now).items ≡ drop 10 was.text.items =
    ap (λ (list : List ℕ). drop 10 list) items ∙ c.put-begin.ensures.behind ∙ ap (λ (list : List ℕ). drop 10 list) c.as_mut_slice.ensures.value in
    ap (λ (values : List (Tri × Tri)). record { netlist = was.circuit.now; values = values })
    (same-values was.circuit.now was.text.items (with_items was.text now).items was.places.items behind c.self.invariant.text c.self.invariant.places)
    ∙ c.self.view_is

pub returns-clause-gave : goal.returns-clause-gave
unfolding outputs_line
returns-clause-gave g c =
    let was = c.self.inside in
    let netlist = was.circuit.now in
    let now = c.put-begin.new.text in
    let number = c.args.number in
    let words = output_words netlist netlist.outputs (values_at was.text.items was.places.items) in
    let items : (with_items was.text now).items ≡ now = with_items_is was.text now (omega (arith, c.put-begin.auto.text, c.as_mut_slice.ensures.len)) in
    let old : drop 10 c.as_mut_slice.result.now ≡ words ++ newline = ap (λ (list : List ℕ). drop 10 list) c.as_mut_slice.ensures.value ∙ c.self.invariant.text in
    let line : drop c.put-begin.result c.as_slice.result.now ≡ (decimal number ++ words) ++ newline =
    ap (λ (list : List ℕ). drop c.put-begin.result list) (c.as_slice.ensures.value ∙ items)
    ∙ c.put-begin.ensures.digits
    ∙ ap (λ (n : ℕ). decimal n ++ drop 10 c.as_mut_slice.result.now) c.count_to.ensures
    ∙ ap (λ (list : List ℕ). decimal number ++ list) old
    ∙ sym (append_assoc (decimal number) words newline) in
    let all : take (length c.as_slice.result.now - c.put-begin.result) (drop c.put-begin.result c.as_slice.result.now) ≡ drop c.put-begin.result c.as_slice.result.now =
    take_all (length c.as_slice.result.now - c.put-begin.result) (drop c.put-begin.result c.as_slice.result.now) (omega (arith, length-drop c.put-begin.result c.as_slice.result.now)) in
    writes_same c.end_by.ensures.gave (all ∙ line ∙ ap (λ (it : LineOf). outputs_line it.netlist number it.values) c.self.view_is)
