-- Lines off the front of what is received, and what is left of it.
use Rattle.std.proofs.Common.{◌≡◌, ◌∙◌, ◌++◌, ◌-◌, [], List, ℕ, ap, sym, length, take, drop, rules}
use Rattle.std.proofs.lemmas.List.{nil_from_length}
use Rattle.hz_pattern_text.specs.PatternModel.{text_behind}
use Rattle.hz_pattern_text.specs.PatternReading.{PatternsReceived}
use Rattle.hz_pattern_text.proofs.PatternBehindLaws.{rest-whole}
use Rattle.hz_pattern_text.proofs.PatternModelLaws.{behind-append}
use Rattle.hz_pattern_text.proofs.reader.PatternReader.take_behind.Goals as goal

pub returns-clause-received : goal.returns-clause-received
returns-clause-received c =
    let was = c.self.inside in
    let n = was.circuit.now.inputs in
    let front = c.take_lines.new.front in
    let taken = c.in_ok-taken.taken in
    let bytes = c.args.bytes.now in
    let rest = take (length bytes - taken) (drop taken bytes) in
    let zero : length was.waiting.items ≡ 0 = search rules in
    let none : was.waiting.items ≡ [] = nil_from_length was.waiting.items zero in
    let left : c.keep-2.new.waiting.items ≡ was.waiting.items ++ rest = c.in_ok-keep-2.ensures in
    ap (text_behind n front.count front.bits.items) (left ∙ ap (λ (w : List ℕ). w ++ rest) none ∙ rest-whole taken bytes)
    ∙ (rw c.inputs-inputs.ensures.inputs at c.in_ok-taken.ensures.behind)
    ∙ behind-append n was.front.count was.front.bits.items [] bytes
    ∙ ap (λ (w : List ℕ). text_behind n was.front.count was.front.bits.items w ++ bytes) (sym none)
    ∙ ap (λ (r : PatternsReceived). r.received ++ bytes) c.self.view_is
